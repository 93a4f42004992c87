-- `rows::stored_at` meets its contract: the command is no wr, or the label on top and the operand say the place.
use Rattle.std.proofs.Common.{ℕ, arith, ◌≡◌, ap, ap₂, sym, ◌∙◌, ◌+◌, ◌*◌, ◌-◌, ◌%◌, get_or}
use Rattle.layout.specs.Layout.{row_size, stacked, operand}
use Rattle.counting.specs.Framed.{wr_kind}
use Rattle.counting.specs.Laws.FrameLaws.{word, not_stored, wr_stored, stored_fits}
use Rattle.counting.proofs.rows.stored_at.Goals as goal
use Rattle.counting.proofs.rows.stored_at.Goals.{After-head-next}

abbrev word_at : After-head-next → ℕ
word_at c = word c.args.list.now c.args.heads.now c.args.cells.now c.args.l c.requires

-- the word that is read is that of the next command
word_is : (c : After-head-next) → get_or c.args.list.now c.head-next.result 0 ≡ word_at c
word_is c = ap (λ (n : ℕ). get_or c.args.list.now n 0) c.head-next.ensures.0

pub returns-then-w-ne-WR : goal.returns-then-w-ne-WR
returns-then-w-ne-WR c =
    let f = c.requires.2 in (
      not_stored _ _ _ _ c.requires (λ e. c.if-w-ne-WR.true (ap (λ (w : ℕ). w % 256) (word_is (goal.at.returns-then-w-ne-WR c).After-head-next) ∙ e)),
      omega (arith, f.chosen, f.few, f.cells_long),
    )

pub overflow_sub-top : goal.overflow_sub-top
overflow_sub-top c =
    let k = (goal.at.overflow_sub-top c).After-head-next in
    let is_wr : word_at k % 256 ≡ wr_kind = sym (ap (λ (w : ℕ). w % 256) (word_is k)) ∙ c.if-w-ne-WR.false in
    let w = stored_fits _ _ _ _ c.requires is_wr in
    omega (arith, c.head-h.ensures.0, w.two)

pub bounds-cells-l : goal.bounds-cells-l
bounds-cells-l c =
    let k = (goal.at.bounds-cells-l c).After-head-next in
    let is_wr : word_at k % 256 ≡ wr_kind = sym (ap (λ (w : ℕ). w % 256) (word_is k)) ∙ c.if-w-ne-WR.false in
    let w = stored_fits _ _ _ _ c.requires is_wr in let f = c.requires.2 in
    omega (arith, c.head-h.ensures.0, w.low, f.chosen, f.few, f.cells_long)

pub returns : goal.returns
returns c =
    let k = (goal.at.returns c).After-head-next in
    let is_wr : word_at k % 256 ≡ wr_kind = sym (ap (λ (w : ℕ). w % 256) (word_is k)) ∙ c.if-w-ne-WR.false in
    let w = stored_fits _ _ _ _ c.requires is_wr in let f = c.requires.2 in let l = c.args.l in
    let a = c.operand.ensures.0 ∙ ap (λ (n : ℕ). operand (get_or c.args.cells.now (stacked l (n - 1)) 0)) c.head-h.ensures.0 in
    let b = c.operand-2.ensures.0 ∙ ap operand (word_is k) in (
      ap₂ (λ (x : ℕ) (y : ℕ). row_size * x + y) a b ∙ wr_stored _ _ _ _ c.requires is_wr,
      omega (arith, a, b, w.target, w.var, f.few, f.cells_long),
    )
