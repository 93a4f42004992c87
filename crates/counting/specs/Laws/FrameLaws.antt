-- What one command leaves of memory as it was (02 §14): it writes in the rows of its actor and of the instance that it makes, and to one variable.
use Rattle.std.specs.Prelude.{ℕ, suc, ◌-◌, ◌*◌, ◌%◌, ◌<◌, ◌≤◌, ◌≡◌, Bool, List, get_or, drop, eqb, Result, Ok, Err}
use Rattle.std.proofs.Common.{arith, sym, subst, ◌∙◌}
use Rattle.std.proofs.Math.Path.{refl}
use Rattle.std.proofs.Math.Bool.{true, false}
use Rattle.std.proofs.Math.ListN.{length, take, length-set, length-take}
use Rattle.std.proofs.Math.Seq.{sets, length-sets, get_or-set_other}
use Rattle.std.proofs.Math.Dec.{ltb}
use borrow.Author.Tests.{ltb-true, lt-ltb, eq-eqb, ne_eqb}
use Rattle.types.specs.Limits.{max_instances, max_depth, max_params}
use Rattle.layout.specs.Layout.{head_size, struct_of, height_of, next_of, row_size, variable, stacked, cell, operand, label_cell, new_head, head}
use Rattle.layout.specs.State.{State, times, refused, of_head, of_cell, state_of}
use Rattle.memory.specs.Act.{full, gone, pushed, height, after, top, beneath, do_push, do_this, do_not, do_if, answered, do_op, do_rd, stored, written, written_to, do_wr, made, do_cons, perform, next_word, turned, act}
use Rattle.memory.specs.Fit.{WrFit, Needed, Fit}
use Rattle.memory.proofs.Laws.RowLaws.{sets_other, going_other, going_length}
use Rattle.counting.specs.Framed.{Framed, Fitting, fresh_row, wr_kind, place_of, stored_at}
use Rattle.operators.specs.declared.OperatorError.{OperatorError}
use Rattle.operators.specs.declared.OperatorError.TheVariants.{Outside, Unfit}

-- whichever a test says
pick : (t : Bool) (P : State → Type 0) {a b : State} → P a → P b → P (elim t [ true ↦ a | false ↦ b ])
pick true P x y = x
pick false P x y = y

module _ (counts : List ℕ) (l : ℕ) (z : State) (n r : ℕ) where
  same : Framed z l n r z
  same = record { heads = λ a h k. refl; cells = λ a h k q. refl; heads_long = refl; cells_long = refl }

  refusing : (k : ℕ) → Framed z l n r (refused k z)
  refusing k = record { heads = λ a h k. refl; cells = λ a h k q. refl; heads_long = refl; cells_long = refl }

  gone_frames : (h k : ℕ) → Framed z l n r (gone z l h k)
  gone_frames h k = record {
    heads = λ a p q. going_other z.heads l h k a (λ e. p (omega (arith, e), omega (arith, e))) (λ e. p (omega (arith, e), omega (arith, e)));
    cells = λ a p q e. refl;
    heads_long = going_length z.heads l h k;
    cells_long = refl;
  }

  pushed_frames : (h c k : ℕ) → h < max_depth → Framed z l n r (pushed z l h c k)
  pushed_frames h c k b = record {
    heads = λ a p q. going_other z.heads l (suc h) k a (λ e. p (omega (arith, e), omega (arith, e))) (λ e. p (omega (arith, e), omega (arith, e)));
    cells = λ a p q e. get_or-set_other z.cells (stacked l h) a c 0 (λ w. p (omega (arith, w), omega (arith, w, b)));
    heads_long = going_length z.heads l (suc h) k;
    cells_long = length-set z.cells (stacked l h) c;
  }

  stored_frames : (q x c : ℕ) → variable q x ≡ r → Framed z l n r (stored counts l z q x c)
  stored_frames q x c s = record {
    heads = λ a p w.
        going_other z.heads l (height counts l z - 2) (after counts l z) a (λ e. p (omega (arith, e), omega (arith, e))) (λ e. p (omega (arith, e), omega (arith, e)));
    cells = λ a p w e. get_or-set_other z.cells (variable q x) a c 0 (λ f. e (f ∙ s));
    heads_long = going_length z.heads l (height counts l z - 2) (after counts l z);
    cells_long = length-set z.cells (variable q x) c;
  }

  timed : (t : Bool) {y : State} → Framed z l n r y → Framed z l n r (times t y)
  timed t f = record { heads = f.heads; cells = f.cells; heads_long = f.heads_long; cells_long = f.cells_long }

  wr_frames : (x : ℕ) → variable (operand (top counts l z)) x ≡ r → Framed z l n r (do_wr counts l z x)
  unfolding do_wr written_to written
  wr_frames x s =
      let q = operand (top counts l z) in
      let c = beneath counts l z in
      pick (ltb x (get_or counts (of_head z q struct_of) 0)) (Framed z l n r)
      (pick (ltb q (length counts)) (Framed z l n r) (gone_frames (height counts l z - 2) (after counts l z)) (timed (eqb (operand (of_cell z (variable q x))) (operand c)) (stored_frames q x c s)))
      (stored_frames q x c s)

  answered_frames : (t : ℕ) (v : Result ℕ OperatorError) → height counts l z ≤ max_depth → Framed z l n r (answered counts l z t v)
  unfolding answered
  answered_frames t (Ok v) b = pushed_frames (height counts l z - 2) (cell t v) (after counts l z) (omega (arith, b))
  answered_frames t (Err Outside) b = refusing _
  answered_frames t (Err Unfit) b = same

  -- a new instance is written to the row n, after the last
  made_frames : (k p : ℕ) → z.machine.count ≡ n → p ≤ max_params → height counts l z - p < max_depth → Framed z l n r (made counts l z k p)
  unfolding made
  made_frames k p e few room =
      let at = z.machine.count in
      let ws = take p (drop (stacked l (height counts l z - p)) z.cells) in
      let short : length ws ≤ p = omega (arith, length-take p (drop (stacked l (height counts l z - p)) z.cells)) in
      let hs = sets z.heads (head_size * at) (new_head k) in
      let cs = sets z.cells (row_size * at) ws in
      record {
        heads = λ a x y.
            going_other hs l (suc (height counts l z - p)) (after counts l z) a (λ q. x (omega (arith, q), omega (arith, q))) (λ q. x (omega (arith, q), omega (arith, q)))
            ∙ sets_other z.heads (head_size * at) (new_head k) a (λ u w. y (omega (arith, u, e), omega (arith, w, e)));
        cells = λ a x y q.
            get_or-set_other cs (stacked l (height counts l z - p)) a (label_cell k at) 0 (λ w. x (omega (arith, w), omega (arith, w, room)))
            ∙ sets_other z.cells (row_size * at) ws a (λ u w. y (omega (arith, u, e), omega (arith, w, e, short, few)));
        heads_long = going_length hs l (suc (height counts l z - p)) (after counts l z) ∙ length-sets z.heads (head_size * at) (new_head k);
        cells_long = length-set cs (stacked l (height counts l z - p)) (label_cell k at) ∙ length-sets z.cells (row_size * at) ws;
      }

  cons_frames : (k : ℕ) → (z.machine.count < max_instances → z.machine.count ≡ n) → get_or counts k 0 ≤ max_params
      → height counts l z - get_or counts k 0 < max_depth → Framed z l n r (do_cons counts l z k)
  unfolding do_cons
  cons_frames k e few room = go (ltb z.machine.count max_instances) refl
    where
      go : (t : Bool) → ltb z.machine.count max_instances ≡ t
          → Framed z l n r (elim t [ true ↦ made counts l z k (get_or counts k 0) | false ↦ refused full z ])
      go true q = made_frames k (get_or counts k 0) (e (ltb-true z.machine.count max_instances q)) few room
      go false q = refusing _

  -- by the kind of the command: what it needs, and what it leaves
  abbrev One : Bool → Type 0 → Type 0 → Type 0
  One t N M = elim t [ true ↦ N | false ↦ M ]

  by_test : (t : Bool) {N M : Type 0} {a b : State} → (t ≡ true → N → Framed z l n r a) → (t ≡ false → M → Framed z l n r b)
      → One t N M → Framed z l n r (elim t [ true ↦ a | false ↦ b ])
  by_test true f g x = f refl x
  by_test false f g x = g refl x

  perform_frames : (kind w v : ℕ) → (z.machine.count < max_instances → z.machine.count ≡ n) → place_of kind (operand (top counts l z)) v l ≡ r
      → Needed counts l z kind v → Framed z l n r (perform counts l z kind w v)
  unfolding perform do_push do_this do_not do_if do_op do_rd place_of
  perform_frames kind w v e s =
      let h = height counts l z in
      by_test (eqb kind 1) (λ q x. pushed_frames h w (after counts l z) x.room)
      (λ _.
      by_test (eqb kind 2) (λ q x. pushed_frames h (label_cell (of_head z l struct_of) l) (after counts l z) x.room)
      (λ _.
      by_test (eqb kind 3)
      (λ q x. let low = x.low in let one = x.one in
      pushed_frames (h - 1) (of_cell z (variable (operand (top counts l z)) v)) (after counts l z) (omega (arith, low, one)))
      (λ _.
      by_test (eqb kind 4) (λ q x.
      let e : place_of kind (operand (top counts l z)) v l ≡ variable (operand (top counts l z)) v = rw (place_of, q) in
      wr_frames v (sym e ∙ s))
      (λ _.
      by_test (eqb kind 5) (λ q x. cons_frames v e x.params x.room)
      (λ _.
      by_test (eqb kind 6) (λ q x. gone_frames (h - 1) _)
      (λ _.
      by_test (eqb kind 7)
      (λ q x. let low = x.low in let one = x.one in
      pushed_frames (h - 1) (cell 2 (1 - operand (top counts l z))) (after counts l z) (omega (arith, low, one)))
      (λ _ x. answered_frames _ _ x.low)))))))

-- of the whole command: counting and holders are numbers, which the code has by value
turned_frames : (l n r : ℕ) (z y : State) → Framed z l n r y → Framed z l n r (turned l y)
unfolding turned
turned_frames l n r z y f =
    pick (eqb y.machine.number 0) (Framed z l n r)
    (record { heads = f.heads; cells = f.cells; heads_long = f.heads_long; cells_long = f.cells_long }) f

fresh_is : (count l : ℕ) → count < max_instances → count ≡ fresh_row count l
unfolding fresh_row
fresh_is count l h = rw (fresh_row, lt-ltb count max_instances h)

pub act_frames : (list counts : List ℕ) (l : ℕ) (z : State) → Fit list counts l z
    → Framed z l (fresh_row z.machine.count l) (stored_at list z.heads z.cells l) (act list counts l z)
unfolding act
act_frames list counts l z f =
    let n = fresh_row z.machine.count l in
    let r = stored_at list z.heads z.cells l in
    let g =
    perform_frames counts l z n r (next_word list z l % 256) (next_word list z l) (operand (next_word list z l)) (fresh_is z.machine.count l) refl f.needed in
    turned_frames l n r z _
    (record { heads = g.heads; cells = g.cells; heads_long = g.heads_long; cells_long = g.cells_long })

-- The place of a wr ------------------------------------------------------------------------------

module _ (list heads cells : List ℕ) (l : ℕ) (f : Fitting list heads cells l) where
  abbrev pub memory : State
  memory = state_of f.1 heads cells

  abbrev pub word : ℕ
  word = get_or list (get_or heads (head l next_of) 0) 0

  pub not_stored : (word % 256 ≡ wr_kind → ⊥) → row_size * l ≡ stored_at list heads cells l
  unfolding place_of
  not_stored e = rw (place_of, ne_eqb (word % 256) wr_kind e)

  pub wr_stored : word % 256 ≡ wr_kind
      → variable (operand (get_or cells (stacked l (get_or heads (head l height_of) 0 - 1)) 0)) (operand word) ≡ stored_at list heads cells l
  unfolding place_of
  wr_stored e = rw (place_of, eq-eqb (word % 256) wr_kind e)

  pub stored_fits : word % 256 ≡ wr_kind → WrFit (get_or heads (head l height_of) 0) (top f.0 l memory) f.1.count (operand word)
      (of_head memory (operand (top f.0 l memory)) struct_of) (length f.0)
  stored_fits e = subst (λ k. Needed f.0 l memory k (operand word)) e f.2.needed
