-- `stream` meets its contract: one law for each way. What is written does not fit, leaves too little in front or has no count that waits; or it has, and the
-- header stands in front.
use Rattle.std.proofs.Common.{ℕ, ◌-◌, arith, ◌≡◌, sym, ap, ◌∙◌, List, length, true}
use Rattle.std.proofs.lemmas.Bool.{not-true, not-false}
use Rattle.compose.specs.Writing.{Writing, counted, start}
use Rattle.compose.specs.Fits.{kept, within, writes_at}
use Rattle.derive.specs.Held.{held}
use Rattle.compose.specs.Header.{header}
use Rattle.compose.specs.Composed.{composed_by}
use Rattle.composing.specs.Pens.{stands}
use Rattle.composing.specs.declared.Pen.{Pen}
use Rattle.composing.specs.Placing.{placed_in}
use Rattle.composing.specs.PlacingLaws.{fit_stands, placed_unfit, placed_long, placed_bad, placed_over, placed_at}
use Rattle.composing.specs.Sizes.{margin, output_size}
use Rattle.composing.proofs.stream.Goals as goal

-- what is written of a text's roles and numbers
abbrev written_of : List ℕ → List ℕ → List ℕ → Writing
written_of text roles numbers = writes_at text 0 roles (start (held numbers (length numbers)))

-- what stands there with the count that waited
stood : (head out₀ out stack numbers : List ℕ) (p : Pen) (x y : Writing) → length out₀ ≡ output_size → length out ≡ length out₀
    → kept (stands out stack numbers p) ≡ within (length out₀ - margin) x → p.fits ≡ true → y ≡ counted (stands out stack numbers p) → y ≡ counted x
stood head out₀ out stack numbers p x y size same state fit e =
    e ∙ ap counted (sym (fit_stands head out₀ out stack numbers p x size same state fit))

pub returns-then-not-w : goal.returns-then-not-w
unfolding placed_in composed_by
returns-then-not-w c =
    let a = c.args in
    let w = c.written-w in
    placed_unfit (header a.offsets.now a.types.now) a.out.now w.new.out w.new.stack a.numbers.now w.result
    (written_of a.text.now a.roles.now a.numbers.now) c.requires.roles_in_bounds.2 w.auto.out w.ensures.result_after
    (not-true w.result.fits c.if-not-w.true)

pub returns-then-front-le-FRONT : goal.returns-then-front-le-FRONT
unfolding placed_in composed_by
returns-then-front-le-FRONT c =
    let a = c.args in
    let w = c.written-w in
    placed_long (header a.offsets.now a.types.now) a.out.now w.new.out w.new.stack a.numbers.now w.result
    (written_of a.text.now a.roles.now a.numbers.now) c.requires.roles_in_bounds.2 w.auto.out w.ensures.result_after
    (not-false w.result.fits c.if-not-w.false) (omega (arith, w.ensures.place_in_bounds.0, w.auto.out)) c.if-front-le-FRONT.true

pub returns-then-not-p : goal.returns-then-not-p
unfolding placed_in composed_by
returns-then-not-p c =
    let a = c.args in
    let w = c.written-w in
    let p = c.counted-p in
    let head = header a.offsets.now a.types.now in
    placed_bad head p.new.out w.new.stack a.numbers.now p.result (counted (written_of a.text.now a.roles.now a.numbers.now))
    (stood head a.out.now w.new.out w.new.stack a.numbers.now w.result (written_of a.text.now a.roles.now a.numbers.now) _
    c.requires.roles_in_bounds.2 w.auto.out w.ensures.result_after (not-false w.result.fits c.if-not-w.false)
    (p.ensures.by_index a.numbers.now))
    (not-true p.result.fits c.if-not-p.true)

pub write_header-at-requires : goal.write_header-at-requires
write_header-at-requires c =
    let long : length c.counted-p.new.out ≡ output_size = c.counted-p.auto.out ∙ c.written-w.auto.out ∙ c.requires.roles_in_bounds.2 in
    let near = c.counted-p.ensures.height_le_height.1 in
    let size = c.requires.roles_in_bounds.2 in (
      omega (arith, near.front, c.if-front-le-FRONT.false),
      omega (arith, near.behind, c.written-w.ensures.place_in_bounds.0, long, size),
      c.requires.rows,
    )

pub returns-then-at-lt-FRONT : goal.returns-then-at-lt-FRONT
unfolding placed_in composed_by
returns-then-at-lt-FRONT c =
    let a = c.args in
    let w = c.written-w in
    let p = c.counted-p in
    let h = c.write_header-at in
    let head = header a.offsets.now a.types.now in
    placed_over head p.new.out w.new.stack a.numbers.now p.result (counted (written_of a.text.now a.roles.now a.numbers.now))
    (stood head a.out.now w.new.out w.new.stack a.numbers.now w.result (written_of a.text.now a.roles.now a.numbers.now) _
    c.requires.roles_in_bounds.2 w.auto.out w.ensures.result_after (not-false w.result.fits c.if-not-w.false)
    (p.ensures.by_index a.numbers.now))
    h.new.out h.result (h.auto.out ∙ p.auto.out ∙ w.auto.out ∙ c.requires.roles_in_bounds.2) h.ensures.out_after c.if-at-lt-FRONT.true

pub returns : goal.returns
unfolding placed_in composed_by
returns c =
    let a = c.args in
    let w = c.written-w in
    let p = c.counted-p in
    let h = c.write_header-at in
    let head = header a.offsets.now a.types.now in
    placed_at head p.new.out w.new.stack a.numbers.now p.result (counted (written_of a.text.now a.roles.now a.numbers.now))
    (stood head a.out.now w.new.out w.new.stack a.numbers.now w.result (written_of a.text.now a.roles.now a.numbers.now) _
    c.requires.roles_in_bounds.2 w.auto.out w.ensures.result_after (not-false w.result.fits c.if-not-w.false)
    (p.ensures.by_index a.numbers.now))
    h.new.out h.result (h.auto.out ∙ p.auto.out ∙ w.auto.out ∙ c.requires.roles_in_bounds.2) h.ensures.out_after
    (not-false p.result.fits c.if-not-p.false) c.if-at-lt-FRONT.false
