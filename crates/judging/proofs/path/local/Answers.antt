-- `path::local` meets its contract.
use Rattle.std.proofs.Common.{◌≡◌, sym, ◌∙◌, eq-eqb, ne_eqb}
use Rattle.judge.specs.Facts.{digit, start_of}
use Rattle.judging.proofs.path.local.Goals as goal

pub returns-then-d-eq0 : goal.returns-then-d-eq0
unfolding start_of
returns-then-d-eq0 c = λ ar types own. simp (start_of, eq-eqb _ _ (sym c.digit-d.ensures ∙ c.if-d-eq0.true), c.from.ensures)

pub returns : goal.returns
unfolding start_of
returns c =
    λ ar types own. let a = c.args in
    let h : digit a.live a.x ≡ 0 → ⊥ = λ e. c.if-d-eq0.false (c.digit-d.ensures ∙ e) in
    simp (start_of, ne_eqb _ _ h, c.digit-d.ensures)
