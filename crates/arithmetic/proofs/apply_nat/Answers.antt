-- `apply_nat` meets its contract, one way for each operator that takes numbers.
use Rattle.std.proofs.Common.{◌+◌, ◌*◌, ap, ◌∙◌, Ok}
use Rattle.operators.specs.Apply.{same_int, nat_answer, answer, compute, apply}
use Rattle.operators.specs.Named.{meant}
use Rattle.operators.specs.Words.{answered}
use Rattle.operators.proofs.Laws.NatLaws.{nat_found, nat_left, nat_divided, nat_leaving}
use Rattle.arithmetic.proofs.AnsweredLaws.{truth_word, numbers_unfit}
use Rattle.arithmetic.proofs.apply_nat.Goals as goal
use Rattle.arithmetic.proofs.apply_nat.Goals.{in-Eq, in-Ne, in-Le, in-Ge, in-Lt, in-Gt}

pub returns-in-Mul : goal.returns-in-Mul
unfolding apply answer compute meant
returns-in-Mul c = let s = c.args in c.ok_or.ensures.value ∙ rw c.in-Mul.is (nat_found _ (s.a * s.b) c.checked_mul.ensures)

pub returns-in-Div : goal.returns-in-Div
unfolding apply answer compute meant
returns-in-Div c = let s = c.args in c.ok_or-in-Div.ensures.value ∙ rw c.in-Div.is (nat_divided _ s.a s.b c.ranges.a.fits c.checked_div.ensures)

pub returns-in-Rem : goal.returns-in-Rem
unfolding apply answer compute meant
returns-in-Rem c = let s = c.args in c.ok_or-in-Rem.ensures.value ∙ rw c.in-Rem.is (nat_leaving _ s.a s.b c.ranges.a.fits c.checked_rem.ensures)

pub returns-in-Add : goal.returns-in-Add
unfolding apply answer compute meant
returns-in-Add c = let s = c.args in c.ok_or-in-Add.ensures.value ∙ rw c.in-Add.is (nat_found _ (s.a + s.b) c.checked_add.ensures)

pub returns-in-Sub : goal.returns-in-Sub
unfolding apply answer compute meant
returns-in-Sub c = let s = c.args in c.ok_or-in-Sub.ensures.value ∙ rw c.in-Sub.is (nat_left _ s.a s.b c.ranges.a.fits c.checked_sub.ensures)

pub returns-in_default : goal.returns-in_default
unfolding apply
returns-in_default c =
    let s = c.args in
    let n = c.in_default in
    numbers_unfit nat_answer _ _ s.op n.not-Eq n.not-Ne n.not-Le n.not-Ge n.not-Lt n.not-Gt n.not-Mul n.not-Div n.not-Rem n.not-Add n.not-Sub

pub returns : goal.returns
unfolding apply answer compute meant answered same_int
returns c =
    let word = ap Ok (c.from.ensures ∙ truth_word c.match-op.holds) in
    elim c.match-op.branch [
      | in-Eq w ↦ word ∙ rw (w.holds-is, w.in-Eq.is)
      | in-Ne w ↦ word ∙ rw (w.holds-is, w.in-Ne.is)
      | in-Le w ↦ word ∙ rw (w.holds-is, w.in-Le.is)
      | in-Ge w ↦ word ∙ rw (w.holds-is, w.in-Ge.is)
      | in-Lt w ↦ word ∙ rw (w.holds-is, w.in-Lt.is)
      | in-Gt w ↦ word ∙ rw (w.holds-is, w.in-Gt.is)
    ]
