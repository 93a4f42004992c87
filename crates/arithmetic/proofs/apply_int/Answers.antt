-- `apply_int` meets its contract, one way for each operator that computes.
use Rattle.std.proofs.Common.{ap, sym, ◌∙◌, Ok}
use Rattle.std.proofs.lemmas.Result.{err_from_is_err_and}
use Rattle.operators.specs.Apply.{int_answer, answer, compute, apply}
use Rattle.operators.specs.Named.{meant}
use Rattle.operators.specs.Words.{answered}
use Rattle.operators.proofs.Laws.IntLaws.{int_of_back, product_words, sum_words, difference_words}
use Rattle.arithmetic.proofs.AnsweredLaws.{truth_word, numbers_unfit, bits_words, quotient_words, remainder_words, quotient_none, remainder_none}
use Rattle.arithmetic.proofs.apply_int.Goals as goal
use Rattle.arithmetic.proofs.apply_int.Goals.{in-Eq, in-Ne, in-Le, in-Ge, in-Lt, in-Gt}

pub returns-in-Mul : goal.returns-in-Mul
unfolding apply answer compute meant
returns-in-Mul c = c.int_answer.ensures ∙ rw (c.in-Mul.is, product_words c.int_of-x.ensures c.int_of-y.ensures)

pub returns-in-Add : goal.returns-in-Add
unfolding apply answer compute meant
returns-in-Add c = c.int_answer-in-Add.ensures ∙ rw (c.in-Add.is, sum_words c.int_of-x.ensures c.int_of-y.ensures)

pub returns-in-Sub : goal.returns-in-Sub
unfolding apply answer compute meant
returns-in-Sub c = c.int_answer-in-Sub.ensures ∙ rw (c.in-Sub.is, difference_words c.int_of-x.ensures c.int_of-y.ensures)

pub returns-in_err-quotient_of-in-Div : goal.returns-in_err-quotient_of-in-Div
unfolding apply answer compute meant
returns-in_err-quotient_of-in-Div c =
    let p = err_from_is_err_and c.from_residual.result c.from_residual.ensures.1 in
    rw (p.1, p.2, c.in-Div.is) (quotient_none c.int_of-x.ensures c.int_of-y.ensures (sym c.in_err-quotient_of-in-Div.was ∙ c.quotient_of.ensures))

pub returns-in-Div : goal.returns-in-Div
unfolding apply answer compute meant
returns-in-Div c =
    let found = quotient_words c.int_of-x.ensures c.int_of-y.ensures (sym c.in_ok-quotient_of-in-Div.was ∙ c.quotient_of.ensures) in
    c.int_answer-in-Div.ensures ∙ rw c.in-Div.is (ap (λ o. answered (int_answer o)) found)

pub returns-in_err-remainder_of-in-Rem : goal.returns-in_err-remainder_of-in-Rem
unfolding apply answer compute meant
returns-in_err-remainder_of-in-Rem c =
    let p = err_from_is_err_and c.from_residual-in_err-remainder_of-in-Rem.result c.from_residual-in_err-remainder_of-in-Rem.ensures.1 in
    rw (p.1, p.2, c.in-Rem.is) (remainder_none c.int_of-x.ensures c.int_of-y.ensures (sym c.in_err-remainder_of-in-Rem.was ∙ c.remainder_of.ensures))

pub returns-in-Rem : goal.returns-in-Rem
unfolding apply answer compute meant
returns-in-Rem c =
    let found = remainder_words c.int_of-x.ensures c.int_of-y.ensures (sym c.in_ok-remainder_of-in-Rem.was ∙ c.remainder_of.ensures) in
    c.int_answer-in-Rem.ensures ∙ rw c.in-Rem.is (ap (λ o. answered (int_answer o)) found)

pub returns-in_default : goal.returns-in_default
unfolding apply
returns-in_default c =
    let s = c.args in
    let n = c.in_default in
    numbers_unfit int_answer _ _ s.op n.not-Eq n.not-Ne n.not-Le n.not-Ge n.not-Lt n.not-Gt n.not-Mul n.not-Div n.not-Rem n.not-Add n.not-Sub

pub returns : goal.returns
unfolding apply answer compute meant answered
returns c =
    let word = ap Ok (c.from.ensures ∙ truth_word c.match-op.holds) in
    let x = int_of_back c.int_of-x.ensures in
    let y = int_of_back c.int_of-y.ensures in
    let same = bits_words c.int_of-x.ensures c.int_of-y.ensures in
    elim c.match-op.branch [
      | in-Eq w ↦ word ∙ rw (w.holds-is, w.in-Eq.is, same)
      | in-Ne w ↦ word ∙ rw (w.holds-is, w.in-Ne.is, same)
      | in-Le w ↦ word ∙ rw (w.holds-is, w.in-Le.is, x, y)
      | in-Ge w ↦ word ∙ rw (w.holds-is, w.in-Ge.is, x, y)
      | in-Lt w ↦ word ∙ rw (w.holds-is, w.in-Lt.is, x, y)
      | in-Gt w ↦ word ∙ rw (w.holds-is, w.in-Gt.is, x, y)
    ]
