-- `parts::go_on` meets its contract: one law for each way.
use Rattle.std.proofs.Common.{◌≡◌, ◌-◌, refl, sym, ap, ◌∙◌, get_or, set, length-set, arith}
use Rattle.uses.specs.Passed.{onward}
use Rattle.uses.specs.Lent.{passed_in}
use Rattle.uses.specs.Laws.StackLaws.{go_none, go_zero, go_one, next_stop, next_same}
use Rattle.uses.proofs.parts.go_on.Goals as goal

pub returns-in_err-h : goal.returns-in_err-h
returns-in_err-h c =
    record {
      by_index = λ x l o. ap (λ z. passed_in x l c.args.stack.now z o) c.from_residual.ensures ∙ go_none x l c.args.stack.now o c.args.c (omega (arith, c.in_err-h.ensures));
      by_index_2 = λ t l r. rw c.from_residual.ensures (next_stop t l c.args.c r);
      stack_len_unchanged = refl;
    }

pub returns-in_err-m : goal.returns-in_err-m
returns-in_err-m c =
    let e = c.in_ok-h.ensures in
    let k = c.args.stack.now in
    record {
      by_index = λ x l o. ap (λ z. passed_in x l k z o) c.from_residual-in_err-m.ensures ∙ go_zero x l k o c.args.c (λ z. omega (arith, z, e.0))
          (ap (λ h. get_or k h 0) (sym e.1) ∙ (let z : get_or k c.in_ok-h.h 0 ≡ 0 = omega (arith, c.in_err-m.ensures) in z));
      by_index_2 = λ t l r. rw c.from_residual-in_err-m.ensures (next_stop t l c.args.c r);
      stack_len_unchanged = refl;
    }

pub returns : goal.returns
returns c =
    let k = c.args.stack.now in
    let s = c.args.c in
    let e = c.in_ok-h.ensures in
    let f = c.in_ok-m.ensures in
    record {
      by_index = λ x l o. ap (λ h. passed_in x l (set k h c.in_ok-m.m) (onward s) o) e.1
          ∙ ap (λ m. passed_in x l (set k (s.dues - 1) m) (onward s) o) (f.1 ∙ ap (λ h. get_or k h 0 - 1) e.1)
          ∙ go_one x l k o s (λ z. omega (arith, z, e.0)) (λ z. omega (arith, ap (λ h. get_or k h 0) e.1, z, f.0)) c.requires;
      by_index_2 = λ t l r. next_same t l s r;
      stack_len_unchanged = length-set k _ _;
    }
