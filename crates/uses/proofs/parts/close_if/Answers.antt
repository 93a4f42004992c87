-- `parts::close_if` meets its contract: one law for each way.
use Rattle.std.proofs.Common.{◌≡◌, ◌-◌, sym, ap, ◌∙◌, get_or, min, length, arith}
use Rattle.uses.specs.Passed.{onward}
use Rattle.uses.specs.Lent.{passed_in}
use Rattle.uses.specs.Laws.StackLaws.{shut_none, shut, next_stop, next_lived}
use Rattle.uses.proofs.parts.close_if.Goals as goal

pub returns-in_err-left : goal.returns-in_err-left
returns-in_err-left c =
    record {
      o_value = λ x t l o r. ap (λ z. passed_in x l c.args.stack.now z o) c.from_residual.ensures ∙ shut_none x l c.args.stack.now o c.args.c r (omega (arith, c.in_err-left.ensures));
      by_index = λ t l r. rw c.from_residual.ensures (next_stop t l c.args.c r);
    }

pub returns : goal.returns
returns c =
    let k = c.args.stack.now in
    let s = c.args.c in
    let e = c.in_ok-left.ensures in
    record {
      o_value = λ x t l o r. ap (λ d. passed_in x l k (onward d) o) c.lived.ensures
          ∙ shut x l k o s r (λ z. omega (arith, z, e.0)) c.requires e.1 (c.min.ensures ∙ ap (min s.living) c.from-n.ensures);
      by_index = λ t l r. rw c.lived.ensures (next_lived t l s r s.met _ _ r.met (omega (arith, r.living, c.min.ensures)) (omega (arith, c.min.ensures)) (omega (arith, e)));
    }
