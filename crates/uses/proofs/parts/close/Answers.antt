-- `parts::close` meets its contract: one law for each way.
use Rattle.std.proofs.Common.{sym, ap, ◌∙◌, get_or, arith}
use Rattle.uses.specs.Passed.{onward}
use Rattle.uses.specs.Seeing.{dued}
use Rattle.uses.specs.Lent.{passed_in}
use Rattle.uses.specs.Laws.StackLaws.{close_none, close_other, close_one, next_stop, next_dued}
use Rattle.uses.proofs.parts.close.Goals as goal

pub returns-in_err-h : goal.returns-in_err-h
returns-in_err-h c =
    record {
      by_index = λ x l o. ap (λ z. passed_in x l c.args.stack.now z o) c.from_residual.ensures ∙ close_none x l c.args.stack.now o c.args.c c.args.n (omega (arith, c.in_err-h.ensures));
      by_index_2 = λ t l r. rw c.from_residual.ensures (next_stop t l c.args.c r);
    }

pub returns-then-stack-h : goal.returns-then-stack-h
returns-then-stack-h c =
    let e = c.in_ok-h.ensures in
    record {
      by_index = λ x l o. close_other x l c.args.stack.now o c.args.c c.args.n (λ z. omega (arith, z, e.0))
          (λ z. c.if-stack-h.true (ap (λ h. get_or c.args.stack.now h 0) e.1 ∙ z));
      by_index_2 = λ t l r. next_stop t l c.args.c r;
    }

pub returns : goal.returns
returns c =
    let e = c.in_ok-h.ensures in
    let k = c.args.stack.now in
    record {
      by_index = λ x l o. ap (λ d. passed_in x l k (onward d) o) (c.dued.ensures ∙ ap (dued c.args.c) e.1)
          ∙ close_one x l k o c.args.c c.args.n (λ z. omega (arith, z, e.0)) (sym (ap (λ h. get_or k h 0) e.1) ∙ c.if-stack-h.false);
      by_index_2 = λ t l r. rw c.dued.ensures (next_dued t l c.args.c r _ (omega (arith, e)));
    }
