-- `pouring::begun` meets its contract: no end of an expression waits, or the last one is taken off.
use Rattle.std.proofs.Common.{◌-◌, arith, length}
use Rattle.composing.specs.PouringLaws.{begun_none, begun_some, poured_then}
use Rattle.composing.specs.Sizes.{margin}
use Rattle.composing.proofs.pouring.begun.Goals as goal

pub returns-then-h-eq0 : goal.returns-then-h-eq0
returns-then-h-eq0 c =
    let args = c.args in
    let q = c.poured-q in
    record {
      by_index = λ n. begun_none args.out.now q.new.out args.stack.now n (length args.out.now - margin) args.p q.result (q.ensures.by_index n)
          c.if-h-eq0.true c.spoilt.result c.spoilt.ensures;
      poured = (let e = c.spoilt.ensures in poured_then args.p q.result c.spoilt.result q.ensures.poured e.0 (omega (arith, e.1)) e.2 e.3);
    }

pub returns : goal.returns
returns c =
    let args = c.args in
    let q = c.poured-q in
    record {
      by_index = λ n. begun_some args.out.now q.new.out args.stack.now n (length args.out.now - margin) args.p q.result (q.ensures.by_index n)
          c.if-h-eq0.false c.popped.result c.popped.ensures;
      poured = (let e = c.popped.ensures in poured_then args.p q.result c.popped.result q.ensures.poured e.0 (omega (arith, e.1)) e.2 e.3);
    }
