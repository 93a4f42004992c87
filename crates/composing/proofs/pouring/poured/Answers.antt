-- `pouring::poured` meets its contract: the loop's invariant is `Pouring`.
use Rattle.std.proofs.Common.{arith, ◌≡◌, ◌+◌, ◌-◌}
use Rattle.composing.specs.PouringLaws.{pouring_start, pouring_next, pouring_stops, pouring_over, pouring_end, poured_at, poured_spoilt}
use Rattle.composing.proofs.pouring.poured.Goals as goal

pub loop-i-init : goal.loop-i-init
loop-i-init c =
    let args = c.args in
    pouring_start args.out.now args.stack.now args.p args.t c.requires.0 c.requires.1 c.requires.2

pub bounds-stack-i : goal.bounds-stack-i
bounds-stack-i c = let inv = c.loop-i.invariant in omega (arith, c.loop-i-test.true, inv.low, inv.tall)

pub shape_of-out-then-tightness-t : goal.shape_of-out-then-tightness-t
shape_of-out-then-tightness-t c = c.loop-i.invariant.same

-- one that waits is not tighter
pub returns-then-tightness-t : goal.returns-then-tightness-t
returns-then-tightness-t c =
    let inv = c.loop-i.invariant in
    let e : c.loop-i.i - 1 + 1 ≡ c.loop-i.i = omega (arith, c.loop-i-test.true) in
    record {
      by_index = λ n. rw e (pouring_stops inv c.loop-i-test.true (omega (arith, c.tightness.ensures, c.if-tightness-t.true)) n);
      poured = rw e (poured_at inv);
    }

-- there is no room for one more
pub returns-then-place-le-MARGIN : goal.returns-then-place-le-MARGIN
returns-then-place-le-MARGIN c =
    let inv = c.loop-i.invariant in
    record {
      by_index = pouring_over inv c.loop-i-test.true (omega (arith, c.tightness.ensures, c.if-tightness-t.false)) c.if-place-le-MARGIN.true
          c.spoilt.result c.spoilt.ensures;
      poured = poured_spoilt inv c.spoilt.result c.spoilt.ensures;
    }

pub overflow_sub-place : goal.overflow_sub-place
overflow_sub-place c = omega (arith, c.if-place-le-MARGIN.false)

pub bounds-out-place : goal.bounds-out-place
bounds-out-place c =
    let inv = c.loop-i.invariant in
    omega (arith, c.if-place-le-MARGIN.false, inv.behind, inv.inner, inv.same)

-- it is written
pub loop-i-preserved : goal.loop-i-preserved
loop-i-preserved c =
    pouring_next c.loop-i.invariant c.loop-i-test.true (omega (arith, c.tightness.ensures, c.if-tightness-t.false)) c.if-place-le-MARGIN.false

pub shape_of-out : goal.shape_of-out
shape_of-out c = c.loop-i.invariant.same

pub returns : goal.returns
returns c =
    let inv = c.loop-i.invariant in
    let e : 0 ≡ c.loop-i.i = omega (arith, c.loop-i-test.false) in
    record { by_index = λ n. rw e (pouring_end inv (omega (arith, c.loop-i-test.false)) n); poured = rw e (poured_at inv) }
