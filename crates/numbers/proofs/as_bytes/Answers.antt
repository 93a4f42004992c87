use Rattle.std.proofs.Common.{arith, ◌≡◌, length}
use Rattle.numbers.specs.ByteLaws.{passed_end, passed_large, passed_long, passed_next}
use Rattle.numbers.proofs.as_bytes.Goals as goal

pub returns-in_default : goal.returns-in_default
returns-in_default c =
    let both = passed_large c.loop-i.invariant.0 c.loop-i-test.true (omega (arith, c.in_default.ensures)) in
    record { value = both.0; bound = tt; out_after = both.1 }

pub returns-then-out-i : goal.returns-then-out-i
returns-then-out-i c =
    let both = passed_long c.loop-i.invariant.0 c.loop-i-test.true (omega (arith, c.in-Ok.ensures.0)) c.if-out-i.true in
    record { value = both.0; bound = tt; out_after = both.1 }

pub loop-i-preserved : goal.loop-i-preserved
loop-i-preserved c = (
  rw c.in-Ok.ensures.1 (passed_next c.loop-i.invariant.0 c.loop-i-test.true (omega (arith, c.in-Ok.ensures.0)) c.if-out-i.false),
  omega (arith, c.if-out-i.false, c.loop-i.invariant.0.kept),
)

pub returns : goal.returns
returns c =
    let r = c.loop-i.invariant.0 in
    let both = passed_end r c.loop-i-test.false in
    let e : c.loop-i.i ≡ length c.args.words.now = omega (arith, r.within, c.loop-i-test.false) in
    record { value = rw (← e) both.0; bound = omega (arith, e, c.loop-i.invariant.1); out_after = both.1 }
