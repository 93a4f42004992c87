-- `read::ranged` meets its contract: the byte is not read, lies outside, or is the one.
use Rattle.std.proofs.Common.{arith, sym}
use Rattle.std.proofs.lemmas.Result.{err_from_is_err_and}
use Rattle.read_exprs.specs.ByteWays.{ranged_stop, ranged_pass, ranged_fail}
use Rattle.read_exprs.proofs.read.ranged.Goals as goal

pub returns-in_err-b : goal.returns-in_err-b
returns-in_err-b c =
    let a = c.args in
    let p = err_from_is_err_and c.from_residual.result c.from_residual.ensures.1 in
    rw (p.1, p.2) (record { value = sym (ranged_stop a.s.now a.lo a.hi a.at _ (sym c.in_err-b.ensures.value)); byte_span = tt })

pub returns-then-n-lo : goal.returns-then-n-lo
returns-then-n-lo c =
    let a = c.args in
    record { value = sym (ranged_fail a.s.now a.lo a.hi a.at _ _ (sym c.in_ok-b.ensures.value) (rw c.from-n.ensures at c.then-n-lo.either)); byte_span = tt }

pub returns : goal.returns
returns c =
    let a = c.args in
    let span = c.in_ok-b.ensures.byte_span in
    let n = c.from-n.ensures in
    record { value = sym (ranged_pass a.s.now a.lo a.hi a.at _ _ (sym c.in_ok-b.ensures.value) (omega arith) (omega arith)); byte_span = omega arith }
