-- `leaf::bool_byte` meets its contract: the byte is not read, or is.
use Rattle.std.proofs.Common.{arith, sym}
use Rattle.std.proofs.lemmas.Result.{err_from_is_err_and}
use Rattle.program.specs.Reader.{ranged}
use Rattle.judge.specs.Facts.{pushed}
use Rattle.read_exprs.specs.ByteWays.{byte_for, byte_not}
use Rattle.read_exprs.proofs.leaf.bool_byte.Goals as goal

pub returns-in_err-m : goal.returns-in_err-m
returns-in_err-m c =
    let a = c.args in
    let p = err_from_is_err_and c.from_residual.result c.from_residual.ensures.1 in
    rw (p.1, p.2) (record { value = sym (byte_not (pushed 2) (ranged a.s.now 0 2 a.at) _ (sym c.in_err-m.ensures.value)); behind = tt })

pub returns : goal.returns
returns c =
    let a = c.args in
    let span = c.in_ok-m.ensures.byte_span in
    record { value = rw c.pushed.ensures (sym (byte_for (pushed 2) (ranged a.s.now 0 2 a.at) _ _ (sym c.in_ok-m.ensures.value))); behind = rw c.pushed.ensures (omega arith) }
