-- `leaf::null` meets its contract: the type is not read, or is.
use Rattle.std.proofs.Common.{arith, sym}
use Rattle.std.proofs.lemmas.Result.{err_from_is_err_and}
use Rattle.read_exprs.specs.ByteWays.{type_is, type_not}
use Rattle.read_exprs.proofs.leaf.null.Goals as goal

pub returns-in_err-b : goal.returns-in_err-b
returns-in_err-b c =
    let a = c.args in
    let p = err_from_is_err_and c.from_residual.result c.from_residual.ensures.1 in
    rw (p.1, p.2) (record { value = sym (type_not a.s.now a.n a.at _ (sym c.in_err-b.ensures.value)); behind = tt })

pub returns : goal.returns
returns c =
    let a = c.args in
    let span = c.in_ok-b.ensures.byte_span in
    record { value = rw c.pushed.ensures (sym (type_is a.s.now a.n a.at _ _ (sym c.in_ok-b.ensures.value))); behind = rw c.pushed.ensures (omega arith) }
