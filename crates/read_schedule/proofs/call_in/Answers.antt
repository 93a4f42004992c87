-- `call_in` meets its contract.
use Rattle.std.proofs.Common.{arith, sym}
use Rattle.std.proofs.lemmas.Result.{err_from_is_err_and}
use Rattle.directory.specs.Rows.{rows_from}
use Rattle.read_schedule.specs.PlanWays.{call_in_stop, call_in_cut, call_in_read}
use Rattle.read_schedule.proofs.call_in.Goals as goal

pub returns-in_err-k : goal.returns-in_err-k
returns-in_err-k c =
    let a = c.args in
    let p = err_from_is_err_and c.from_residual.result c.from_residual.ensures.1 in
    rw (p.1, p.2) (record { value = sym (call_in_stop (rows_from a.t.now.rows.now 0 a.t.now.steps) a.t.now.structs a.s.now a.at _ (sym (rw c.from.ensures at c.in_err-k.ensures.value))); ahead = tt })

pub returns-in_err-n : goal.returns-in_err-n
returns-in_err-n c =
    let a = c.args in
    let p = err_from_is_err_and c.from_residual-in_err-n.result c.from_residual-in_err-n.ensures.1 in
    rw (p.1, p.2) (record { value = sym (call_in_cut (rows_from a.t.now.rows.now 0 a.t.now.steps) a.t.now.structs a.s.now a.at _ _ _ (sym (rw c.from.ensures at c.in_ok-k.ensures.value)) (sym c.in_err-n.ensures.value)); ahead = tt })

pub returns : goal.returns
returns c =
    let a = c.args in
    let first = c.in_ok-k.ensures.byte_span in
    let second = c.in_ok-n.ensures.byte_span in
    record {
      value = rw (c.one.ensures, c.there.ensures) (sym (call_in_read (rows_from a.t.now.rows.now 0 a.t.now.steps) a.t.now.structs a.s.now a.at _ _ _ _ (sym (rw c.from.ensures at c.in_ok-k.ensures.value)) (sym c.in_ok-n.ensures.value)));
      ahead = rw c.one.ensures (omega arith);
    }
