-- `totals::step` meets its contract: its name is not read, its body is not, or both are.
use Rattle.std.proofs.Common.{arith, refl, sym}
use Rattle.std.proofs.lemmas.Result.{err_from_is_err_and}
use Rattle.directory.specs.Directory.{row}
use Rattle.directory.proofs.RowsLaws.{rows_added}
use Rattle.read_program.specs.Total.{with}
use Rattle.read_program.specs.OwnLaws.{plus_steps, led_noted}
use Rattle.read_program.specs.TotalWays.{step_stop, step_cut, step_read, step_low}
use Rattle.read_program.proofs.totals.step.Goals as goal

pub returns-in_err-n : goal.returns-in_err-n
returns-in_err-n c =
    let a = c.args in
    let p = err_from_is_err_and c.from_residual.result c.from_residual.ensures.1 in
    rw (p.1, p.2) (record { told = step_stop a.ar.now a.types.now a.s.now a.k a.at (with a.t a.rows.now) _ _ (sym c.in_err-n.ensures.value); bounded = tt; leads = tt })

pub returns-in_err-next : goal.returns-in_err-next
returns-in_err-next c =
    let a = c.args in
    let p = err_from_is_err_and c.from_residual-in_err-next.result c.from_residual-in_err-next.ensures.1 in
    let name = sym c.in_ok-n.ensures.value in
    let body = sym c.in_err-next.ensures.value in
    rw (p.1, p.2) (record { told = step_cut a.ar.now a.types.now a.s.now a.k a.at (with a.t a.rows.now) _ _ _ _ name body; bounded = tt; leads = tt })

pub noted-new-requires : goal.noted-new-requires
noted-new-requires c =
    let span = c.in_ok-n.ensures.byte_span in
    let body = c.in_ok-next.ensures.done_body in
    let low = c.requires.low in
    record { steps_in_bounds = (omega (arith, low), omega (arith, low)); commands_bound = (omega (arith, c.requires.ar_len_bound, low, span, body), omega (arith, c.requires.ar_len_bound, low, span, body)); led = c.requires.led }

pub plus-requires : goal.plus-requires
plus-requires c = omega (arith, c.in_ok-n.ensures.byte_span, c.in_ok-next.ensures.done_body, c.requires.low.0, c.well_formed.0)

pub returns : goal.returns
returns c =
    let a = c.args in let span = c.in_ok-n.ensures.byte_span in
    let body = c.in_ok-next.ensures.done_body in
    let read = step_read a.ar.now a.types.now a.s.now a.k a.at (with a.t a.rows.now) _ _ _ _
    (sym c.in_ok-n.ensures.value) (sym c.in_ok-next.ensures.value) _
    (rows_added a.rows.now a.t.steps (row a.k _ a.t.commands _) (omega (arith, c.requires.low.1))) in
    let led = led_noted a.k a.rows.now a.t.steps _ (omega (arith, c.requires.low.1)) c.requires.led refl in
    record {
      told = rw (c.plus.ensures, c.noted-new.ensures.value, c.noted-new.ensures.rows_after) read;
      bounded = rw c.plus.ensures (step_low a.s.now a.t _ _ a.at _ _ c.requires.low.0 span.0 body);
      leads = rw (c.plus.ensures, plus_steps, c.noted-new.ensures.rows_after) led;
    }
