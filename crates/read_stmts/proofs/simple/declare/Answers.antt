-- `simple::declare` meets its contract: the type is not read, or is, with the local behind it.
use Rattle.std.proofs.Common.{arith, sym, ◌∙◌}
use Rattle.std.proofs.lemmas.Result.{err_from_is_err_and}
use Rattle.read_stmts.specs.StmtWays.{declare_stop, declare_is}
use Rattle.read_stmts.specs.DoneWays.{behind_behind}
use Rattle.read_stmts.proofs.simple.declare.Goals as goal

pub returns-in_err-t : goal.returns-in_err-t
returns-in_err-t c =
    let a = c.args in
    let p = err_from_is_err_and c.from_residual.result c.from_residual.ensures.1 in
    rw (p.1, p.2) (record { value = sym (declare_stop a.names.now.ar.now a.names.now.types.now a.s.now a.names.now.own a.c a.at _ (sym c.in_err-t.ensures.value)); done_behind = tt })

pub local-requires : goal.local-requires
local-requires c = (c.requires, omega (arith, c.in_ok-t.ensures.byte_span, c.requires))

pub returns : goal.returns
returns c =
    let a = c.args in let s = a.s.now in
    let span = c.in_ok-t.ensures.byte_span in
    record {
      value = c.local.ensures.value ∙ sym (declare_is a.names.now.ar.now a.names.now.types.now s a.names.now.own a.c a.at _ _ (sym c.in_ok-t.ensures.value));
      done_behind = behind_behind s a.at _ c.local.result span.0 c.local.ensures.done_behind;
    }
