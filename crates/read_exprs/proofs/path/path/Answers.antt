-- `path::path` meets its contract: the count is not read, or is, with the variables behind it.
use Rattle.std.proofs.Common.{arith, sym, ◌∙◌}
use Rattle.std.proofs.lemmas.Result.{err_from_is_err_and}
use Rattle.read_exprs.specs.PathWays.{path_stop, path_more}
use Rattle.read_exprs.proofs.path.path.Goals as goal

pub returns-in_err-n : goal.returns-in_err-n
returns-in_err-n c =
    let a = c.args in
    let p = err_from_is_err_and c.from_residual.result c.from_residual.ensures.1 in
    rw (p.1, p.2) (record { value = sym (path_stop a.s.now a.names.now.ar.now a.names.now.types.now a.names.now.own a.live 0 a.at _ (sym c.in_err-n.ensures.value)); path_span = tt })

pub first-requires : goal.first-requires
first-requires c = omega (arith, c.in_ok-n.ensures.byte_span)

pub returns : goal.returns
returns c =
    let a = c.args in
    let span = c.in_ok-n.ensures.byte_span in
    record {
      value = c.first.ensures.value ∙ sym (path_more a.s.now a.names.now.ar.now a.names.now.types.now a.names.now.own a.live _ a.at _ (sym c.in_ok-n.ensures.value));
      path_span = rw span.0 at c.first.ensures.path_span;
    }
