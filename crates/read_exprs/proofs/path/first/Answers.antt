-- `path::first` meets its contract: the first variable is not read, or is, alone or with others behind it.
use Rattle.std.proofs.Common.{arith, sym, ◌∙◌}
use Rattle.std.proofs.lemmas.Result.{err_from_is_err_and}
use Rattle.read_exprs.specs.PathWays.{vars_stop, vars_more, span_first}
use Rattle.read_exprs.proofs.path.first.Goals as goal

pub returns-in_err-b : goal.returns-in_err-b
returns-in_err-b c =
    let a = c.args in
    let p = err_from_is_err_and c.from_residual.result c.from_residual.ensures.1 in
    rw (p.1, p.2) (record { value = sym (vars_stop a.s.now a.names.now.ar.now a.names.now.types.now a.names.now.own a.live a.n a.at _ (sym c.in_err-b.ensures.value)); path_span = tt })

pub start-j-requires : goal.start-j-requires
start-j-requires c = omega (arith, c.in_ok-b.ensures.byte_span)

pub follow-requires : goal.follow-requires
follow-requires c = omega (arith, c.in_ok-b.ensures.byte_span, c.requires)

pub returns : goal.returns
returns c =
    let a = c.args in
    let span = c.in_ok-b.ensures.byte_span in
    let rest = rw c.start-j.ensures at c.follow.ensures.value in
    record {
      value = rest ∙ sym (vars_more a.s.now a.names.now.ar.now a.names.now.types.now a.names.now.own a.live a.n a.at _ _ (sym c.in_ok-b.ensures.value));
      path_span = span_first a.s.now a.n a.at _ c.follow.result c.requires.0 c.requires.1 span.0 c.follow.ensures.path_span;
    }
