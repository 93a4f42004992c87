-- `leaf::travel` meets its contract: the path is not read, or is.
use Rattle.std.proofs.Common.{arith, sym}
use Rattle.std.proofs.lemmas.Result.{err_from_is_err_and}
use Rattle.program.specs.Reader.{read_path}
use Rattle.judge.specs.Facts.{travelled, path_of}
use Rattle.read_exprs.specs.PathWays.{path_is, path_not}
use Rattle.read_exprs.proofs.leaf.travel.Goals as goal

pub returns-in_err-m : goal.returns-in_err-m
returns-in_err-m c =
    let a = c.args in
    let p = err_from_is_err_and c.from_residual.result c.from_residual.ensures.1 in
    rw (p.1, p.2) (record { value = sym (path_not (path_of a.names.now.ar.now a.names.now.types.now a.names.now.own a.live) (read_path a.s.now a.at) _ (sym c.in_err-m.ensures.value)); behind = tt })

pub returns : goal.returns
unfolding travelled
returns c =
    let a = c.args in
    let span = c.in_ok-m.ensures.path_span in
    record { value = rw c.travelled.ensures (sym (path_is (path_of a.names.now.ar.now a.names.now.types.now a.names.now.own a.live) (read_path a.s.now a.at) _ _ _ (sym c.in_ok-m.ensures.value))); behind = rw c.travelled.ensures (omega arith) }
