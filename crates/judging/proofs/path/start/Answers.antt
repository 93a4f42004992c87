-- `path::start` meets its contract.
use Rattle.std.proofs.Common.{lt-ltb, le-ltb}
use Rattle.program.specs.Reader.{var_of}
use Rattle.judge.specs.Facts.{start_of}
use Rattle.judging.proofs.path.start.Goals as goal

pub returns-then-b-lt-FIRST_LOCAL : goal.returns-then-b-lt-FIRST_LOCAL
unfolding var_of start_of
returns-then-b-lt-FIRST_LOCAL c = simp (var_of, start_of, lt-ltb _ _ c.if-b-lt-FIRST_LOCAL.true, c.param.ensures, c.from.ensures)

pub returns : goal.returns
unfolding var_of
returns c =
    let a = c.args in
    simp (var_of, le-ltb _ _ c.if-b-lt-FIRST_LOCAL.false, c.local.ensures a.ar.now a.types.now a.own)
