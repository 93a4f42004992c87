use Rattle.std.proofs.Common.{◌-◌, ◌≡◌, length}
use Rattle.program.specs.Reader.{read_expr}
use Rattle.judge.specs.Facts.{no_args}
use Rattle.read_exprs.specs.Told.{ArgsRead}
use Rattle.read_exprs.specs.ExprWays.{args_row}
use Rattle.read_exprs.proofs.expr.+construct_expr.Given as goal

abbrev pub decreases-construct : goal.decreases-construct
decreases-construct l = length l.s.now - l.at

abbrev pub decreases-expr : goal.decreases-expr
decreases-expr l = length l.s.now - l.at

abbrev pub invariant-construct-loop-x : goal.invariant-construct-loop-x
invariant-construct-loop-x l =
    ArgsRead l.s l.m l.next l.x l.all
    × (args_row l.names.ar.now l.names.types.now l.s l.names.own l.live (read_expr l.names.ar.now l.s l.depth) l.k 0 no_args l.n l.m ≡ args_row l.names.ar.now l.names.types.now l.s l.names.own l.live (read_expr l.names.ar.now l.s l.depth) l.k l.x l.all (l.n - l.x) l.next)
