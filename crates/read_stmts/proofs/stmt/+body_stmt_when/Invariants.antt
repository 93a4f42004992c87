use Rattle.std.proofs.Common.{◌-◌, ◌≡◌, length}
use Rattle.program.specs.Reader.{read_stmt}
use Rattle.read_stmts.specs.RowWays.{Read, row}
use Rattle.read_stmts.proofs.stmt.+body_stmt_when.Given as goal

abbrev pub decreases-body : goal.decreases-body
decreases-body l = length l.s.now - l.at

abbrev pub decreases-stmt : goal.decreases-stmt
decreases-stmt l = length l.s.now - l.at

abbrev pub decreases-when : goal.decreases-when
decreases-when l = length l.s.now - l.at

abbrev pub invariant-body-loop-i : goal.invariant-body-loop-i
invariant-body-loop-i l =
    (Read l.s l.m l.next l.done)
    × (row l.names.ar.now l.names.types.now l.s l.names.own (read_stmt l.names.ar.now l.s l.depth) l.initial.done l.n l.initial.next ≡ row l.names.ar.now l.names.types.now l.s l.names.own (read_stmt l.names.ar.now l.s l.depth) l.done (l.n - l.i) l.next)
