use Rattle.std.proofs.Common.{◌+◌, ◌-◌, ◌*◌}
use Rattle.emit.specs.Written.{body_words, stmts_at as stmts-from}
use Rattle.emit.specs.Parts.{Rest}
use Rattle.emit.proofs.stmts.+block_body_stmt_when.Given as goal

abbrev pub decreases-block : goal.decreases-block
decreases-block l = 4 * l.depth + 2

abbrev pub decreases-body : goal.decreases-body
decreases-body l = 4 * l.depth + 1

abbrev pub decreases-stmt : goal.decreases-stmt
decreases-stmt l = 4 * l.depth

abbrev pub decreases-when : goal.decreases-when
decreases-when l = 4 * l.depth + 3

abbrev pub invariant-body-loop-x : goal.invariant-body-loop-x
invariant-body-loop-x l =
    Rest body_words (stmts-from l.ar l.s l.depth l.n (l.at + 1)) l.initial.out l.k (stmts-from l.ar l.s l.depth (l.n - l.x) l.p.next) l.p l.out
