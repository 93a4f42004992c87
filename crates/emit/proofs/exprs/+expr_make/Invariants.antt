use Rattle.std.proofs.Common.{◌+◌, ◌-◌, ◌*◌}
use Rattle.emit.specs.Written.{args_words, args_at}
use Rattle.emit.specs.Parts.{Rest}
use Rattle.emit.proofs.exprs.+expr_make.Given as goal

abbrev pub decreases-expr : goal.decreases-expr
decreases-expr l = 2 * l.depth

abbrev pub decreases-make : goal.decreases-make
decreases-make l = 2 * l.depth + 1

abbrev pub invariant-make-loop-x : goal.invariant-make-loop-x
invariant-make-loop-x l =
    Rest args_words (args_at l.ar l.s l.depth l.n (l.at + 1)) l.initial.out l.k (args_at l.ar l.s l.depth (l.n - l.x) l.p.next) l.p l.out
