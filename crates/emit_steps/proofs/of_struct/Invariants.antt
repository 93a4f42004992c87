use Rattle.std.proofs.Common.{◌-◌}
use Rattle.commands.specs.ProgramWords.{steps_words}
use Rattle.emit.specs.Written.{steps_at}
use Rattle.emit.specs.Parts.{Rest}
use Rattle.emit_steps.proofs.of_struct.Given as goal

abbrev pub invariant-loop-x : goal.invariant-loop-x
invariant-loop-x l =
    Rest steps_words (steps_at l.ar l.s l.n l.initial.z.next) l.initial.list l.initial.z.at (steps_at l.ar l.s (l.n - l.x) l.z.next) l.z l.list
