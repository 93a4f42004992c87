use Rattle.std.proofs.Common.{◌-◌, length}
use Rattle.commands.specs.ProgramWords.{structs_words}
use Rattle.emit.specs.Written.{structs_at}
use Rattle.emit.specs.Parts.{Rest}
use Rattle.emit_steps.proofs.program.Given as goal

abbrev pub invariant-loop-k : goal.invariant-loop-k
invariant-loop-k l =
    Rest structs_words (structs_at l.ar l.s (length l.ar) l.at) l.initial.list 0 (structs_at l.ar l.s (l.n - l.k) l.z.next) l.z l.list
