-- No refusal has the number 0.
use Rattle.std.specs.Prelude.{ℕ, ◌≡◌}
use Rattle.std.proofs.Common.{arith}
use Rattle.types.specs.Refusals.{number}
use Rattle.types.specs.declared.refusal.Refusal.{Refusal}
use Rattle.types.specs.declared.refusal.Refusal.TheVariants.{ProgramLength, BlockSums, BlockLayout, WrongEnd, WrongByte, OverLimits, WrongNames}
use Rattle.types.specs.declared.refusal.Refusal.TheVariants.{WrongTypes, TableLength, TableBlock, TableEnd, TableValue, NoRoom, ManyTurns, NoToken}
use Rattle.types.specs.declared.refusal.Refusal.TheVariants.{NoDerivation, NoProgram, PausedStream, PausedState, IteratorConstructs, Absent, NoRight}
use Rattle.types.specs.declared.refusal.Refusal.TheVariants.{WrongColumns, ManyCommands, OutOfTurns, Full, Exceeded}

pub number_above : (r : Refusal) → number r ≡ 0 → ⊥
number_above ProgramLength e = omega arith
number_above BlockSums e = omega arith
number_above BlockLayout e = omega arith
number_above WrongEnd e = omega arith
number_above WrongByte e = omega arith
number_above OverLimits e = omega arith
number_above WrongNames e = omega arith
number_above WrongTypes e = omega arith
number_above TableLength e = omega arith
number_above TableBlock e = omega arith
number_above TableEnd e = omega arith
number_above TableValue e = omega arith
number_above NoRoom e = omega arith
number_above ManyTurns e = omega arith
number_above NoToken e = omega arith
number_above NoDerivation e = omega arith
number_above NoProgram e = omega arith
number_above PausedStream e = omega arith
number_above PausedState e = omega arith
number_above IteratorConstructs e = omega arith
number_above Absent e = omega arith
number_above NoRight e = omega arith
number_above WrongColumns e = omega arith
number_above ManyCommands e = omega arith
number_above OutOfTurns e = omega arith
number_above Full e = omega arith
number_above Exceeded e = omega arith
