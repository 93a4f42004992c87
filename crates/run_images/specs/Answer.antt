-- What a run answers, as the code has it (01, 'Numbers from the state').
use Rattle.std.specs.Prelude.{Result, Ok, Err}
use Rattle.types.specs.Refusals.{number}
use Rattle.types.specs.declared.refusal.Refusal.{Refusal}
use Rattle.run.specs.Entry.{Report as Reported, report}
use Rattle.run_images.specs.declared.Report.{Report}

abbrev pub answer : Reported → Report
answer r = record { number = r.number; turns = r.turns; blocks = r.blocks; depth = r.depth; holding = r.holding }

-- that was played, or refused
abbrev pub settled : Result Report Refusal → Report
settled (Ok r) = r
settled (Err n) = answer (report (number n) 0 0 0 0)
