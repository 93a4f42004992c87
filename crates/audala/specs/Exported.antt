-- A verdict, a part of the list, a run's report and a page of its trace as the library hands them over.
use Rattle.std.specs.Prelude.{ℕ, List, length}
use Rattle.verdict.specs.Verdict.{Verdict}
use Rattle.run.specs.Entry.{Report as Reported}
use Rattle.step_part.specs.declared.Spot.{Spot}
use Rattle.trace.specs.TracePage.{page}
use Rattle.audala.specs.declared.Answer.{Answer}
use Rattle.audala.specs.declared.Part.{Part}
use Rattle.audala.specs.declared.Report.{Report}
use Rattle.audala.specs.declared.traces.Traced.{Traced}

abbrev pub exported : Verdict → Answer
exported v = record { number = v.number; structs = v.structs; steps = v.steps; commands = v.commands; depth = v.depth }

abbrev pub exported_part : Spot → Part
exported_part z = record { number = z.number; start = z.start; length = z.len }

abbrev pub exported_report : Reported → Report
exported_report r = record { number = r.number; turns = r.turns; blocks = r.blocks; depth = r.depth; holding = r.holding }

-- by number and turns, the text, the place where the page begins, and how many bytes the output has
abbrev pub exported_page : ℕ → ℕ → List ℕ → ℕ → ℕ → Traced
exported_page number turns text i room = record { number = number; turns = turns; length = length text; count = length (page i room text) }
