-- A schedule off its bytes, and where the steps of two structs stand: step 5; Fix (step 0 of struct 1; Fix (step 4)); step 7. Struct 0 has
-- the steps 2 and 0, of 7 commands and of none; struct 1 has no step.
use Rattle.std.specs.Prelude.{ℕ, ◌≡◌, refl, List, [], ◌∷◌, ◌++◌, take, drop, replicate}
use Rattle.directory.specs.Directory.{row}
use Rattle.emit.specs.Written.{code_of}
use Rattle.machine.specs.Published.{of_item, of_items}
use Rattle.memory.specs.Plan.{laid, laid_out}
use Rattle.compile.specs.Codes.{schedule_codes, any_structs, schedule_at}
use Rattle.compile.specs.Spans.{paired, cleared, noted, spans_of}
use Rattle.program.specs.Unfold.{schedules}

abbrev schedule : List ℕ
schedule = 3 ∷ 1 ∷ 5 ∷ 3 ∷ 2 ∷ 2 ∷ 1 ∷ 0 ∷ 3 ∷ 1 ∷ 1 ∷ 4 ∷ 1 ∷ 7 ∷ []

row_codes : code_of schedule_codes (schedule_at schedule 0) ≡ 5 ∷ 1024 ∷ 64 ∷ 1024 ∷ 4 ∷ 2052 ∷ 2050 ∷ 7 ∷ 1025 ∷ []
unfolding code_of schedule_codes any_structs schedules of_item of_items laid laid_out
row_codes = refl

abbrev spans : List ℕ
spans = spans_of (row 0 2 0 7 ∷ row 0 0 7 0 ∷ []) 2 (replicate 130 9)

-- two rows of struct 0, behind each other: step 2 with 7 commands, step 0 with none
row_spans : (take 6 spans ++ take 2 (drop 64 spans)) ++ drop 128 spans ≡ 7 ∷ 7 ∷ 1 ∷ 0 ∷ 0 ∷ 7 ∷ 1 ∷ 0 ∷ 9 ∷ 9 ∷ []
unfolding spans_of noted cleared paired
row_spans = refl
