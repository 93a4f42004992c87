-- What the reader of a whole program answers for what is read (01, 'Program stream', and 4 to 8 of 'Numbers from the input').
use Rattle.std.specs.Prelude.{Ok, Err, ℕ, ◌≡◌, Bool, true, false, List, [], ◌∷◌, length, ltb}
use Rattle.types.specs.Limits.{fix_levels}
use Rattle.program.specs.Tree.{Items, Step, Program}
use Rattle.program.specs.Reader.{Result, Result.ok, Result.bad, wrong_end, pair, many, read_params, read_steps, read_items, read_item}
use Rattle.answers.specs.Answers.{Answer}
use Rattle.commands.specs.Bounds.{arities}
use Rattle.directory.specs.Rows.{rows_from, Listed}
use Rattle.judge.specs.ProgramFacts.{Totals as Sum, Planned as Plan, no_totals, step_totals, items_plan, totals_number, program_totals, program_plan}
use Rattle.read_program.specs.declared.Summary.{Summary}

-- what comes of a program with S structs, whose schedule begins at a place
abbrev pub summary : ℕ → ℕ → Sum → Plan → Summary
summary S at T P = record { number = totals_number T P; plan = at; structs = S; steps = T.steps; commands = T.commands; depth = T.depth }

-- a stream that goes on after its end
abbrev pub at_end : Bool → Answer Summary → Answer Summary
at_end true r = Err wrong_end
at_end false r = r

-- the schedule, which begins at a place, and the stream's end behind it
abbrev pub end_told : ℕ → ℕ → ℕ → Sum → List ℕ → Result Items → Answer Summary
end_told behind at S T s (ok is m) = at_end (ltb m (length s)) (Ok (behind, summary S at T (items_plan T.rows S is)))
end_told behind at S T s (bad p n) = Err n

-- the place behind what was read
abbrev pub place_of : {A : Type 0} → Result A → ℕ
place_of (ok a m) = m
place_of (bad p n) = 0

-- the steps of all structs, and the schedule
abbrev pub steps_from : List ℕ → List ℕ → ℕ → Result (List (List Step))
steps_from ar s at = many [] ◌∷◌ (read_steps ar s) (length ar) at

abbrev pub read_rest : List ℕ → List ℕ → ℕ → Result (List (List Step) × Items)
read_rest ar s at = pair (steps_from ar s at) λ ss m. read_items ar s (read_item ar s fix_levels) m

abbrev pub rest_told : ℕ → List ℕ → List ℕ → List ℕ → Result (List (List Step) × Items) → Answer Summary
rest_told at ar types s (ok p m) = end_told at (place_of (steps_from ar s at)) (length ar) (step_totals ar types 0 p.0 no_totals) s (ok p.1 m)
rest_told at ar types s (bad p n) = Err n

-- where the steps of a program begin in its stream, and where its schedule does
abbrev pub steps_place : List ℕ → ℕ
steps_place s = place_of (read_params s 0)

abbrev pub schedule_place : List ℕ → Program → ℕ
schedule_place s p = place_of (steps_from (arities p) s (steps_place s))

-- a program
abbrev pub program_told : List ℕ → Result Program → Answer Summary
program_told s (ok p m) = Ok (steps_place s, summary (length p.params) (schedule_place s p) (program_totals p) (program_plan p))
program_told s (bad p n) = Err n

-- Rows of the step directory, after the steps were read, and after all was ------------------------

abbrev pub RestListed : List ℕ → List ℕ → Result (List (List Step) × Items) → List ℕ → Type 0
RestListed ar types (ok p m) h =
    rows_from h 0 (step_totals ar types 0 p.0 no_totals).steps ≡ (step_totals ar types 0 p.0 no_totals).rows
RestListed ar types (bad p n) h = Unit {0}

abbrev pub ReadListed : Result Program → List ℕ → Type 0
ReadListed (ok p m) h = Listed h p
ReadListed (bad p n) h = Unit {0}
