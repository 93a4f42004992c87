-- What the readers of steps answer for what is read (01, 4 to 8 of 'Numbers from the input'): a value goes with the totals over it,
-- a refusal with its number. The code has the totals apart from the rows of the step directory, which it is lent.
use Rattle.std.specs.Prelude.{Result as Answered, Ok, Err, ℕ, suc, ◌+◌, ◌*◌, ◌<◌, ◌≤◌, max, ◌≡◌, Bool, true, false, ◌||◌, List, length, ltb}
use Rattle.types.specs.Limits.{step_commands, max_depth}
use Rattle.program.specs.Tree.{Step}
use Rattle.program.specs.Reader.{Result}
use Rattle.answers.specs.Answers.{Answer, answer}
use Rattle.directory.specs.Rows.{row_places, rows_from}
use Rattle.judge.specs.declared.Done.{Done}
use Rattle.judge.specs.Facts.{worst, named, no_locals, body_facts}
use Rattle.judge.specs.ProgramFacts.{Totals as Sum, added}
use Rattle.read_program.specs.declared.totals.Totals.{Totals}

-- totals with the rows in lent memory, one for each step so far, and without them
abbrev pub with : Totals → List ℕ → Sum
with t h = record { steps = t.steps; commands = t.commands; depth = t.depth; over = t.over; fault = t.fault; rows = rows_from h 0 t.steps }

abbrev pub less : Sum → Totals
less T = record { steps = T.steps; commands = T.commands; depth = T.depth; over = T.over; fault = T.fault }

-- 1 once a step has too many commands or goes too deep
unfoldable pub over_by : ℕ → Done → ℕ
over_by n d = elim (ltb step_commands d.size || ltb max_depth d.height) [ true ↦ 1 | false ↦ n ]

-- one step more, and whether its name is new
unfoldable pub plus : Totals → Done → Bool → Totals
plus t d new = record {
  steps = suc t.steps;
  commands = t.commands + d.size;
  depth = max t.depth d.height;
  over = over_by t.over d;
  fault = worst t.fault (worst d.fault (named new));
}

-- a step of struct k more
abbrev pub step_total : List ℕ → List ℕ → ℕ → Sum → Step → Sum
step_total ar types k T t = added k t.name (body_facts ar types k t.body no_locals) T

abbrev pub totals_read : Answer Sum → Answer Totals
totals_read (Ok (m, T)) = Ok (m, less T)
totals_read (Err n) = Err n

abbrev pub told : {A : Type 0} → (A → Sum) → Result A → Answer Totals
told f r = totals_read (answer f r)

-- the rows after it
abbrev pub Kept : Answer Sum → List ℕ → Type 0
Kept (Ok (m, T)) h = rows_from h 0 T.steps ≡ T.rows
Kept (Err n) h = Unit {0}

-- what a reader answers, and the rows after it
abbrev pub Told : {A : Type 0} → (A → Sum) → Result A → Answer Totals → List ℕ → Type 0
Told f q r h = (r ≡ told f q) × Kept (answer f q) h

-- no more was counted than bytes were read
abbrev pub Low : Totals → ℕ → Type 0
Low t at = (t.steps ≤ at) × (t.commands ≤ at)

-- nor more steps than there may be
abbrev pub Bounded : {E : Type 0} → List ℕ → ℕ → Answered (ℕ × Totals) E → Type 0
Bounded s n (Ok (m, t)) = (Low t m) × (m ≤ length s) × (t.steps ≤ n)
Bounded s n (Err k) = Unit {0}

-- there is room for the rows of n steps more, and they are few
abbrev pub Free : List ℕ → Totals → ℕ → Type 0
Free h t n = (row_places * (t.steps + n) ≤ length h) × (t.steps + n < 256)
