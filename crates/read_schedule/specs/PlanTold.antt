-- What the readers of the schedule answer for what is read (01, 4 and 5 of 'Numbers from the input'): a value goes with what is planned
-- of it, a refusal with its number. And where the next place lies, with how many items were read on the way.
use Rattle.std.specs.Prelude.{Result as Answered, Ok, Err, ℕ, suc, ◌+◌, ◌<◌, ◌≤◌, ◌^◌, List, length}
use Rattle.types.specs.Limits.{step_names}
use Rattle.program.specs.Tree.{Item, Item.call_in}
use Rattle.program.specs.Reader.{Result, pair, made, ranged}
use Rattle.answers.specs.Answers.{Answer, answer}
use Rattle.judge.specs.ProgramFacts.{Planned as Plan, plan}
use Rattle.read_schedule.specs.declared.Planned.{Planned}

-- what is planned, as the code has it
abbrev pub planned : Plan → Planned
planned p = record { count = p.count; fault = p.fault }

abbrev pub plan_of : Planned → Plan
plan_of p = plan p.count p.fault

abbrev pub plan_read : Answer Plan → Answer Planned
plan_read (Ok (m, p)) = Ok (m, planned p)
plan_read (Err n) = Err n

abbrev pub told : {A : Type 0} → (A → Plan) → Result A → Answer Planned
told f r = plan_read (answer f r)

-- what is made of a value, and a refusal as it is
abbrev pub after : (Plan → Plan) → Answer Planned → Answer Planned
after h (Ok (n, p)) = Ok (n, planned (h (plan_of p)))
after h (Err k) = Err k

-- a Fix is one item more than those inside
unfoldable pub fixed : Plan → Plan
fixed p = plan (suc p.count) p.fault

-- what stands behind the byte of a step of one of S structs
unfoldable pub read_call_in : List ℕ → ℕ → ℕ → Result Item
read_call_in s S at = made (λ p. call_in p.0 p.1) (pair (ranged s 0 S at) λ c. ranged s 0 step_names)

-- the next place lies from lo on, and there are at most as many items as bytes were read from `from` on
abbrev pub Span : {E : Type 0} → List ℕ → ℕ → ℕ → Answered (ℕ × Planned) E → Type 0
Span s lo from (Ok (n, p)) = (lo ≤ n) × (n ≤ length s) × (p.count + from ≤ n)
Span s lo from (Err k) = Unit {0}

-- of an item, of what stands behind its byte, of a counted row
abbrev pub Ahead : {E : Type 0} → List ℕ → ℕ → Answered (ℕ × Planned) E → Type 0
Ahead s at r = Span s (at + 1) at r

-- one item more is still a number of 64 bits
abbrev pub Room : {E : Type 0} → Answered (ℕ × Planned) E → Type 0
Room (Ok (n, p)) = p.count + 1 < 2 ^ 64
Room (Err k) = Unit {0}
