-- What a run prepares of a program (01, 'Table and turns'): the schedule laid flat, so that what is left of it is a place, and where
-- the commands of each step stand in the list.
use Rattle.std.specs.Prelude.{ℕ, suc, ◌+◌, ◌-◌, ◌*◌, ◌<◌, ◌≤◌, ◌≡◌, List, [], ◌∷◌, ◌++◌, length, get_or, take, drop}
use Rattle.std.proofs.Math.Option.{Option, none, some}
use Rattle.types.specs.Limits.{max_structs, step_names}
use Rattle.program.specs.Tree.{Stmts, Program}
use Rattle.commands.specs.Commands.{commands}
use Rattle.commands.specs.Coding.{words}
use Rattle.commands.specs.Context.{step_of}
use Rattle.layout.specs.Codes.{fix_code, end_code, round_code}
use Rattle.machine.specs.Published.{StepCall, StepCall.global, StepCall.local, Sched, Sched.done, Sched.start, Sched.fixpoint, Sched.active, structs}

-- The schedule -----------------------------------------------------------------

-- a step call: the codes below fix-code (`layout/specs/Codes.antt`)
abbrev pub start_code : StepCall → ℕ
start_code (global n) = n
start_code (local k n) = step_names * suc k + n

-- the codes of a schedule in which no Fix has begun, from the place at on
unfoldable pub laid : Sched → ℕ → List ℕ
laid done at = []
laid (start c s) at = start_code c ∷ laid s (suc at)
laid (fixpoint f s) at =
    fix_code ∷ laid f (suc at) ++ round_code (suc at) ∷ laid s (suc (suc at) + length (laid f (suc at)))
laid (active f s) at = []

-- the whole schedule of a program
unfoldable pub laid_out : Sched → List ℕ
laid_out s = laid s 0 ++ end_code ∷ []

-- its name and struct are in range, so that no code of a start is that of another item
abbrev pub RangedCall : StepCall → Type 0
RangedCall (global n) = n < step_names
RangedCall (local k n) = (k < max_structs) × (n < step_names)

-- no Fix has begun, and step calls are in range
unfoldable pub Ranged : Sched → Type 0
Ranged done = Unit {0}
Ranged (start c s) = (RangedCall c) × (Ranged s)
Ranged (fixpoint f s) = (Ranged f) × (Ranged s)
Ranged (active f s) = ⊥

-- the codes of f stand from t on, and end before j
pub record Body (items : List ℕ) (t : ℕ) (f : Sched) (j : ℕ) : Type 0 where
  pub ranged : Ranged f
  pub ends : j ≡ t + length (laid f t)
  pub stands : take (length (laid f t)) (drop t items) ≡ laid f t

-- the place that stands for what is left of a schedule
pub data At (items : List ℕ) : ℕ → Sched → Type 0 where
  at_end : {a : ℕ} → get_or items a 0 ≡ end_code → At items a done
  at_start : {a : ℕ} {c : StepCall} {s : Sched} → RangedCall c → get_or items a 0 ≡ start_code c → At items (suc a) s → At items a (start c s)
  at_fix : {a j : ℕ} {f s : Sched} → get_or items a 0 ≡ fix_code → Body items (suc a) f j → get_or items j 0 ≡ round_code (suc a) → At items (suc j) s
      → At items a (fixpoint f s)
  at_round : {j t : ℕ} {f s : Sched} → Body items t f j → get_or items j 0 ≡ round_code t → At items (suc j) s → At items j (active f s)

-- Steps ------------------------------------------------------------------------

-- two numbers for each struct and name: the place of the first command, and the place behind the last one; where the struct has no
-- such step, the first is the greater
abbrev pub span_of : ℕ → ℕ → ℕ
span_of k n = 2 * (step_names * k + n)

abbrev pub from : List ℕ → ℕ → ℕ → ℕ
from spans k n = get_or spans (span_of k n) 0

abbrev pub to : List ℕ → ℕ → ℕ → ℕ
to spans k n = get_or spans (suc (span_of k n)) 0

-- what the two numbers say
abbrev pub Spans : List ℕ → ℕ → ℕ → Option Stmts → Type 0
Spans list a e none = e < a
Spans list a e (some b) = (a ≤ e) × (e ≤ length list) × (take (e - a) (drop a list) ≡ words (commands b))

abbrev pub Located : Program → List ℕ → List ℕ → Type 0
Located p list spans = (k n : ℕ) → k < structs p → n < step_names → Spans list (from spans k n) (to spans k n) (step_of p k n)
