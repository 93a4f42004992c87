-- The entry that counts (02 §14): from a program image, a table image, a step name, a label, a parameter and a lent list to a number and three counts,
-- and to the list's places. It is one row of stages: 1 to 8, 9 to 12, 13, 7, 21, 8, 24. Nothing is written but the list.
use Rattle.std.specs.Prelude.{ℕ, Bool, true, false, not, List, length, ltb}
use Rattle.std.proofs.Math.Option.{Option, none, some}
use Rattle.std.proofs.Math.ListN.{get_elem?}
use Rattle.types.specs.Limits.{max_commands}
use Rattle.types.specs.Numbers.{no_room, wrong_names, absent, wrong_types, many_commands}
use Rattle.types.specs.Types.{Ty, Ty.int, Ty.nat, Ty.bool, Ty.ref}
use Rattle.types.specs.Stages.{Stage.went, Stage.stopped, on, asked, given}
use Rattle.program.specs.Tree.{Program}
use Rattle.commands.specs.Context.{params_of}
use Rattle.commands.specs.Decide.NamesDecide.{stepped}
use Rattle.table.specs.Table.{Record, struct_at}
use Rattle.machine.specs.Published.{StepCall.global}
use Rattle.machine.specs.Machine.{Machine}
use Rattle.machine.specs.Measure.{total, share}
use Rattle.run.specs.Begin.{first_instances}
use Rattle.run.specs.Entry.{Begun, images, run_list_by}
use Rattle.orders.specs.StepAnswer.{alone, step_machine}
use Rattle.counts.specs.Tally.{Kind.ends, Kind.stops, tally}

-- "the step's commands over all its instances, null ones included, exceed 12"
abbrev pub most_counted : ℕ
most_counted = 12

-- What is asked about ------------------------------------------------------------------

-- the type of parameter v, where there is such a struct and such a parameter
unfoldable pub type_in : Program → ℕ → Option ℕ → Option Ty
type_in p v none = none
type_in p v (some k) = get_elem? (params_of p k) v

-- of parameter v of label l
abbrev pub type_at : Program → List Record → ℕ → ℕ → Option Ty
type_at p rs l v = type_in p v (struct_at p.params rs l)

unfoldable pub is_bool : Ty → Bool
is_bool int = false
is_bool nat = false
is_bool bool = true
is_bool (ref k) = false

-- the commands of step n, each struct's over its instances
unfoldable pub started_commands : Program → List Record → ℕ → ℕ
started_commands p rs n = total (share p (global n)) (first_instances p rs)

-- The stages ---------------------------------------------------------------------------

-- 7, 21, 8 and 24 of step n, label l and parameter v, after a program and its table
unfoldable pub of_question : ℕ → ℕ → ℕ → Program × List Record → Begun
of_question n l v q =
    asked (not (stepped n q.0.steps)) wrong_names
    (on (given (type_at q.0 q.1 l v) absent) λ t. asked (not (is_bool t)) wrong_types
    (asked (ltb most_counted (started_commands q.0 q.1 n)) many_commands (went q)))

-- and 13 of the list before them
unfoldable pub with_question : ℕ → ℕ → ℕ → List ℕ → Program × List Record → Begun
with_question n l v list q = asked (ltb (length list) max_commands) no_room (of_question n l v q)

-- program image, table image, step name, label, parameter, list
unfoldable pub count_begins : List ℕ → List ℕ → ℕ → ℕ → ℕ → List ℕ → Begun
count_begins x y n l v list = on (images x y) (with_question n l v list)

-- What is answered -----------------------------------------------------------------------

pub record Counted : Type 0 where
  pub number : ℕ
  pub true_orders : ℕ
  pub false_orders : ℕ
  pub stopped_orders : ℕ

abbrev pub counted : ℕ → ℕ → ℕ → ℕ → Counted
counted k a b c = record { number = k; true_orders = a; false_orders = b; stopped_orders = c }

-- the step n started on a table; the program's own schedule plays no part, so it is taken with that call alone
abbrev pub count_machine : Program → List Record → ℕ → Machine
count_machine p rs n = step_machine (alone p n) rs n

unfoldable pub count_by : ℕ → ℕ → ℕ → Begun → Counted
count_by n l v (stopped k) = counted k 0 0 0
count_by n l v (went (p, rs)) =
    let m = count_machine p rs n in
    counted 0 (tally (alone p n) l v (ends true) m) (tally (alone p n) l v (ends false) m) (tally (alone p n) l v stops m)

-- number and counts, and the list's places after the call: as after a run, the commands of all steps, or untouched where the input is refused
unfoldable pub count : List ℕ → List ℕ → ℕ → ℕ → ℕ → List ℕ → Counted
count x y n l v list = count_by n l v (count_begins x y n l v list)

unfoldable pub count_list : List ℕ → List ℕ → ℕ → ℕ → ℕ → List ℕ → List ℕ
count_list x y n l v list = run_list_by (count_begins x y n l v list) list
