-- Whether a step of a program is free of order on a table (02 §11), as zero turn bytes show it: the step is started for every struct that has it, and
-- followed. The program's own schedule plays no part, so it is taken with that call alone.
use Rattle.std.specs.Prelude.{ℕ, Bool, true, false, ◌||◌, List, [], ◌∷◌, map}
use Rattle.program.specs.Tree.{Item.call, Items, Items.stop, Items.item, Program}
use Rattle.commands.specs.Noted.{Note, Note.n_push, Note.n_this, Note.n_not, Note.n_rd, Note.n_wr, Note.n_get, Note.n_set, Note.n_cons, Note.n_op, Note.n_if}
use Rattle.commands.specs.Decide.NamesDecide.{stepped}
use Rattle.table.specs.Table.{Record}
use Rattle.machine.specs.Published.{StepCall.global, Sched.done, State, State.state}
use Rattle.machine.specs.Rules.{started as starting}
use Rattle.machine.specs.Machine.{Instance, Machine, machine, started}
use Rattle.machine.specs.Measure.{codes}
use Rattle.run.specs.Begin.{first_instances}
use Rattle.run.specs.Initial.{first_insts}
use Rattle.orders.specs.Marks.{clean}
use Rattle.orders.specs.ZeroTurns.{Answer, follow}

-- a program with another schedule; with the call of step n alone
abbrev pub scheduled : Program → Items → Program
scheduled p is = record { params = p.params; steps = p.steps; schedule = is }

abbrev pub alone : Program → ℕ → Program
alone p n = scheduled p (item (call n) stop)

-- the step n started on a table: no schedule is left, there are no entries, and turns are counted from label 0
unfoldable pub step_state : Program → List Record → ℕ → State
step_state p rs n = state done (map (starting p (global n)) (first_insts p rs)) []

unfoldable pub step_machine : Program → List Record → ℕ → Machine
step_machine p rs n = machine done (map (started p (global n)) (first_instances p rs)) [] 0

-- whether a cons is among commands; among those that instances hold
abbrev pub is_cons : Note → Bool
is_cons (n_push t v) = false
is_cons n_this = false
is_cons n_not = false
is_cons (n_rd k v) = false
is_cons (n_wr k v) = false
is_cons (n_get t x) = false
is_cons (n_set d t x) = false
is_cons (n_cons k) = true
is_cons (n_op o) = false
is_cons (n_if n) = false

unfoldable pub conses : List Note → Bool
conses [] = false
conses (n ∷ c) = is_cons n || conses c

unfoldable pub constructing : List Instance → Bool
constructing [] = false
constructing (i ∷ is) = conses i.code || constructing is

-- no struct has the step; it constructs, so that 02 says nothing of it; what following it comes to
pub data StepAnswer : Type 0 where
  no_step : StepAnswer
  constructs : StepAnswer
  followed : Answer → StepAnswer

-- a started step, followed for as many turns as there are commands at most
unfoldable pub begun_answer : Program → Machine → Bool → StepAnswer
begun_answer p m true = constructs
begun_answer p m false = followed (follow p (codes m.instances) 0 clean m)

unfoldable pub had_answer : StepAnswer → Bool → StepAnswer
had_answer a true = a
had_answer a false = no_step

unfoldable pub step_answer : Program → List Record → ℕ → StepAnswer
step_answer p rs n =
    let q = alone p n in
    let m = step_machine q rs n in
    had_answer (begun_answer q m (constructing m.instances)) (stepped n p.steps)
