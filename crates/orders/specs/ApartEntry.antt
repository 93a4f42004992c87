-- The entry that says whether a step is free of order on a table (02 §11): from a program image, a table image and a step name to a number and to what
-- following the order of zero turn bytes comes to. It is one row of stages: 1 to 8, 9 to 12, 7 of the step. It is lent nothing and writes nothing.
use Rattle.std.specs.Prelude.{ℕ, not, List}
use Rattle.types.specs.Numbers.{wrong_names}
use Rattle.types.specs.Stages.{Stage.went, Stage.stopped, on, asked}
use Rattle.program.specs.Tree.{Program}
use Rattle.commands.specs.Decide.NamesDecide.{stepped}
use Rattle.table.specs.Table.{Record}
use Rattle.run.specs.Entry.{Begun, images, no_number}
use Rattle.orders.specs.ZeroTurns.{Answer, Answer.apart, Answer.together, Answer.stops, Answer.unfinished}
use Rattle.orders.specs.StepAnswer.{StepAnswer, StepAnswer.no_step, StepAnswer.constructs, StepAnswer.followed, step_answer}

-- The stages ---------------------------------------------------------------------------

-- 7 of step n, after a program and its table
unfoldable pub with_step : ℕ → Program × List Record → Begun
with_step n q = asked (not (stepped n q.0.steps)) wrong_names (went q)

-- program image, table image, step name
unfoldable pub apart_begins : List ℕ → List ℕ → ℕ → Begun
apart_begins x y n = on (images x y) (with_step n)

-- What is answered -----------------------------------------------------------------------

-- the answers beside number 0
abbrev pub free_code : ℕ
free_code = 1

abbrev pub meets_code : ℕ
meets_code = 2

abbrev pub constructs_code : ℕ
constructs_code = 3

-- a number, 0 where there is an answer; the answer; the turns that were taken; and where two meet: whose next command would touch, who touched before, and
-- the label and the parameter that both touch
pub record Said : Type 0 where
  pub number : ℕ
  pub answer : ℕ
  pub turns : ℕ
  pub actor : ℕ
  pub other : ℕ
  pub label : ℕ
  pub parameter : ℕ

abbrev pub said : ℕ → ℕ → ℕ → ℕ → ℕ → ℕ → ℕ → Said
said n k t l a q v = record { number = n; answer = k; turns = t; actor = l; other = a; label = q; parameter = v }

-- a number after so many turns
abbrev pub numbered : ℕ → ℕ → Said
numbered n t = said n 0 t 0 0 0 0

-- what following comes to: 34 or 35 is answered as after a run
unfoldable pub said_of : Answer → Said
said_of (apart t) = said 0 free_code t 0 0 0 0
said_of (together t l a q v) = said 0 meets_code t l a q v
said_of (stops n t) = numbered n t
-- no step of an accepted program comes to it (`step_followed`): a number that 01 does not use
said_of unfinished = numbered no_number 0

-- a step on a table
unfoldable pub said_step : StepAnswer → Said
said_step no_step = numbered wrong_names 0
said_step constructs = said 0 constructs_code 0 0 0 0 0
said_step (followed a) = said_of a

unfoldable pub apart_by : ℕ → Begun → Said
apart_by n (stopped k) = numbered k 0
apart_by n (went (p, rs)) = said_step (step_answer p rs n)

unfoldable pub apart_said : List ℕ → List ℕ → ℕ → Said
apart_said x y n = apart_by n (apart_begins x y n)
