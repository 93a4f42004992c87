-- A derivation in progress: where what is read next stands, with the trees that were read before it, the last one first.
use Rattle.std.specs.Prelude.{List, [], ◌∷◌}
use Rattle.program.specs.Tree.{Op}
use Rattle.syntax.specs.Syntax.{Id, TypeName, Var, Var.dot}
use Rattle.syntax.specs.Syntax.{Exp, Exps, Exps.exps, Stat, Stats, Stats.stats}
use Rattle.syntax.specs.Syntax.{Par, Step, Struct, Defs, Defs.defs, Item, Sched, Sched.barrier}

-- where statements stand: in a step (of the structs before, the struct's name, parameters and steps before), or in an if (behind some statements)
pub data Body : Type 0 where
  in_step : List Struct → Id → List Par → List Step → Id → Body
  in_then : Exp → List Stat → Body → Body

-- where an expression stands
pub data Place : Type 0 where
  in_brackets in_negation : Place → Place
  -- behind an operand and its operator, which waits for this one
  in_right : Op → Exp → Place → Place
  -- behind some arguments
  in_constructor : Id → List Exp → Place → Place
  in_construct : Id → List Exp → List Stat → Body → Place
  in_if : List Stat → Body → Place
  in_assignment : TypeName → Id → List Stat → Body → Place
  in_update : Var → List Stat → Body → Place

-- where items stand: in the schedule, or in a Fix behind some items
pub data Row : Type 0 where
  in_program : Defs → Row
  in_fix : List Item → Row → Row

pub data State : Type 0 where
  -- structs: before one, and before each of its tokens
  at_defs at_struct : List Struct → State
  at_struct_open at_pars : List Struct → Id → State
  at_par : List Struct → Id → List Par → State
  at_colon at_par_type : List Struct → Id → List Par → Id → State
  behind_par : List Struct → Id → List Par → Par → State
  at_steps_open : List Struct → Id → List Par → State
  at_steps : List Struct → Id → List Par → List Step → State
  at_step_open : List Struct → Id → List Par → List Step → Id → State
  -- statements: before one, behind its first name, in a variable, in an assignment, in a construct statement, in an if
  at_stats : List Stat → Body → State
  behind_name : List Stat → Body → Id → State
  at_dot_name : List Stat → Body → List Id → State
  behind_dot_name : List Stat → Body → List Id → Id → State
  at_local : List Stat → Body → TypeName → State
  at_assign : List Stat → Body → TypeName → Id → State
  at_construct : List Stat → Body → Id → State
  at_semicolon : List Stat → Body → Id → Exps → State
  at_then_open : List Stat → Body → Exp → State
  -- expressions: before one, behind it, behind its first name, in a variable, before the arguments, before null's type
  want : Place → State
  after : Place → Exp → State
  behind_id : Place → Id → State
  at_dot_id : Place → List Id → State
  behind_dot_id : Place → List Id → Id → State
  at_args : Place → Id → State
  at_null_type : Place → State
  -- items
  at_item : List Item → Row → State
  behind_execution at_step_name : List Item → Row → Id → State
  at_fix_open : List Item → Row → State
  behind_item : List Item → Row → Item → State
  -- no derivation goes on
  dead : State

-- Rows, the last one first, in front of what follows them ---------------------------------

unfoldable pub var_onto : List Id → Var → Var
var_onto [] v = v
var_onto (x ∷ xs) v = var_onto xs (dot x v)

unfoldable pub exps_onto : List Exp → Exps → Exps
exps_onto [] es = es
exps_onto (e ∷ l) es = exps_onto l (exps e es)

unfoldable pub stats_onto : List Stat → Stats → Stats
stats_onto [] b = b
stats_onto (t ∷ l) b = stats_onto l (stats t b)

unfoldable pub defs_onto : List Struct → Defs → Defs
defs_onto [] d = d
defs_onto (s ∷ l) d = defs_onto l (defs s d)

unfoldable pub sched_onto : List Item → Sched → Sched
sched_onto [] s = s
sched_onto (i ∷ l) s = sched_onto l (barrier i s)
