-- What the names of a derivation's steps and schedule stand for: what the pass over its roles leaves, and what it leaves by the derivation's meaning.
use Rattle.std.specs.Prelude.{ℕ, Bool, List, [], ◌++◌}
use Rattle.std.proofs.Math.Option.{Option, some}
use Rattle.program.specs.Tree.{Items, Step}
use Rattle.program.specs.Encoding.{flat}
use Rattle.syntax.specs.Syntax.{Id, TypeName.int_type, Struct, Sched, Program as Derivation, Program.program}
use Rattle.meaning.specs.Scope.{structs_of}
use Rattle.meaning.specs.StepNames.{step_names}
use Rattle.meaning.specs.HoldsDecide.{all}
use Rattle.meaning.specs.Meant.{then, each, steps_meaning, sched_meaning}
use Rattle.text_shape.specs.Roles.{roles}
use Rattle.resolve.specs.Passing.{Pass, passes}
use Rattle.resolve.specs.Numbers.{steps_numbers, items_numbers, few_steps}

-- before the first struct
abbrev pub pass_start : List Struct → Pass
pass_start ds = record { left = ds; own = []; alive = []; fresh = []; met = []; type = int_type; dues = []; bodies = []; out = [] }

-- the numbers that the pass leaves, the last one first
unfoldable pub used : Derivation → Option (List ℕ)
unfolding then passes
used (program d s) =
    then (passes (structs_of d) (step_names (structs_of d)) (roles (program d s)) (pass_start (structs_of d))) (λ q. some q.out)

-- what steps and schedule mean
pub record Uses : Type 0 where
  pub steps : List (List Step)
  pub schedule : Items

unfoldable pub uses_meaning : List Struct → List Id → List Struct → Sched → Option Uses
unfolding then each steps_meaning sched_meaning
uses_meaning ds names l s =
    then (each (steps_meaning ds names) l) (λ ts. then (sched_meaning ds names s) (λ is. some (record { steps = ts; schedule = is })))

unfoldable pub uses_numbers : Uses → List ℕ
unfolding flat
uses_numbers u = flat steps_numbers u.steps ++ items_numbers u.schedule

abbrev pub few_uses : Uses → Bool
few_uses u = all few_steps u.steps
