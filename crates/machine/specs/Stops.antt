-- The numbers from the state (01, 'Numbers from the state'), and the conditions of 34 and 35 on published states. The conditions of 0
-- and 33 speak of holders and turn bytes, and stand in the run.
use Rattle.std.specs.Prelude.{ℕ, ◌≤◌, ◌≡◌, Bool, List, ◌∷◌, length}
use Rattle.std.proofs.Math.Option.{some}
use Rattle.std.proofs.Math.ListN.{get_elem?}
use Rattle.types.specs.Limits.{max_instances}
pub use Rattle.types.specs.Numbers.{out_of_turns, full, exceeded}
use Rattle.types.specs.Values.{Val}
use Rattle.program.specs.Tree.{Op}
use Rattle.commands.specs.Commands.{Com.cons, Com.oper, Coms, Coms.act}
use Rattle.operators.specs.Operators.{Exceeds}
use Rattle.machine.specs.Published.{Sched, Env, Inst, Inst.inst, State, State.state}

-- 0 is the ended run
abbrev pub ended : ℕ
ended = 0

-- 34: cons with 256 instances, whatever operands it has
pub data Full (l : ℕ) : State → Type 0 where
  no_label : {s : Sched} {σ : List Inst} {b : List Bool} {k j : ℕ} {c : Coms} {χ : List Val} {ξ : Env}
      → get_elem? σ l ≡ some (inst k (act (cons j) c) χ ξ)
      → max_instances ≤ length σ
      → Full l (state s σ b)

-- 35: zero divisor, or result outside its type
pub data Exceeded (l : ℕ) : State → Type 0 where
  no_result : {s : Sched} {σ : List Inst} {b : List Bool} {k : ℕ} {c : Coms} {χ : List Val} {ξ : Env} {o : Op} {x y : Val}
      → get_elem? σ l ≡ some (inst k (act (oper o) c) (y ∷ x ∷ χ) ξ)
      → Exceeds o x y
      → Exceeded l (state s σ b)
