-- The fifteen rules of 000, section 4, each under its published name, with 01's arithmetic (02's division), labels and limits.
-- Computed parts are premises. They depart from 000 in five places:
-- * starting a step empties the stacks of the instances that have it and of no others (01, 'Table and turns'); 000's InitG empties all;
-- * a new instance takes the next label (01, the same), 000's any fresh one; where none is free ComCons does not fit, and 34 is due;
-- * a result is in the range of its type, where 000 computes without bounds; for another, and for a zero divisor, ComOp does not
--   fit, and 35 is due;
-- * a variable that was never written has no value, and ComRd does not fit there; 000's definition 6 leaves its value arbitrary. A
--   run of an accepted program reads none (01, 'The words of demand 3');
-- * a write to a number between the struct's parameters and 7 stores nothing (`assign` of Published), where 000 stores the value; it
--   leaves stability as it is in both. Only refused programs come to one.
use Rattle.std.specs.Prelude.{ℕ, ◌<◌, ◌≤◌, ◌≡◌, Bool, true, false, not as negation, List, [], ◌∷◌, ◌++◌, map, reverse, length, set}
use Rattle.std.proofs.Math.Option.{Option, none, some}
use Rattle.std.proofs.Math.ListN.{get_elem?}
use Rattle.types.specs.Limits.{max_instances}
use Rattle.types.specs.Types.{Ty}
use Rattle.types.specs.Values.{Val, Val.bool_val, Val.label}
use Rattle.program.specs.Tree.{Op, Stmts, Program}
use Rattle.program.specs.Counts.{All}
use Rattle.commands.specs.Commands.{Com.push, Com.push_this, Com.rd, Com.wr, Com.cons, Com.not, Com.oper, Coms, Coms.nil, Coms.act, Coms.if_then}
use Rattle.commands.specs.Commands.{then, body_coms}
use Rattle.operators.specs.Operators.{Applies}
use Rattle.machine.specs.Published.{StepCall, StepCall.global, StepCall.local, called, Sched, Sched.start, Sched.fixpoint, Sched.active, before}
use Rattle.machine.specs.Published.{Env, lookup, assign, fresh_env, Inst, Inst.inst, State, State.state, update_env, structs, arity, Idle}

-- Done(σ)
abbrev pub Done : List Inst → Type 0
Done σ = All Idle σ

-- su of rule ComWr: the variable is no parameter, or it has the value already
pub data LeavesStable (p : Program) (k v : ℕ) (ξ : Env) (x : Val) : Bool → Type 0 where
  no_parameter : arity p k ≤ v → LeavesStable p k v ξ x true
  same_value : v < arity p k → lookup ξ v ≡ some x → LeavesStable p k v ξ x true
  other_value : {y : Val} → v < arity p k → lookup ξ v ≡ some y → (y ≡ x → ⊥) → LeavesStable p k v ξ x false

-- sχ₁ ∧ su; ..; sχₙ ∧ su
unfoldable pub meet : Bool → List Bool → List Bool
meet true sχ = sχ
meet false sχ = map (λ t. false) sχ

-- the instances that a call starts a step on get its commands and an empty stack
unfoldable pub given : Option Stmts → Inst → Inst
given none i = i
given (some b) (inst k c χ ξ) = inst k (body_coms b) [] ξ

abbrev pub started : Program → StepCall → Inst → Inst
started p a (inst k c χ ξ) = given (called p a k) (inst k c χ ξ)

-- who acts: an instance by a command, or the schedule
pub data Actor : Type 0 where
  instance : ℕ → Actor
  schedule : Actor

pub data Rule (p : Program) : Actor → State → State → Type 0 where
  ComPush : {s : Sched} {σ τ : List Inst} {b : List Bool} {l k : ℕ} {t : Ty} {v : Val} {c : Coms} {χ : List Val} {ξ : Env}
      → get_elem? σ l ≡ some (inst k (act (push t v) c) χ ξ)
      → τ ≡ set σ l (inst k c (v ∷ χ) ξ)
      → Rule p (instance l) (state s σ b) (state s τ b)
  ComPushThis : {s : Sched} {σ τ : List Inst} {b : List Bool} {l k : ℕ} {c : Coms} {χ : List Val} {ξ : Env}
      → get_elem? σ l ≡ some (inst k (act push_this c) χ ξ)
      → τ ≡ set σ l (inst k c (label l ∷ χ) ξ)
      → Rule p (instance l) (state s σ b) (state s τ b)
  ComRd : {s : Sched} {σ τ : List Inst} {b : List Bool} {l m k j v : ℕ} {c d : Coms} {χ ψ : List Val} {ξ η : Env} {x : Val}
      → get_elem? σ l ≡ some (inst k (act (rd v) c) (label m ∷ χ) ξ)
      → get_elem? σ m ≡ some (inst j d ψ η)
      → lookup η v ≡ some x
      → τ ≡ set σ l (inst k c (x ∷ χ) ξ)
      → Rule p (instance l) (state s σ b) (state s τ b)
  ComWr : {s : Sched} {σ τ : List Inst} {b b' : List Bool} {l m k j v : ℕ} {c d : Coms} {χ ψ : List Val} {ξ η : Env} {x : Val} {su : Bool}
      → get_elem? σ l ≡ some (inst k (act (wr v) c) (label m ∷ x ∷ χ) ξ)
      → get_elem? σ m ≡ some (inst j d ψ η)
      → (m < structs p → v < arity p j → ⊥)
      → LeavesStable p j v η x su
      → τ ≡ update_env (set σ l (inst k c χ ξ)) m (assign η v x)
      → b' ≡ meet su b
      → Rule p (instance l) (state s σ b) (state s τ b')
  ComWrNSkip : {s : Sched} {σ τ : List Inst} {b : List Bool} {l m k j v : ℕ} {c d : Coms} {χ ψ : List Val} {ξ η : Env} {x : Val}
      → get_elem? σ l ≡ some (inst k (act (wr v) c) (label m ∷ x ∷ χ) ξ)
      → get_elem? σ m ≡ some (inst j d ψ η)
      → m < structs p
      → v < arity p j
      → τ ≡ set σ l (inst k c χ ξ)
      → Rule p (instance l) (state s σ b) (state s τ b)
  ComNot : {s : Sched} {σ τ : List Inst} {b : List Bool} {l k : ℕ} {c : Coms} {χ : List Val} {ξ : Env} {t : Bool}
      → get_elem? σ l ≡ some (inst k (act not c) (bool_val t ∷ χ) ξ)
      → τ ≡ set σ l (inst k c (bool_val (negation t) ∷ χ) ξ)
      → Rule p (instance l) (state s σ b) (state s τ b)
  ComOp : {s : Sched} {σ τ : List Inst} {b : List Bool} {l k : ℕ} {c : Coms} {χ : List Val} {ξ : Env} {o : Op} {x y z : Val}
      → get_elem? σ l ≡ some (inst k (act (oper o) c) (y ∷ x ∷ χ) ξ)
      → Applies o x y z
      → τ ≡ set σ l (inst k c (z ∷ χ) ξ)
      → Rule p (instance l) (state s σ b) (state s τ b)
  ComCons : {s : Sched} {σ τ : List Inst} {b b' : List Bool} {l k j : ℕ} {c : Coms} {χ' : List Val} {ξ : Env} (xs χ : List Val)
      → get_elem? σ l ≡ some (inst k (act (cons j) c) χ' ξ)
      → length xs ≡ arity p j
      → χ' ≡ reverse xs ++ χ
      → length σ < max_instances
      → τ ≡ set σ l (inst k c (label (length σ) ∷ χ) ξ) ++ inst j nil [] (fresh_env xs) ∷ []
      → b' ≡ meet false b
      → Rule p (instance l) (state s σ b) (state s τ b')
  ComIfT : {s : Sched} {σ τ : List Inst} {b : List Bool} {l k : ℕ} {c d : Coms} {χ : List Val} {ξ : Env}
      → get_elem? σ l ≡ some (inst k (if_then d c) (bool_val true ∷ χ) ξ)
      → τ ≡ set σ l (inst k (then d c) χ ξ)
      → Rule p (instance l) (state s σ b) (state s τ b)
  ComIfF : {s : Sched} {σ τ : List Inst} {b : List Bool} {l k : ℕ} {c d : Coms} {χ : List Val} {ξ : Env}
      → get_elem? σ l ≡ some (inst k (if_then d c) (bool_val false ∷ χ) ξ)
      → τ ≡ set σ l (inst k c χ ξ)
      → Rule p (instance l) (state s σ b) (state s τ b)
  InitG : {s : Sched} {σ τ : List Inst} {b : List Bool} {n : ℕ}
      → Done σ
      → τ ≡ map (started p (global n)) σ
      → Rule p schedule (state (start (global n) s) σ b) (state s τ b)
  InitL : {s : Sched} {σ τ : List Inst} {b : List Bool} {k n : ℕ}
      → Done σ
      → τ ≡ map (started p (local k n)) σ
      → Rule p schedule (state (start (local k n) s) σ b) (state s τ b)
  FixInit : {f s s' : Sched} {σ : List Inst} {b : List Bool}
      → Done σ
      → s' ≡ before f (active f s)
      → Rule p schedule (state (fixpoint f s) σ b) (state s' σ (true ∷ b))
  FixIter : {f s s' : Sched} {σ : List Inst} {b : List Bool}
      → Done σ
      → s' ≡ before f (active f s)
      → Rule p schedule (state (active f s) σ (false ∷ b)) (state s' σ (true ∷ b))
  FixTerm : {f s : Sched} {σ : List Inst} {b : List Bool}
      → Done σ
      → Rule p schedule (state (active f s) σ (true ∷ b)) (state s σ b)
