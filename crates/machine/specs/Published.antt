-- States of the published semantics (000, definitions 3 to 6), with the labels of 01, 'Table and turns'.
use Rattle.std.specs.Prelude.{ℕ, ◌-◌, ◌≡◌, Bool, true, false, List, [], ◌∷◌, length, get_or, set, replicate, ltb, eqb}
use Rattle.std.proofs.Math.Option.{Option, none, some}
use Rattle.std.proofs.Math.ListN.{get_elem?}
use Rattle.types.specs.Limits.{first_local, max_locals}
use Rattle.types.specs.Values.{Val}
use Rattle.program.specs.Tree.{Item, Item.call, Item.call_in, Item.fix, Items, Items.stop, Items.item, Stmts, Program}
use Rattle.commands.specs.Commands.{Coms, Coms.nil}
use Rattle.commands.specs.Context.{params_of, step_of}

-- a step call: of the step n on every struct that has it, or on struct k alone (000, 'globally and locally'; 01's items 1 and 2)
pub data StepCall : Type 0 where
  global : ℕ → StepCall
  local : ℕ → ℕ → StepCall

-- the step that a call starts on an instance of struct k, where it starts one
unfoldable pub called : Program → StepCall → ℕ → Option Stmts
called p (global n) k = step_of p k n
called p (local x n) k = elim (eqb k x) [ true ↦ step_of p k n | false ↦ none ]

-- a schedule as a list; `active` is 000's aFix, a fixpoint that has been initiated
pub data Sched : Type 0 where
  done : Sched
  start : StepCall → Sched → Sched
  fixpoint : Sched → Sched → Sched
  active : Sched → Sched → Sched

-- 000 writes `;`
unfoldable pub before : Sched → Sched → Sched
before done s = s
before (start a r) s = start a (before r s)
before (fixpoint f r) s = fixpoint f (before r s)
before (active f r) s = active f (before r s)

unfoldable mutual
  pub of_item : Item → Sched → Sched
  of_item (call n) s = start (global n) s
  of_item (call_in k n) s = start (local k n) s
  of_item (fix is) s = fixpoint (of_items is) s

  pub of_items : Items → Sched
  of_items stop = done
  of_items (item i is) = of_item i (of_items is)

-- 000's ξ: the parameters' values, and the locals', which have none until they are written
pub data Env : Type 0 where
  env : List Val → List (Option Val) → Env

-- ξ(v) and ξ[v ↦ x]: variables from first-local on are locals; a number that is neither a parameter nor a local has no place
unfoldable pub lookup : Env → ℕ → Option Val
lookup (env ps ls) v = elim (ltb v first_local) [ true ↦ get_elem? ps v | false ↦ get_or ls (v - first_local) none ]

unfoldable pub assign : Env → ℕ → Val → Env
assign (env ps ls) v x =
    elim (ltb v first_local) [ true ↦ env (set ps v x) ls | false ↦ env ps (set ls (v - first_local) (some x)) ]

-- parameters of these values, and no local written
abbrev pub fresh_env : List Val → Env
fresh_env vs = env vs (replicate max_locals none)

-- 000, definition 3: struct, commands left, stack with its top first, environment
pub data Inst : Type 0 where
  inst : ℕ → Coms → List Val → Env → Inst

-- 000, definition 4; σ(ℓ) is the element at place ℓ, and ⊥ past the end; the stability stack has its top first
pub data State : Type 0 where
  state : Sched → List Inst → List Bool → State

-- [ℓ, 4 ↦ ξ]
abbrev pub with_env : Env → Inst → Inst
with_env ξ (inst k c χ η) = inst k c χ ξ

unfoldable pub update_env : List Inst → ℕ → Env → List Inst
update_env [] l ξ = []
update_env (i ∷ σ) ℕ.zero ξ = with_env ξ i ∷ σ
update_env (i ∷ σ) (ℕ.suc l) ξ = i ∷ update_env σ l ξ

-- the null labels are those below the number of structs
abbrev pub structs : Program → ℕ
structs p = length p.params

-- how many parameters a struct has: its variables below that number
abbrev pub arity : Program → ℕ → ℕ
arity p k = length (params_of p k)

-- Done(σ): no instance holds commands
abbrev pub Idle : Inst → Type 0
Idle (inst k c χ ξ) = c ≡ nil
