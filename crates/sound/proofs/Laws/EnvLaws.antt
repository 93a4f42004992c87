-- Laws of environments: parameters and locals are apart, and each holds what was written to it last.
use Rattle.std.specs.Prelude.{ℕ, ◌+◌, ◌-◌, ◌<◌, ◌≤◌, ◌≡◌, List, length, get_or, set}
use Rattle.std.proofs.Common.{arith, ◌∙◌, length-set, get_or-set_same, get_or-set_other}
use Rattle.std.proofs.Math.Option.{Option, none, some}
use Rattle.std.proofs.Math.ListN.{get_elem?}
use borrow.Author.Tests.{lt-ltb, le-ltb}
use Rattle.types.specs.Limits.{first_local, max_locals}
use Rattle.types.specs.Types.{Ty, Ty.int}
use Rattle.types.specs.Values.{Val}
use Rattle.machine.specs.Published.{Env, Env.env, lookup, assign}
use Rattle.machine.specs.Machine.{Instance}
use Rattle.sound.specs.Needs.{ValueAmong}
use Rattle.sound.specs.Invariant.{Fitted}
use Rattle.sound.proofs.Laws.EachLaws.{each_at, each_set}

is_local : (y : ℕ) → first_local + y - first_local ≡ y
is_local y = omega arith

module _ (ps : List Val) (ls : List (Option Val)) where
  -- a parameter and a local, where they stand
  pub param_at : (v : ℕ) → v < first_local → lookup (env ps ls) v ≡ get_elem? ps v
  unfolding lookup
  param_at v h = rw (lookup, lt-ltb v first_local h)

  pub local_at : (y : ℕ) → lookup (env ps ls) (first_local + y) ≡ get_or ls y none
  unfolding lookup
  local_at y = rw (lookup, le-ltb (first_local + y) first_local (omega arith), is_local y)

  pub param_set : (v : ℕ) (x : Val) → v < first_local → assign (env ps ls) v x ≡ env (set ps v x) ls
  unfolding assign
  param_set v x h = rw (assign, lt-ltb v first_local h)

  pub local_set : (y : ℕ) (x : Val) → assign (env ps ls) (first_local + y) x ≡ env ps (set ls y (some x))
  unfolding assign
  local_set y x = rw (assign, le-ltb (first_local + y) first_local (omega arith), is_local y)

-- a parameter's write leaves the locals
pub other_kept : (ξ : Env) (v y : ℕ) (x : Val) → v < first_local → lookup (assign ξ v x) (first_local + y) ≡ lookup ξ (first_local + y)
other_kept (env ps ls) v y x h = rw (param_set ps ls v x h, local_at (set ps v x) ls y, local_at ps ls y)

-- a local's write leaves the other locals
pub local_kept : (ξ : Env) (y z : ℕ) (x : Val) → (y ≡ z → ⊥) → lookup (assign ξ (first_local + z) x) (first_local + y) ≡ lookup ξ (first_local + y)
local_kept (env ps ls) y z x h =
    rw (local_set ps ls z x, local_at ps (set ls z (some x)) y, local_at ps ls y) (get_or-set_other ls z y (some x) none h)

module _ (is : List Instance) (ts : List Ty) where
  -- a local holds what was written to it
  pub local_holds : (ξ : Env) (y : ℕ) (x : Val) → y < max_locals → Fitted is ts ξ → lookup (assign ξ (first_local + y) x) (first_local + y) ≡ some x
  local_holds (env ps ls) y x h f =
      rw (local_set ps ls y x, local_at ps (set ls y (some x)) y) (get_or-set_same ls y (some x) none (rw f.1 h))

  -- a local's write leaves the parameters
  pub local_fitted : (ξ : Env) (y : ℕ) (x : Val) → Fitted is ts ξ → Fitted is ts (assign ξ (first_local + y) x)
  local_fitted (env ps ls) y x f = rw (local_set ps ls y x) (f.0, length-set ls y (some x) ∙ f.1)

  module _ (few : length ts ≤ first_local) (v : ℕ) (h : v < length ts) where
    -- a parameter holds a value of its type
    pub param_holds : (ξ : Env) → Fitted is ts ξ → (x : Val) × (lookup ξ v ≡ some x) × (ValueAmong is (get_or ts v int) x)
    param_holds (env ps ls) f =
        let (x, e, o) = each_at (ValueAmong is) int ts ps v h f.0 in
        (x, param_at ps ls v (omega arith) ∙ e, o)

    -- and takes another of it
    pub param_fitted : (ξ : Env) (x : Val) → ValueAmong is (get_or ts v int) x → Fitted is ts ξ → Fitted is ts (assign ξ v x)
    param_fitted (env ps ls) x o f = rw (param_set ps ls v x (omega arith)) (each_set (ValueAmong is) int ts ps v x o f.0, f.1)
