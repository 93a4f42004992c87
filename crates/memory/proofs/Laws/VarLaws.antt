-- Laws of variables (000, definition 3): what is read where one is written, and where a variable with a value lies.
use Rattle.std.specs.Prelude.{ℕ, zero, suc, ◌+◌, ◌-◌, ◌<◌, ◌≤◌, ◌≡◌, refl, Bool, true, false, ◌⊎◌, List, [], ◌∷◌, length, get_or, set, replicate, ltb}
use Rattle.std.proofs.Common.{arith, ap, sym, ◌∙◌, inl, inr, ltb-true, ltb-false}
use Rattle.std.proofs.Math.Option.{Option, none, some}
use Rattle.std.proofs.Math.ListN.{get_elem?}
use Rattle.types.specs.Limits.{first_local, max_locals, variables}
use Rattle.types.specs.Values.{Val}
use Rattle.machine.specs.Published.{Env, Env.env, lookup, assign, fresh_env}
use Rattle.sound.proofs.Laws.ElemLaws.{none_some, some_is, at_set_other, at_below}
use Rattle.sound.proofs.Laws.EnvLaws.{param_at, local_at, param_set, local_set, other_kept, local_kept}

-- a parameter, or a local
abbrev Side : ℕ → Type 0
Side v = (v < first_local) ⊎ ((w : ℕ) × (v ≡ first_local + w))

side : (v : ℕ) → Side v
side v = go (ltb v first_local) refl
  where
    go : (t : Bool) → ltb v first_local ≡ t → Side v
    go true e = inl (ltb-true v first_local e)
    go false e = let h : first_local ≤ v = ltb-false v first_local e in inr (v - first_local, omega arith)

param_is : (l : List Val) (n : ℕ) (a b : Val) → get_elem? (set l n a) n ≡ some b → a ≡ b
param_is [] n a b e = none_some e
param_is (x ∷ l) zero a b e = some_is e
param_is (x ∷ l) (suc n) a b e = param_is l n a b e

local_is : (l : List (Option Val)) (n : ℕ) (a b : Val) → get_or (set l n (some a)) n none ≡ some b → a ≡ b
local_is [] n a b e = none_some e
local_is (x ∷ l) zero a b e = some_is e
local_is (x ∷ l) (suc n) a b e = local_is l n a b e

local_in : (l : List (Option Val)) (n : ℕ) (b : Val) → get_or l n none ≡ some b → n < length l
local_in [] n b e = none_some e
local_in (x ∷ l) zero b e = omega arith
local_in (x ∷ l) (suc n) b e = let h : n < length l = local_in l n b e in omega arith

none_there : (n k : ℕ) → get_or (replicate {A = Option Val} n none) k none ≡ none
none_there zero k = refl
none_there (suc n) zero = refl
none_there (suc n) (suc k) = none_there n k

-- the variable that is written has the value written
pub assigned_same : (ξ : Env) (v : ℕ) (x y : Val) → lookup (assign ξ v x) v ≡ some y → x ≡ y
assigned_same (env ps ls) v x y e = go (side v) e
  where
    go : Side v → lookup (assign (env ps ls) v x) v ≡ some y → x ≡ y
    go (inl h) e = param_is ps v x y (sym (ap (λ ξ. lookup ξ v) (param_set ps ls v x h) ∙ param_at (set ps v x) ls v h) ∙ e)
    go (inr h) e =
        let w = h.0 in
        let q : lookup (assign (env ps ls) (first_local + w) x) (first_local + w) ≡ some y = rw h.1 at e in
        local_is ls w x y (sym (ap (λ ξ. lookup ξ (first_local + w)) (local_set ps ls w x) ∙ local_at ps (set ls w (some x)) w) ∙ q)

-- the others stay
pub assigned_other : (ξ : Env) (v u : ℕ) (x : Val) → (u ≡ v → ⊥) → lookup (assign ξ v x) u ≡ lookup ξ u
assigned_other (env ps ls) v u x f = go (side v) (side u)
  where
    go : Side v → Side u → lookup (assign (env ps ls) v x) u ≡ lookup (env ps ls) u
    go (inl h) (inl k) = rw (param_set ps ls v x h, param_at (set ps v x) ls u k, param_at ps ls u k) (at_set_other ps v u x f)
    go (inl h) (inr k) = rw k.1 (other_kept (env ps ls) v k.0 x h)
    go (inr h) (inl k) =
        rw h.1 (rw (local_set ps ls h.0 x, param_at ps (set ls h.0 (some x)) u k, param_at ps ls u k))
    go (inr h) (inr k) =
        let (w, p) = h in
        let (y, q) = k in
        rw (p, q) (local_kept (env ps ls) y w x (λ e. f (q ∙ ap (λ (n : ℕ). first_local + n) e ∙ sym p)))

-- a variable with a value lies within a row
pub near_env : (ps : List Val) (ls : List (Option Val)) → length ls ≡ max_locals → (v : ℕ) (x : Val) → lookup (env ps ls) v ≡ some x → v < variables
near_env ps ls n v x e = go (side v) e
  where
    go : Side v → lookup (env ps ls) v ≡ some x → v < variables
    go (inl h) e = omega arith
    go (inr h) e =
        let (w, q) = h in
        let b : w < length ls = local_in ls w x (sym (local_at ps ls w) ∙ rw q at e) in
        omega arith

-- of an environment with no local written it is a parameter
pub fresh_var : (vs : List Val) (v : ℕ) (x : Val) → lookup (fresh_env vs) v ≡ some x → (get_elem? vs v ≡ some x) × (v < length vs)
fresh_var vs v x e = go (side v) e
  where
    go : Side v → lookup (fresh_env vs) v ≡ some x → (get_elem? vs v ≡ some x) × (v < length vs)
    go (inl h) e = let q = sym (param_at vs (replicate max_locals none) v h) ∙ e in (q, at_below vs v x q)
    go (inr h) e =
        let (w, q) = h in
        none_some (sym (none_there max_locals w) ∙ sym (local_at vs (replicate max_locals none) w) ∙ rw q at e)
