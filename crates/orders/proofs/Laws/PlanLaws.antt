-- Plans of two instances may be applied in either order, and each stays a plan, where their deeds do not clash.
use Rattle.std.specs.Prelude.{ℕ, zero, suc, ◌+◌, ◌-◌, ◌<◌, ◌≡◌, refl, Bool, true, false, List, [], ◌∷◌, get_or, set}
use Rattle.std.proofs.Math.Decide.{ℕ_discrete}
use Rattle.std.proofs.Common.{arith, sym, ap, ◌∙◌, lt-ltb, le-ltb}
use Rattle.std.proofs.Math.Option.{Option, none, some}
use Rattle.std.proofs.Math.ListN.{get_elem?}
use Rattle.types.specs.Limits.{first_local}
use Rattle.types.specs.Values.{Val}
use Rattle.machine.specs.Published.{Env, Env.env, lookup, assign}
use Rattle.machine.specs.Rules.{meet}
use Rattle.machine.specs.Machine.{Instance}
use Rattle.orders.proofs.Laws.Alter.{alter, alter_apart, alter_commute}
use Rattle.orders.proofs.Laws.Plans.{Local, Local.no_local, Local.a_local, Own, localized, owned, store, Plan, Plan.keeps, Plan.stores, made, entries}

-- Changes that commute -------------------------------------------------------------

pub assign_param : (ps : List Val) (ls : List (Option Val)) (v : ℕ) (x : Val) → v < first_local → assign (env ps ls) v x ≡ env (set ps v x) ls
unfolding assign
assign_param ps ls v x h = rw (lt-ltb v first_local h, assign)

pub assign_local : (ps : List Val) (ls : List (Option Val)) (y : ℕ) (z : Val)
    → assign (env ps ls) (first_local + y) z ≡ env ps (set ls (first_local + y - first_local) (some z))
unfolding assign
assign_local ps ls y z = rw (le-ltb (first_local + y) first_local (omega arith), assign)

pub lookup_param : (ps : List Val) (ls : List (Option Val)) (v : ℕ) → v < first_local → lookup (env ps ls) v ≡ get_elem? ps v
unfolding lookup
lookup_param ps ls v h = rw (lt-ltb v first_local h, lookup)

pub lookup_local : (ps : List Val) (ls : List (Option Val)) (y : ℕ) → lookup (env ps ls) (first_local + y) ≡ get_or ls (first_local + y - first_local) none
unfolding lookup
lookup_local ps ls y = rw (le-ltb (first_local + y) first_local (omega arith), lookup)

-- a local and a parameter
localized_assign : (k : Local) (ξ : Env) (v : ℕ) (x : Val) → v < first_local → assign (localized k ξ) v x ≡ localized k (assign ξ v x)
unfolding localized
localized_assign no_local ξ v x h = refl
localized_assign (a_local y z) (env ps ls) v x h =
    ap (λ ξ. assign ξ v x) (assign_local ps ls y z) ∙ assign_param ps (set ls (first_local + y - first_local) (some z)) v x h
    ∙ sym (ap (λ ξ. assign ξ (first_local + y) z) (assign_param ps ls v x h) ∙ assign_local (set ps v x) ls y z)

pub owned_store : (o : Own) (v : ℕ) (x : Val) → v < first_local → (i : Instance) → store v x (owned o i) ≡ owned o (store v x i)
owned_store o v x h i =
    ap (λ ξ. record { struct = i.struct; code = o.code; stack = o.stack; env = ξ; written = o.written }) (localized_assign o.kept i.env v x h)

-- two parameters
set_apart : {A : Type 0} (xs : List A) (v w : ℕ) (x y : A) → (v ≡ w → ⊥) → set (set xs w y) v x ≡ set (set xs v x) w y
set_apart [] v w x y h = refl
set_apart (z ∷ xs) zero zero x y h = absurd (h refl)
set_apart (z ∷ xs) zero (suc w) x y h = refl
set_apart (z ∷ xs) (suc v) zero x y h = refl
set_apart {A} (z ∷ xs) (suc v) (suc w) x y h = ap {B = List A} (λ t. z ∷ t) (set_apart xs v w x y (λ e. h (ap suc e)))

assign_apart : (ξ : Env) (v w : ℕ) (x y : Val) → v < first_local → w < first_local → (v ≡ w → ⊥) → assign (assign ξ w y) v x ≡ assign (assign ξ v x) w y
assign_apart (env ps ls) v w x y h k q =
    ap (λ ξ. assign ξ v x) (assign_param ps ls w y k) ∙ assign_param (set ps w y) ls v x h ∙ ap (λ t. env t ls) (set_apart ps v w x y q)
    ∙ sym (ap (λ ξ. assign ξ w y) (assign_param ps ls v x h) ∙ assign_param (set ps v x) ls w y k)

pub store_store : (v w : ℕ) (x y : Val) → v < first_local → w < first_local → (v ≡ w → ⊥) → (i : Instance) → store v x (store w y i) ≡ store w y (store v x i)
store_store v w x y h k q i =
    ap (λ ξ. record { struct = i.struct; code = i.code; stack = i.stack; env = ξ; written = i.written }) (assign_apart i.env v w x y h k q)

-- two truths met with the entries
meet_meet : (s t : Bool) (b : List Bool) → meet s (meet t b) ≡ meet t (meet s b)
unfolding meet
meet_meet true true b = refl
meet_meet true false b = refl
meet_meet false true b = refl
meet_meet false false b = refl

-- Plans applied in either order ------------------------------------------------------

-- a parameter's number
abbrev pub Small : Plan → Type 0
Small (keeps o) = Unit {0}
Small (stores o q v x su) = v < first_local

-- no parameter written by both
abbrev pub Disjoint : Plan → Plan → Type 0
Disjoint (keeps o) Q = Unit {0}
Disjoint (stores o q v x su) (keeps o') = Unit {0}
Disjoint (stores o q v x su) (stores o' r w y su') = (q ≡ r) × (v ≡ w) → ⊥

module _ (is : List Instance) (a l : ℕ) (apart : a ≡ l → ⊥) where
  -- a store of the instance l and the own change of a
  own_stores : (o o' : Own) (r w : ℕ) (y : Val) → w < first_local
      → alter (alter (alter is a (owned o)) l (owned o')) r (store w y) ≡ alter (alter (alter is l (owned o')) r (store w y)) a (owned o)
  own_stores o o' r w y h =
      ap (λ t. alter t r (store w y)) (alter_apart is a l (owned o) (owned o') apart)
      ∙ alter_commute (alter is l (owned o')) a r (owned o) (store w y) (owned_store o w y h)

  stores_own : (o o' : Own) (q v : ℕ) (x : Val) → v < first_local
      → alter (alter (alter is a (owned o)) q (store v x)) l (owned o') ≡ alter (alter (alter is l (owned o')) a (owned o)) q (store v x)
  stores_own o o' q v x h =
      sym (alter_commute (alter is a (owned o)) l q (owned o') (store v x) (owned_store o' v x h))
      ∙ ap (λ t. alter t q (store v x)) (alter_apart is a l (owned o) (owned o') apart)

  store_swap : (js : List Instance) (q v r w : ℕ) (x y : Val) → v < first_local → w < first_local → ((q ≡ r) × (v ≡ w) → ⊥)
      → alter (alter js q (store v x)) r (store w y) ≡ alter (alter js r (store w y)) q (store v x)
  store_swap js q v r w x y h k d = go (ℕ_discrete q r)
    where
      go : Dec (q ≡ r) → alter (alter js q (store v x)) r (store w y) ≡ alter (alter js r (store w y)) q (store v x)
      go (yes e) = alter_commute js q r (store v x) (store w y) (λ i. store_store w v y x k h (λ f. d (e, sym f)) i)
      go (no e) = alter_apart js q r (store v x) (store w y) e

  pub made_commute : (P Q : Plan) → Small P → Small Q → Disjoint P Q → made (made is a P) l Q ≡ made (made is l Q) a P
  made_commute (keeps o) (keeps o') h k d = alter_apart is a l (owned o) (owned o') apart
  made_commute (keeps o) (stores o' r w y su) h k d = own_stores o o' r w y k
  made_commute (stores o q v x su) (keeps o') h k d = stores_own o o' q v x h
  made_commute (stores o q v x su) (stores o' r w y su') h k d =
      ap (λ t. alter t r (store w y)) (stores_own o o' q v x h)
      ∙ store_swap (alter (alter is l (owned o')) a (owned o)) q v r w x y h k d
      ∙ ap (λ t. alter t q (store v x)) (alter_commute (alter is l (owned o')) a r (owned o) (store w y) (owned_store o w y k))

pub entries_commute : (P Q : Plan) (b : List Bool) → entries (entries b P) Q ≡ entries (entries b Q) P
entries_commute (keeps o) (keeps o') b = refl
entries_commute (keeps o) (stores o' r w y su) b = refl
entries_commute (stores o q v x su) (keeps o') b = refl
entries_commute (stores o q v x su) (stores o' r w y su') b = meet_meet su' su b
