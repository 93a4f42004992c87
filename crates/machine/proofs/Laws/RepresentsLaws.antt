-- Laws of Represents: it looks up, replaces and adds place by place, and a machine stands for at most one state.
use Rattle.std.specs.Prelude.{ℕ, zero, suc, ◌≡◌, refl, ◌↔◌, List, [], ◌∷◌, ◌++◌, map, length, set}
use Rattle.std.proofs.Common.{ap, sym, ◌∙◌, subst, arith}
use Rattle.std.proofs.Math.Option.{Option, none, some}
use Rattle.std.proofs.Math.ListN.{get_elem?}
use Rattle.std.proofs.lemmas.List.{length-map}
use Rattle.types.specs.Types.{Ty}
use Rattle.types.specs.Values.{Val}
use Rattle.program.specs.Counts.{All}
use Rattle.commands.specs.Commands.{Coms, Coms.nil, Coms.act, Coms.if_then, flatten}
use Rattle.commands.specs.Noted.{Note, erase}
use Rattle.commands.proofs.Laws.CommandLaws.{flatten_injective}
use Rattle.machine.specs.Published.{Env, Inst, Inst.inst, State, State.state, update_env}
use Rattle.machine.specs.Rules.{Done}
use Rattle.machine.specs.Machine.{Tagged, tagged, Instance, Machine, update_env as change_env}
use Rattle.machine.specs.Represents.{values, RepresentsInst, RepresentsAll, Represents}

-- Place by place -----------------------------------------------------------------

abbrev pub RepresentsAt : Option Instance → Option Inst → Type 0
RepresentsAt none none = Unit {0}
RepresentsAt none (some j) = ⊥
RepresentsAt (some i) none = ⊥
RepresentsAt (some i) (some j) = RepresentsInst i j

-- what stands at a place of the one represents what stands there of the other
pub represents_at : (is : List Instance) (σ : List Inst) (l : ℕ) → RepresentsAll is σ → RepresentsAt (get_elem? is l) (get_elem? σ l)
represents_at [] [] l R = tt
represents_at [] (j ∷ σ) l R = absurd R
represents_at (i ∷ is) [] l R = absurd R
represents_at (i ∷ is) (j ∷ σ) zero R = R.0
represents_at (i ∷ is) (j ∷ σ) (suc l) R = represents_at is σ l R.1

-- an instance of the state has one of the machine that represents it
pub instance_at : (is : List Instance) (σ : List Inst) (l : ℕ) {j : Inst} → RepresentsAll is σ → get_elem? σ l ≡ some j
    → (i : Instance) × (get_elem? is l ≡ some i) × (RepresentsInst i j)
instance_at is σ l {j} R e = go (get_elem? is l) refl (rw e at (represents_at is σ l R))
  where
    go : (o : Option Instance) → get_elem? is l ≡ o → RepresentsAt o (some j) → (i : Instance) × (get_elem? is l ≡ some i) × (RepresentsInst i j)
    go none g r = absurd r
    go (some i) g r = (i, g, r)

-- an instance of the machine stands for one of the state, with its own struct, stack and environment
pub inst_at : (is : List Instance) (σ : List Inst) (l : ℕ) {i : Instance} → RepresentsAll is σ → get_elem? is l ≡ some i
    → (c : Coms) × (get_elem? σ l ≡ some (inst i.struct c (values i.stack) i.env)) × (map erase i.code ≡ flatten c)
inst_at is σ l {i} R e = go (get_elem? σ l) refl (rw e at (represents_at is σ l R))
  where
    go : (o : Option Inst) → get_elem? σ l ≡ o → RepresentsAt (some i) o
        → (c : Coms) × (get_elem? σ l ≡ some (inst i.struct c (values i.stack) i.env)) × (map erase i.code ≡ flatten c)
    go none g r = absurd r
    go (some (inst k c χ ξ)) g (a, b, x, y) = (c, g ∙ cc, b)

pub represents_length : (is : List Instance) (σ : List Inst) → RepresentsAll is σ → length is ≡ length σ
represents_length [] [] R = refl
represents_length [] (j ∷ σ) R = absurd R
represents_length (i ∷ is) [] R = absurd R
represents_length (i ∷ is) (j ∷ σ) R = ap suc (represents_length is σ R.1)

-- an instance is replaced on both sides
pub represents_set : (is : List Instance) (σ : List Inst) (l : ℕ) (i : Instance) (j : Inst)
    → RepresentsAll is σ → RepresentsInst i j → RepresentsAll (set is l i) (set σ l j)
represents_set [] [] l i j R r = tt
represents_set [] (y ∷ σ) l i j R r = absurd R
represents_set (x ∷ is) [] l i j R r = absurd R
represents_set (x ∷ is) (y ∷ σ) zero i j R r = (r, R.1)
represents_set (x ∷ is) (y ∷ σ) (suc l) i j R r = (R.0, represents_set is σ l i j R.1 r)

-- an environment is replaced on both sides
pub represents_env : (is : List Instance) (σ : List Inst) (l : ℕ) {ξ η : Env}
    → RepresentsAll is σ → ξ ≡ η → RepresentsAll (change_env is l ξ) (update_env σ l η)
unfolding change_env update_env
represents_env [] [] l R e = tt
represents_env [] (y ∷ σ) l R e = absurd R
represents_env (x ∷ is) [] l R e = absurd R
represents_env (x ∷ is) (inst k c χ ζ ∷ σ) zero R e = ((R.0.0, R.0.1, R.0.2, e), R.1)
represents_env (x ∷ is) (y ∷ σ) (suc l) R e = (R.0, represents_env is σ l R.1 e)

-- an instance is added on both sides
pub represents_append : (is : List Instance) (σ : List Inst) (i : Instance) (j : Inst)
    → RepresentsAll is σ → RepresentsInst i j → RepresentsAll (is ++ i ∷ []) (σ ++ j ∷ [])
represents_append [] [] i j R r = (r, tt)
represents_append [] (y ∷ σ) i j R r = absurd R
represents_append (x ∷ is) [] i j R r = absurd R
represents_append (x ∷ is) (y ∷ σ) i j R r = (R.0, represents_append is σ i j R.1 r)

-- every instance is changed on both sides
pub represents_map : (f : Instance → Instance) (g : Inst → Inst)
    → ((i : Instance) (j : Inst) → RepresentsInst i j → RepresentsInst (f i) (g j))
    → (is : List Instance) (σ : List Inst) → RepresentsAll is σ → RepresentsAll (map f is) (map g σ)
represents_map f g h [] [] R = tt
represents_map f g h [] (y ∷ σ) R = absurd R
represents_map f g h (x ∷ is) [] R = absurd R
represents_map f g h (x ∷ is) (y ∷ σ) R = (h x y R.0, represents_map f g h is σ R.1)

-- Stacks --------------------------------------------------------------------------

-- taking the values off, or the notes, keeps the length
pub values_length : (χ : List Tagged) → length (values χ) ≡ length χ
unfolding values
values_length χ = length-map χ (λ x. x.is)

-- a stack that stands for one with a value on top has it on top, under some tag
pub top : (P : List Tagged → Type 0) {v : Val} {ψ : List Val} (χ : List Tagged) → values χ ≡ v ∷ ψ
    → ((t : Ty) (χ' : List Tagged) → values χ' ≡ ψ → P (tagged t v ∷ χ')) → P χ
unfolding values
top P [] e h = let z : ◌≡◌ {A = ℕ} 0 1 = cc in absurd (omega arith)
top P {v} (x ∷ χ) e h =
    let f : x.is ≡ v = cc in subst (λ u. P (tagged x.by u ∷ χ)) (sym f) (h x.by χ cc)

-- No commands --------------------------------------------------------------------

-- no commands left, and nil, are one
pub no_code : (n : List Note) (c : Coms) → map erase n ≡ flatten c → (n ≡ []) ↔ (c ≡ nil)
unfolding flatten
no_code [] nil e = (λ x. refl, λ x. refl)
no_code [] (act m c) e = (λ x. cc, λ x. cc)
no_code [] (if_then b c) e = (λ x. cc, λ x. cc)
no_code (n ∷ ns) nil e = (λ x. cc, λ x. cc)
no_code (n ∷ ns) (act m c) e = (λ x. cc, λ x. cc)
no_code (n ∷ ns) (if_then b c) e = (λ x. cc, λ x. cc)

-- no instance of the machine holds commands
abbrev pub Still : List Instance → Type 0
Still is = All (λ i. i.code ≡ []) is

-- no instance holds commands exactly when none of the state does
pub still_done : (is : List Instance) (σ : List Inst) → RepresentsAll is σ → (Still is) ↔ (Done σ)
still_done [] [] R = (λ s. tt, λ s. tt)
still_done [] (y ∷ σ) R = absurd R
still_done (x ∷ is) [] R = absurd R
still_done (x ∷ is) (inst k c χ ξ ∷ σ) R =
    let h = no_code x.code c R.0.1 in
    let r = still_done is σ R.1 in
    (λ s. (h.0 s.0, r.0 s.1), λ s. (h.1 s.0, r.1 s.1))

-- One state ----------------------------------------------------------------------

-- instances stand for one list of instances of a state
pub represents_all_unique : (is : List Instance) (σ τ : List Inst) → RepresentsAll is σ → RepresentsAll is τ → σ ≡ τ
represents_all_unique [] [] [] R Q = refl
represents_all_unique [] [] (z ∷ τ) R Q = absurd Q
represents_all_unique [] (y ∷ σ) τ R Q = absurd R
represents_all_unique (x ∷ is) [] τ R Q = absurd R
represents_all_unique (x ∷ is) (y ∷ σ) [] R Q = absurd Q
represents_all_unique (x ∷ is) (inst k c χ ξ ∷ σ) (inst j d ψ η ∷ τ) R Q =
    let h = represents_all_unique is σ τ R.1 Q.1 in
    let a = R.0 in
    let b = Q.0 in
    let e = flatten_injective c d (sym a.1 ∙ b.1) in
    cc

-- a machine stands for at most one state
pub represents_unique : (m : Machine) (st st' : State) → Represents m st → Represents m st' → st ≡ st'
represents_unique m (state s σ b) (state t τ c) R Q =
    let h = represents_all_unique m.instances σ τ R.1 Q.1 in
    cc
