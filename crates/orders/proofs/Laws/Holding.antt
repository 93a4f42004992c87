-- The steps of a machine commute where their deeds do not clash (02 §11).
use Rattle.std.specs.Prelude.{ℕ, zero, suc, ◌≡◌, Bool, true, false, List, [], ◌∷◌, drop}
use Rattle.std.proofs.Math.Decide.{ℕ_discrete}
use Rattle.std.proofs.Common.{arith, sym, ap, ◌∙◌}
use Rattle.std.proofs.Math.Path.{refl, subst}
use Rattle.std.proofs.Math.Option.{some}
use Rattle.std.proofs.Math.ListN.{get_elem?}
use Rattle.program.specs.Tree.{Program}
use Rattle.commands.specs.Noted.{Note, Note.n_cons}
use Rattle.machine.specs.Machine.{Instance, Machine, acting}
use Rattle.sound.specs.Firm.{Firm}
use Rattle.sound.specs.Invariant.{Good}
use Rattle.sound.proofs.Laws.Advance.{Kept}
use Rattle.sound.proofs.Laws.CommandKept.{command_kept, Refused}
use Rattle.sound.proofs.Laws.ElemLaws.{some_is}
use Rattle.orders.specs.Deeds.{Deed, Clash}
use Rattle.orders.proofs.Laws.Commuting.{Commuting}
use Rattle.orders.proofs.Laws.Alter.{alter, at_alter_same, at_alter_other}
use Rattle.orders.proofs.Laws.Plans.{owned, store, Plan, Plan.keeps, Plan.stores, Plans, Plans.p_push, Plans.p_this, Plans.p_not, Plans.p_if, Plans.p_op}
use Rattle.orders.proofs.Laws.Plans.{Plans.p_rd, Plans.p_get, Plans.p_set, Plans.p_skip, Plans.p_wr, made}
use Rattle.orders.proofs.Laws.Swap.{near_made, Step, swap}
use Rattle.orders.proofs.Laws.PlanCommand.{step_command}
use Rattle.orders.proofs.Laws.CommandPlan.{next_is}

-- instance l holds commands
abbrev pub Holds : ℕ → Machine → Type 0
Holds l m = (i : Instance) × (get_elem? m.instances l ≡ some i) × (i.code ≡ [] → ⊥)

-- the machine with its counting from n; the invariant does not see it
abbrev pub counted : ℕ → Machine → Machine
counted n m = record { sched = m.sched; instances = m.instances; stability = m.stability; from = n }

pub good_counted : {p : Program} (n : ℕ) (m : Machine) → Good p m → Good p (counted n m)
good_counted n m g = record { runs = g.runs; all = g.all; running = g.running; opened = g.opened; left = g.left }

-- nothing is asked of the machines between: a step says what it found
abbrev pub Any : Machine → Type 0
Any m = Unit {0}

pub some_code : {p : Program} {is : List Instance} {l : ℕ} {i : Instance} {d : Deed} {P : Plan} → Plans p is l i d P
    → (n : Note) × (c : List Note) × (i.code ≡ n ∷ c)
some_code (p_push a b c) = (_, _, a)
some_code (p_this a b c e) = (_, _, a)
some_code (p_not a b c) = (_, _, a)
some_code (p_if a b c) = (_, _, a)
some_code (p_op a b c e) = (_, _, a)
some_code (p_rd a b c e f g s) = (_, _, a)
some_code (p_get a b c e) = (_, _, a)
some_code (p_set a b c) = (_, _, a)
some_code (p_skip a b c e f g) = (_, _, a)
some_code (p_wr a b c e f g h k s) = (_, _, a)

pub filled_code : {b : List Note} {n : Note} {c : List Note} → b ≡ n ∷ c → b ≡ [] → ⊥
filled_code e f = let z : ◌≡◌ {A = ℕ} 0 1 = cc in omega arith

module _ {p : Program} (firm : Firm p) where
  holds_on : {m m₁ : Machine} {a l : ℕ} {d : Deed} → Holds l m → (a ≡ l → ⊥) → Step p a m d m₁ → Holds l m₁
  holds_on {m} {m₁} {a} {l} {d} (i, e, h) q s =
      let (j, f, c) = (near_made s.plans).there l i e in
      (j, ap (λ x. get_elem? x.instances l) s.is ∙ f, λ z. h (c.code (λ r. q (sym r)) ∙ z))

  one_next : {m m₁ m₂ : Machine} {a : ℕ} {d e : Deed} → Step p a m d m₁ → Step p a m e m₂ → m₁ ≡ m₂
  one_next {m} {a = a} s t =
      let q = ap (counted m.from) (next_is (sym (step_command firm s) ∙ step_command firm t)) in
      s.is ∙ sym (ap (counted m.from) s.is) ∙ q ∙ ap (counted m.from) t.is ∙ sym t.is

  pub commuting : Commuting (Step p) Holds Any Clash
  commuting = record {
    swap = λ i q s t n. swap q s t n;
    holding = λ h q s. holds_on h q s;
    kept = λ i s. tt;
    acts = λ s. let (n, c, e) = some_code s.plans in (s.actor, s.at, filled_code e);
    one = λ s t. one_next s t;
  }

-- no cons among these commands; in no instance's
unfoldable pub NoCons : List Note → Type 0
NoCons [] = Unit {0}
NoCons (n ∷ c) = ((k : ℕ) → n ≡ n_cons k → ⊥) × (NoCons c)

abbrev pub MakesNone : Machine → Type 0
MakesNone m = (l : ℕ) (i : Instance) → get_elem? m.instances l ≡ some i → NoCons i.code

no_cons_drop : (n : ℕ) (c : List Note) → NoCons c → NoCons (drop n c)
unfolding NoCons
no_cons_drop zero c h = h
no_cons_drop (suc n) [] h = tt
no_cons_drop (suc n) (x ∷ c) h = no_cons_drop n c h.1

rest_free : {b : List Note} {n : Note} {c : List Note} → b ≡ n ∷ c → NoCons b → NoCons c
unfolding NoCons
rest_free {b} {n} {c} e h = let r : NoCons (n ∷ c) = subst NoCons e h in r.1

abbrev code_left : Plan → List Note
code_left (keeps o) = o.code
code_left (stores o q v x su) = o.code

if_free : (b : Bool) (n : ℕ) (c : List Note) → NoCons c → NoCons (elim b [ true ↦ c | false ↦ drop n c ])
if_free true n c h = h
if_free false n c h = no_cons_drop n c h

left_free : {p : Program} {is : List Instance} {l : ℕ} {i : Instance} {d : Deed} {P : Plan} → Plans p is l i d P → NoCons i.code → NoCons (code_left P)
left_free (p_push a b c) h = rest_free a h
left_free (p_this a b c e) h = rest_free a h
left_free (p_not a b c) h = rest_free a h
left_free (p_if {n = n} {b = t} {c = r} a b c) h = if_free t n r (rest_free a h)
left_free (p_op a b c e) h = rest_free a h
left_free (p_rd a b c e f g s) h = rest_free a h
left_free (p_get a b c e) h = rest_free a h
left_free (p_set a b c) h = rest_free a h
left_free (p_skip a b c e f g) h = rest_free a h
left_free (p_wr a b c e f g h k s) n = rest_free a n

-- the code of the actor after its command
code_there : (is : List Instance) (l : ℕ) (i : Instance) (P : Plan) → get_elem? is l ≡ some i → (j : Instance) → get_elem? (made is l P) l ≡ some j
    → j.code ≡ code_left P
code_there is l i (keeps o) at j g = ap (λ x. x.code) (some_is (sym g ∙ at_alter_same is l (owned o) i at))
code_there is l i (stores o q v x su) at j g = stored (ℕ_discrete l q)
  where
    stored : Dec (l ≡ q) → j.code ≡ o.code
    stored (yes e) =
        let f = at_alter_same (alter is l (owned o)) l (store v x) (owned o i) (at_alter_same is l (owned o) i at) in
        let h = subst (λ r. get_elem? (alter (alter is l (owned o)) r (store v x)) l ≡ some j) (sym e) g in
        ap (λ y. y.code) (some_is (sym h ∙ f))
    stored (no e) = ap (λ y. y.code) (some_is (sym g ∙ at_alter_other (alter is l (owned o)) q l (store v x) e ∙ at_alter_same is l (owned o) i at))

module _ {p : Program} (firm : Firm p) where
  -- a step makes no commands that construct
  pub free_kept : {m m' : Machine} {l : ℕ} {d : Deed} → Step p l m d m' → MakesNone m → MakesNone m'
  free_kept {m} {m'} {l} s h k j g = go (ℕ_discrete k l)
    where
      here : get_elem? (made m.instances l s.plan) k ≡ some j
      here = subst (λ x. get_elem? x.instances k ≡ some j) s.is g

      go : Dec (k ≡ l) → NoCons j.code
      go (yes e) =
          let f = subst (λ x. get_elem? (made m.instances l s.plan) x ≡ some j) e here in
          subst NoCons (sym (code_there m.instances l s.actor s.plan s.at j f)) (left_free s.plans (h l s.actor s.at))
      go (no e) =
          let (i, f, c) = (near_made s.plans).back k j here in
          subst NoCons (sym (c.code e)) (h k i f)

  pub heads_free : (m : Machine) → MakesNone m → (l : ℕ) (i : Instance) (k : ℕ) (c : List Note) → get_elem? m.instances l ≡ some i
      → i.code ≡ n_cons k ∷ c → ⊥
  unfolding NoCons
  heads_free m h l i k c at e = let r : NoCons (n_cons k ∷ c) = subst NoCons e (h l i at) in r.0 k refl

  -- and keeps the invariant
  pub good_kept : {m m' : Machine} {l : ℕ} {d : Deed} → Good p m → Step p l m d m' → Good p m'
  good_kept {m} {m'} {l} good s =
      let (n, c, f) = some_code s.plans in
      let k = command_kept firm good l s.actor s.at n c f in
      let g : Good p (acting l m') = subst (Kept p Refused) (step_command firm s) k in
      good_counted m'.from (acting l m') g
