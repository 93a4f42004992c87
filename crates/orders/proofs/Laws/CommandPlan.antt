-- Every command of a machine with the invariant that is no cons is a step by a plan.
use Rattle.std.specs.Prelude.{ℕ, ◌<◌, ◌≡◌, refl, Bool, true, false, List, ◌∷◌, ltb}
use Rattle.std.proofs.Common.{arith, sym, ap, subst, ◌∙◌, ltb-true, ltb-false}
use Rattle.std.proofs.Math.Option.{Option, none, some}
use Rattle.std.proofs.Math.ListN.{get_elem?}
use Rattle.types.specs.Types.{Ty, Ty.ref}
use Rattle.types.specs.Values.{Val, Val.label}
use Rattle.program.specs.Tree.{Program}
use Rattle.commands.specs.Noted.{Note, Note.n_wr, Note.n_cons, now_written}
use Rattle.machine.specs.Published.{lookup, structs, arity}
use Rattle.machine.specs.Machine.{Tagged, tagged, Instance, Machine, Out, Out.next, Out.refused, Out.stuck, with_written, acting, Source, command}
use Rattle.machine.specs.Performed.{Reads, Reads.parameter, Reads.of_local, Writes, Writes.to_parameter, Writes.to_local, Performed, Performed.pushed}
use Rattle.machine.specs.Performed.{Performed.pushed_this, Performed.negated, Performed.read_one, Performed.skipped, Performed.wrote, Performed.calculated}
use Rattle.machine.specs.Performed.{Performed.exceeding, Performed.constructed, Performed.filled, Performed.branched, Performed.no_way}
use Rattle.machine.proofs.Laws.PerformedLaws.{by_ways}
use Rattle.sound.specs.Firm.{Firm}
use Rattle.sound.specs.Invariant.{Good}
use Rattle.sound.specs.Needs.{ValueAmong, Needs, NextReady}
use Rattle.sound.proofs.Laws.ReadyLaws.{good_right}
use Rattle.sound.proofs.Laws.ElemLaws.{some_is}
use Rattle.orders.specs.Deeds.{Deed}
use Rattle.orders.proofs.Laws.Plans.{Plan, applied, Plans, Plans.p_push, Plans.p_this, Plans.p_not, Plans.p_if, Plans.p_op, Plans.p_rd, Plans.p_get}
use Rattle.orders.proofs.Laws.Plans.{Plans.p_set, Plans.p_skip, Plans.p_wr}
use Rattle.orders.proofs.Laws.Swap.{Step}
use Rattle.orders.proofs.Laws.PlanCommand.{plan_command}

-- a number from the state is no machine
pub refused_next {ℓ} : {X : Type ℓ} {n : ℕ} {m : Machine} → refused n ≡ next m → X
refused_next e = let z : ◌≡◌ {A = ℕ} 0 1 = cc in absurd (omega arith)

pub stuck_next {ℓ} : {X : Type ℓ} {m : Machine} → stuck ≡ next m → X
stuck_next e = let z : ◌≡◌ {A = ℕ} 0 1 = cc in absurd (omega arith)

pub next_is : {m n : Machine} → next m ≡ next n → m ≡ n
next_is e = cc

label_is : {a b : ℕ} → label a ≡ label b → a ≡ b
label_is e = cc

-- the next command of instance l, which is i, has a plan
abbrev pub Planned : Program → Machine → ℕ → Instance → Type 0
Planned p m l i = (d : Deed) × (P : Plan) × (Plans p m.instances l i d P)

top : {xs ys zs : List Tagged} {a b : Tagged} → zs ≡ a ∷ xs → zs ≡ b ∷ ys → a ≡ b
top s h = cc

module _ (p : Program) (firm : Firm p) (m : Machine) (l : ℕ) (i : Instance) (at : get_elem? m.instances l ≡ some i) where
  -- a read
  reads_plan : (n : Note) {v q : ℕ} {o : ℕ → Source} {u : Ty} {χ : List Tagged} {j : Instance} {x : Val} {r : List Note} → i.code ≡ n ∷ r
      → Needs p m l i n → Reads n v o
      → i.stack ≡ tagged u (label q) ∷ χ → get_elem? m.instances q ≡ some j → lookup j.env v ≡ some x → Planned p m l i
  reads_plan n e need (parameter {k = k}) s g f =
      let (y, (χ', h), k', o) = need in (_, _, p_rd e s refl g f (omega (arith, firm.few k, k')) refl)
  reads_plan n {q = q} e need of_local s g f =
      let (y, (χ', h), (b, o), w) = need in
      let same : q ≡ l = label_is (ap (λ z. z.is) (top s h) ∙ o) in
      let z = some_is (sym (rw same at g) ∙ at) in
      (_, _, p_get e (rw same at s) refl (rw z at f))

  -- a write that is dropped
  skips_plan : (n : Note) {v q : ℕ} {u : Ty} {y : Tagged} {χ : List Tagged} {j : Instance} {r : List Note} → i.code ≡ n ∷ r → Writes n v
      → i.stack ≡ tagged u (label q) ∷ y ∷ χ → get_elem? m.instances q ≡ some j → q < structs p → v < arity p j.struct → Planned p m l i
  skips_plan n e to_parameter s g z h = (_, _, p_skip e s refl g z h)
  skips_plan n {j = j} e to_local s g z h = absurd (omega (arith, firm.few j.struct, h))

  -- one to a parameter
  stores_plan : (k v : ℕ) {q : ℕ} {u : Ty} {y : Tagged} {χ : List Tagged} {j : Instance} {r : List Note} → i.code ≡ n_wr k v ∷ r
      → i.stack ≡ tagged u (label q) ∷ y ∷ χ → get_elem? m.instances q ≡ some j → v < arity p j.struct
      → (q < structs p → v < arity p j.struct → ⊥) → (v < arity p j.struct → lookup j.env v ≡ none → ⊥) → Planned p m l i
  stores_plan k v {q} {j = j} e s g h never some_value = go (ltb q (structs p)) refl (lookup j.env v) refl
    where
      go : (b : Bool) → ltb q (structs p) ≡ b → (o : Option Val) → lookup j.env v ≡ o → Planned p m l i
      go true t o f = absurd (never (ltb-true q (structs p) t) h)
      go false t none f = absurd (some_value h f)
      go false t (some z) f = (_, _, p_wr e s refl g (ltb-false q (structs p) t) h (omega (arith, firm.few j.struct, h)) f refl)

  -- the label on top is of the struct that the path has reached
  reached : (k : ℕ) (y : Tagged) {q : ℕ} {j : Instance} → get_elem? m.instances q ≡ some j → y.is ≡ label q → ValueAmong m.instances (ref k) y.is
      → j.struct ≡ k
  reached k y {q} g e o =
      let (n, f, w) : ValueAmong m.instances (ref k) (label q) = rw e at o in
      ap (λ z. z.struct) (some_is (sym g ∙ f)) ∙ w

  writes_plan : (n : Note) {v q : ℕ} {u : Ty} {y : Tagged} {χ : List Tagged} {j : Instance} {r : List Note} → i.code ≡ n ∷ r → Needs p m l i n → Writes n v
      → i.stack ≡ tagged u (label q) ∷ y ∷ χ → get_elem? m.instances q ≡ some j
      → (q < structs p → v < arity p j.struct → ⊥) → (v < arity p j.struct → lookup j.env v ≡ none → ⊥) → Planned p m l i
  writes_plan n {q = q} {j = j} e need (to_parameter {k = k} {x = v}) s g never some_value =
      let (x, y, (χ, h), low, (b, o), w) = need in
      let is : y.is ≡ label q = ap (λ z. z.is) (top h s) in
      let same : j.struct ≡ k = reached k y g is o in
      let less : v < arity p j.struct = rw same low in
      stores_plan k v e s g less never some_value
  writes_plan n {q = q} e need (to_local {d = true}) s g never some_value =
      let (a, y, (χ, h), (b, o), w) = need in
      let same : q ≡ l = label_is (ap (λ z. z.is) (top s h) ∙ o) in
      (_, _, p_set e (rw same at s) refl)
  writes_plan n {q = q} e need (to_local {d = false}) s g never some_value =
      let (a, y, (χ, h), (b, o), w, z) = need in
      let same : q ≡ l = label_is (ap (λ z. z.is) (top s h) ∙ o) in
      (_, _, p_set e (rw same at s) refl)

  -- a command that gives a next machine and is no cons
  way_plan : (n : Note) (r : List Note) (o : Out) (m' : Machine) → i.code ≡ n ∷ r → Needs p m l i n → ((k : ℕ) → n ≡ n_cons k → ⊥) → o ≡ next m'
      → Performed p (acting l m) l (with_written i (now_written n i.written)) r n o → Planned p m l i
  way_plan n r o m' e need free q pushed = (_, _, p_push e refl refl)
  way_plan n r o m' e need free q pushed_this = (_, _, p_this e refl refl refl)
  way_plan n r o m' e need free q (negated s) = (_, _, p_not e s refl)
  way_plan n r o m' e need free q (read_one h s g f) = reads_plan n e need h s g f
  way_plan n r o m' e need free q (skipped h s g z k) = skips_plan n e h s g z k
  way_plan n r o m' e need free q (wrote h s g z k) = writes_plan n e need h s g z k
  way_plan n r o m' e need free q (calculated s v) = (_, _, p_op e s refl v)
  way_plan n r o m' e need free q (exceeding s v) = refused_next q
  way_plan n r o m' e need free q (constructed {k = k} a b) = absurd (free k refl)
  way_plan n r o m' e need free q (filled a) = refused_next q
  way_plan n r o m' e need free q (branched s) = (_, _, p_if e s refl)
  way_plan n r o m' e need free q no_way = stuck_next q

-- every next command of a machine with the invariant that is no cons and is not refused is a step, after which counting goes on
pub command_step : {p : Program} → Firm p → {m : Machine} → Good p m → (l : ℕ) {m' : Machine} → command p l m ≡ next m'
    → ((i : Instance) (k : ℕ) (c : List Note) → get_elem? m.instances l ≡ some i → i.code ≡ n_cons k ∷ c → ⊥)
    → (d : Deed) × (n : Machine) × (Step p l m d n) × (m' ≡ acting l n)
command_step {p} firm {m} good l {m'} e free =
    by_ways (λ o. (o ≡ next m') → (d : Deed) × (n : Machine) × (Step p l m d n) × (m' ≡ acting l n)) p m l (λ q. stuck_next q)
    (λ i n r o at f w q.
    let ready : Needs p m l i n = subst (λ c. NextReady p m l i c) f ((good_right firm good).ready l i at) in
    let (d, P, x) = way_plan p firm m l i at n r o m' f ready (λ k h. free i k r at (f ∙ ap (λ z. z ∷ r) h)) q w in
    (d, applied m l P, record { actor = i; plan = P; at = at; plans = x; is = refl }, next_is (sym e ∙ plan_command p m l i at firm x)))
    e
