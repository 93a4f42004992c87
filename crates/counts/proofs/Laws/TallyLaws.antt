-- The counting gives the numbers of the definition, from any machine (02 §14). No invariant is asked: a command without a rule counts nothing on
-- both sides.
use Rattle.std.specs.Prelude.{ℕ, zero, suc, ◌<◌, refl, Bool, ◌↔◌, ◌⊎◌}
use Rattle.std.proofs.Common.{arith, sym, ap, subst, ◌∙◌, inl, inr, ⊎_elim}
use Rattle.std.proofs.Math.Path.{◌≡◌}
use Rattle.std.proofs.Math.Bool.{true, false}
use Rattle.std.proofs.Math.Option.{Option, none, some}
use mathlib.Core.List.Memᴰ
use mathlib.Core.List.{List, [], ◌∷◌, ◌++◌, Memᴰ}
use Rattle.std.proofs.Math.ListN.{get_elem?}
use Rattle.types.specs.Values.{Val, Val.int_val, Val.nat_val, Val.bool_val, Val.label}
use Rattle.program.specs.Tree.{Program}
use Rattle.machine.specs.Published.{lookup, State, State.state}
use Rattle.machine.specs.Rules.{Actor.instance, Rule}
use Rattle.machine.specs.Machine.{Instance, Machine, Out, Out.next, Out.refused, Out.stuck, command}
use Rattle.machine.specs.Measure.{codes}
use Rattle.machine.proofs.Laws.MeasureLaws.{command_shortens}
use Rattle.machine.specs.Represents.{values, Represents}
use Rattle.machine.proofs.Laws.RepresentsLaws.{instance_at, inst_at}
use Rattle.machine.proofs.Laws.CommandAgrees.{command_follows, command_complete, command_full, command_exceeded, command_numbers, command_stuck}
use Rattle.machine.proofs.Laws.RuleUnique.{rule_unique, rule_not_full, rule_not_exceeded}
use Rattle.run.specs.Holders.{flags}
use Rattle.run.specs.Runs.{Due}
use Rattle.sound.proofs.Laws.ElemLaws.{none_some, some_is}
use Rattle.orders.specs.Orders.{Ordered, Ordered.no_turn, Ordered.a_turn, Refused}
use Rattle.counts.specs.Numbers.{Distinct, Number}
use Rattle.counts.specs.Counts.{Is, Ends, Stops, Counts}
use Rattle.counts.specs.Tally.{Kind, Kind.ends, Kind.stops, value_in, value_at, one_if, at_rest, at_refusal, after, holding, tally_by, tally_with, tally}
use Rattle.counts.proofs.Laws.NumberLaws.{number_same, number_none, number_single, Begins, number_begins, head_is, rest_is}
use Rattle.counts.proofs.Laws.HoldingLaws.{Holds, rule_holds, refused_holds, labels_distinct, holds_listed, none_due, due_none}

-- Sequences -----------------------------------------------------------------------------------

-- the sequences of a kind
abbrev pub Seq : Program → State → ℕ → ℕ → Kind → List ℕ → Type 0
Seq p st l v (ends t) ls = Ends p st l v t ls
Seq p st l v stops ls = Stops p st ls

ordered_none : {p : Program} {st z : State} → Ordered p st [] z → st ≡ z
ordered_none no_turn = refl

ordered_more : {p : Program} {st z : State} {h : ℕ} {ks : List ℕ} → Ordered p st (h ∷ ks) z → (st' : State) × (Rule p (instance h) st st') × (Ordered p st' ks z)
ordered_more (a_turn {st' = st'} r o) = (st', r, o)

-- a sequence that stops: at once, or after a command
stops_ways : {p : Program} {st : State} {h : ℕ} {ks : List ℕ} → Stops p st (h ∷ ks)
    → ((ks ≡ []) × (Refused h st)) ⊎ ((st' : State) × (Rule p (instance h) st st') × (Stops p st' ks))
stops_ways {p} {st} {h} {ks} s = go s.before s.parts s.taken
  where
    go : (js : List ℕ) → h ∷ ks ≡ js ++ s.label ∷ [] → Ordered p st js s.last
        → ((ks ≡ []) × (Refused h st)) ⊎ ((st' : State) × (Rule p (instance h) st st') × (Stops p st' ks))
    go [] e o = inl (rest_is e, subst (λ z. Refused h z) (sym (ordered_none o)) (subst (λ k. Refused k s.last) (sym (head_is e)) s.refused))
    go (j ∷ js) e o =
        let (st', r, u) = ordered_more o in
        inr (
          st',
          subst (λ k. Rule p (instance k) st st') (sym (head_is e)) r,
          record { before = js; label = s.label; last = s.last; parts = rest_is e; taken = u; refused = s.refused },
        )

stops_none : {p : Program} {st : State} → Stops p st [] → ⊥
stops_none s = go s.before s.parts
  where
    go : (js : List ℕ) → [] ≡ js ++ s.label ∷ [] → ⊥
    go [] e = let q : ◌≡◌ {A = ℕ} 0 1 = cc in omega arith
    go (j ∷ js) e = let q : ◌≡◌ {A = ℕ} 0 1 = cc in omega arith

-- The value asked for ---------------------------------------------------------------------------

is_value : (m : Machine) (st : State) → Represents m st → (l v : ℕ) (t : Bool) → Is st l v t → value_at m l v ≡ some (bool_val t)
unfolding value_in
is_value m (state s σ b) R l v t (k, c, χ, ξ, g, e) =
    let (i, f, r) = instance_at m.instances σ l R.1 g in ap (value_in v) f ∙ ap (λ x. lookup x v) r.3 ∙ e

value_some : (v : ℕ) (o : Option Instance) {x : Val} → value_in v o ≡ some x → (i : Instance) × (o ≡ some i) × (lookup i.env v ≡ some x)
unfolding value_in
value_some v none e = none_some e
value_some v (some i) e = (i, refl, e)

value_is : (m : Machine) (st : State) → Represents m st → (l v : ℕ) (t : Bool) → value_at m l v ≡ some (bool_val t) → Is st l v t
value_is m (state s σ b) R l v t e =
    let (i, f, q) = value_some v (get_elem? m.instances l) e in
    let (c, g, h) = inst_at m.instances σ l R.1 f in
    (i.struct, c, values i.stack, i.env, g, q)

other_value : {x y : Val} {X : Type 0} → some x ≡ some y → (x ≡ y → ⊥) → X
other_value e h = absurd (h (some_is e))

module _ {P : List ℕ → Type 0} (empty : (ls : List ℕ) → P ls → ls ≡ []) where
  no_one : {x : Option Val} {t : Bool} → (P [] → x ≡ some (bool_val t)) → (x ≡ some (bool_val t) → ⊥) → Number P 0
  no_one f h = number_none (λ ls q. h (f (subst P (empty ls q) q)))

  one_number : (t : Bool) (x : Option Val) → (P [] ↔ (x ≡ some (bool_val t))) → Number P (one_if t x)
  unfolding one_if
  one_number t none f = no_one f.0 (λ e. none_some e)
  one_number t (some (int_val z)) f = no_one f.0 (λ e. let q = some_is e in let z : ◌≡◌ {A = ℕ} 0 1 = cc in omega arith)
  one_number t (some (nat_val n)) f = no_one f.0 (λ e. let q = some_is e in let z : ◌≡◌ {A = ℕ} 0 1 = cc in omega arith)
  one_number true (some (bool_val true)) f = number_single [] (f.1 refl) empty
  one_number true (some (bool_val false)) f = no_one f.0 (λ e. let q = some_is e in let z : ◌≡◌ {A = ℕ} 0 1 = cc in omega arith)
  one_number false (some (bool_val true)) f = no_one f.0 (λ e. let q = some_is e in let z : ◌≡◌ {A = ℕ} 0 1 = cc in omega arith)
  one_number false (some (bool_val false)) f = number_single [] (f.1 refl) empty
  one_number t (some (label r)) f = no_one f.0 (λ e. let q = some_is e in let z : ◌≡◌ {A = ℕ} 0 1 = cc in omega arith)

-- Nobody holds commands -----------------------------------------------------------------------------

module _ (p : Program) (m : Machine) (st : State) (R : Represents m st) (l v : ℕ) where
  module _ (e : holding m ≡ []) where
    no_holder : (h : ℕ) → Holds h m → ⊥
    no_holder h x = Memᴰ.not-nil (subst (λ hs. Memᴰ h hs) e (holds_listed m h x))

    only_empty : (t : Bool) (ls : List ℕ) → Ends p st l v t ls → ls ≡ []
    only_empty t [] x = refl
    only_empty t (h ∷ ks) x = let (st', r, o) = ordered_more x.completes.0 in absurd (no_holder h (rule_holds p m st R r))

    never_stops : (ls : List ℕ) → Stops p st ls → ⊥
    never_stops [] x = stops_none x
    never_stops (h ∷ ks) x =
        ⊎_elim (λ y. no_holder h (refused_holds p m st R y.1)) (λ (st', r, t). no_holder h (rule_holds p m st R r)) (stops_ways x)

    at_end : (t : Bool) → (Ends p st l v t []) ↔ (value_at m l v ≡ some (bool_val t))
    at_end t = (
      λ x. is_value m st R l v t (subst (λ s. Is s l v t) (sym (ordered_none x.completes.0)) x.is),
      λ q. record { last = st; completes = (no_turn, none_due m st R e); is = value_is m st R l v t q },
    )

    rest_number : (κ : Kind) → Number (Seq p st l v κ) (at_rest κ (value_at m l v))
    unfolding at_rest
    rest_number (ends t) = one_number (only_empty t) t (value_at m l v) (at_end t)
    rest_number stops = number_none never_stops

  -- One label more -----------------------------------------------------------------------------------

  -- after a command
  later : (κ : Kind) {h : ℕ} {st' : State} → Rule p (instance h) st st' → (ks : List ℕ) → (Seq p st' l v κ ks) ↔ (Seq p st l v κ (h ∷ ks))
  later (ends t) {h} {st'} r ks = (
    λ x. record { last = x.last; completes = (a_turn r x.completes.0, x.completes.1); is = x.is },
    λ x.
        let (st'', q, o) = ordered_more x.completes.0 in
        record { last = x.last; completes = (subst (λ s. Ordered p s ks x.last) (rule_unique p (instance h) q r) o, x.completes.1); is = x.is },
  )
  later stops {h} {st'} r ks = (
    λ s. record {
      before = h ∷ s.before;
      label = s.label;
      last = s.last;
      parts = ap {B = List ℕ} (λ y. h ∷ y) s.parts;
      taken = a_turn r s.taken;
      refused = s.refused;
    },
    λ x.
        ⊎_elim (λ y. absurd (⊎_elim (λ f. rule_not_full p r f) (λ f. rule_not_exceeded p r f) y.1))
        (λ (st'', q, t). subst (λ s. Stops p s ks) (rule_unique p (instance h) q r) t) (stops_ways x),
  )

  -- where the command gives no next machine
  module _ (h : ℕ) (none : (m' : Machine) → command p h m ≡ next m' → ⊥) where
    no_rule : {st' : State} → Rule p (instance h) st st' → ⊥
    no_rule r = let (m', e, Q) = command_complete p h m R r in none m' e

    never_ends : (t : Bool) (ks : List ℕ) → Ends p st l v t (h ∷ ks) → ⊥
    never_ends t ks x = let (st', r, o) = ordered_more x.completes.0 in no_rule r

    stops_here : (ks : List ℕ) → Stops p st (h ∷ ks) → (ks ≡ []) × (Refused h st)
    stops_here ks x = ⊎_elim (λ y. y) (λ (st', r, t). absurd (no_rule r)) (stops_ways x)

  refused_not : {n : ℕ} {o : Out} → o ≡ refused n → (m' : Machine) → o ≡ next m' → ⊥
  refused_not e m' f = let z : ◌≡◌ {A = ℕ} 0 1 = cc in omega arith

  stuck_not : {o : Out} → o ≡ stuck → (m' : Machine) → o ≡ next m' → ⊥
  stuck_not e m' f = let z : ◌≡◌ {A = ℕ} 0 1 = cc in omega arith

  is_refused : (h n : ℕ) → command p h m ≡ refused n → Refused h st
  is_refused h n e =
      ⊎_elim (λ q. inl ((command_full p h m st R).0 (e ∙ ap refused q))) (λ q. inr ((command_exceeded p h m st R).0 (e ∙ ap refused q)))
      (command_numbers p h m st R e)

  refusal_number : (κ : Kind) (h n : ℕ) → command p h m ≡ refused n → Number (λ ks. Seq p st l v κ (h ∷ ks)) (at_refusal κ)
  unfolding at_refusal
  refusal_number (ends t) h n e = number_none (never_ends h (refused_not e) t)
  refusal_number stops h n e =
      number_single [] (record { before = []; label = h; last = st; parts = refl; taken = no_turn; refused = is_refused h n e }) (λ ks x. (stops_here h (refused_not e) ks x).0)

  stuck_number : (κ : Kind) (h : ℕ) → command p h m ≡ stuck → Number (λ ks. Seq p st l v κ (h ∷ ks)) 0
  stuck_number (ends t) h e = number_none (never_ends h (stuck_not e) t)
  stuck_number stops h e =
      let (a, b, c) = (command_stuck p h m st R).0 e in
      number_none (λ ks x. ⊎_elim b c (stops_here h (stuck_not e) ks x).1)

  module _ (κ : Kind) (F : Machine → ℕ) (rec : (m' : Machine) (st' : State) → Represents m' st' → codes m'.instances < codes m.instances → Number (Seq p st' l v κ) (F m')) where
    step_number : (h : ℕ) (o : Out) → command p h m ≡ o → Number (λ ks. Seq p st l v κ (h ∷ ks)) (after κ F o)
    unfolding after
    step_number h (next m') e =
        let (st', r, Q) = command_follows p h m st R e in number_same (later κ r) (rec m' st' Q (command_shortens p h m e))
    step_number h (refused n) e = refusal_number κ h n e
    step_number h stuck e = stuck_number κ h e

  first_holds : (κ : Kind) (h : ℕ) (ks : List ℕ) → Seq p st l v κ (h ∷ ks) → Memᴰ h (holding m)
  first_holds (ends t) h ks x = let (st', r, o) = ordered_more x.completes.0 in holds_listed m h (rule_holds p m st R r)
  first_holds stops h ks x =
      holds_listed m h (⊎_elim (λ y. refused_holds p m st R y.1) (λ (st', r, t). rule_holds p m st R r) (stops_ways x))

  not_empty : (κ : Kind) → (holding m ≡ [] → ⊥) → Seq p st l v κ [] → ⊥
  not_empty (ends t) h x = h (due_none m st R (subst Due (sym (ordered_none x.completes.0)) x.completes.1))
  not_empty stops h x = stops_none x

-- by the list of holders
begun : {P : List ℕ → Type 0} {hs : List ℕ} → (P [] → ⊥) → ((h : ℕ) (ks : List ℕ) → P (h ∷ ks) → Memᴰ h hs) → (ls : List ℕ) → P ls → Begins hs P ls
begun never among [] x = absurd (never x)
begun never among (h ∷ ks) x = record { head = h; rest = ks; among = among h ks x; parts = refl; has = x }

by_holders : (P : List ℕ → Type 0) (f : ℕ → ℕ) (r : ℕ) (hs : List ℕ) → Distinct hs → (hs ≡ [] → Number P r) → ((hs ≡ [] → ⊥) → P [] → ⊥)
    → ((h : ℕ) (ks : List ℕ) → P (h ∷ ks) → Memᴰ h hs) → ((h : ℕ) → Number (λ ks. P (h ∷ ks)) (f h)) → Number P (tally_by f r hs)
unfolding tally_by
by_holders P f r [] d a b c g = a refl
by_holders P f r (h ∷ hs) d a b c g =
    number_same (λ ls. (λ x. subst P (sym x.parts) x.has, λ x. begun (b (λ e. let z : ◌≡◌ {A = ℕ} 0 1 = cc in omega arith)) c ls x))
    (number_begins P f (h ∷ hs) d (λ k u. g k))

pub tally_number : (f : ℕ) (p : Program) (l v : ℕ) (κ : Kind) (m : Machine) (st : State) → Represents m st → codes m.instances < f
    → Number (Seq p st l v κ) (tally_with f p l v κ m)
unfolding tally_with
tally_number zero p l v κ m st R h = absurd (omega (arith, h))
tally_number (suc f) p l v κ m st R h =
    by_holders (Seq p st l v κ) (λ k. after κ (λ m'. tally_with f p l v κ m') (command p k m)) (at_rest κ (value_at m l v)) (holding m)
    (labels_distinct 0 (flags m.instances))
    (λ e. rest_number p m st R l v e κ)
    (not_empty p m st R l v κ)
    (first_holds p m st R l v κ)
    (λ k.
    step_number p m st R l v κ (λ m'. tally_with f p l v κ m') (λ m' st' Q q. tally_number f p l v κ m' st' Q (omega (arith, h, q))) k (command p k m) refl)

-- the three numbers of the definition, from any machine
pub tally_counts : (p : Program) (l v : ℕ) (m : Machine) (st : State) → Represents m st
    → Counts p st l v (tally p l v (ends true) m) (tally p l v (ends false) m) (tally p l v stops m)
unfolding tally
tally_counts p l v m st R = record {
  true_ones = tally_number (suc (codes m.instances)) p l v (ends true) m st R (omega arith);
  false_ones = tally_number (suc (codes m.instances)) p l v (ends false) m st R (omega arith);
  stops = tally_number (suc (codes m.instances)) p l v stops m st R (omega arith);
}
