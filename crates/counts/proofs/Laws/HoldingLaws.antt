-- Who holds commands (02 §14): those who take a command or are refused one, and each of them once.
use Rattle.std.specs.Prelude.{ℕ, zero, suc, ◌+◌, ◌≤◌, ◌≡◌, refl, Bool, true, false}
use Rattle.std.proofs.Common.{arith, ap, subst, ◌∙◌, inl, inr, ⊎_elim}
use Rattle.std.proofs.Math.Option.{some}
use mathlib.Core.List.Memᴰ
use mathlib.Core.List.{List, [], ◌∷◌, Memᴰ}
use Rattle.std.proofs.Math.ListN.{get_elem?}
use Rattle.program.specs.Tree.{Program}
use Rattle.program.specs.Counts.{All}
use Rattle.commands.specs.Noted.{Note}
use Rattle.machine.specs.Published.{State, State.state}
use Rattle.machine.specs.Rules.{Actor.instance, Rule}
use Rattle.machine.specs.Machine.{Instance, Machine, Out, Out.next, Out.refused, Out.stuck, command}
use Rattle.machine.specs.Represents.{Represents}
use Rattle.machine.proofs.Laws.RepresentsLaws.{Still, still_done}
use Rattle.machine.proofs.Laws.PerformedLaws.{by_ways}
use Rattle.machine.proofs.Laws.CommandAgrees.{command_complete, command_full, command_exceeded}
use Rattle.run.specs.Turns.{labels_from}
use Rattle.run.specs.Holders.{holds_code, flag, flags}
use Rattle.run.specs.Runs.{Due}
use Rattle.run.proofs.Laws.TurnLaws.{labels_none, map_at}
use Rattle.sound.proofs.Laws.ElemLaws.{none_some, some_is}
use Rattle.orders.specs.Orders.{Refused}
use Rattle.counts.specs.Numbers.{Distinct}
use Rattle.counts.specs.Tally.{holding}

-- instance l holds commands
abbrev pub Holds : ℕ → Machine → Type 0
Holds l m = (i : Instance) × (get_elem? m.instances l ≡ some i) × (i.code ≡ [] → ⊥)

filled : {c : List Note} {n : Note} {r : List Note} → c ≡ n ∷ r → c ≡ [] → ⊥
filled e f = let z : ◌≡◌ {A = ℕ} 0 1 = cc in omega arith

abbrev HoldsUnless : ℕ → Machine → Out → Type 0
HoldsUnless l m (next m') = Holds l m
HoldsUnless l m (refused n) = Holds l m
HoldsUnless l m stuck = Unit {0}

any_holds : (l : ℕ) (m : Machine) (o : Out) → Holds l m → HoldsUnless l m o
any_holds l m (next m') h = h
any_holds l m (refused n) h = h
any_holds l m stuck h = tt

-- whose command comes to something holds commands
acting_holds : (p : Program) (l : ℕ) (m : Machine) → HoldsUnless l m (command p l m)
acting_holds p l m = by_ways (HoldsUnless l m) p m l tt (λ i n r o g e w. any_holds l m o (i, g, filled e))

module _ (p : Program) (m : Machine) (st : State) (R : Represents m st) where
  pub rule_holds : {l : ℕ} {st' : State} → Rule p (instance l) st st' → Holds l m
  rule_holds {l} r = let (m', e, Q) = command_complete p l m R r in subst (HoldsUnless l m) e (acting_holds p l m)

  pub refused_holds : {l : ℕ} → Refused l st → Holds l m
  refused_holds {l} (inl f) = subst (HoldsUnless l m) ((command_full p l m st R).1 f) (acting_holds p l m)
  refused_holds {l} (inr f) = subst (HoldsUnless l m) ((command_exceeded p l m st R).1 f) (acting_holds p l m)

-- every label listed is one from l on; none is listed twice
labels_over : (l : ℕ) (bs : List Bool) (k : ℕ) → Memᴰ k (labels_from l bs) → l ≤ k
unfolding labels_from
labels_over l [] k u = absurd (Memᴰ.not-nil u)
labels_over l (true ∷ bs) k u = ⊎_elim (λ e. omega (arith, e)) (λ w. omega (arith, labels_over (suc l) bs k w)) (Memᴰ.cases_cons u)
labels_over l (false ∷ bs) k u = omega (arith, labels_over (suc l) bs k u)

pub labels_distinct : (l : ℕ) (bs : List Bool) → Distinct (labels_from l bs)
unfolding labels_from Distinct
labels_distinct l [] = tt
labels_distinct l (true ∷ bs) = (λ u. omega (arith, labels_over (suc l) bs l u), labels_distinct (suc l) bs)
labels_distinct l (false ∷ bs) = labels_distinct (suc l) bs

labels_has : (l : ℕ) (bs : List Bool) (k : ℕ) → get_elem? bs k ≡ some true → Memᴰ (l + k) (labels_from l bs)
unfolding labels_from
labels_has l [] k e = none_some e
labels_has l (true ∷ bs) zero e = let q : l + 0 ≡ l = omega arith in Memᴰ.head q
labels_has l (true ∷ bs) (suc k) e =
    let q : suc l + k ≡ l + suc k = omega arith in Memᴰ.tail (subst (λ n. Memᴰ n (labels_from (suc l) bs)) q (labels_has (suc l) bs k e))
labels_has l (false ∷ bs) zero e = let q : false ≡ true = some_is e in let z : ◌≡◌ {A = ℕ} 0 1 = cc in absurd (omega arith)
labels_has l (false ∷ bs) (suc k) e =
    let q : suc l + k ≡ l + suc k = omega arith in subst (λ n. Memᴰ n (labels_from (suc l) bs)) q (labels_has (suc l) bs k e)

held : (c : List Note) → (c ≡ [] → ⊥) → holds_code c ≡ true
unfolding holds_code
held [] n = absurd (n refl)
held (x ∷ c) n = refl

pub holds_listed : (m : Machine) (l : ℕ) → Holds l m → Memᴰ l (holding m)
holds_listed m l (i, e, h) =
    let q : 0 + l ≡ l = omega arith in
    subst (λ n. Memᴰ n (holding m)) q (labels_has 0 (flags m.instances) l (map_at flag m.instances l e ∙ ap some (held i.code h)))

-- where none is listed nobody holds commands
not_held : (c : List Note) → holds_code c ≡ false → c ≡ []
unfolding holds_code
not_held [] e = refl
not_held (n ∷ c) e = let z : ◌≡◌ {A = ℕ} 0 1 = cc in absurd (omega arith)

all_still : (is : List Instance) → All (λ b. b ≡ false) (flags is) → Still is
all_still [] a = tt
all_still (i ∷ is) a = (not_held i.code a.0, all_still is a.1)

pub none_due : (m : Machine) (st : State) → Represents m st → holding m ≡ [] → Due st
none_due m (state s σ b) R e = (still_done m.instances σ R.1).0 (all_still m.instances ((labels_none 0 (flags m.instances)).0 e))

-- where one is, not all are done
empty_code : (c : List Note) → c ≡ [] → holds_code c ≡ false
unfolding holds_code
empty_code c e = rw (e, holds_code)

none_held : (is : List Instance) → Still is → All (λ b. b ≡ false) (flags is)
none_held [] t = tt
none_held (i ∷ is) t = (empty_code i.code t.0, none_held is t.1)

pub due_none : (m : Machine) (st : State) → Represents m st → Due st → holding m ≡ []
due_none m (state s σ b) R d = (labels_none 0 (flags m.instances)).1 (none_held m.instances ((still_done m.instances σ R.1).1 d))
