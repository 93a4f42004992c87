-- The names of a program that a derivation means are right wherever its steps are (02 §1; 01, number 7): a step that is called without its struct is some
-- struct's.
use Rattle.std.specs.Prelude.{ℕ, suc, ◌+◌, ◌≡◌, refl, Bool, true, false, ◌⊎◌, length, get_or}
use Rattle.std.proofs.Common.{zero-add, add-zero, add-suc, suc-add, sym, ap}
use Rattle.std.proofs.Math.Logic.{inl, inr}
use mathlib.Core.List.Memᴰ
use mathlib.Core.List.{List, [], ◌∷◌, ◌++◌, map, Memᴰ}
use Rattle.types.specs.Types.{Ty}
use Rattle.program.specs.Tree.{Item as Call, Item.call, Item.call_in, Item.fix, Items, Items.stop, Items.item, Step as NamedStep, Program}
use Rattle.program.specs.Counts.{All}
use Rattle.commands.specs.Names.{Once, Named, names_of_steps, NamedSteps, Had, ScheduledItem, Scheduled, NamesRight}
use Rattle.syntax.specs.Syntax.{Id, Par, Step, Struct, Item, Sched, Program as Derivation}
use Rattle.meaning.specs.Scope.{Found, Found.here, Found.later, Each, Each.no_more, Each.and_then, step_id, steps_of, structs_of}
use Rattle.meaning.specs.StepNames.{among, once, all_steps, step_names}
use Rattle.meaning.specs.Means.{ParsMean, ParsMean.pars_mean, StepMeans, StepMeans.step_means, StepsMean, StepsMean.steps_mean}
use Rattle.meaning.specs.Means.{ItemMeans, ItemMeans.execution_means, ItemMeans.typed_means, ItemMeans.fix_means, SchedMeans, SchedMeans.last_means}
use Rattle.meaning.specs.Means.{SchedMeans.barrier_means, Means, Means.means}
use Rattle.source.proofs.Laws.NamingLaws.{step_named}
use Rattle.source.specs.Stepping.{TypedThereItem, TypedThere, StepsRight}

-- Rows ------------------------------------------------------------------------------------------

found_one : {A : Type 0} {key : A → Id} {x : Id} {i j : ℕ} {a b : A} {l : List A} → Found key x i a l → Found key x j b l → i ≡ j
found_one (here e) (here f) = refl
found_one (here e) (later f q) = absurd (f e)
found_one (later f p) (here e) = absurd (f e)
found_one (later f p) (later g q) = ap suc (found_one p q)

found_member : {x y : Id} {n : ℕ} {l : List Id} → Found (λ z. z) x n y l → Memᴰ x l
found_member (here e) = Memᴰ.head (sym e)
found_member (later f q) = Memᴰ.tail (found_member q)

of_both : {x : Id} (l m : List Id) → Memᴰ x (l ++ m) → (Memᴰ x l) ⊎ (Memᴰ x m)
of_both [] m h = inr h
of_both (y ∷ l) m h = elim (Memᴰ.cases_cons h) [
  | inl e ↦ inl (Memᴰ.head e)
  | inr n ↦ elim (of_both l m n) [ inl k ↦ inl (Memᴰ.tail k) | inr k ↦ inr k ]
]

-- each name once holds no other names
once_member : {x : Id} (met l : List Id) → Memᴰ x (once met l) → Memᴰ x l
unfolding once
once_member met [] h = h
once_member {x = x} met (y ∷ l) h = go (among y met) (λ n k. once_member n l k) h
  where
    go : (b : Bool) → ((n : List Id) → Memᴰ x (once n l) → Memᴰ x l)
        → Memᴰ x (elim b [ true ↦ once met l | false ↦ y ∷ once (y ∷ met) l ]) → Memᴰ x (y ∷ l)
    go true f h = Memᴰ.tail (f met h)
    go false f h = elim (Memᴰ.cases_cons h) [ inl e ↦ Memᴰ.head e | inr n ↦ Memᴰ.tail (f (y ∷ met) n) ]

each_length : {A B : Type 0} {R : A → B → Type 0} {l : List A} {m : List B} → Each R l m → length l ≡ length m
each_length no_more = refl
each_length (and_then r e) = ap suc (each_length e)

module _ (ds : List Struct) (names : List Id) where
  -- Steps -------------------------------------------------------------------------------------------

  steps_named : {own : List Par} {l : List Step} {us : List NamedStep} → Each (StepMeans ds names own) l us → All (λ t. Named t.body (length own) [] []) us
  steps_named no_more = tt
  steps_named (and_then m e) = (step_named m, steps_named e)

  structs_named : (p : Program) (k : ℕ) {ss : List Struct} {us : List (List Ty)} {tss : List (List NamedStep)}
      → ((j : ℕ) → get_or p.params (k + j) [] ≡ get_or us j []) → Each (ParsMean ds) ss us → Each (StepsMean ds names) ss tss
      → All (λ ts. Once (names_of_steps ts)) tss → NamedSteps p k tss
  structs_named p k h no_more no_more o = tt
  structs_named p k h (and_then (pars_mean {us = us} q e) r) (and_then (steps_mean f) g) o =
      let here : get_or p.params k [] ≡ us = rw add-zero at (h 0) in
      (o.0, rw (here, ← each_length e) (steps_named f), structs_named p (suc k) (λ j. rw (suc-add k j, ← add-suc k j) (h (suc j))) r g o.1)

  -- Calls -------------------------------------------------------------------------------------------

  in_struct : {x y : Id} {n : ℕ} {own : List Par} {l : List Step} {us : List NamedStep} → Found (λ z. z) x n y names → Each (StepMeans ds names own) l us
      → Memᴰ x (map step_id l) → Memᴰ n (names_of_steps us)
  unfolding names_of_steps step_id
  in_struct f no_more h = absurd (Memᴰ.not-nil h)
  in_struct f (and_then (step_means g b) e) h = elim (Memᴰ.cases_cons h) [
    | inl q ↦ Memᴰ.head (found_one f (rw (← q) at g))
    | inr m ↦ Memᴰ.tail (in_struct f e m)
  ]

  had : {x y : Id} {n : ℕ} {ss : List Struct} {tss : List (List NamedStep)} → Found (λ z. z) x n y names → Each (StepsMean ds names) ss tss
      → Memᴰ x (all_steps ss) → Had n tss
  unfolding all_steps
  had f no_more h = absurd (Memᴰ.not-nil h)
  had {x = x} f (and_then {l = l} (steps_mean {d = d} e) r) h = elim (of_both (map step_id (steps_of d)) (all_steps l) h) [
    | inl m ↦ (0, in_struct f e m)
    | inr m ↦ let q = had f r m in (suc q.0, q.1)
  ]

  module _ (tss : List (List NamedStep)) (h : (x y : Id) (n : ℕ) → Found (λ z. z) x n y names → Had n tss) where
    mutual
      unfolding Scheduled TypedThere

      item_named : {i : Item} {c : Call} → ItemMeans ds names i c → TypedThereItem c tss → ScheduledItem c tss
      item_named (execution_means f) t = h _ _ _ f
      item_named (typed_means f g) t = t
      item_named (fix_means s) t = sched_named s t

      sched_named : {s : Sched} {is : Items} → SchedMeans ds names s is → TypedThere is tss → Scheduled is tss
      sched_named (last_means i) t = (item_named i t.0, tt)
      sched_named (barrier_means i s) t = (item_named i t.0, sched_named s t.1)

-- the names of a program that a derivation means are right where its steps are
pub steps_left : {c : Derivation} {p : Program} → Means c p → StepsRight p → NamesRight p
unfolding NamesRight step_names
steps_left {p = p} (means {d = d} {ts = ts} o us ss s) r =
    let ds = structs_of d in
    let names = step_names ds in
    let called : (x y : Id) (n : ℕ) → Found (λ z. z) x n y names → Had n ts = λ x y n f. had ds names f ss (once_member [] (all_steps ds) (found_member f)) in
    (structs_named ds names p 0 (λ j. rw zero-add refl) us ss r.once, sched_named ds names ts called s r.there)

-- The other way: where names are right, so are steps -----------------------------------------------

once_each : (p : Program) (k : ℕ) (tss : List (List NamedStep)) → NamedSteps p k tss → All (λ ts. Once (names_of_steps ts)) tss
once_each p k [] h = tt
once_each p k (ts ∷ tss) h = (h.0, once_each p (suc k) tss h.2)

mutual
  unfolding Scheduled TypedThere

  typed_item : (c : Call) (tss : List (List NamedStep)) → ScheduledItem c tss → TypedThereItem c tss
  typed_item (call n) tss h = tt
  typed_item (call_in k n) tss h = h
  typed_item (fix is) tss h = typed_items is tss h

  typed_items : (is : Items) (tss : List (List NamedStep)) → Scheduled is tss → TypedThere is tss
  typed_items stop tss h = tt
  typed_items (item c is) tss h = (typed_item c tss h.0, typed_items is tss h.1)

pub names_steps : (p : Program) → NamesRight p → StepsRight p
unfolding NamesRight
names_steps p h = record { once = once_each p 0 p.steps h.0; there = typed_items p.schedule p.steps h.1 }
