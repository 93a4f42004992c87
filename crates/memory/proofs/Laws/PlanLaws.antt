-- Laws of the schedule laid flat (01, 'Table and turns'): a program's schedule stands at place 0, a move goes from the place of what
-- is left to the place of what is left then, and the end's code stands where nothing is left.
use Prim.Native.Nat.{ℕ, suc, ◌+◌, ◌≤◌, ◌<◌}
use Rattle.std.specs.Prelude.{◌≡◌, refl, ◌↔◌, List, [], ◌∷◌, ◌++◌, map, get_or, take, drop}
use Rattle.std.proofs.Math.Path.{ap, subst}
use Rattle.std.proofs.Common.{sym, ◌∙◌, zero-add, lt_of_not-le, get_or-drop, take-take, take-add, drop-drop}
use native.Mathlib.Omega.{arith}
use Rattle.std.proofs.Math.ListN.{length, length-append, get_or-eq_default}
use Rattle.std.proofs.lemmas.List.{length-map}
use Rattle.std.proofs.Math.Seq.{take-append_seam, drop-append_seam, get_or-append_seam}
use Rattle.types.specs.Limits.{max_structs}
use Rattle.program.specs.Tree.{Item, Item.call, Item.call_in, Item.fix, Items, Items.stop, Items.item, Program}
use Rattle.program.specs.Counts.{CountsItem, CountsItems, CountsSchedule, Counts}
use Rattle.machine.specs.Published.{StepCall, StepCall.global, StepCall.local, Sched, Sched.done, Sched.start, Sched.fixpoint, Sched.active, before}
use Rattle.machine.specs.Published.{of_item, of_items}
use Rattle.layout.specs.Codes.{fix_code, end_code, round_code}
use Rattle.memory.specs.Plan.{start_code, laid, laid_out, RangedCall, Ranged, At, At.at_end, At.at_start, At.at_fix, At.at_round}

-- Parts of the codes -------------------------------------------------------------

-- the code of a step call is none of another item
pub code_below : (c : StepCall) → RangedCall c → start_code c < fix_code
code_below (global n) h = omega arith
code_below (local k n) h = let q = h.0 in let r = h.1 in omega arith

-- the first of a part of a list, and the part behind it
first_of : (xs : List ℕ) (c : ℕ) (l : List ℕ) → take (suc (length l)) xs ≡ c ∷ l → (get_or xs 0 0 ≡ c) × (take (length l) (drop 1 xs) ≡ l)
first_of [] c l e = let z : ◌≡◌ {A = ℕ} 0 1 = cc in absurd (omega arith)
first_of (x ∷ xs) c l e = (cc, cc)

module _ (items : List ℕ) where
  -- the codes l stand from t on
  abbrev Codes : ℕ → List ℕ → Type 0
  Codes t l = take (length l) (drop t items) ≡ l

  first : (t c : ℕ) (l : List ℕ) → Codes t (c ∷ l) → (get_or items t 0 ≡ c) × (Codes (suc t) l)
  first t c l e =
      let (u, v) = first_of (drop t items) c l e in
      let i : t + 0 ≡ t = omega arith in
      let j : t + 1 ≡ suc t = omega arith in
      (rw (get_or-drop t items 0 0, i) at u, rw (drop-drop 1 t items, j) at v)

  parted : (t : ℕ) (l m : List ℕ) → Codes t (l ++ m) → (Codes t l) × (Codes (t + length l) m)
  parted t l m e =
      let n : length (l ++ m) ≡ length l + length m = length-append l m in
      let h : length l ≤ length (l ++ m) = omega arith in
      let a : take (length l) (drop t items) ≡ l =
      sym (take-take (length l) (length (l ++ m)) (drop t items) h) ∙ ap (take (length l)) e ∙ take-append_seam l m in
      let b : l ++ take (length m) (drop (length l) (drop t items)) ≡ l ++ m =
      ap (λ s. s ++ take (length m) (drop (length l) (drop t items))) (sym a)
      ∙ sym (take-add (length l) (length m) (drop t items)) ∙ ap (λ k. take k (drop t items)) (sym n) ∙ e in (
        a,
        rw (← drop-drop (length l) t items)
            (sym (drop-append_seam l (take (length m) (drop (length l) (drop t items)))) ∙ ap (drop (length l)) b ∙ drop-append_seam l m),
      )

  -- a place by an equal number
  there : {a b : ℕ} {s : Sched} → At items a s → a ≡ b → At items b s
  there {s = s} h e = subst (λ x. At items x s) e h

  -- where the codes of f stand, before those of r
  laid_at : (f : Sched) (t : ℕ) {r : Sched} → Ranged f → Codes t (laid f t) → At items (t + length (laid f t)) r → At items t (before f r)
  unfolding laid before Ranged
  laid_at done t h e a = there a (omega arith)
  laid_at (start c s) t h e a =
      let (u, v) = first t (start_code c) (laid s (suc t)) e in
      at_start h.0 u (laid_at s (suc t) h.1 v (there a (omega arith)))
  laid_at (fixpoint f s) t h e a =
      let g = laid f (suc t) in
      let k : suc (suc t) + length g ≡ suc (suc t + length g) = omega arith in
      let (u, v) = first t fix_code (g ++ round_code (suc t) ∷ laid s (suc (suc t) + length g)) e in
      let (b, w) = parted (suc t) g (round_code (suc t) ∷ laid s (suc (suc t) + length g)) v in
      let (x, y) = first (suc t + length g) (round_code (suc t)) (laid s (suc (suc t) + length g)) w in
      let n = length-append g (round_code (suc t) ∷ laid s (suc (suc t) + length g)) in
      let y' : Codes (suc (suc t + length g)) (laid s (suc (suc t + length g))) = subst (λ i. Codes (suc (suc t + length g)) (laid s i)) k y in
      let m : length (laid s (suc (suc t) + length g)) ≡ length (laid s (suc (suc t + length g))) = ap (λ i. length (laid s i)) k in
      at_fix u (record { ranged = h.0; ends = refl; stands = b }) x (laid_at s (suc (suc t + length g)) h.1 y' (there a (omega arith)))
  laid_at (active f s) t h e a = absurd h

  -- Moves ------------------------------------------------------------------------

  module _ {a : ℕ} {s : Sched} where
    pub past_start : {c : StepCall} → At items a (start c s) → (RangedCall c) × (get_or items a 0 ≡ start_code c) × (At items (suc a) s)
    past_start (at_start h e r) = (h, e, r)

    -- a Fix begins with the first of its items
    pub past_fix : {f : Sched} → At items a (fixpoint f s) → (get_or items a 0 ≡ fix_code) × (At items (suc a) (before f (active f s)))
    past_fix (at_fix {j = j} {f = f} e b q r) = (e, laid_at f (suc a) b.ranged b.stands (there (at_round b q r) b.ends))

    -- and goes on behind its items, or from the first of them again
    pub past_round : {f : Sched} → At items a (active f s)
        → (t : ℕ) × (get_or items a 0 ≡ round_code t) × (At items (suc a) s) × (At items t (before f (active f s)))
    past_round (at_round {t = t} {f = f} b q r) = (t, q, r, laid_at f t b.ranged b.stands (there (at_round b q r) b.ends))

  -- the end's code stands exactly where nothing is left
  pub at_end_done : {a : ℕ} {s : Sched} → At items a s → (get_or items a 0 ≡ end_code) ↔ (s ≡ done)
  at_end_done (at_end e) = (λ _. refl, λ _. e)
  at_end_done (at_start {c = c} h e r) =
      (λ q. let u = code_below c h in absurd (omega arith), λ q. let z : ◌≡◌ {A = ℕ} 0 1 = cc in absurd (omega arith))
  at_end_done (at_fix e b q r) = (λ q. absurd (omega arith), λ q. let z : ◌≡◌ {A = ℕ} 0 1 = cc in absurd (omega arith))
  at_end_done (at_round b e r) = (λ q. absurd (omega arith), λ q. let z : ◌≡◌ {A = ℕ} 0 1 = cc in absurd (omega arith))

  -- a place of the schedule is one of its codes
  pub at_within : {a : ℕ} {s : Sched} → At items a s → a < length items
  at_within (at_end {a = a} e) =
      lt_of_not-le (λ h. let d : get_or items a 0 ≡ 0 = get_or-eq_default items 0 h in omega arith)
  at_within (at_start h e r) = let w = at_within r in omega arith
  at_within (at_fix e b q r) = let w = at_within r in let k = b.ends in omega arith
  at_within (at_round b e r) = let w = at_within r in omega arith

-- The whole schedule -------------------------------------------------------------

before_done : (s : Sched) → before s done ≡ s
unfolding before
before_done done = refl
before_done (start c s) = rw (before_done s)
before_done (fixpoint f s) = rw (before_done s)
before_done (active f s) = rw (before_done s)

-- a schedule in range stands whole at place 0
pub laid_whole : (s : Sched) → Ranged s → At (laid_out s) 0 s
unfolding laid_out
laid_whole s h =
    let e : get_or (laid_out s) (0 + length (laid s 0)) 0 ≡ end_code = rw (zero-add (length (laid s 0))) (get_or-append_seam (laid s 0) end_code [] 0) in
    rw (before_done s) at (laid_at (laid_out s) s 0 h (take-append_seam (laid s 0) (end_code ∷ [])) (at_end e))

-- a program's counts put its schedule in range
module _ (ar : List ℕ) (few : length ar ≤ max_structs) where
  mutual
    unfolding of_item Ranged CountsItem

    item_ranged : (i : Item) (s : Sched) → CountsItem ar i → Ranged s → Ranged (of_item i s)
    item_ranged (call n) s c r = (c, r)
    item_ranged (call_in k n) s c r = let q = c.0 in ((omega arith, c.1), r)
    item_ranged (fix is) s c r = (items_ranged is c.2, r)

    items_ranged : (is : Items) → CountsItems ar is → Ranged (of_items is)
    items_ranged stop c = tt
    items_ranged (item i is) c = item_ranged i (of_items is) c.0 (items_ranged is c.1)

pub schedule_ranged : (p : Program) → Counts p → Ranged (of_items p.schedule)
unfolding Counts CountsSchedule
schedule_ranged p c =
    let q = c.0.1 in
    items_ranged (map length p.params) (rw (length-map p.params length) q) p.schedule c.3.2
