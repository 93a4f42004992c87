-- Every schedule that moves leave of an accepted program's is shallow. So a run has as many stability entries as Fixes may nest at the most,
-- and fewer where a Fix comes next (02 §9: "none is ever met with eight entries").
use Rattle.std.specs.Prelude.{ℕ, zero, suc, max, ◌+◌, ◌<◌, ◌≤◌, ◌≡◌, refl, length}
use Rattle.std.proofs.Common.{arith, ap, subst}
use Rattle.types.specs.Limits.{fix_levels}
use Rattle.program.specs.Tree.{Item, Item.call, Item.call_in, Item.fix, Items, Items.stop, Items.item, Program}
use Rattle.program.specs.Counts.{fixes, fixes_in}
use Rattle.machine.specs.Published.{Sched, Sched.done, Sched.start, Sched.fixpoint, Sched.active, before, of_item, of_items}
use Rattle.machine.specs.Machine.{Machine}
use Rattle.sound.specs.Firm.{Firm}
use Rattle.sound.specs.Started.{Left, Left.whole, Left.past, Left.into, Left.again, Left.out}
use Rattle.sound.specs.Invariant.{Unbegun, Open, Open.open_done, Open.open_start, Open.open_fix, Open.open_active, Good}
use Rattle.sound.proofs.Laws.MoveKept.{past_start, past_fix, past_active, open_before}
use Rattle.sound.proofs.Laws.BeginGood.{open_items}
use Rattle.sound.specs.Shallow.{deep, Shallow}

-- The program's schedule ---------------------------------------------------------

mutual
  unfolding of_item of_items deep fixes fixes_in

  deep_item : (i : Item) (s : Sched) → deep (of_item i s) ≡ max (fixes i) (deep s)
  deep_item (call n) s = omega arith
  deep_item (call_in k n) s = omega arith
  deep_item (fix is) s = omega (arith, deep_items is)

  deep_items : (is : Items) → deep (of_items is) ≡ fixes_in is
  deep_items stop = refl
  deep_items (item i is) = omega (arith, deep_items is, deep_item i (of_items is))

shallow_item : (i : Item) (s : Sched) → fixes i ≤ fix_levels → Shallow s 0 → Shallow (of_item i s) 0
unfolding of_item fixes Shallow
shallow_item (call n) s h r = r
shallow_item (call_in k n) s h r = r
shallow_item (fix is) s h r = (omega (arith, deep_items is), r)

shallow_items : (is : Items) → fixes_in is ≤ fix_levels → Shallow (of_items is) 0
unfolding of_items fixes_in Shallow
shallow_items stop h = tt
shallow_items (item i is) h = shallow_item i (of_items is) (omega arith) (shallow_items is (omega arith))

-- What moves leave of it ---------------------------------------------------------

-- what has not begun stands before a shallow schedule
shallow_before : (f s : Sched) (k : ℕ) → Unbegun f → k + deep f ≤ fix_levels → Shallow s k → Shallow (before f s) k
unfolding before Unbegun deep Shallow
shallow_before done s k u h r = r
shallow_before (start a f) s k u h r = shallow_before f s k u h r
shallow_before (fixpoint f g) s k u h r = (omega arith, shallow_before g s k u.1 (omega arith) r)
shallow_before (active f g) s k u h r = absurd u

-- with an entry for each Fix that has begun
abbrev OpenShallow : Sched → Type 0
OpenShallow s = (k : ℕ) × (Open s k) × (Shallow s k)

module _ (f s : Sched) where
  begins : OpenShallow (fixpoint f s) → OpenShallow (before f (active f s))
  unfolding Shallow
  begins (k, o, h) =
      let (u, r) = past_fix o in
      (suc k, open_before f u (open_active u r), shallow_before f (active f s) (suc k) u (omega (arith, h.0)) h)

  goes_round : OpenShallow (active f s) → OpenShallow (before f (active f s))
  unfolding Shallow
  goes_round (zero, o, h) = absurd h
  goes_round (suc k, o, h) =
      let (u, r) = past_active o in
      (suc k, open_before f u o, shallow_before f (active f s) (suc k) u (omega (arith, h.0)) h)

  ends : OpenShallow (active f s) → OpenShallow s
  unfolding Shallow
  ends (zero, o, h) = absurd h
  ends (suc k, o, h) = (k, (past_active o).1, h.1)

left_shallow : {r s : Sched} → OpenShallow r → Left r s → OpenShallow s
unfolding Shallow
left_shallow x whole = x
left_shallow x (past l) = let (k, o, h) = left_shallow x l in (k, past_start o, h)
left_shallow x (into {f = f} {s = s} l) = begins f s (left_shallow x l)
left_shallow x (again {f = f} {s = s} l) = goes_round f s (left_shallow x l)
left_shallow x (out {f = f} {s = s} l) = ends f s (left_shallow x l)

open_one : {s : Sched} {j k : ℕ} → Open s j → Open s k → j ≡ k
open_one open_done open_done = refl
open_one (open_start a) (open_start b) = open_one a b
open_one (open_fix u a) (open_fix v b) = open_one a b
open_one (open_active u a) (open_active v b) = ap suc (open_one a b)

-- a machine with the invariant is at a shallow schedule
pub good_shallow : {p : Program} → Firm p → {m : Machine} → Good p m → Shallow m.sched (length m.stability)
good_shallow {p} firm {m} g =
    let (k, o, h) = left_shallow (0, open_items p.schedule, shallow_items p.schedule (omega (arith, firm.levels))) g.left in
    subst (Shallow m.sched) (open_one o g.opened) h

-- Entries ------------------------------------------------------------------------

-- where a Fix comes next, an entry is free
pub entry_free : (f s : Sched) (k : ℕ) → Shallow (fixpoint f s) k → k < fix_levels
unfolding Shallow
entry_free f s k h = omega (arith, h.0)

-- and there are no more than levels
entries_few : {s : Sched} {k : ℕ} → Open s k → Shallow s k → k ≤ fix_levels
unfolding Shallow
entries_few open_done h = omega arith
entries_few (open_start o) h = entries_few o h
entries_few (open_fix u o) h = entries_few o h.1
entries_few (open_active u o) h = omega (arith, h.0)

-- of a machine with the invariant
pub good_entries : {p : Program} → Firm p → {m : Machine} → Good p m
    → (length m.stability ≤ fix_levels) × ((f r : Sched) → m.sched ≡ fixpoint f r → length m.stability < fix_levels)
good_entries firm {m} g =
    let h = good_shallow firm g in
    (entries_few g.opened h, λ f r e. entry_free f r (length m.stability) (subst (λ s. Shallow s (length m.stability)) e h))
