-- The machine that a run begins with has the invariant (01, 'Table and turns').
use Rattle.std.specs.Prelude.{ℕ, zero, suc, ◌+◌, ◌-◌, ◌<◌, ◌≤◌, ◌≡◌, Bool, true, false, ◌⊎◌, List, [], ◌∷◌, ◌++◌, map, get_or, ltb}
use Rattle.std.proofs.Common.{arith, add-zero, add-suc, suc-add, zero-add, ap, ◌∙◌, inl, inr, ltb-true, ltb-false}
use Rattle.std.proofs.Math.Path.{refl, sym}
use Rattle.std.proofs.Math.Option.{Option, none, some}
use Rattle.std.proofs.Math.ListN.{length, get_elem?}
use Rattle.types.specs.Types.{Ty, Ty.ref, IsType}
use Rattle.types.specs.Values.{Val, Val.label, default}
use Rattle.types.proofs.Laws.ValueLaws.{value_as}
use Rattle.program.specs.Tree.{Item, Item.call, Item.call_in, Item.fix, Items, Items.stop, Items.item, Program}
use Rattle.program.specs.Counts.{All, Counts}
use Rattle.commands.specs.Context.{params_of}
use Rattle.table.specs.Table.{Record, Each, Held, HeldRecord, HeldTable, Refers, RefersRecord, References, struct_at, TableRight}
use Rattle.machine.specs.Published.{Sched, of_item, of_items, structs}
use Rattle.machine.specs.Machine.{Instance}
use Rattle.run.specs.Begin.{resting, nulls, first_instances, begin}
use Rattle.sound.specs.Needs.{ValueAmong}
use Rattle.sound.specs.Invariant.{GoodInst, Unbegun, Open, Open.open_done, Open.open_start, Open.open_fix, Good, Nulls}
use Rattle.sound.specs.Started.{Left.whole}
use Rattle.sound.proofs.Laws.ElemLaws.{none_some, some_is, at_append, at_joined, at_behind, at_below, at_map, map_at, all_elem}
use Rattle.sound.proofs.Laws.SizedLaws.{lasting_of, default_lasts}
use Rattle.sound.proofs.Laws.AcceptedLaws.{params_counted}
use Rattle.sound.proofs.Laws.ConsKept.{rests}

-- The schedule -------------------------------------------------------------------

mutual
  unfolding of_item of_items Unbegun

  unbegun_item : (i : Item) (s : Sched) → Unbegun s → Unbegun (of_item i s)
  unbegun_item (call n) s u = u
  unbegun_item (call_in k n) s u = u
  unbegun_item (fix is) s u = (unbegun is, u)

  unbegun : (is : Items) → Unbegun (of_items is)
  unbegun stop = tt
  unbegun (item i is) = unbegun_item i (of_items is) (unbegun is)

open_item : (i : Item) {s : Sched} {k : ℕ} → Open s k → Open (of_item i s) k
unfolding of_item
open_item (call n) o = open_start o
open_item (call_in k n) o = open_start o
open_item (fix is) o = open_fix (unbegun is) o

-- no Fix of a program's schedule has begun
pub open_items : (is : Items) → Open (of_items is) 0
unfolding of_items
open_items stop = open_done
open_items (item i is) = open_item i (open_items is)

-- The null instances ---------------------------------------------------------------

-- one for each struct
pub nulls_length : (k : ℕ) (tss : List (List Ty)) → length (nulls k tss) ≡ length tss
unfolding nulls
nulls_length k [] = refl
nulls_length k (ts ∷ tss) = ap suc (nulls_length (suc k) tss)

-- the one of each struct holds its defaults
pub null_at : (k : ℕ) (tss : List (List Ty)) (j : ℕ) → j < length tss → get_elem? (nulls k tss) j ≡ some (resting (k + j) (map default (get_or tss j [])))
unfolding nulls
null_at k [] j h = absurd (omega arith)
null_at k (ts ∷ tss) zero h = rw add-zero
null_at k (ts ∷ tss) (suc j) h = rw (add-suc, ← suc-add) (null_at (suc k) tss j (omega arith))

-- The whole table ----------------------------------------------------------------

module _ (p : Program) (counts : Counts p) (rs : List Record) where
  abbrev at_first : List Instance
  at_first = nulls 0 p.params ++ map (λ r. resting r.struct r.values) rs

  null_first : (k : ℕ) → k < structs p → get_elem? at_first k ≡ some (resting k (map default (params_of p k)))
  null_first k h =
      at_append (nulls 0 p.params) _ k _
      (null_at 0 p.params k h ∙ ap (λ n. some (resting n (map default (params_of p k)))) (zero-add k))

  first_nulls : Nulls p at_first
  first_nulls k h = (resting k (map default (params_of p k)), null_first k h, refl)

  defaults : (ts : List Ty) → All (IsType (structs p)) ts → Each (ValueAmong at_first) ts (map default ts)
  defaults [] a = tt
  defaults (t ∷ ts) a = (lasting_of p at_first first_nulls (default_lasts t a.0), defaults ts a.1)

  record_first : (l : ℕ) (r : Record) → length p.params ≤ l → get_elem? rs (l - length p.params) ≡ some r
      → get_elem? at_first l ≡ some (resting r.struct r.values)
  record_first l r h e =
      let q = nulls_length 0 p.params in
      at_behind (nulls 0 p.params) _ l (omega arith) ∙ rw q (at_map (λ r. resting r.struct r.values) rs _ r e)

  -- a reference names an instance of its struct
  named : (k l : ℕ) → struct_at p.params rs l ≡ some k → ValueAmong at_first (ref k) (label l)
  unfolding struct_at
  named k l e = go (ltb l (length p.params)) refl e
    where
      found : length p.params ≤ l → (o : Option Record) → get_elem? rs (l - length p.params) ≡ o
          → elim o [ none ↦ none | some r ↦ some r.struct ] ≡ some k → ValueAmong at_first (ref k) (label l)
      found h none q e = none_some e
      found h (some r) q e = (resting r.struct r.values, record_first l r h q, some_is e)

      go : (t : Bool) → ltb l (length p.params) ≡ t
          → elim t [ true ↦ some l | false ↦ elim (get_elem? rs (l - length p.params)) [ none ↦ none | some r ↦ some r.struct ] ] ≡ some k
          → ValueAmong at_first (ref k) (label l)
      go true q e = rw (← some_is e) (first_nulls l (ltb-true l (length p.params) q))
      go false q e = found (ltb-false l (length p.params) q) (get_elem? rs (l - length p.params)) refl e

  -- a value as a right table holds it is of its type
  held_of : (t : Ty) (v : Val) → Held t v → Refers p.params rs t v → ValueAmong at_first t v
  held_of t v h r = value_as t v (λ k l e f _. named k l (rw (e, f) at r)) h

  held_each : (ts : List Ty) (vs : List Val) → Each Held ts vs → Each (Refers p.params rs) ts vs → Each (ValueAmong at_first) ts vs
  held_each [] [] h r = tt
  held_each [] (v ∷ vs) h r = h
  held_each (t ∷ ts) [] h r = h
  held_each (t ∷ ts) (v ∷ vs) h r = (held_of t v h.0 r.0, held_each ts vs h.1 r.1)

  module _ (right : TableRight p.params rs) where
    first_good : (l : ℕ) (i : Instance)
        → (get_elem? (nulls 0 p.params) l ≡ some i)
        ⊎ ((length (nulls 0 p.params) ≤ l) × (get_elem? (map (λ r. resting r.struct r.values) rs) (l - length (nulls 0 p.params)) ≡ some i))
        → GoodInst p none at_first l i
    unfolding TableRight HeldTable References
    first_good l i (inl e) =
        let h : l < length p.params = omega (arith, at_below (nulls 0 p.params) l i e, nulls_length 0 p.params) in
        let q : resting l (map default (params_of p l)) ≡ i =
        some_is (sym (ap (λ n. some (resting n (map default (params_of p l)))) (zero-add l)) ∙ sym (null_at 0 p.params l h) ∙ e) in
        rw (← q) (rests p at_first l l (map default (params_of p l)) (defaults (params_of p l) (params_counted p counts l).1))
    first_good l i (inr e) =
        let j = l - length (nulls 0 p.params) in
        let (r, q, z) = map_at (λ r. resting r.struct r.values) rs j i e.1 in
        let h = all_elem (HeldRecord p.params) rs j r right.0.1 q in
        let w = all_elem (RefersRecord p.params rs) rs j r right.1 q in
        rw (← z) (rests p at_first l r.struct r.values (held_each (params_of p r.struct) r.values h.1 w))

    -- the machine that a run on a right table begins with has the invariant
    pub begin_good : Good p (begin p rs)
    unfolding begin first_instances
    begin_good = record {
      runs = none;
      all = record {
        nulls = first_nulls;
        each = λ l i e. first_good l i (at_joined (nulls 0 p.params) (map (λ r. resting r.struct r.values) rs) l i e);
      };
      running = tt;
      opened = open_items p.schedule;
      left = whole;
    }
