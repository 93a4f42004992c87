-- What the walk has of items that were read, one law for each sort of item (01, 'Program stream').
use Prim.Native.Nat.{ℕ, zero, suc, ◌+◌, ◌-◌, ◌<◌}
use native.Mathlib.Omega.{arith}
use Rattle.std.proofs.Math.Numerals.{sub-one}
use Rattle.std.specs.Prelude.{◌≡◌, List, [], ◌∷◌, ◌++◌, get_or, set}
use Rattle.std.proofs.Math.Path.{refl, ap}
use Rattle.std.proofs.Common.{sym, subst, ◌∙◌, append-nil, length-set, length-append}
use Rattle.std.proofs.Math.ListN.{length}
use Rattle.types.specs.Limits.{step_names, max_items}
use Rattle.program.specs.Tree.{Item, Item.call, Item.call_in, Item.fix, Items, Items.stop, Items.item}
use Rattle.program.specs.Reader.{Result, Result.ok, Result.bad, wrong_byte, then, pair, made, lookup, ranged, ItemSort, ItemSort.sort_call}
use Rattle.program.specs.Reader.{ItemSort.sort_call_in, ItemSort.sort_fix, ItemSort.sort_none, item_sort, rule_item, read_item, read_items}
use Rattle.program.proofs.Laws.PartLaws.{made_ok}
use Rattle.program.proofs.Laws.ItemLaws.{OpensItem, opens_item}
use Rattle.emit.specs.declared.Put.{Put}
use Rattle.emit.specs.Written.{Good, next_of, code_of, Ready, Wrote}
use Rattle.emit.specs.Laws.WrittenLaws.{placed_one, placed_as, placed_kept, placed_last, placed_first}
use Rattle.emit.specs.Parts.{Part, Parts}
use Rattle.emit.specs.Laws.PartsLaws.{part_of, same_part, parts_of, parts_ready, parts_next, parts_same, row_none}
use Rattle.emit.specs.Laws.ReadLaws.{value, made_value, pair_value, pair_ok, many_value, ranged_value, counted_value, opened_value}
use Rattle.machine.specs.Published.{StepCall.local}
use Rattle.layout.specs.Codes.{fix_code, end_code, round_code}
use Rattle.memory.specs.Plan.{start_code}
use Rattle.compile.specs.Codes.{item_codes, items_codes, schedule_codes, any_structs, item_at, row_at, items_at, schedule_at, Left}
use Rattle.compile.specs.CodesLaws.{call_codes, call_in_codes, fix_codes, no_codes, more_codes, whole_codes}

-- One code --------------------------------------------------------------------

-- what is read has the one code c, and ends at m
pub record One {A : Type 0} (f : A → List ℕ) (R : Result A) (c m : ℕ) : Type 0 where
  pub code : code_of f R ≡ c ∷ []
  pub next : next_of R ≡ m

one_of : {A : Type 0} (f : A → List ℕ) {R : Result A} {a : A} {c m : ℕ} → R ≡ ok a m → f a ≡ c ∷ [] → One f R c m
unfolding code_of next_of
one_of f e h = record { code = rw e h; next = rw e }

module _ {A : Type 0} {f : A → List ℕ} {R : Result A} {c m : ℕ} (h : One f R c m) where
  pub one_room : {out : List ℕ} {k : ℕ} → Ready f R out k → k < length out
  one_room w = let l = rw h.code at w.room in omega arith

  pub one_wrote : {out out1 : List ℕ} {k v : ℕ} {p : Put} → v ≡ c → (p.next ≡ m) × (p.at ≡ k + 1) × (out1 ≡ set out k v) → Wrote f R out k p out1
  one_wrote e w = placed_as (placed_one w.0 w.1 (rw e at w.2)) h.code h.next

-- Items -----------------------------------------------------------------------

module _ (s : List ℕ) where
  -- what reads behind the byte of a Fix
  unfoldable inner : ℕ → ℕ → ℕ → Result Items
  inner zero at k = bad at wrong_byte
  inner (suc d) at k = items_at s d k

  -- an item has a byte, whose sort says what is read
  item_step : (d at : ℕ) → Good (item_at s d at)
      → (at < length s) × (item_at s d at ≡ rule_item any_structs s (inner d) at (at + 1) (item_sort (get_or s at 0)))
  unfolding read_item inner
  item_step zero at g = opened_value s item_sort (rule_item any_structs s λ at k. bad at wrong_byte) at g
  item_step (suc d) at g = opened_value s item_sort (rule_item any_structs s λ at k. items_at s d k) at g

  -- no level, no Fix; a level less in a Fix
  shut : (at k : ℕ) {r : Result Item} → r ≡ made fix (inner 0 at k) → Good r → ⊥
  unfolding inner made then
  shut at k p g = rw p at g

  level : (d at k : ℕ) {r : Result Item} → r ≡ made fix (inner (suc d) at k) → r ≡ made fix (items_at s d k)
  unfolding inner
  level d at k p = p

  -- what the code has of a Fix: its items, with a level less
  pub record FixFacts (d at : ℕ) : Type 0 where
    pub deep : 0 < d
    pub good : Good (items_at s (d - 1) (at + 1))
    pub code : (k : ℕ) → code_of (item_codes k) (item_at s d at)
        ≡ fix_code ∷ (code_of (items_codes (k + 1)) (items_at s (d - 1) (at + 1)) ++ (round_code (k + 1) ∷ []))
    pub next : next_of (item_at s d at) ≡ next_of (items_at s (d - 1) (at + 1))

  module _ (d at : ℕ) (g : Good (item_at s d at)) where
    pub item_in : at < length s
    item_in = (item_step d at g).0

    -- a step of every struct
    pub call_one : get_or s at 0 ≡ 1 → (at + 1 < length s) × ((k : ℕ) → One (item_codes k) (item_at s d at) (get_or s (at + 1) 0) (at + 2))
    unfolding rule_item item_sort lookup
    call_one e =
        let p : item_at s d at ≡ made call (ranged s 0 step_names (at + 1)) = (item_step d at g).1 ∙ rw e refl in
        let v = made_value call (ranged s 0 step_names (at + 1)) (rw p at g) in
        let b = ranged_value s 0 step_names (at + 1) (rw v.2 tt) in
        let i : at + 1 + 1 ≡ at + 2 = omega arith in
        (b.0, λ k. one_of (item_codes k) (p ∙ made_ok call (b.2 ∙ rw i)) (call_codes k _))

    -- a step of one struct
    pub call_in_one : get_or s at 0 ≡ 2
        → (at + 2 < length s) × ((k : ℕ) → One (item_codes k) (item_at s d at) (start_code (local (get_or s (at + 1) 0) (get_or s (at + 2) 0))) (at + 3))
    unfolding rule_item item_sort lookup
    call_in_one e =
        let p : item_at s d at ≡ made in_struct both = (item_step d at g).1 ∙ rw e refl in
        let v = made_value in_struct both (rw p at g) in
        let w = pair_value (ranged s 0 (length any_structs) (at + 1)) (λ c. ranged s 0 step_names) (rw v.2 tt) in
        go w.0 w.1 w.2 w.3 p w.4 w.5
      where
        in_struct : ℕ × ℕ → Item
        in_struct p = call_in p.0 p.1

        both : Result (ℕ × ℕ)
        both = pair (ranged s 0 (length any_structs) (at + 1)) λ c. ranged s 0 step_names

        go : (a i b m : ℕ) → item_at s d at ≡ made in_struct both → ranged s 0 (length any_structs) (at + 1) ≡ ok a i → ranged s 0 step_names i ≡ ok b m
            → (at + 2 < length s) × ((k : ℕ) → One (item_codes k) (item_at s d at) (start_code (local (get_or s (at + 1) 0) (get_or s (at + 2) 0))) (at + 3))
        go a i b m p x y =
            let u = ranged_value s 0 (length any_structs) (at + 1) (rw x tt) in
            let v = ranged_value s 0 step_names i (rw y tt) in
            let j : i ≡ at + 2 = let z : ok a i ≡ ok (get_or s (at + 1) 0) (at + 1 + 1) = sym x ∙ u.2 in let t : i ≡ at + 1 + 1 = cc in omega arith in
            let v' = rw j at v.2 in
            let n : at + 2 + 1 ≡ at + 3 = omega arith in
            let o : at + 1 + 1 ≡ at + 2 = omega arith in (
              rw j at v.0,
              λ k. one_of (item_codes k) (p ∙ made_ok in_struct (pair_ok (λ c. ranged s 0 step_names) (u.2 ∙ rw o) (v' ∙ rw n)))
                  (call_in_codes k _ _),
            )

    -- a Fix, where it is nothing else
    pub fix_facts : (get_or s at 0 ≡ 1 → ⊥) → (get_or s at 0 ≡ 2 → ⊥) → FixFacts d at
    unfolding rule_item code_of next_of
    fix_facts n1 n2 = go (item_sort (get_or s at 0)) refl (opens_item (get_or s at 0))
      where
        read_so : (d : ℕ) (is : Items) (m : ℕ) → item_at s (suc d) at ≡ ok (fix is) m → items_at s d (at + 1) ≡ ok is m → FixFacts (suc d) at
        read_so d is m p q =
            let r : items_at s (suc d - 1) (at + 1) ≡ ok is m = rw sub-one q in
            record { deep = omega arith; good = rw r tt; code = λ k. rw (p, r) (fix_codes k is); next = rw (p, r) }

        inside : (d : ℕ) → item_at s d at ≡ made fix (inner d at (at + 1)) → Good (item_at s d at) → FixFacts d at
        inside zero p g = absurd (shut at (at + 1) p g)
        inside (suc d) p g =
            let q = level d at (at + 1) p in
            let v = made_value fix (items_at s d (at + 1)) (rw q at g) in
            read_so d v.0 v.1 (q ∙ v.3) v.2

        go : (f : ItemSort) → item_sort (get_or s at 0) ≡ f → OpensItem (get_or s at 0) f → FixFacts d at
        go sort_call e o = absurd (n1 o)
        go sort_call_in e o = absurd (n2 o)
        go sort_fix e o = inside d ((item_step d at g).1 ∙ rw e refl) g
        go sort_none e o =
            let p : item_at s d at ≡ bad at wrong_byte = (item_step d at g).1 ∙ rw e refl in
            absurd (rw p at g)

  module _ {d at : ℕ} (h : FixFacts d at) {out : List ℕ} {k : ℕ} where
    pub fix_room : Ready (item_codes k) (item_at s d at) out k → k < length out
    fix_room w = let l = rw (h.code k) at w.room in omega arith

    -- its items stand one place on
    pub fix_ready : Ready (item_codes k) (item_at s d at) out k → Ready (items_codes (k + 1)) (items_at s (d - 1) (at + 1)) (set out k fix_code) (k + 1)
    fix_ready w =
        let l = simp (h.code k, length-append) at w.room in
        let m = simp (h.code k, length-append) at w.few in
        record { good = h.good; room = rw (length-set out k fix_code) (omega arith); few = omega arith }

    module _ {p : Put} {out2 : List ℕ} (i : Wrote (items_codes (k + 1)) (items_at s (d - 1) (at + 1)) (set out k fix_code) (k + 1) p out2) where
      pub fix_end : Ready (item_codes k) (item_at s d at) out k → p.at < length out2
      fix_end w =
          let l = simp (h.code k, length-append) at w.room in
          omega (arith, i.at, placed_kept i, length-set out k fix_code)

      -- and are followed by the code that goes round to them
      pub fix_wrote : {out3 : List ℕ} {q : Put} {v : ℕ} → v ≡ round_code (k + 1)
          → (q.next ≡ p.next) × (q.at ≡ p.at + 1) × (out3 ≡ set out2 p.at v) → Wrote (item_codes k) (item_at s d at) out k q out3
      fix_wrote e w = placed_as (placed_first refl (placed_last i (round_code (k + 1)) w.0 w.1 (rw e at w.2))) (h.code k) h.next

  -- Items in a row --------------------------------------------------------------

  -- a count and items
  pub items_part : (d at : ℕ) → Good (items_at s d at)
      → (at < length s) × ((k : ℕ) → Part (items_codes k) (items_at s d at) (items_codes k) (row_at s d (get_or s at 0) (at + 1)) [])
  unfolding read_items
  items_part d at g =
      let v = counted_value s 1 max_items (λ n m. row_at s d n m) at g in
      (v.0, λ k. same_part (items_codes k) v.1 g)

  module _ (d n at k : ℕ) where
    -- no item, no code
    items_none : n ≡ 0 → (out : List ℕ) → Wrote (items_codes k) (row_at s d n at) out k (record { next = at; at = k }) out
    items_none e out = row_none (items_codes k) (item_codes k) stop item (λ m. item_at s d m) n at (no_codes k) e out k

    -- the codes of an item, and those of the others from where they end
    abbrev others : ℕ
    others = k + length (code_of (item_codes k) (item_at s d at))

    row_parts : (n ≡ 0 → ⊥) → Good (row_at s d n at)
        → Parts (items_codes k) (row_at s d n at) (item_codes k) (item_at s d at) (items_codes others) (λ m. row_at s d (n - 1) m) []
    unfolding code_of
    row_parts z g =
        let v = many_value stop item (λ m. item_at s d m) n at z g in
        let e : items_codes others v.2 ≡ items_codes (k + length (item_codes k v.0)) v.2 =
        ap (λ r. items_codes (k + length (code_of (item_codes k) r)) v.2) v.4 in
        parts_of (items_codes k) (item_codes k) (items_codes others) (λ m. row_at s d (n - 1) m) v.6 v.4 v.5
        (more_codes k v.0 v.2 ∙ rw (append-nil (items_codes others v.2), e))

    module _ (z : n ≡ 0 → ⊥) {out : List ℕ} (w : Ready (items_codes k) (row_at s d n at) out k) where
      row_first : Ready (item_codes k) (item_at s d at) out k
      row_first = parts_ready (row_parts z w.good) w

      module _ {p : Put} {out1 : List ℕ} (i : Wrote (item_codes k) (item_at s d at) out k p out1) where
        row_next : Ready (items_codes p.at) (row_at s d (n - 1) p.next) out1 p.at
        row_next = rw (← i.at) at (parts_next (row_parts z w.good) w i)

        row_wrote : {q : Put} {out2 : List ℕ} → Wrote (items_codes p.at) (row_at s d (n - 1) p.next) out1 p.at q out2
            → Wrote (items_codes k) (row_at s d n at) out k q out2
        row_wrote {q} {out2} j =
            parts_same i (subst (λ x. Wrote (items_codes x) (row_at s d (n - 1) p.next) out1 p.at q out2) i.at j) (row_parts z w.good)

  -- of n items that are left, the next may be written, and then the others are left; or all are written
  module _ (d n : ℕ) {R : Result Items} {out : List ℕ} {k : ℕ} {p : Put} {out1 : List ℕ} (x : Left s d n R out k p out1) where
    pub left_ready : (n ≡ 0 → ⊥) → Ready (item_codes p.at) (item_at s d p.next) out1 p.at
    left_ready z = row_first d n p.next p.at z x.ready

    pub left_next : (n ≡ 0 → ⊥) → {q : Put} {out2 : List ℕ} → Wrote (item_codes p.at) (item_at s d p.next) out1 p.at q out2
        → Left s d (n - 1) R out k q out2
    left_next z i =
        record {
          ready = row_next d n p.next p.at z x.ready i;
          kept = placed_kept i ∙ x.kept;
          whole = λ r out3 j. x.whole r out3 (row_wrote d n p.next p.at z x.ready i j);
        }

    pub left_none : n ≡ 0 → Wrote (items_codes k) R out k p out1
    left_none e =
        let w = items_none d n p.next p.at e out1 in
        x.whole p out1 (record { next = w.next; at = w.at; list = w.list })

  -- all of a row is left
  pub left_all : (d n at : ℕ) {out : List ℕ} {k : ℕ} → Ready (items_codes k) (row_at s d n at) out k
      → Left s d n (row_at s d n at) out k (record { next = at; at = k }) out
  left_all d n at w = record { ready = w; kept = refl; whole = λ q out2 e. e }

-- the end behind the schedule's items
pub schedule_part : (s : List ℕ) (at : ℕ) → Good (schedule_at s at)
    → Part schedule_codes (schedule_at s at) (items_codes 0) (schedule_at s at) (end_code ∷ [])
schedule_part s at g = let v = value (schedule_at s at) g in part_of schedule_codes (items_codes 0) v.2 v.2 (whole_codes v.0)
