-- Items and the schedule are read exactly (01, 'Program stream'), at every number of levels of Fix.
use Prim.Native.Nat.{ℕ, zero, suc, ◌+◌, ◌≤◌}
use Rattle.std.proofs.Common.{arith, ap}
use Rattle.std.specs.Prelude.{◌≡◌, List, [], ◌∷◌, length}
use Rattle.std.proofs.Math.Path.{refl}
use Rattle.types.specs.Limits.{step_names, max_items, fix_levels}
use Rattle.program.specs.Tree.{Item, Item.call, Item.call_in, Item.fix, Items, Items.stop, Items.item, items}
use Rattle.program.specs.Encoding.{enc_item, enc_items}
use Rattle.program.specs.Counts.{fixes, fixes_in, CountsItem, CountsItems, CountsSchedule}
use Rattle.program.specs.Reader.{Result, ranged, opened, pair, lookup, ItemSort, ItemSort.sort_call, ItemSort.sort_call_in, ItemSort.sort_fix}
use Rattle.program.specs.Reader.{ItemSort.sort_none, item_sorts, item_sort, read_items, rule_item, read_item}
use Rattle.program.specs.Exact.{Stands, Stands.letter, Exact, Behind, Formed, Rowed}
use Rattle.program.proofs.Laws.PartLaws.{made_ok}
use Rattle.program.proofs.Laws.JoinLaws.{exact_iff, pair_exact, row_exact, behind, shut, formed, no_form, counted_exact, lookup_is, Reads, opened_exact}
use Rattle.program.proofs.Laws.WordLaws.{below_exact}

-- the byte that opens an item
abbrev pub OpensItem : ℕ → ItemSort → Type 0
OpensItem b sort_call = b ≡ 1
OpensItem b sort_call_in = b ≡ 2
OpensItem b sort_fix = b ≡ 3
OpensItem b sort_none = Unit {0}

-- a byte is the one that opens its sort of item
pub opens_item : (b : ℕ) → OpensItem b (item_sort b)
unfolding item_sort
opens_item b = lookup_is OpensItem item_sorts sort_none b tt (omega arith)

module _ (ar : List ℕ) where
  -- within the counts, with at most d levels of Fix; a row of i such items; the items of a Fix
  abbrev pub InItem : ℕ → Item → Type 0
  InItem d t = (CountsItem ar t) × (fixes t ≤ d)

  abbrev pub InItems : ℕ → ℕ → Items → Type 0
  InItems d i is = (items is ≡ i) × (CountsItems ar is) × (fixes_in is ≤ d)

  abbrev pub InFix : ℕ → Items → Type 0
  InFix d is = InItem d (fix is)

  abbrev pub enc_schedule : Items → List ℕ
  enc_schedule is = items is ∷ enc_items is

  -- the items of a Fix are a row of items
  pub items_row : (d : ℕ) → Rowed stop item (InItem d) enc_item (InItems d) (λ i. enc_items)
  unfolding items CountsItems fixes_in enc_items
  items_row d = record {
    nil = (refl, tt, omega arith);
    cons = λ i t is p q. (ap suc q.0, (p.0, q.1), omega arith);
    nil_only = nil_only;
    cons_only = cons_only;
    nil_bytes = refl;
    cons_bytes = λ i t is p. refl;
  }
    where
      nil_only : (is : Items) → InItems d 0 is → stop ≡ is
      nil_only stop h = refl
      nil_only (item t is) h = absurd (omega arith)

      cons_only : (i : ℕ) (is : Items) → InItems d (suc i) is → (t : Item) × (l : Items) × (InItem d t) × (InItems d i l) × (item t l ≡ is)
      cons_only i stop h = absurd (omega arith)
      cons_only i (item t is) h = (t, is, (h.1.0, omega arith), (omega arith, h.1.1, omega arith), refl)

  -- a count and so many items, where r reads each of them
  pub items_exact : (d : ℕ) {r : List ℕ → ℕ → Result Item} → Exact (InItem d) enc_item r
      → Exact (λ is. (1 ≤ items is) × (items is ≤ max_items) × (CountsItems ar is) × (fixes_in is ≤ d)) enc_schedule (λ s. read_items ar s (r s))
  unfolding read_items
  items_exact d x =
      exact_iff (counted_exact 1 max_items items (λ i is h p. p.0) (row_exact x (items_row d)))
      λ is. (λ h. (h.0, h.1, h.2.1, h.2.2), λ h. (h.0, h.1, (refl, h.2, h.3)))

  -- the parts of the items that hold no others
  call_exact : Exact (λ n. CountsItem ar (call n)) (λ n. n ∷ []) (λ s. ranged s 0 step_names)
  unfolding CountsItem
  call_exact = below_exact step_names

  call_in_exact : Exact (λ p. CountsItem ar (call_in p.0 p.1))
      (λ p. p.0 ∷ p.1 ∷ []) (λ s n. pair (ranged s 0 (length ar) n) λ c. ranged s 0 step_names)
  unfolding CountsItem
  call_in_exact = pair_exact (below_exact (length ar)) λ c. below_exact step_names

  -- where w reads what stands behind the byte of a Fix, with at most d levels in all
  module _ (d : ℕ) (w : List ℕ → ℕ → ℕ → Result Items) (x : Behind (InFix d) enc_schedule (λ s n. w s n (n + 1))) where
    -- each sort of item, behind the byte that opens it
    sort_laws : (f : ItemSort) → Formed (InItem d) enc_item (λ b. OpensItem b f) (λ s n. rule_item ar s (w s) n (n + 1) f)
    unfolding rule_item fixes enc_item
    sort_laws sort_call = formed (behind call_exact) _ (λ n h. (h, omega arith)) λ b n o. rw o
    sort_laws sort_call_in = formed (behind call_in_exact) _ (λ p h. (h, omega arith)) λ b p o. rw o
    sort_laws sort_fix = formed x _ (λ is h. h) λ b is o. rw o
    sort_laws sort_none = no_form

    -- each tree, at the byte that opens it
    complete_rule : (s : List ℕ) (t : Item) (n m : ℕ) → InItem d t → Stands s n (enc_item t) m
        → Reads s (λ b. rule_item ar s (w s) n (n + 1) (item_sort b)) t n m
    unfolding rule_item enc_item item_sort lookup
    complete_rule s (call i) n m c (letter h q v) = (1, h, q, made_ok _ (call_exact.complete s i _ m c.0 v))
    complete_rule s (call_in k i) n m c (letter h q v) = (2, h, q, made_ok _ (call_in_exact.complete s (k, i) _ m c.0 v))
    complete_rule s (fix is) n m c (letter h q v) = (3, h, q, made_ok _ (x.complete s is n m c v))

    item_in : Exact (InItem d) enc_item (λ s. opened s item_sort (rule_item ar s (w s)))
    item_in = opened_exact _ OpensItem opens_item sort_laws complete_rule

  -- an item with at most d levels of Fix
  pub item_exact : (d : ℕ) → Exact (InItem d) enc_item (λ s. read_item ar s d)
  unfolding read_item CountsItem fixes
  item_exact zero = item_in 0 _ (shut λ is h. omega arith)
  item_exact (suc d) =
      let x = items_exact d (item_exact d) in
      item_in (suc d) _ (behind (exact_iff x λ is. (λ h. ((h.0, h.1, h.2), omega arith), λ h. (h.0.0, h.0.1, h.0.2, omega arith))))

  -- the schedule
  pub schedule_exact : Exact (CountsSchedule ar) enc_schedule (λ s. read_items ar s (read_item ar s fix_levels))
  unfolding CountsSchedule
  schedule_exact = items_exact fix_levels (item_exact fix_levels)
