-- Items and the schedule follow the fronts of their encodings (01, 4 and 5 of 'Numbers from the input').
use Prim.Native.Nat.{ℕ, zero, suc, ◌+◌, ◌<◌, ◌≤◌}
use native.Mathlib.Omega.{arith}
use Rattle.std.proofs.Math.Path.{refl}
use Rattle.std.specs.Prelude.{List, [], ◌∷◌, length}
use Rattle.types.specs.Limits.{step_names, max_items, fix_levels}
use Rattle.program.specs.Tree.{Item, Item.call, Item.call_in, Item.fix, Items, items}
use Rattle.program.specs.Encoding.{enc_item}
use Rattle.program.specs.Levels.{all_at}
use Rattle.program.specs.Counts.{fixes, fixes_in, CountsItem, CountsItems, CountsSchedule}
use Rattle.program.specs.Reader.{Result, ranged, opened, pair, lookup, ItemSort, ItemSort.sort_call, ItemSort.sort_call_in, ItemSort.sort_fix}
use Rattle.program.specs.Reader.{ItemSort.sort_none, item_sort, read_items, rule_item, read_item}
use Rattle.program.specs.Exact.{Stands, Stands.letter, Exact}
use Rattle.program.proofs.Laws.WordLaws.{below_exact}
use Rattle.program.proofs.Laws.ItemLaws.{OpensItem, opens_item, InItem, InFix, enc_schedule, items_row, item_exact}
use Rattle.program.specs.Follows.{Follows, FollowsBehind, FormEnds, Opened}
use Rattle.program.proofs.Laws.MetLaws.{met_made}
use Rattle.program.proofs.Laws.FollowsLaws.{follows_as, pair_follows, row_at, follows_behind, shut_follows, counted_follows, formed_ends}
use Rattle.program.proofs.Laws.FollowsLaws.{met_byte, opened_follows, no_form_ends}
use Rattle.program.proofs.Laws.WordFollows.{below_follows}

-- where there is a struct; items stand at level 0, whatever the deepest
module _ (ar : List ℕ) (structs : 0 < length ar) (top : ℕ) where
  outside : 0 ≤ top
  outside = omega arith

  abbrev levels_item : Item → List ℕ
  levels_item t = all_at 0 (enc_item t)

  abbrev levels_schedule : Items → List ℕ
  levels_schedule is = all_at 0 (enc_schedule ar is)

  -- a count and so many items
  pub items_follows : (d : ℕ) {r : List ℕ → ℕ → Result Item} → Exact (InItem ar d) enc_item r → Follows top (InItem ar d) enc_item levels_item r
      → Follows top (λ is. (1 ≤ items is) × (items is ≤ max_items) × (CountsItems ar is) × (fixes_in is ≤ d)) (enc_schedule ar) levels_schedule
      (λ s. read_items ar s (r s))
  unfolding read_items
  items_follows d x y =
      follows_as top
      (counted_follows top outside 1 max_items items (omega arith) (λ i is h p. p.0) λ i o. row_at top 0 x y (items_row ar d) i)
      (λ is h. (h.0, h.1, h.2.1, h.2.2)) (λ is h. (h.0, h.1, (refl, h.2, h.3))) (λ is. refl)

  -- the parts of the items that hold no others
  call_follows : Follows top (λ n. CountsItem ar (call n)) (λ n. n ∷ []) (λ n. 0 ∷ []) (λ s. ranged s 0 step_names)
  unfolding CountsItem
  call_follows = below_follows top 0 outside step_names (omega arith)

  call_in_follows : Follows top (λ p. CountsItem ar (call_in p.0 p.1))
      (λ p. p.0 ∷ p.1 ∷ []) (λ p. 0 ∷ 0 ∷ []) (λ s n. pair (ranged s 0 (length ar) n) λ c. ranged s 0 step_names)
  unfolding CountsItem
  call_in_follows =
      pair_follows top (below_exact (length ar)) (λ k c. c) (below_follows top 0 outside (length ar) structs) λ k c.
      below_follows top 0 outside step_names (omega arith)

  -- where w reads what stands behind the byte of a Fix, with at most d levels in all
  module _ (d : ℕ) (w : List ℕ → ℕ → ℕ → Result Items)
      (x : FollowsBehind top (InFix ar d) (enc_schedule ar) levels_schedule (λ s n. w s n (n + 1))) where
    -- each sort of item, behind the byte that opens it
    sort_ends : (f : ItemSort) → FormEnds top (InItem ar d) enc_item levels_item (λ b. OpensItem b f) (λ s n. rule_item ar s (w s) n (n + 1) f)
    unfolding rule_item fixes enc_item
    sort_ends sort_call = formed_ends top outside (follows_behind top call_follows) _ (λ n h. (h, omega arith)) (λ b n o. rw o) λ n. refl
    sort_ends sort_call_in = formed_ends top outside (follows_behind top call_in_follows) _ (λ p h. (h, omega arith)) (λ b p o. rw o) λ p. refl
    sort_ends sort_fix = formed_ends top outside x _ (λ is h. h) (λ b is o. rw o) λ is. refl
    sort_ends sort_none = no_form_ends

    -- each tree, at the byte that opens it
    tree_met : (s : List ℕ) (t : Item) (n m : ℕ) → InItem ar d t → Stands s n (enc_item t) m
        → Opened top s (λ b. rule_item ar s (w s) n (n + 1) (item_sort b)) enc_item levels_item t n m
    unfolding rule_item enc_item item_sort lookup
    tree_met s (call i) n m c (letter h q v) = (1, h, q, met_byte top outside (met_made _ (call_follows.meets s i _ m c.0 v)))
    tree_met s (call_in k i) n m c (letter h q v) = (2, h, q, met_byte top outside (met_made _ (call_in_follows.meets s (k, i) _ m c.0 v)))
    tree_met s (fix is) n m c (letter h q v) = (3, h, q, met_byte top outside (met_made _ (x.meets s is n m c v)))

    item_in : Follows top (InItem ar d) enc_item levels_item (λ s. opened s item_sort (rule_item ar s (w s)))
    unfolding CountsItem fixes
    item_in = opened_follows top _ OpensItem opens_item (call 0) (omega arith, omega arith) sort_ends tree_met

  -- an item with at most d levels of Fix
  pub item_follows : (d : ℕ) → Follows top (InItem ar d) enc_item levels_item (λ s. read_item ar s d)
  unfolding read_item CountsItem fixes
  item_follows zero = item_in 0 _ (shut_follows top λ is h. omega arith)
  item_follows (suc d) =
      let x = items_follows d (item_exact ar d) (item_follows d) in
      item_in (suc d) _
      (follows_behind top
      (follows_as top x (λ is h. ((h.0, h.1, h.2), omega arith)) (λ is h. (h.0.0, h.0.1, h.0.2, omega arith)) (λ is. refl)))

  -- the schedule
  pub schedule_follows : Follows top (CountsSchedule ar) (enc_schedule ar) levels_schedule (λ s. read_items ar s (read_item ar s fix_levels))
  unfolding CountsSchedule
  schedule_follows = items_follows fix_levels (item_exact ar fix_levels) (item_follows fix_levels)
