-- The codes of each item, and how many there are (01, 'Table and turns', and number 6).
use Prim.Native.Nat.{ℕ, suc, ◌+◌, ◌*◌, ◌≤◌}
use Rattle.std.proofs.Common.{arith, ◌∙◌, append_assoc}
use Rattle.std.proofs.Math.Numerals.{add-one}
use Rattle.std.specs.Prelude.{◌≡◌, [], ◌∷◌, ◌++◌}
use Rattle.std.proofs.Math.Path.{refl, sym, ap}
use Rattle.std.proofs.Math.ListN.{length, length-append}
use Rattle.types.specs.Limits.{schedule_items}
use Rattle.program.specs.Tree.{Item, Item.call, Item.call_in, Item.fix, Items, Items.stop, Items.item}
use Rattle.commands.specs.Bounds.{item_count, items_count}
use Rattle.machine.specs.Published.{StepCall.global, StepCall.local, Sched, of_item, of_items}
use Rattle.layout.specs.Codes.{fix_code, end_code, round_code}
use Rattle.memory.specs.Plan.{start_code, laid, laid_out}
use Rattle.compile.specs.Codes.{item_codes, items_codes, schedule_codes}

module _ (at : ℕ) where
  pub call_codes : (n : ℕ) → item_codes at (call n) ≡ start_code (global n) ∷ []
  unfolding item_codes of_item laid
  call_codes n = refl

  pub call_in_codes : (k n : ℕ) → item_codes at (call_in k n) ≡ start_code (local k n) ∷ []
  unfolding item_codes of_item laid
  call_in_codes k n = refl

  -- a Fix stands around its items
  pub fix_codes : (is : Items) → item_codes at (fix is) ≡ fix_code ∷ (items_codes (at + 1) is ++ (round_code (at + 1) ∷ []))
  unfolding item_codes items_codes of_item laid
  fix_codes is = rw add-one refl

  pub no_codes : items_codes at stop ≡ []
  unfolding items_codes of_items laid
  no_codes = refl

  -- what stands behind an item
  behind : (i : Item) (s : Sched) → laid (of_item i s) at ≡ item_codes at i ++ laid s (at + length (item_codes at i))
  unfolding item_codes of_item laid
  behind (call n) s = rw add-one refl
  behind (call_in k n) s = rw add-one refl
  behind (fix is) s =
      let f = laid (of_items is) (suc at) in
      let e : suc (suc at) + length f ≡ at + suc (length (f ++ (round_code (suc at) ∷ []))) = simp length-append (omega arith) in
      ap (λ l. fix_code ∷ l) (ap (λ x. f ++ round_code (suc at) ∷ laid s x) e ∙ sym (append_assoc f (round_code (suc at) ∷ []) _))

  -- items stand in order
  pub more_codes : (i : Item) (is : Items) → items_codes at (item i is) ≡ item_codes at i ++ items_codes (at + length (item_codes at i)) is
  unfolding items_codes of_items
  more_codes i is = behind i (of_items is)

-- a step has one code, a Fix two besides those of its items
mutual
  unfolding item_count

  item_few : (i : Item) (at : ℕ) → length (item_codes at i) ≤ 2 * item_count i
  item_few (call n) at = rw (call_codes at n) (omega arith)
  item_few (call_in k n) at = rw (call_in_codes at k n) (omega arith)
  item_few (fix is) at = rw (fix_codes at is) (simp length-append (omega (arith, items_few is (at + 1))))

  items_few : (is : Items) (at : ℕ) → length (items_codes at is) ≤ 2 * items_count is
  items_few stop at = rw (no_codes at) (omega arith)
  items_few (item i is) at =
      rw (more_codes at i is) (simp length-append (omega (arith, item_few i at, items_few is (at + length (item_codes at i)))))

-- the end stands behind the items, and 129 places are enough
pub whole_codes : (is : Items) → schedule_codes is ≡ items_codes 0 is ++ (end_code ∷ [])
unfolding schedule_codes items_codes laid_out
whole_codes is = refl

pub schedule_few : (is : Items) → items_count is ≤ schedule_items → length (schedule_codes is) ≤ suc (2 * schedule_items)
schedule_few is h = rw (whole_codes is) (simp length-append (omega (arith, items_few is 0)))
