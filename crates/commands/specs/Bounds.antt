-- The limits on commands, depth and items (01, number 6): they depend on a program's shape alone.
use Rattle.std.specs.Prelude.{ℕ, suc, ◌+◌, ◌≤◌, max, List, [], ◌∷◌, map, length}
use Rattle.types.specs.Limits.{step_commands, max_commands, max_depth, schedule_items}
use Rattle.program.specs.Tree.{Item, Item.call, Item.call_in, Item.fix, Items, Items.stop, Items.item, Step, Program}
use Rattle.program.specs.Counts.{All}
use Rattle.commands.specs.Commands.{Flat, commands}
use Rattle.commands.specs.Depth.{depth}

-- every item at every level, each Fix being one
unfoldable mutual
  pub item_count : Item → ℕ
  item_count (call n) = 1
  item_count (call_in k n) = 1
  item_count (fix is) = suc (items_count is)

  pub items_count : Items → ℕ
  items_count stop = 0
  items_count (item i is) = item_count i + items_count is

-- over the steps of one struct, and over those of all
unfoldable pub total : {A : Type 0} → (A → ℕ) → List A → ℕ
total f [] = 0
total f (a ∷ l) = f a + total f l

unfoldable pub greatest : {A : Type 0} → (A → ℕ) → List A → ℕ
greatest f [] = 0
greatest f (a ∷ l) = max (f a) (greatest f l)

-- a step's commands, how many they are, and their depth
abbrev pub step_list : Step → List Flat
step_list t = commands t.body

abbrev pub step_size : Step → ℕ
step_size t = length (step_list t)

abbrev pub arities : Program → List ℕ
arities p = map length p.params

abbrev pub step_depth : Program → Step → ℕ
step_depth p t = depth (arities p) (step_list t) 0 0

-- the commands in all, and the greatest depth over all steps, which the checker reports
unfoldable pub program_size : Program → ℕ
program_size p = total (total step_size) p.steps

unfoldable pub program_depth : Program → ℕ
program_depth p = greatest (greatest (step_depth p)) p.steps

unfoldable pub Within : Program → Type 0
Within p =
    (All (All (λ t. step_size t ≤ step_commands)) p.steps)
    × (program_size p ≤ max_commands)
    × (All (All (λ t. step_depth p t ≤ max_depth)) p.steps)
    × (items_count p.schedule ≤ schedule_items)
