-- What of 01's number 7 is left to the checker of a written text (02 §1: of step names 17 asks for a declaration alone): a step name twice in a struct, or a
-- struct and a step name that it has not.
use mathlib.Core.List.{List, [], Memᴰ}
use Rattle.std.specs.Prelude.{get_or}
use Rattle.program.specs.Tree.{Item, Item.call, Item.call_in, Item.fix, Items, Items.stop, Items.item, Step, Program}
use Rattle.program.specs.Counts.{All}
use Rattle.commands.specs.Names.{Once, names_of_steps}

unfoldable mutual
  pub TypedThereItem : Item → List (List Step) → Type 0
  TypedThereItem (call n) tss = Unit {0}
  TypedThereItem (call_in k n) tss = Memᴰ n (names_of_steps (get_or tss k []))
  TypedThereItem (fix is) tss = TypedThere is tss

  pub TypedThere : Items → List (List Step) → Type 0
  TypedThere stop tss = Unit {0}
  TypedThere (item i is) tss = (TypedThereItem i tss) × (TypedThere is tss)

-- each struct has each step name once, and each typed call its step
pub record StepsRight (p : Program) : Type 0 where
  pub once : All (λ ts. Once (names_of_steps ts)) p.steps
  pub there : TypedThere p.schedule p.steps
