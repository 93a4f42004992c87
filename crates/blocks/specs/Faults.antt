-- What each answer of looking through an image means, in 01's own conditions ('Blocks', and 1 to 3, 9 and 10 of 'Numbers from the input'): blocks in
-- order, and in a block what `BlockFaults` says.
use Rattle.std.specs.Prelude.{ℕ, ◌<◌, List, length, Option, Some, None}
use Rattle.block.specs.BlockFaults.{BlockRight, HasFault}
use Rattle.blocks.specs.Images.{LengthRight, block, count, is_last}
use Rattle.block.specs.declared.Fault.{Fault}
use Rattle.block.specs.declared.Fault.TheVariants.{Length, Sum, Layout}

-- the first k blocks of an image of n are right
abbrev pub AllRight : ℕ → List ℕ → ℕ → Type 0
AllRight n x k = (j : ℕ) → j < k → BlockRight j (is_last n j) (block x j)

-- among the first k blocks of an image of n, the first that is not right has that fault
pub record FirstFault (n : ℕ) (x : List ℕ) (k : ℕ) (f : Fault) : Type 0 where
  pub at : ℕ
  pub within : at < k
  pub before : AllRight n x at
  pub faulty : HasFault at (is_last n at) (block x at) f

abbrev pub FirstSays : ℕ → List ℕ → ℕ → Option Fault → Type 0
FirstSays n x k None = AllRight n x k
FirstSays n x k (Some f) = FirstFault n x k f

-- what an answer says of an image where max blocks are allowed
abbrev pub Says : ℕ → List ℕ → Option Fault → Type 0
Says max x None = LengthRight max (length x) × AllRight (count x) x (count x)
Says max x (Some Length) = LengthRight max (length x) → ⊥
Says max x (Some Sum) = LengthRight max (length x) × FirstFault (count x) x (count x) Sum
Says max x (Some Layout) = LengthRight max (length x) × FirstFault (count x) x (count x) Layout
