-- What each answer of looking at a block means, in 01's own conditions ('Blocks', and 2, 3 and 10 of 'Numbers from the input'): the sums before
-- index, used count and unused bytes.
use Rattle.std.specs.Prelude.{ℕ, Bool, List, Option, Some, None}
use Rattle.block.specs.Block.{SumsRight, LaidOut}
use Rattle.block.specs.declared.Fault.{Fault}
use Rattle.block.specs.declared.Fault.TheVariants.{Length, Sum, Layout}

-- block k is right
pub record BlockRight (k : ℕ) (last : Bool) (b : List ℕ) : Type 0 where
  pub sums : SumsRight b
  pub layout : LaidOut k last b

-- block k has that fault; a length is no fault of a block
abbrev pub HasFault : ℕ → Bool → List ℕ → Fault → Type 0
HasFault k last b Length = ⊥
HasFault k last b Sum = SumsRight b → ⊥
HasFault k last b Layout = SumsRight b × (LaidOut k last b → ⊥)

abbrev pub BlockSays : ℕ → Bool → List ℕ → Option Fault → Type 0
BlockSays k last b None = BlockRight k last b
BlockSays k last b (Some f) = HasFault k last b f
