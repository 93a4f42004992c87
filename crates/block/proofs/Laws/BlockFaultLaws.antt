-- The answer on a block is exact: what it says holds, and a faulty block is not right and has one first fault.
use Rattle.std.specs.Prelude.{◌≡◌, ℕ, Bool, true, false, List, refl, Some, None}
use Rattle.types.specs.Reflects.{Reflects, Reflects.holds, Reflects.fails}
use Rattle.block.specs.Block.{SumsRight, LaidOut, block_fault}
use Rattle.block.proofs.Laws.BlockLaws.{sums_exact, layout_exact}
use Rattle.block.specs.BlockFaults.{BlockRight, HasFault, BlockSays}
use Rattle.block.specs.declared.Fault.{Fault}
use Rattle.block.specs.declared.Fault.TheVariants.{Length, Sum, Layout}

pub block_says : (k : ℕ) (last : Bool) (b : List ℕ) → BlockSays k last b (block_fault k last b)
unfolding block_fault
block_says k last b = go (sums_exact b) (layout_exact k last b)
  where
    go : {s l : Bool} → Reflects (SumsRight b) s → Reflects (LaidOut k last b) l
        → BlockSays k last b (elim s [ false ↦ Some Sum | true ↦ elim l [ false ↦ Some Layout | true ↦ None ] ])
    go (fails n) r = n
    go (holds h) (fails n) = (h, n)
    go (holds h) (holds k) = record { sums = h; layout = k }

-- a faulty block is not right, and has one first fault
pub not_right : (k : ℕ) (last : Bool) (b : List ℕ) (f : Fault) → HasFault k last b f → BlockRight k last b → ⊥
not_right k last b Length p r = p
not_right k last b Sum p r = p r.sums
not_right k last b Layout p r = p.1 r.layout

pub one_fault : (k : ℕ) (last : Bool) (b : List ℕ) (f g : Fault) → HasFault k last b f → HasFault k last b g → f ≡ g
one_fault k last b Length g p q = absurd p
one_fault k last b Sum Length p q = absurd q
one_fault k last b Sum Sum p q = refl
one_fault k last b Sum Layout p q = absurd (p q.0)
one_fault k last b Layout Length p q = absurd q
one_fault k last b Layout Sum p q = absurd (q p.0)
one_fault k last b Layout Layout p q = refl
