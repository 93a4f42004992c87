-- One block (01, 'Blocks'): its parts, when it is right, and the block that holds given bytes.
use Rattle.std.specs.Prelude.{◌≡◌, ℕ, ◌+◌, ◌-◌, ◌/◌, ◌%◌, ◌<◌, ◌≤◌, Bool, true, false, ◌&&◌, List, [], ◌∷◌, ◌++◌, length, take, drop, replicate, ◌==◌, nat_le}
use Rattle.std.proofs.Math.Seq.{slice}
use Rattle.little_endian.specs.Numbers.{pair_at}
use Rattle.block.specs.Sums.{byte, sum_a, sum_b}
use Rattle.block.specs.declared.Fault.TheVariants.{Sum, Layout}
use Rattle.std.specs.Prelude.{Option, Some, None}
use Rattle.block.specs.declared.Fault.{Fault}

abbrev pub block_size : ℕ
block_size = 512

abbrev pub payload_size : ℕ
payload_size = 504

-- the bytes of a number of two, little endian
unfoldable pub pair : ℕ → List ℕ
pair n = n % 256 ∷ n / 256 ∷ []

-- bytes 0-1: the block's index; bytes 2-3: payload bytes used
unfoldable pub index : List ℕ → ℕ
index b = pair_at b 0

unfoldable pub used : List ℕ → ℕ
used b = pair_at b 2

-- the payload starts at byte 4: the used part of it, and the unused one, up to byte 507
unfoldable pub used_part : List ℕ → List ℕ
used_part b = take (used b) (drop 4 b)

unfoldable pub unused_part : List ℕ → List ℕ
unused_part b = slice (4 + used b) 508 b

-- bytes 508-509 are sum A, bytes 510-511 sum B
pub record SumsRight (b : List ℕ) : Type 0 where
  pub a_right : pair_at b 508 ≡ sum_a b
  pub b_right : pair_at b 510 ≡ sum_b b

-- how many payload bytes a block may use, by whether it is the last
abbrev pub UsedRight : Bool → ℕ → Type 0
UsedRight true u = (1 ≤ u) × (u ≤ payload_size)
UsedRight false u = u ≡ payload_size

-- block k is laid out as it should be
pub record LaidOut (k : ℕ) (last : Bool) (b : List ℕ) : Type 0 where
  pub index_right : index b ≡ k
  pub used_right : UsedRight last (used b)
  pub unused_zero : (i : ℕ) → 4 + used b ≤ i → i < 508 → byte b i ≡ 0

-- The same as tests that compute ----------------------------------------------

unfoldable pub sums_right : List ℕ → Bool
sums_right b = pair_at b 508 == sum_a b && pair_at b 510 == sum_b b

unfoldable pub used_right : Bool → ℕ → Bool
used_right true u = nat_le 1 u && nat_le u payload_size
used_right false u = u == payload_size

unfoldable pub zeros : List ℕ → Bool
zeros [] = true
zeros (x ∷ xs) = x == 0 && zeros xs

unfoldable pub laid_out : ℕ → Bool → List ℕ → Bool
laid_out k last b = index b == k && (used_right last (used b) && zeros (unused_part b))

-- the first fault of a block: its sums before its layout
unfoldable pub block_fault : ℕ → Bool → List ℕ → Option Fault
block_fault k last b =
    elim (sums_right b) [ false ↦ Some Sum | true ↦ elim (laid_out k last b) [ false ↦ Some Layout | true ↦ None ] ]

-- The block of index k that holds the bytes p, of which there are at most 504 -------------------

-- its bytes 0 to 507: index, used count, payload with the unused bytes zero
unfoldable pub front : ℕ → List ℕ → List ℕ
front k p = pair k ++ (pair (length p) ++ (p ++ replicate (payload_size - length p) 0))

-- and the sums of these
unfoldable pub block_of : ℕ → List ℕ → List ℕ
block_of k p = front k p ++ (pair (sum_a (front k p)) ++ pair (sum_b (front k p)))
