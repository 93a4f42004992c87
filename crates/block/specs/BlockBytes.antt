-- Parts and joins of lists of bytes are lists of bytes, and so is the block that holds bytes (01, 'Blocks').
use Rattle.std.specs.Prelude.{◌≡◌, ℕ, zero, suc, ◌+◌, ◌-◌, ◌<◌, ◌≤◌, Bool, true, false, List, [], ◌∷◌, ◌++◌, length, take, drop, replicate, nat_lt, refl}
use Rattle.std.proofs.Common.{arith, length-take, get_or-take, get_or-drop, ltb-true, ltb-false}
use Rattle.std.proofs.Math.ListN.{get_or-eq_default}
use Rattle.block.specs.Sums.{byte, Bytes, sum_a, sum_b, wrap}
use Rattle.block.specs.Block.{payload_size, pair, front, block_of}

pub bytes_take : (n : ℕ) (x : List ℕ) → Bytes x → Bytes (take n x)
bytes_take n x small i = go (nat_lt i n) refl
  where
    go : (t : Bool) → nat_lt i n ≡ t → byte (take n x) i < 256
    go true e = omega (arith, get_or-take n x i 0 (ltb-true i n e), small i)
    go false e =
        let past : length (take n x) ≤ i = omega (arith, length-take n x, ltb-false i n e) in
        omega (arith, get_or-eq_default (take n x) 0 past)

pub bytes_drop : (n : ℕ) (x : List ℕ) → Bytes x → Bytes (drop n x)
bytes_drop n x small i = rw get_or-drop (small (n + i))

pub bytes_append : (x y : List ℕ) → Bytes x → Bytes y → Bytes (x ++ y)
bytes_append [] y bx by i = by i
bytes_append (a ∷ x) y bx by zero = bx zero
bytes_append (a ∷ x) y bx by (suc i) = bytes_append x y (λ j. bx (suc j)) by i

bytes_pair : (n : ℕ) → n < wrap → Bytes (pair n)
unfolding pair
bytes_pair n h zero = omega arith
bytes_pair n h (suc zero) = omega arith
bytes_pair n h (suc (suc i)) = omega arith

bytes_zeros : (n : ℕ) → Bytes (replicate n 0)
bytes_zeros zero i = omega arith
bytes_zeros (suc n) zero = omega arith
bytes_zeros (suc n) (suc i) = bytes_zeros n i

pub bytes_block : (k : ℕ) (p : List ℕ) → k < wrap → length p ≤ payload_size → Bytes p → Bytes (block_of k p)
unfolding block_of front sum_a sum_b
bytes_block k p h fits small =
    let z = bytes_zeros (payload_size - length p) in
    bytes_append (front k p) _
    (bytes_append (pair k) _ (bytes_pair k h) (bytes_append (pair (length p)) _ (bytes_pair (length p) (omega arith)) (bytes_append p _ small z)))
    (bytes_append (pair (sum_a (front k p))) _ (bytes_pair (sum_a (front k p)) (omega arith)) (bytes_pair (sum_b (front k p)) (omega arith)))
