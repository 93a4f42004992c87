-- What is wrong with an image, by one sweep over each block (01, 'Blocks'). The sums of a block as they are defined look every byte
-- up from the block's start; a row that computes them goes through its bytes once.
use Rattle.std.specs.Prelude.{ℕ, zero, suc, ◌+◌, ◌*◌, ◌-◌, ◌%◌, ◌≡◌, refl, Bool, true, false, ◌&&◌, List, [], ◌∷◌, ◌++◌, length, eqb, Option, Some, None}
use Rattle.std.proofs.Common.{arith, ◌∙◌}
use Rattle.std.proofs.Math.Path.{ap}
use Rattle.block.specs.Sums.{byte, sum, summed, wrap, sum_a, sum_b}
use Rattle.block.proofs.Laws.SumLaws.{sum_ext}
use Rattle.little_endian.specs.Numbers.{pair_at}
use Rattle.block.specs.Block.{pair, sums_right, laid_out, block_fault, front, block_of}
use Rattle.blocks.specs.Images.{length_right, count, block, is_last, first_fault, fault}
use Rattle.block.specs.declared.Fault.TheVariants.{Length, Sum, Layout}
use Rattle.block.specs.declared.Fault.{Fault}

-- Sums ---------------------------------------------------------------------------------

-- the first n bytes; the first n bytes, times n, n - 1 and so on
unfoldable pub plain_sum : ℕ → List ℕ → ℕ
plain_sum zero b = 0
plain_sum (suc n) [] = 0
plain_sum (suc n) (x ∷ b) = x + plain_sum n b

unfoldable pub falling_sum : ℕ → List ℕ → ℕ
falling_sum zero b = 0
falling_sum (suc n) [] = 0
falling_sum (suc n) (x ∷ b) = suc n * x + falling_sum n b

sum_first : (n : ℕ) (f : ℕ → ℕ) → sum (suc n) f ≡ f 0 + sum n (λ i. f (suc i))
unfolding sum
sum_first zero f = omega arith
sum_first (suc n) f = omega (arith, sum_first n f)

sum_none : (n : ℕ) (f : ℕ → ℕ) → ((i : ℕ) → f i ≡ 0) → sum n f ≡ 0
unfolding sum
sum_none zero f h = refl
sum_none (suc n) f h = omega (arith, sum_none n f h, h n)

plain_is : (n : ℕ) (b : List ℕ) → sum n (λ i. byte b i) ≡ plain_sum n b
unfolding sum plain_sum
plain_is zero b = refl
plain_is (suc n) [] = sum_none (suc n) (λ i. byte [] i) (λ i. refl)
plain_is (suc n) (x ∷ b) = sum_first n (λ i. byte (x ∷ b) i) ∙ ap (λ (t : ℕ). x + t) (plain_is n b)

falling_is : (n : ℕ) (b : List ℕ) → sum n (λ i. (n - i) * byte b i) ≡ falling_sum n b
unfolding sum falling_sum
falling_is zero b = refl
falling_is (suc n) [] = sum_none (suc n) (λ i. (suc n - i) * byte [] i) (λ i. omega arith)
falling_is (suc n) (x ∷ b) =
    let z : suc n - 0 ≡ suc n = omega arith in
    let r : sum n (λ i. (suc n - suc i) * byte b i) ≡ falling_sum n b =
    sum_ext n _ _ (λ i h. let e : suc n - suc i ≡ n - i = omega arith in rw e) ∙ falling_is n b in
    sum_first n (λ i. (suc n - i) * byte (x ∷ b) i) ∙ rw (z, r)

module _ (b : List ℕ) where
  pub sum_a_is : sum_a b ≡ plain_sum summed b % wrap
  unfolding sum_a
  sum_a_is = ap (λ (n : ℕ). n % wrap) (plain_is summed b)

  pub sum_b_is : sum_b b ≡ falling_sum summed b % wrap
  unfolding sum_b
  sum_b_is = ap (λ (n : ℕ). n % wrap) (falling_is summed b)

-- Blocks -------------------------------------------------------------------------------

unfoldable pub swept_right : List ℕ → Bool
swept_right b = eqb (pair_at b 508) (plain_sum summed b % wrap) && eqb (pair_at b 510) (falling_sum summed b % wrap)

-- what is wrong with block k, by whether its sums are right
abbrev fault_by : ℕ → Bool → List ℕ → Bool → Option Fault
fault_by k last b right = elim right [ false ↦ Some Sum | true ↦ elim (laid_out k last b) [ false ↦ Some Layout | true ↦ None ] ]

unfoldable pub swept_fault : ℕ → Bool → List ℕ → Option Fault
swept_fault k last b = fault_by k last b (swept_right b)

-- the block of index k that holds the bytes p
unfoldable pub swept_block : ℕ → List ℕ → List ℕ
swept_block k p = front k p ++ (pair (plain_sum summed (front k p) % wrap) ++ pair (falling_sum summed (front k p) % wrap))

right_is : (b : List ℕ) → sums_right b ≡ swept_right b
unfolding sums_right swept_right
right_is b =
    ap (λ (n : ℕ). eqb (pair_at b 508) n && eqb (pair_at b 510) (sum_b b)) (sum_a_is b)
    ∙ ap (λ (n : ℕ). eqb (pair_at b 508) (plain_sum summed b % wrap) && eqb (pair_at b 510) n) (sum_b_is b)

block_swept : (k : ℕ) (last : Bool) (b : List ℕ) → block_fault k last b ≡ swept_fault k last b
unfolding block_fault swept_fault
block_swept k last b = ap (fault_by k last b) (right_is b)

pub block_is : (k : ℕ) (p : List ℕ) → block_of k p ≡ swept_block k p
unfolding block_of swept_block
block_is k p = rw (sum_a_is (front k p), sum_b_is (front k p))

-- Images -------------------------------------------------------------------------------

abbrev after : Option Fault → Option Fault → Option Fault
after f g = elim f [ Some e ↦ Some e | None ↦ g ]

unfoldable pub first_swept : ℕ → List ℕ → ℕ → Option Fault
first_swept n x zero = None
first_swept n x (suc k) = after (first_swept n x k) (swept_fault k (is_last n k) (block x k))

abbrev by_length : Bool → Option Fault → Option Fault
by_length t f = elim t [ false ↦ Some Length | true ↦ f ]

unfoldable pub swept : ℕ → List ℕ → Option Fault
swept max x = by_length (length_right max (length x)) (first_swept (count x) x (count x))

first_is : (n : ℕ) (x : List ℕ) (k : ℕ) → first_fault n x k ≡ first_swept n x k
unfolding first_fault first_swept
first_is n x zero = refl
first_is n x (suc k) =
    ap (λ (f : Option Fault). after f (block_fault k (is_last n k) (block x k))) (first_is n x k)
    ∙ ap (after (first_swept n x k)) (block_swept k (is_last n k) (block x k))

pub fault_is : (max : ℕ) (x : List ℕ) → fault max x ≡ swept max x
unfolding fault swept
fault_is max x = ap (by_length (length_right max (length x))) (first_is (count x) x (count x))
