-- One law for each way through the functions that test a block (01, 'Blocks'): from what a way has seen to the test's answer.
use Rattle.std.specs.Prelude.{◌≡◌, ℕ, ◌+◌, Bool, true, false, List, ◌==◌, ◌≢◌, ◌&&◌, Some, None}
use Rattle.std.proofs.Math.Path.{sym}
use Rattle.std.proofs.Common.{◌∙◌, eq-eqb, ne_eqb}
use Rattle.std.proofs.Math.Seq.{slice}
use Rattle.block.specs.Sums.{sum_a, sum_b}
use Rattle.little_endian.specs.Numbers.{pair_at}
use Rattle.block.specs.Block.{index, used, unused_part, sums_right, used_right, zeros, laid_out, block_fault}
use Rattle.block.specs.declared.Fault.TheVariants.{Sum, Layout}

module _ (b : List ℕ) where
  pub a_differs : (p a : ℕ) → p ≡ pair_at b 508 → a ≡ sum_a b → (p ≢ a) → false ≡ sums_right b
  unfolding sums_right
  a_differs p a ep ea n = rw (ne_eqb (pair_at b 508) (sum_a b) (λ e. n (ep ∙ e ∙ sym ea)))

  pub a_agrees : (p a q w : ℕ) → p ≡ pair_at b 508 → a ≡ sum_a b → p ≡ a → q ≡ pair_at b 510 → w ≡ sum_b b → (q == w) ≡ sums_right b
  unfolding sums_right
  a_agrees p a q w ep ea e eq ew = rw (eq-eqb (pair_at b 508) (sum_a b) (sym ep ∙ e ∙ ea), eq, ew)

module _ (k : ℕ) (last : Bool) (b : List ℕ) where
  pub index_differs : (p : ℕ) → p ≡ pair_at b 0 → (p ≢ k) → false ≡ laid_out k last b
  unfolding laid_out index
  index_differs p ep n = rw (ne_eqb (pair_at b 0) k (λ e. n (ep ∙ e)))

  pub index_agrees : (p : ℕ) (t : Bool) → p ≡ pair_at b 0 → p ≡ k → t ≡ (used_right last (used b) && zeros (unused_part b)) → t ≡ laid_out k last b
  unfolding laid_out index
  index_agrees p t ep e et = rw (eq-eqb (pair_at b 0) k (sym ep ∙ e)) et

  pub used_wrong : (p u : ℕ) (t : Bool) → p ≡ pair_at b 0 → p ≡ k → u ≡ pair_at b 2 → t ≡ used_right last u → t ≡ false → false ≡ laid_out k last b
  unfolding laid_out index used
  used_wrong p u t ep e eu et f = rw (eq-eqb (pair_at b 0) k (sym ep ∙ e), ← eu, ← et, f)

  pub used_agrees : (p u : ℕ) (t r : Bool) → p ≡ pair_at b 0 → p ≡ k → u ≡ pair_at b 2 → t ≡ used_right last u → t ≡ true
      → r ≡ zeros (slice (4 + u) 508 b) → r ≡ laid_out k last b
  unfolding laid_out index used unused_part
  used_agrees p u t r ep e eu et f er = rw (eq-eqb (pair_at b 0) k (sym ep ∙ e), ← eu, ← et, f) er

  pub sums_wrong : (s : Bool) → s ≡ sums_right b → s ≡ false → Some Sum ≡ block_fault k last b
  unfolding block_fault
  sums_wrong s es f = rw (sym es ∙ f, block_fault)

  pub layout_wrong : (s l : Bool) → s ≡ sums_right b → s ≡ true → l ≡ laid_out k last b → l ≡ false → Some Layout ≡ block_fault k last b
  unfolding block_fault
  layout_wrong s l es f el g = rw (sym es ∙ f, block_fault, sym el ∙ g)

  pub block_agrees : (s l : Bool) → s ≡ sums_right b → s ≡ true → l ≡ laid_out k last b → l ≡ true → None ≡ block_fault k last b
  unfolding block_fault
  block_agrees s l es f el g = rw (sym es ∙ f, block_fault, sym el ∙ g)
