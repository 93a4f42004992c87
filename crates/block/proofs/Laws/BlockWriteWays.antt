-- One law for each way through the functions that write bytes and a block (01, 'Blocks').
use Rattle.std.specs.Prelude.{◌≡◌, ℕ, ◌+◌, ◌-◌, ◌/◌, ◌%◌, ◌<◌, ◌≤◌, List, ◌++◌, length, take, drop, replicate, slice_set, refl}
use Rattle.std.proofs.Common.{arith, sym, ◌∙◌, take_at, drop_at, length-take-le}
use Rattle.std.proofs.Math.Nat.{add-sub_cancel_left}
use Rattle.std.proofs.Math.Path.{ap}
use mathlib.Core.List.{append_assoc}
use Rattle.std.proofs.Math.ListN.{length-append, length-replicate}
use Rattle.std.proofs.lemmas.List.{replicate-append-replicate}
use Rattle.std.proofs.lemmas.List.Edits.{sets, sets-eq}
use Rattle.little_endian.specs.Numbers.{bytes_of}
use Rattle.block.specs.Put.{put}
use Rattle.block.proofs.Laws.PutLaws.{put_set, put_next}
use Rattle.block.specs.Sums.{sum_a, sum_b}
use Rattle.block.specs.Block.{payload_size, pair, front, block_of}
use Rattle.block.proofs.Laws.BlockRoundTrip.{front_length}

-- Bytes -------------------------------------------------------------------------

pub put_pair : (d : List ℕ) (at n : ℕ) → at + 2 ≤ length d → n < 65536 → sets d at (bytes_of 2 n) ≡ put d at (pair n)
unfolding put pair bytes_of
put_pair d at n h k =
    let high : n / 256 % 256 ≡ n / 256 = omega arith in
    sets-eq (bytes_of 2 n) d at h ∙ append_assoc (take at d) (bytes_of 2 n) _ ∙ rw high refl

pub zeros_turn : (d : List ℕ) (at n i : ℕ) → at + n ≤ length d → i < n → slice_set (put d at (replicate i 0)) (at + i) 0 ≡ put d at (replicate (i + 1) 0)
zeros_turn d at n i fits h =
    let z : List ℕ = replicate i 0 in
    let e : length z ≡ i = length-replicate i 0 in
    ap (λ (m : ℕ). slice_set (put d at z) (at + m) 0) (sym e)
    ∙ put_set d at z 0 (omega arith)
    ∙ ap (put d at) (replicate-append-replicate i 1 0)

-- what was written stands there
pub put_part : (d : List ℕ) (at : ℕ) (xs : List ℕ) (n : ℕ) → length xs ≡ n → at + n ≤ length d → take n (drop at (put d at xs)) ≡ xs
unfolding put
put_part d at xs n e h =
    ap (take n) (drop_at (take at d) (xs ++ drop (at + length xs) d) at (length-take-le at d (omega arith))) ∙ take_at xs (drop (at + length xs) d) n e

pub pair_length : (n : ℕ) → length (pair n) ≡ 2
unfolding pair
pair_length n = refl

-- A block -----------------------------------------------------------------------

module _ (d : List ℕ) (at k : ℕ) (p : List ℕ) (fits : length p ≤ payload_size) where
  pub front_put : (d₁ d₂ d₃ d₄ : List ℕ) → at + 508 ≤ length d → d₁ ≡ put d at (pair k) → d₂ ≡ put d₁ (at + 2) (pair (length p))
      → d₃ ≡ put d₂ (at + 4) p → d₄ ≡ put d₃ (at + 4 + length p) (replicate (504 - length p) 0) → d₄ ≡ put d at (front k p)
  unfolding front pair
  front_put d₁ d₂ d₃ d₄ h e₁ e₂ e₃ e₄ =
      let n = length p in
      let two = pair k ++ pair n in
      let z : List ℕ = replicate (504 - n) 0 in
      let l : length (two ++ p) ≡ 4 + n = simp length-append (omega arith) in
      let lz : length z ≡ 504 - n = length-replicate (504 - n) 0 in
      let b₂ = put_next d at (pair k) (pair n) (at + 2) d₁ d₂ (omega arith) (omega arith) e₁ e₂ in
      let b₃ = put_next d at two p (at + 4) d₂ d₃ (omega arith) (omega arith) b₂ e₃ in
      put_next d at (two ++ p) z (at + 4 + n) d₃ d₄ (omega arith) (omega arith) b₃ e₄ ∙ ap (put d at) same
    where
      same : ((pair k ++ pair (length p)) ++ p) ++ replicate (504 - length p) 0 ≡ front k p
      same = simp append_assoc

  pub block_put : (d₁ d₂ d₃ : List ℕ) (a b : ℕ) → at + 512 ≤ length d → d₁ ≡ put d at (front k p)
      → a ≡ sum_a (take (at + 508 - at) (drop at d₁)) → b ≡ sum_b (take (at + 508 - at) (drop at d₁))
      → d₂ ≡ put d₁ (at + 508) (pair a) → d₃ ≡ put d₂ (at + 508 + 2) (pair b) → d₃ ≡ put d at (block_of k p)
  unfolding block_of
  block_put d₁ d₂ d₃ a b h e₁ ea eb e₂ e₃ =
      let f = front k p in
      let l = front_length k p fits in
      let part : take (at + 508 - at) (drop at d₁) ≡ f = rw (e₁, add-sub_cancel_left) (put_part d at f 508 l (omega arith)) in
      let a' : a ≡ sum_a f = ea ∙ ap sum_a part in
      let b' : b ≡ sum_b f = eb ∙ ap sum_b part in
      let two : (n : ℕ) → length (pair n) ≡ 2 = λ n. pair_length n in
      let la : length (f ++ pair a) ≡ 510 = length-append f (pair a) ∙ omega (arith, two a) in
      let c₂ = put_next d at f (pair a) (at + 508) d₁ d₂ (omega arith) (omega (arith, two a)) e₁ e₂ in
      let c₃ = put_next d at (f ++ pair a) (pair b) (at + 508 + 2) d₂ d₃ (omega arith) (omega (arith, two b)) c₂ e₃ in
      c₃ ∙ ap (put d at) (rw (a', b') (append_assoc f (pair (sum_a f)) (pair (sum_b f))))
