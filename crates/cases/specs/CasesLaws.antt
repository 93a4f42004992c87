-- Laws of the digests: nothing more, or one more.
use Rattle.std.specs.Prelude.{ℕ, zero, suc, ◌+◌, ◌-◌, ◌/◌, ◌%◌, ◌≤◌, ◌<◌, ◌≡◌, refl, List, length, drop, get_or}
use Rattle.std.proofs.Common.{arith, add-one, drop_of_length-le, drop-cons}
use Rattle.cases.specs.Cases.{digested, word_digested, list_digest, bytes_digest}

pub word_none : (n h w : ℕ) → n ≡ 0 → word_digested n h w ≡ h
unfolding word_digested
word_none zero h w e = refl
word_none (suc n) h w e = absurd (omega arith)

pub word_more : (n h w k : ℕ) → (n ≡ 0 → ⊥) → k ≡ digested h (w % 256) → word_digested (n - 1) k (w / 256) ≡ word_digested n h w
unfolding word_digested
word_more zero h w k e f = absurd (e refl)
word_more (suc n) h w k e f = let g : suc n - 1 ≡ n = omega arith in rw (g, f)

pub list_none : (l : List ℕ) (i h : ℕ) → length l ≤ i → list_digest h (drop i l) ≡ h
unfolding list_digest
list_none l i h e = rw (drop_of_length-le l e)

pub list_more : (l : List ℕ) (i h k : ℕ) → i < length l → k ≡ word_digested 8 h (get_or l i 0) → list_digest k (drop (i + 1) l) ≡ list_digest h (drop i l)
unfolding list_digest
list_more l i h k e f = rw (drop-cons l i 0, add-one, f)

pub bytes_none : (s : List ℕ) (i h : ℕ) → length s ≤ i → bytes_digest h (drop i s) ≡ h
unfolding bytes_digest
bytes_none s i h e = rw (drop_of_length-le s e)

pub bytes_more : (s : List ℕ) (i h k : ℕ) → i < length s → k ≡ digested h (get_or s i 0) → bytes_digest k (drop (i + 1) s) ≡ bytes_digest h (drop i s)
unfolding bytes_digest
bytes_more s i h k e f = rw (drop-cons s i 0, add-one, f)
