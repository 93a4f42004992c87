-- Laws of bytes written into a list: how long it stays, and how writes follow one another.
use Rattle.std.specs.Prelude.{◌≡◌, ℕ, ◌+◌, ◌-◌, ◌<◌, ◌≤◌, List, [], ◌∷◌, ◌++◌, length, take, drop, set, slice_index, slice_set}
use native.Mathlib.Omega.{arith}
use Rattle.std.proofs.Common.{zero-add, add-one, ◌∙◌, append_assoc, length-drop, take-append-drop, take-suc}
use Rattle.std.proofs.Math.Path.{ap, sym, refl}
use borrow.Rule.Slice.PartMut.{put_mid}
use Rattle.std.proofs.Math.ListN.{length-append}
use Rattle.std.proofs.Math.Seq.{length-take-le, take_at, drop-append-add, drop-drop}
use Rattle.std.proofs.lemmas.List.{set_split}
use Rattle.block.specs.Put.{put}

pub put_nil : (d : List ℕ) (at : ℕ) → put d at [] ≡ d
unfolding put
put_nil d at = let e : at + 0 ≡ at = omega arith in rw e (take-append-drop at d)

pub put_front : (d xs : List ℕ) → put d 0 xs ≡ xs ++ drop (length xs) d
unfolding put
put_front d xs = rw zero-add

pub put_one : (d : List ℕ) (at x : ℕ) → at < length d → slice_set d at x ≡ put d at (x ∷ [])
unfolding put
put_one d at x h = rw (set_split d at x h, add-one)

module _ (d : List ℕ) (at : ℕ) (xs : List ℕ) where
  head_length : at ≤ length d → length (take at d ++ xs) ≡ at + length xs
  head_length h = length-append (take at d) xs ∙ ap (λ (n : ℕ). n + length xs) (length-take-le at d h)

  pub length_put : at + length xs ≤ length d → length (put d at xs) ≡ length d
  unfolding put
  length_put h =
      let hd : at ≤ length d = omega arith in
      simp (length-append, length-take-le, length-drop) (omega arith)

  -- what follows a write goes on behind it
  pub put_put : (ys : List ℕ) → at + length xs + length ys ≤ length d → put (put d at xs) (at + length xs) ys ≡ put d at (xs ++ ys)
  unfolding put
  put_put ys h =
      let m = at + length xs in
      let p = take at d ++ xs in
      let hd : at ≤ length d = omega arith in
      let e : length p ≡ m = head_length hd in
      let whole : take at d ++ (xs ++ drop m d) ≡ p ++ drop m d = sym (append_assoc (take at d) xs (drop m d)) in
      let front : take m (p ++ drop m d) ≡ p = take_at p (drop m d) m e in
      let back : drop (m + length ys) (p ++ drop m d) ≡ drop (m + length ys) d =
      ap (λ (n : ℕ). drop (n + length ys) (p ++ drop m d)) (sym e) ∙ drop-append-add p (drop m d) (length ys) ∙ drop-drop (length ys) m d in
      let both : length (xs ++ ys) ≡ length xs + length ys = length-append xs ys in
      let sum : m + length ys ≡ at + (length xs + length ys) = omega arith in
      rw (whole, front, back, both, sum) (simp append_assoc)

  pub put_set : (x : ℕ) → at + length xs < length d → slice_set (put d at xs) (at + length xs) x ≡ put d at (xs ++ (x ∷ []))
  put_set x h =
      let fits : at + length xs ≤ length d = omega arith in
      put_one (put d at xs) (at + length xs) x (rw length_put (omega arith)) ∙ put_put (x ∷ []) (omega arith)

-- a part of the list that is written over
pub part_put : (d xs : List ℕ) (at n : ℕ) → at + n ≤ length d → length xs ≡ n → put_mid at (at + n - at) d xs ≡ put d at xs
unfolding put
part_put d xs at n h e =
    let k : at + n - at ≡ length xs = omega arith in
    rw (k, drop-drop) refl

-- a turn of a loop that copies s
pub put_turn : (d : List ℕ) (at : ℕ) (s : List ℕ) (i : ℕ) → at + length s ≤ length d → i < length s
    → slice_set (put d at (take i s)) (at + i) (slice_index s i) ≡ put d at (take (i + 1) s)
put_turn d at s i fits h =
    let e : length (take i s) ≡ i = length-take-le i s (omega arith) in
    ap (λ (n : ℕ). set (put d at (take i s)) (at + n) (slice_index s i)) (sym e)
    ∙ put_set d at (take i s) (slice_index s i) (omega arith)
    ∙ rw (add-one, take-suc s i 0 h)

-- two writes by functions, one behind the other
pub put_next : (d : List ℕ) (at : ℕ) (xs ys : List ℕ) (m : ℕ) (d₁ d₂ : List ℕ) → m ≡ at + length xs → m + length ys ≤ length d
    → d₁ ≡ put d at xs → d₂ ≡ put d₁ m ys → d₂ ≡ put d at (xs ++ ys)
put_next d at xs ys m d₁ d₂ em fits e₁ e₂ = e₂ ∙ rw (e₁, em) (put_put d at xs ys (omega arith))
