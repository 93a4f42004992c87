-- What exactness says of places and of whole streams (01, 'Program stream' and 4 and 5 of 'Numbers from the input').
use Prim.Native.Nat.{ℕ, suc, ◌<◌, ◌≤◌}
use native.Mathlib.Omega.{arith}
use Rattle.std.proofs.Math.Decide.{dec_lt}
use Rattle.std.proofs.Math.Path.{◌≡◌, refl, sym}
use Rattle.std.proofs.Common.{◌∙◌, drop-cons, lt-ltb, le-ltb}
use Rattle.std.specs.Prelude.{◌↔◌}
use mathlib.Core.List.{List, [], ◌∷◌, ◌++◌, append_assoc}
use Rattle.std.proofs.Math.ListN.{length, get_or, drop, length-append}
use Rattle.program.specs.Reader.{Result, Result.ok, Result.bad, wrong_end, wrong_byte, then, ended, whole}
use Rattle.program.specs.Exact.{Stands, Told, Told.told, Told.silent, Beyond.refusal_beyond, Cut, Cut.same, Cut.stop, Cut.short, Exact, Refused}
use Rattle.program.specs.Exact.{Refused.not_allowed, Refused.ends_early, Refused.goes_on}
use Rattle.program.proofs.Laws.StandsLaws.{stands_drop, stands_length, stands_front, stands_self, stands_whole}
use Rattle.program.proofs.Laws.PartLaws.{told_then, told_is, then_ok}

ended_in : {A : Type 0} (s : List ℕ) (a : A) (k : ℕ) → length s ≤ k → ended s a k ≡ ok a k
unfolding ended
ended_in s a k h = rw (le-ltb k (length s) h, ended)

ended_out : {A : Type 0} (s : List ℕ) (a : A) (k : ℕ) → k < length s → ended s a k ≡ bad k wrong_end
unfolding ended
ended_out s a k h = rw (lt-ltb k (length s) h, ended)

module _ {A : Type 0} {C : A → Type 0} {E : A → List ℕ} {r : List ℕ → ℕ → Result A} (x : Exact C E r) where
  -- a value is read at a place exactly where it keeps to its condition and its bytes stand there
  pub exact_at : (s : List ℕ) (a : A) (n m : ℕ) → (r s n ≡ ok a m) ↔ ((C a) × (Stands s n (E a) m))
  exact_at s a n m = (told_is (x.sound s n), λ h. x.complete s a n m h.0 h.1)

  sound_whole : (s : List ℕ) → Told (λ a m. (C a) × (s ≡ E a) × (m ≡ length s)) (whole r s)
  unfolding whole
  sound_whole s = told_then (x.sound s 0) λ a k h. go a k h (dec_lt k (length s))
    where
      go : (a : A) (k : ℕ) → (C a) × (Stands s 0 (E a) k) → Dec (k < length s)
          → Told (λ a m. (C a) × (s ≡ E a) × (m ≡ length s)) (ended s a k)
      go a k h (yes l) = rw (ended_out s a k l) silent
      go a k h (no l) = let w = stands_whole h.1 (omega arith) in rw (ended_in s a k (omega arith)) (told (h.0, w.0, w.1))

  ok_whole : (a : A) → C a → whole r (E a) ≡ ok a (length (E a))
  unfolding whole
  ok_whole a c = then_ok _ (x.complete (E a) a 0 (length (E a)) c (stands_self (E a))) (ended_in (E a) a _ (omega arith))

  -- a stream is read as a value exactly where the value keeps to its condition and the stream is its bytes
  pub exact : (s : List ℕ) (a : A) (m : ℕ) → (whole r s ≡ ok a m) ↔ ((C a) × (s ≡ E a) × (m ≡ length s))
  exact s a m = (told_is (sound_whole s), λ h. rw (h.2, h.1) (ok_whole a h.0))

  -- two values with the same bytes are one
  pub injective : (a b : A) → C a → C b → E a ≡ E b → a ≡ b
  injective a b c d e = let p : ok a (length (E a)) ≡ ok b (length (E b)) = sym (ok_whole a c) ∙ rw e (ok_whole b d) in cc

  -- a stream that goes on after its end is refused there with 4
  pub trailing : (a : A) (b : ℕ) (bs : List ℕ) → C a → whole r (E a ++ b ∷ bs) ≡ bad (length (E a)) wrong_end
  unfolding whole
  trailing a b bs c =
      let s = E a ++ b ∷ bs in
      then_ok _ (x.complete s a 0 _ c (stands_front (E a) (b ∷ bs))) (ended_out s a _ (simp length-append (omega arith)))

  -- how a stream and a longer one are read
  cut_0 : (s t : List ℕ) → Cut 0 (length s) (length (s ++ t)) (r s 0) (r (s ++ t) 0)
  cut_0 s t = x.cut s t 0 (omega arith)

  -- what is refused is refused with 5 in the stream, with 4 at its end, or with 4 behind the bytes of a value
  pub refused : (s : List ℕ) (p k : ℕ) → whole r s ≡ bad p k → Refused C E s p k
  unfolding whole then
  refused s p k e = go (r s 0) (r (s ++ []) 0) refl (cut_0 s []) e
    where
      in_stream : (a : A) (m : ℕ) → r s 0 ≡ ok a m → ended s a m ≡ bad p k → Dec (m < length s) → Refused C E s p k
      in_stream a m q e (yes l) =
          let h = (exact_at s a 0 m).0 q in
          let i : length (E a) ≡ m = omega (arith, stands_length h.1) in
          let f : bad m wrong_end ≡ bad p k = sym (ended_out s a m l) ∙ e in
          let y : s ≡ E a ++ get_or s m 0 ∷ drop (suc m) s = stands_drop h.1 ∙ rw (drop-cons s m 0 l) in
          let u : length (E a) ≡ p = cc in
          let v : wrong_end ≡ k = cc in
          rw (← u, ← v) (goes_on a (get_or s m 0) (drop (suc m) s) h.0 y)
      in_stream a m q e (no l) = let z : ◌≡◌ {A = ℕ} 0 1 = cc (ended_in s a m (omega arith)) in absurd (omega arith)

      go : (q u : Result A) → r s 0 ≡ q → Cut 0 (length s) (length (s ++ [])) q u → then q (ended s) ≡ bad p k → Refused C E s p k
      go q u h (same {a = a} {m = m} i l) e = in_stream a m h e (dec_lt m (length s))
      go q u h (stop {p = o} i l) e = let n : o ≡ p = cc in let v : wrong_byte ≡ k = cc in rw (← v) (not_allowed {p = p} (omega arith))
      go q u h (short b) e = let n : length s ≡ p = cc in let v : wrong_end ≡ k = cc in rw (← n, ← v) ends_early

  -- a whole stream is refused at its end only where the reader asks for more
  pub asks : (s : List ℕ) → whole r s ≡ bad (length s) wrong_end → r s 0 ≡ bad (length s) wrong_end
  unfolding whole then
  asks s e = go (r s 0) e
    where
      in_stream : (a : A) (m : ℕ) → ended s a m ≡ bad (length s) wrong_end → Dec (m < length s) → ⊥
      in_stream a m e (yes l) = let z : m ≡ length s = cc (ended_out s a m l) in omega arith
      in_stream a m e (no l) = let z : ◌≡◌ {A = ℕ} 0 1 = cc (ended_in s a m (omega arith)) in omega arith

      go : (q : Result A) → then q (ended s) ≡ bad (length s) wrong_end → q ≡ bad (length s) wrong_end
      go (ok a m) e = absurd (in_stream a m e (dec_lt m (length s)))
      go (bad n k) e = e

  -- a whole stream is refused with 5 only where the reader itself refuses
  pub refuses : (s : List ℕ) (p : ℕ) → whole r s ≡ bad p wrong_byte → r s 0 ≡ bad p wrong_byte
  unfolding whole then
  refuses s p e = go (r s 0) e
    where
      in_stream : (a : A) (m : ℕ) → ended s a m ≡ bad p wrong_byte → Dec (m < length s) → ⊥
      in_stream a m e (yes l) = let z : ◌≡◌ {A = ℕ} 4 5 = cc (ended_out s a m l) in omega arith
      in_stream a m e (no l) = let z : ◌≡◌ {A = ℕ} 0 1 = cc (ended_in s a m (omega arith)) in omega arith

      go : (q : Result A) → then q (ended s) ≡ bad p wrong_byte → q ≡ bad p wrong_byte
      go (ok a m) e = absurd (in_stream a m e (dec_lt m (length s)))
      go (bad n k) e = e

  -- a byte that is not allowed is final: no stream that goes on behind it is read
  pub final : (s t : List ℕ) (p : ℕ) → whole r s ≡ bad p wrong_byte → whole r (s ++ t) ≡ bad p wrong_byte
  unfolding whole then
  final s t p e = go (r (s ++ t) 0) (length s) (length (s ++ t)) (bad p wrong_byte) refl (rw (refuses s p e) at (cut_0 s t))
    where
      go : (u : Result A) (n m : ℕ) (v : Result A) → v ≡ bad p wrong_byte → Cut 0 n m v u → then u (ended (s ++ t)) ≡ bad p wrong_byte
      go u n m v e (same i l) = cc
      go u n m v e (stop h i) = rw e
      go u n m v e (short b) = let z : ◌≡◌ {A = ℕ} 4 5 = cc in absurd (omega arith)

  -- a byte that is not allowed is the first one: the stream before it is only too short, and what stands behind it does not matter
  pub first : (s t : List ℕ) (b : ℕ) → whole r (s ++ b ∷ t) ≡ bad (length s) wrong_byte
      → (whole r s ≡ bad (length s) wrong_end) × (whole r (s ++ b ∷ []) ≡ bad (length s) wrong_byte)
  unfolding whole then
  first s t b e = (
    before (r s 0) (rw (refuses _ _ e) at (cut_0 s (b ∷ t))),
    at_byte (r up 0) (rw (append_assoc s (b ∷ []) t, refuses _ _ e) at (cut_0 up t)),
  )
    where
      up : List ℕ
      up = s ++ b ∷ []

      before : {M : ℕ} (q : Result A) → Cut 0 (length s) M q (bad (length s) wrong_byte) → then q (ended s) ≡ bad (length s) wrong_end
      before q (short h) = refl
      before q (stop h i) = absurd (omega arith)

      at_byte : {M : ℕ} (q : Result A) → Cut 0 (length up) M q (bad (length s) wrong_byte) → then q (ended up) ≡ bad (length s) wrong_byte
      at_byte q (stop h i) = refl
      at_byte q (short (refusal_beyond h)) = absurd (omega (arith, length-append s (b ∷ [])))
