-- The fields of a table stream are refused as they are defined (01, 'Table and turns'; 11 and 12 of 'Numbers from the input').
use Rattle.std.specs.Prelude.{ℕ, suc, ◌+◌, ◌-◌, ◌%◌, ◌^◌, ◌<◌, ◌≤◌, ◌≡◌, refl, ◌↔◌, Bool, true, false, List, [], ◌∷◌, ◌++◌, length, get_or, drop, T}
use Rattle.std.proofs.Common.{arith, sym, ap, ◌∙◌, append-nil, length-drop, drop_of_length-le, drop-cons}
use Rattle.std.proofs.Math.Decide.{dec_lt}
use Rattle.program.specs.Encoding.{enc_word, flat}
use Rattle.program.specs.Counts.{All}
use Rattle.program.specs.Reader.{Result.bad, wrong_end, wrong_byte, then, guard, between, tested, ranged, read_word}
use Rattle.program.proofs.Laws.PartLaws.{then_ok, byte_ok, byte_none}
use Rattle.program.proofs.Laws.JoinLaws.{between_iff}
use Rattle.program.proofs.Laws.WordLaws.{below_exact, word_exact}
use Rattle.table.specs.Refusing.{Blames, Blames.unblamed, Blames.blamed, Refusing, Joined, Joined.in_first, Joined.in_second, InRow, InRow.in_row}
use Rattle.table.proofs.Laws.RefusingLaws.{refusing_iff, guard_refusing, then_refusing, row_refusing}

-- no byte is left, or the first is not below hi
pub data NotBelow (hi : ℕ) : ℕ → List ℕ → Type 0 where
  none_left : NotBelow hi wrong_end []
  too_large : {b : ℕ} {ys : List ℕ} → hi ≤ b → NotBelow hi wrong_byte (b ∷ ys)

-- a number of i bytes that should be Ok: it is cut, has something in it that is no byte, or is there whole and not Ok
pub data NumberFault (i : ℕ) (Ok : ℕ → Type 0) : ℕ → List ℕ → Type 0 where
  cut : {t : List ℕ} → (All (λ b. b < 256) t) × (length t < i) → NumberFault i Ok wrong_end t
  strange : {t : List ℕ} (xs : List ℕ) (b : ℕ) (ys : List ℕ) → (All (λ b. b < 256) xs) × (length xs < i) → 256 ≤ b → t ≡ xs ++ b ∷ ys
      → NumberFault i Ok wrong_byte t
  unfit : {t : List ℕ} (w : ℕ) (ys : List ℕ) → w < 256 ^ i → (Ok w → ⊥) → t ≡ enc_word i w ++ ys → NumberFault i Ok wrong_byte t

below_refusing : (hi : ℕ) → Refusing (λ s. ranged s 0 hi) (NotBelow hi)
unfolding ranged tested guard then
below_refusing hi = record { sound = λ s n. sound s n (dec_lt n (length s)); complete = λ s n k. complete s n k (drop n s) refl }
  where
    judged : (s : List ℕ) (n b : ℕ) (v : Bool) → between 0 hi b ≡ v → drop n s ≡ b ∷ drop (suc n) s
        → Blames (λ k. NotBelow hi k (drop n s)) (guard v n b (n + 1))
    judged s n b true e d = unblamed
    judged s n b false e d = blamed {k = wrong_byte} (rw d (too_large (above (dec_lt b hi))))
      where
        above : Dec (b < hi) → hi ≤ b
        above (yes l) = absurd (rw e at ((between_iff 0 hi b).1 (omega arith, l)))
        above (no l) = omega arith

    sound : (s : List ℕ) (n : ℕ) → Dec (n < length s) → Blames (λ k. NotBelow hi k (drop n s)) (ranged s 0 hi n)
    sound s n (yes l) = rw (byte_ok s l refl) (judged s n (get_or s n 0) (between 0 hi (get_or s n 0)) refl (drop-cons s n 0 l))
    sound s n (no l) = rw (byte_none s {n = n} (omega arith)) (blamed {k = wrong_end} (rw (drop_of_length-le s {i = n} (omega arith)) none_left))

    failed : (n b m : ℕ) (v : Bool) → (T v → ⊥) → guard v n b m ≡ bad n wrong_byte
    failed n b m true f = absurd (f tt)
    failed n b m false f = refl

    complete : (s : List ℕ) (n k : ℕ) (t : List ℕ) → drop n s ≡ t → NotBelow hi k t → (p : ℕ) × (ranged s 0 hi n ≡ bad p k)
    complete s n k t e none_left = (n, rw (byte_none s {n = n} (omega (arith, simp length-drop at (ap length e)))))
    complete s n k t e (too_large {b = b} {ys = ys} h) =
        let l : n < length s = omega (arith, simp length-drop at (ap length e)) in
        let d : get_or s n 0 ∷ drop (suc n) s ≡ b ∷ ys = sym (drop-cons s n 0 l) ∙ e in
        let f : get_or s n 0 ≡ b = cc in
        (n, then_ok _ (byte_ok s l f) (failed n b (n + 1) (between 0 hi b) λ q. let p = (between_iff 0 hi b).0 q in omega arith))

-- a row of bytes is itself
flat_bytes : (l : List ℕ) → flat (λ b. b ∷ []) l ≡ l
unfolding flat
flat_bytes [] = refl
flat_bytes (b ∷ l) = ap {B = List ℕ} (λ r. b ∷ r) (flat_bytes l)

not_true : (v : Bool) → (T v → ⊥) → v ≡ false
not_true true f = absurd (f tt)
not_true false f = refl

module _ (i : ℕ) (test : ℕ → Bool) {Ok : ℕ → Type 0} (q : (w : ℕ) → w < 256 ^ i → T (test w) ↔ Ok w) where
  -- what the parts of its reader refuse: the number's bytes, and the test on them
  abbrev Parts : ℕ → List ℕ → Type 0
  Parts =
      Joined (λ v. v < 256 ^ i) (enc_word i) (InRow (λ b. b < 256) (λ b. b ∷ []) (NotBelow 256) i)
      (λ w k t. (k ≡ wrong_byte) × (test w ≡ false))

  whole_number : (k : ℕ) (t : List ℕ) → Parts k t → NumberFault i Ok k t
  whole_number k t (in_first (in_row l u h a e none_left)) =
      let d : t ≡ l = e ∙ append-nil (flat (λ b. b ∷ []) l) ∙ flat_bytes l in
      rw d (cut (a, h))
  whole_number k t (in_first (in_row l u h a e (too_large {b = b} {ys = ys} g))) = strange l b ys (a, h) g (rw (flat_bytes l) at e)
  whole_number k t (in_second w u h e r) = rw r.0 (unfit w u h (λ o. rw r.1 at ((q w h).1 o)) e)

  in_parts : (k : ℕ) (t : List ℕ) → NumberFault i Ok k t → Parts k t
  in_parts k t (cut c) = in_first (in_row t [] c.1 c.0 (rw (flat_bytes t) (sym (append-nil t))) none_left)
  in_parts k t (strange xs b ys c g e) = in_first (in_row xs (b ∷ ys) c.1 c.0 (rw (flat_bytes xs) e) (too_large g))
  in_parts k t (unfit w ys h f e) = in_second w ys h e (refl, not_true (test w) λ x. f ((q w h).0 x))

  -- a number of i bytes that should be Ok, where a test tells so
  pub number_refusing : Refusing (λ s n. then (read_word s i n) λ w k. guard (test w) (k - 1) w k) (NumberFault i Ok)
  unfolding read_word
  number_refusing =
      refusing_iff (then_refusing (word_exact i) (row_refusing (below_exact 256) (below_refusing 256) 0 _ i) λ w h. guard_refusing (test w) w)
      λ k t. (whole_number k t, in_parts k t)

-- a byte below hi, which is a number of one byte where hi is at most 256
pub byte_refusing : (hi : ℕ) → hi ≤ 256 → Refusing (λ s. ranged s 0 hi) (NumberFault 1 (λ b. b < hi))
unfolding enc_word
byte_refusing hi l = refusing_iff (below_refusing hi) λ k t. (forth k t, back k t)
  where
    one : (b : ℕ) → b < 256 → b ∷ [] ≡ enc_word 1 b
    one b h = let e : b % 256 ≡ b = omega arith in rw e

    large : (b : ℕ) (ys : List ℕ) → hi ≤ b → Dec (b < 256) → NumberFault 1 (λ b. b < hi) wrong_byte (b ∷ ys)
    large b ys h (yes g) = unfit b ys (omega arith) (λ o. omega arith) (ap (λ r. r ++ ys) (one b g))
    large b ys h (no g) = strange [] b ys (tt, omega arith) (omega arith) refl

    forth : (k : ℕ) (t : List ℕ) → NotBelow hi k t → NumberFault 1 (λ b. b < hi) k t
    forth k t none_left = cut {t = []} (tt, omega arith)
    forth k t (too_large {b = b} {ys = ys} h) = large b ys h (dec_lt b 256)

    back : (k : ℕ) (t : List ℕ) → NumberFault 1 (λ b. b < hi) k t → NotBelow hi k t
    back k t (cut {t = []} c) = none_left
    back k t (cut {t = x ∷ xs} c) = absurd (omega arith)
    back k t (strange [] b ys c g e) = rw e (too_large {b = b} (omega arith))
    back k t (strange (x ∷ xs) b ys c g e) = absurd (omega arith)
    back k t (unfit w ys h f e) =
        let d : t ≡ w ∷ ys = e ∙ ap (λ r. r ++ ys) (sym (one w (omega arith))) in
        rw d (too_large {b = w} (omega arith))
