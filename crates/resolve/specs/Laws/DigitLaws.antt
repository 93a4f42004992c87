-- A literal's digits are added up one after the other, up to the bound of Nat; what is outside its type is so by that number too.
use Prim.Native.Nat.{ℕ, zero, suc, ◌+◌, ◌*◌, ◌-◌, ◌≤◌, ◌<◌, min}
use Rattle.std.proofs.lemmas.List.{get_or_past}
use Rattle.std.proofs.Common.{arith, ◌∙◌, drop_of_length-le}
use Rattle.std.specs.Prelude.{◌≡◌, Bool, List, [], ◌∷◌, length, get_or, drop, leb, Option, Some, None, Result, Ok, Err}
use Rattle.std.specs.Result.{OkIff, result_ok}
use Rattle.std.proofs.Math.Path.{refl, sym, ap}
use Rattle.std.proofs.Math.Bool.{true, false}
use Rattle.std.proofs.Math.Option.{some}
use Rattle.std.proofs.Math.Dec.{eqb, ltb}
use borrow.Author.Tests.{lt-ltb, le-ltb, ltb-true, ltb-false, leb-true}
use Rattle.types.proofs.Laws.ListLaws.{drop_next}
use Rattle.types.specs.Limits.{nat_end, int_half}
use Rattle.types.specs.Values.{in_int, int_word}
use Rattle.program.specs.Tree.{Expr.int_lit}
use Rattle.tokens.specs.Tokens.{digit, between, Polarity.plus, Polarity.minus}
use Rattle.tokens.specs.Scanning.{span, polarity}
use Rattle.lexer.specs.RunLaws.{inside}
use Rattle.syntax.specs.Syntax.{Literal.int_literal}
use Rattle.meaning.specs.Values.{decimal_from, decimal, signed}
use Rattle.meaning.specs.Meant.{provided, literal_meaning}
use Rattle.resolve.specs.Digits.{digits_of, digits_at, capped, word_of, nat_at, int_at, signed_word}
use Rattle.tokens.specs.Bytes.{zero_byte, nine_byte, plus_byte}

capped_under : (n : ℕ) → n < nat_end → capped n ≡ n
unfolding capped
capped_under n l = rw (capped, lt-ltb n nat_end l) refl

capped_over : (n : ℕ) → nat_end ≤ n → capped n ≡ nat_end
unfolding capped
capped_over n l = rw (capped, le-ltb n nat_end l) refl

from_least : (n : ℕ) (ds : List ℕ) → n ≤ decimal_from n ds
unfolding decimal_from
from_least n [] = omega arith
from_least n (d ∷ ds) = let h = from_least (n * 10 + (d - zero_byte)) ds in omega arith

-- a number at the bound stays there
pub capped_from : (n : ℕ) (ds : List ℕ) → capped (decimal_from (capped n) ds) ≡ capped (decimal_from n ds)
capped_from n ds = go (ltb n nat_end) refl
  where
    go : (t : Bool) → ltb n nat_end ≡ t → capped (decimal_from (capped n) ds) ≡ capped (decimal_from n ds)
    go true e = ap (λ m. capped (decimal_from m ds)) (capped_under n (ltb-true n nat_end e))
    go false e =
        let l : nat_end ≤ n = ltb-false n nat_end e in
        ap (λ m. capped (decimal_from m ds)) (capped_over n l)
        ∙ capped_over (decimal_from nat_end ds) (from_least nat_end ds)
        ∙ sym (capped_over (decimal_from n ds) (let h = from_least n ds in omega arith))

pub capped_least : (n : ℕ) → capped n ≤ nat_end
capped_least n = go (ltb n nat_end) refl
  where
    go : (t : Bool) → ltb n nat_end ≡ t → capped n ≤ nat_end
    go true e = let l = ltb-true n nat_end e in rw (capped_under n l) (omega arith)
    go false e = rw (capped_over n (ltb-false n nat_end e)) (omega arith)

-- The loop -----------------------------------------------------------------------------------

-- the digits from at on come to n and those from i on
pub record Adds (s : List ℕ) (at n i : ℕ) : Type 0 where
  pub small : n ≤ nat_end
  pub same_value : capped (decimal_from n (digits_at s i)) ≡ capped (decimal (digits_at s at))

pub digit_inside : (s : List ℕ) (i : ℕ) → digit (get_or s i 0) ≡ true → i < length s
unfolding digit between
digit_inside s i e = inside s i (go (get_or s i 0) e)
  where
    go : (b : ℕ) → digit b ≡ true → 0 < b
    go zero f = absurd (let z : ◌≡◌ {A = ℕ} 0 1 = cc in omega arith)
    go (suc b) f = omega arith

digits_on : (s : List ℕ) (i : ℕ) → digit (get_or s i 0) ≡ true → digits_at s i ≡ get_or s i 0 ∷ digits_at s (i + 1)
unfolding digits_of span
digits_on s i e =
    let g : drop i s ≡ get_or s i 0 ∷ drop (i + 1) s = drop_next s i (digit_inside s i e) in
    rw (g, digits_of, span, e) refl

digits_end : (s : List ℕ) (i : ℕ) → digit (get_or s i 0) ≡ false → digits_at s i ≡ []
unfolding digits_of span
digits_end s i e = go (ltb i (length s)) refl
  where
    go : (t : Bool) → ltb i (length s) ≡ t → digits_at s i ≡ []
    go true f =
        let g : drop i s ≡ get_or s i 0 ∷ drop (i + 1) s = drop_next s i (ltb-true i (length s) f) in
        rw (g, digits_of, span, e) refl
    go false f = rw (drop_of_length-le s {i = i} (ltb-false i (length s) f)) refl

module _ {s : List ℕ} {at n i : ℕ} (r : Adds s at n i) where
  pub adds_on : {m : ℕ} → digit (get_or s i 0) ≡ true → m ≡ capped (n * 10 + (get_or s i 0 - zero_byte)) → Adds s at m (i + 1)
  unfolding decimal_from
  adds_on {m} e f =
      let v : ℕ = n * 10 + (get_or s i 0 - zero_byte) in
      let g : capped (decimal_from n (digits_at s i)) ≡ capped (decimal_from v (digits_at s (i + 1))) = rw (digits_on s i e) refl in
      let h : capped (decimal_from m (digits_at s (i + 1))) ≡ capped (decimal_from v (digits_at s (i + 1))) = rw f (capped_from v (digits_at s (i + 1))) in
      record { small = rw f (capped_least v); same_value = h ∙ sym g ∙ r.same_value }

  pub adds_end : digit (get_or s i 0) ≡ false → n ≡ capped (decimal (digits_at s at))
  unfolding decimal_from capped
  adds_end e =
      let g : capped (decimal_from n (digits_at s i)) ≡ capped n = rw (digits_end s i e) refl in
      let h : capped n ≡ n = go (ltb n nat_end) refl in
      sym h ∙ sym g ∙ r.same_value
    where
      go : (t : Bool) → ltb n nat_end ≡ t → capped n ≡ n
      go true e = capped_under n (ltb-true n nat_end e)
      go false e = let l : nat_end ≤ n = ltb-false n nat_end e in capped_over n l ∙ (let k = r.small in omega arith)

  pub adds_out : length s ≤ i → n ≡ capped (decimal (digits_at s at))
  unfolding digit between
  adds_out l = adds_end (let e : get_or s i 0 ≡ 0 = get_or_past s i 0 l in rw e refl)

-- and b is the byte at hand
pub record Added (s : List ℕ) (at n i b : ℕ) : Type 0 where
  pub sum : Adds s at n i
  pub at_hand : b ≡ get_or s i 0

module _ {s : List ℕ} {at n i b : ℕ} (r : Added s at n i b) where
  told : {t : Bool} → digit b ≡ t → digit (get_or s i 0) ≡ t
  told e = sym (ap digit r.at_hand) ∙ e

  pub digit_told : digit b ≡ true → i < length s
  digit_told e = digit_inside s i (told e)

  pub added_on : {m : ℕ} → digit b ≡ true → m ≡ capped (n * 10 + (b - zero_byte)) → Adds s at m (i + 1)
  added_on {m} e f = adds_on r.sum (told e) (f ∙ ap (λ d. capped (n * 10 + (d - zero_byte))) r.at_hand)

  pub added_end : digit b ≡ false → n ≡ capped (decimal (digits_at s at))
  added_end e = adds_end r.sum (told e)

pub digit_range : (b : ℕ) → digit b ≡ true → (zero_byte ≤ b) × (b ≤ nine_byte)
unfolding digit between
digit_range b e = go (leb zero_byte b) refl (leb b nine_byte) refl
  where
    go : (t : Bool) → leb zero_byte b ≡ t → (u : Bool) → leb b nine_byte ≡ u → (zero_byte ≤ b) × (b ≤ nine_byte)
    go true f true g = (leb-true zero_byte b f, leb-true b nine_byte g)
    go true f false g = absurd (let h : ◌≡◌ {A = Bool} false true = rw (f, g) at e in let z : ◌≡◌ {A = ℕ} 0 1 = cc in omega arith)
    go false f u g = absurd (let h : ◌≡◌ {A = Bool} false true = rw f at e in let z : ◌≡◌ {A = ℕ} 0 1 = cc in omega arith)

module _ (n b : ℕ) {d : ℕ} (e : d ≡ b - zero_byte) where
  pub longer_under : n * 10 + d < nat_end → n * 10 + d ≡ capped (n * 10 + (b - zero_byte))
  longer_under l = sym (capped_under (n * 10 + d) l) ∙ ap (λ k. capped (n * 10 + k)) e

  pub longer_over : nat_end ≤ n * 10 + d → nat_end ≡ capped (n * 10 + (b - zero_byte))
  longer_over l = sym (capped_over (n * 10 + d) l) ∙ ap (λ k. capped (n * 10 + k)) e

  pub longer_least : min nat_end (n * 10 + d) ≡ capped (n * 10 + (b - zero_byte))
  longer_least = go (ltb (n * 10 + d) nat_end) refl
    where
      go : (t : Bool) → ltb (n * 10 + d) nat_end ≡ t → min nat_end (n * 10 + d) ≡ capped (n * 10 + (b - zero_byte))
      go true f = let l = ltb-true (n * 10 + d) nat_end f in let h : min nat_end (n * 10 + d) ≡ n * 10 + d = omega arith in h ∙ longer_under l
      go false f = let l = ltb-false (n * 10 + d) nat_end f in let h : min nat_end (n * 10 + d) ≡ nat_end = omega arith in h ∙ longer_over l

-- Words --------------------------------------------------------------------------------------

module _ (n m : ℕ) (e : m ≡ capped n) where
  capped_same : m < nat_end → m ≡ n
  capped_same l = go (ltb n nat_end) refl
    where
      go : (t : Bool) → ltb n nat_end ≡ t → m ≡ n
      go true f = e ∙ capped_under n (ltb-true n nat_end f)
      go false f = absurd (let h = capped_over n (ltb-false n nat_end f) in omega arith)

  capped_most : nat_end ≤ m → nat_end ≤ n
  capped_most l = go (ltb n nat_end) refl
    where
      go : (t : Bool) → ltb n nat_end ≡ t → nat_end ≤ n
      go true f = let k = ltb-true n nat_end f in let h = capped_under n k in omega arith
      go false f = ltb-false n nat_end f

-- an Int by its sign and its number
module _ {p : Bool} {n : ℕ} where
  pub above_inside : p ≡ true → n < int_half → Some n ≡ signed_word p n
  unfolding signed_word
  above_inside e l = rw (e, signed_word, lt-ltb n int_half l) refl

  pub above_outside : p ≡ true → int_half ≤ n → None ≡ signed_word p n
  unfolding signed_word
  above_outside e l = rw (e, signed_word, le-ltb n int_half l) refl

  pub below_zero : p ≡ false → n ≡ 0 → Some 0 ≡ signed_word p n
  unfolding signed_word
  below_zero e z = rw (e, z) refl

pub below_inside : {p : Bool} {n : ℕ} → p ≡ false → (n ≡ 0 → ⊥) → n ≤ int_half → Some (nat_end - n) ≡ signed_word p n
unfolding signed_word
below_inside {n = zero} e z l = absurd (z refl)
below_inside {n = suc n} e z l = rw (e, signed_word, lt-ltb n int_half (omega arith)) refl

pub below_outside : {p : Bool} {n : ℕ} → p ≡ false → int_half < n → None ≡ signed_word p n
unfolding signed_word
below_outside {n = zero} e l = absurd (omega arith)
below_outside {n = suc n} e l = rw (e, signed_word, le-ltb n int_half (omega arith)) refl

-- a sign and a number whose cap is known
signed_capped : (p : Bool) (n : ℕ) → signed_word p (capped n) ≡ signed_word p n
unfolding signed_word
signed_capped p n = go (ltb n nat_end) refl
  where
    over : (q : Bool) (k : ℕ) → nat_end ≤ k → signed_word q k ≡ None
    over true k l = rw (signed_word, le-ltb k int_half (omega arith)) refl
    over false zero l = absurd (omega arith)
    over false (suc k) l = rw (signed_word, le-ltb k int_half (omega arith)) refl

    go : (t : Bool) → ltb n nat_end ≡ t → signed_word p (capped n) ≡ signed_word p n
    go true f = ap (signed_word p) (capped_under n (ltb-true n nat_end f))
    go false f =
        let l : nat_end ≤ n = ltb-false n nat_end f in
        ap (signed_word p) (capped_over n l) ∙ over p nat_end (omega arith) ∙ sym (over p n l)

above : (ds : List ℕ) → signed_word true (decimal ds) ≡ word_of (literal_meaning (int_literal plus ds))
unfolding literal_meaning provided word_of signed in_int int_word signed_word
above ds = go (ltb (decimal ds) int_half) refl
  where
    go : (t : Bool) → ltb (decimal ds) int_half ≡ t → signed_word true (decimal ds) ≡ word_of (literal_meaning (int_literal plus ds))
    go true k = rw (k, signed_word, literal_meaning) refl
    go false k = rw (k, signed_word, literal_meaning) refl

below : (ds : List ℕ) → signed_word false (decimal ds) ≡ word_of (literal_meaning (int_literal minus ds))
unfolding literal_meaning provided word_of signed in_int int_word signed_word
below ds = go (decimal ds) refl
  where
    inner : (v : ℕ) (t : Bool) → ltb v int_half ≡ t
        → signed_word false (suc v) ≡ word_of (provided (in_int (signed minus (suc v))) (some (int_lit (int_word (signed minus (suc v))))))
    inner v true k = rw (k, signed_word) refl
    inner v false k = rw (k, signed_word) refl

    go : (v : ℕ) → decimal ds ≡ v → signed_word false (decimal ds) ≡ word_of (literal_meaning (int_literal minus ds))
    go zero h = rw (h, literal_meaning) refl
    go (suc v) h = rw (h, literal_meaning) (inner v (ltb v int_half) refl)

module _ (text : List ℕ) (i : ℕ) where
  pub nat_inside : {n : ℕ} → n ≡ capped (decimal (digits_at text i)) → n < nat_end → Some n ≡ nat_at text i
  unfolding nat_at literal_meaning provided word_of
  nat_inside {n} e l =
      let f = capped_same (decimal (digits_at text i)) n e l in
      rw (← f, lt-ltb n nat_end l) refl

  pub nat_outside : {n : ℕ} → n ≡ capped (decimal (digits_at text i)) → nat_end ≤ n → None ≡ nat_at text i
  unfolding nat_at literal_meaning provided word_of
  nat_outside {n} e l = rw (le-ltb (decimal (digits_at text i)) nat_end (capped_most (decimal (digits_at text i)) n e l)) refl

  -- by a conversion to 32 bits
  pub nat_here : {E : Type 0} {n : ℕ} {o : Option ℕ} (r : Result ℕ E) → n ≡ capped (decimal (digits_at text i)) → OkIff r (n < nat_end) n
      → o ≡ result_ok r → o ≡ nat_at text i
  nat_here {n = n} (Ok m) e (l, f) g = g ∙ ap Some f ∙ nat_inside e l
  nat_here {n = n} (Err m) e l g = g ∙ nat_outside e (omega (arith, l))

  pub int_here : {p : Bool} {n : ℕ} → p ≡ eqb (get_or text i 0) plus_byte → n ≡ capped (decimal (digits_at text (i + 1))) → signed_word p n ≡ int_at text i
  unfolding int_at polarity
  int_here {p} {n} e f =
      ap (signed_word p) f ∙ signed_capped p (decimal (digits_at text (i + 1))) ∙ go p e
    where
      go : (q : Bool) → q ≡ eqb (get_or text i 0) plus_byte → signed_word q (decimal (digits_at text (i + 1))) ≡ int_at text i
      go true g = above (digits_at text (i + 1)) ∙ ap (λ r. word_of (literal_meaning (int_literal r (digits_at text (i + 1))))) (rw (polarity, ← g) refl)
      go false g = below (digits_at text (i + 1)) ∙ ap (λ r. word_of (literal_meaning (int_literal r (digits_at text (i + 1))))) (rw (polarity, ← g) refl)
