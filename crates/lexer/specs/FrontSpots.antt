-- What stands at the front of some bytes, by the first of them and the others: one law for each way.
use Prim.Native.Nat.{ℕ, zero, suc, ◌+◌, ◌-◌, ◌≤◌, ◌<◌}
use native.Mathlib.Omega.{arith}
use Rattle.std.proofs.Common.{add-one, sym, ◌∙◌, eqb-true, eq-eqb, ne_eqb}
use Rattle.std.specs.Prelude.{◌≡◌, true, false, ◌&&◌, length, get_or, Some, None}
use Rattle.std.specs.List.{prefix_len}
use Rattle.std.proofs.Math.Path.{refl, ap}
use mathlib.Core.List.{List, [], ◌∷◌}
use Rattle.std.proofs.Math.ListN.{take, drop}
use Rattle.std.proofs.lemmas.List.{take_rest}
use Rattle.lexer.specs.RunLaws.{span_prefix}
use Rattle.std.proofs.Math.Dec.{eqb}
use Rattle.tokens.proofs.Laws.ByteLaws.{both_true}
use Rattle.tokens.specs.Tokens.{Token.nat, nat_end_byte, letter, digit}
use Rattle.tokens.specs.Tokens.{name_byte, blank, op_spelling, sign_spelling, spelling}
use Rattle.tokens.specs.Scanning.{Front.token, Front.nothing, span, begins, closing, named, doubles, singles, signs, find_sign}
use Rattle.tokens.specs.Scanning.{Class.letters, Class.digits, class, signed, opens, nat_front, comment_front, after_star, other_front}
use Rattle.tokens.specs.Scanning.{front_of, front}
use Rattle.tokens.specs.Kinds.{kind}
use Rattle.tokens.specs.Marking.{spot_of, signs_digit}
use Rattle.lexer.specs.RunLaws.{inside}
use Rattle.tokens.specs.Spot.{Spot}
use Rattle.tokens.specs.Bytes.{star}
use Rattle.tokens.specs.Bytes.{slash}
use Rattle.tokens.specs.KindNames.{int_kind, nat_kind}

module _ (b : ℕ) (rest : List ℕ) where
  -- Names, Nat literals ------------------------------------------------------------------------

  pub name_spot : (n k : ℕ) → n ≡ prefix_len name_byte rest → k ≡ kind (named (b ∷ take n rest)) → Some (k, n) ≡ spot_of (front_of letters b rest)
  unfolding spot_of front_of
  name_spot n k e f = rw (f, e ∙ span_prefix name_byte rest) refl

  module _ (n : ℕ) (e : n ≡ prefix_len digit rest) where
    all_digits : n ≡ span digit rest
    all_digits = e ∙ span_prefix digit rest

    pub nat_spot : get_or rest n 0 ≡ nat_end_byte → Some (nat_kind, n + 1) ≡ spot_of (front_of digits b rest)
    unfolding spot_of front_of nat_front kind
    nat_spot f =
        let g : front_of digits b rest ≡ token (nat (b ∷ take (span digit rest) rest)) (suc (span digit rest)) =
        rw (eq-eqb (get_or rest (span digit rest) 0) nat_end_byte (rw all_digits at f), nat_front) refl in
        rw (all_digits, add-one) (ap spot_of (sym g))

    pub nat_stray : (get_or rest n 0 ≡ nat_end_byte → ⊥) → None ≡ spot_of (front_of digits b rest)
    unfolding spot_of front_of nat_front
    nat_stray f =
        let g : front_of digits b rest ≡ nothing = rw (ne_eqb (get_or rest (span digit rest) 0) nat_end_byte (rw all_digits at f), nat_front) refl in
        ap spot_of (sym g)

  -- Comments, Int literals, signs -------------------------------------------------------------------

  after_first : after_star rest ≡ drop 1 rest
  unfolding after_star
  after_first = past rest
    where
      past : (u : List ℕ) → after_star u ≡ drop 1 u
      past [] = refl
      past (x ∷ u) = refl

  -- c is the byte after the first
  module _ {c : ℕ} (second : c ≡ get_or rest 0 0) where
    opens_here : opens b rest ≡ (eqb b slash && eqb c star)
    unfolding opens
    opens_here = rw second refl

    signed_here : signed b rest ≡ signs_digit b c
    unfolding signed
    signed_here = rw second refl

    pub comment_spot : (eqb b slash && eqb c star) ≡ true → spot_of (comment_front (closing (drop 1 rest))) ≡ spot_of (other_front b rest)
    unfolding other_front
    comment_spot e = rw (opens_here ∙ e, other_front, after_first) refl

    module _ (no : (eqb b slash && eqb c star) ≡ false) where
      pub int_spot : (n : ℕ) → signs_digit b c ≡ true → n ≡ prefix_len digit rest → Some (int_kind, n) ≡ spot_of (other_front b rest)
      unfolding other_front spot_of kind
      int_spot n f h = rw (opens_here ∙ no, other_front, signed_here ∙ f, h ∙ span_prefix digit rest) refl

      -- two bytes tell a sign
      sign_told : (u : List ℕ) → find_sign signs (b ∷ u) ≡ find_sign signs (b ∷ get_or u 0 0 ∷ [])
      unfolding find_sign signs doubles singles begins spelling sign_spelling op_spelling
      sign_told [] = refl
      sign_told (x ∷ u) = refl

      pub sign_spot : signs_digit b c ≡ false → spot_of (find_sign signs (b ∷ c ∷ [])) ≡ spot_of (other_front b rest)
      unfolding other_front
      sign_spot f = rw (opens_here ∙ no, other_front, signed_here ∙ f) (ap spot_of (ap (λ n. find_sign signs (b ∷ n ∷ [])) second ∙ sym (sign_told rest)))

  -- By the first byte --------------------------------------------------------------------------------

  pub letter_spot : letter b ≡ true → spot_of (front_of letters b rest) ≡ spot_of (front (b ∷ rest))
  unfolding front class
  letter_spot e = rw (e, class) refl

  pub digit_spot : letter b ≡ false → digit b ≡ true → spot_of (front_of digits b rest) ≡ spot_of (front (b ∷ rest))
  unfolding front class
  digit_spot e f = rw (e, f, class) refl

  pub blank_spot : letter b ≡ false → digit b ≡ false → blank b ≡ true → Some (0, 0) ≡ spot_of (front (b ∷ rest))
  unfolding front class front_of spot_of
  blank_spot e f h = rw (e, f, h, class) refl

  pub other_spot : letter b ≡ false → digit b ≡ false → blank b ≡ false → spot_of (other_front b rest) ≡ spot_of (front (b ∷ rest))
  unfolding front class front_of
  other_spot e f h = rw (e, f, h, class) refl

pub comment_none : (n : ℕ) → n ≡ 0 → None ≡ spot_of (comment_front n)
unfolding comment_front spot_of
comment_none n e = rw e refl

pub comment_some : (n : ℕ) → 0 < n → Some (0, n + 1) ≡ spot_of (comment_front n)
unfolding comment_front spot_of
comment_some zero e = absurd (omega arith)
comment_some (suc n) e = rw add-one refl

pub none_spot : (s : List ℕ) → length s < 1 → None ≡ spot_of (front s)
unfolding front spot_of
none_spot [] l = refl
none_spot (b ∷ s) l = absurd (omega arith)

-- a text by its first byte and the others
pub first_rest : (s : List ℕ) → 1 ≤ length s → get_or s 0 0 ∷ drop 1 s ≡ s
first_rest [] l = absurd (omega arith)
first_rest (b ∷ s) l = refl

pub first_taken : (s : List ℕ) → 1 ≤ length s → get_or s 0 0 ∷ take (length s - 1) (drop 1 s) ≡ s
first_taken s l = ap (λ u. get_or s 0 0 ∷ u) (take_rest s 1) ∙ first_rest s l

pub rest_spot : (s : List ℕ) (i : ℕ) {r : Spot} → r ≡ spot_of (front (take (length s - i) (drop i s))) → r ≡ spot_of (front (drop i s))
rest_spot s i e = e ∙ ap (λ u. spot_of (front u)) (take_rest s i)

pub take_first : (s : List ℕ) (n : ℕ) → 0 < length s → take (n + 1) s ≡ get_or s 0 0 ∷ take n (drop 1 s)
take_first [] n l = absurd (omega arith)
take_first (b ∷ s) n l = rw add-one refl

-- what follows an opening
pub inside_spot : (s : List ℕ) {n : ℕ} → n ≡ closing (take (length s - 1) (drop 1 s)) → n ≡ closing (drop 1 s)
inside_spot s e = e ∙ ap closing (take_rest s 1)

-- what opens a comment has a byte after it
pub opens_inside : (b : ℕ) (s : List ℕ) → (eqb b slash && eqb (get_or s 0 0) star) ≡ true → 1 ≤ length s
opens_inside b s e = inside s 0 (let h = eqb-true (get_or s 0 0) star (both_true (eqb b slash) (eqb (get_or s 0 0) star) e).1 in omega (arith, h))
