-- What scanning finds at the front of some bytes stands there: a token that is no comment's beginning, or a gap.
use Rattle.std.specs.Prelude.{ℕ, zero, suc, ◌≤◌, ◌<◌, ◌≡◌, refl, Bool, true, false, ◌||◌, List, [], ◌∷◌, ◌++◌, length, take, drop, get_or, eqb}
use Rattle.std.proofs.Common.{arith, sym, ap, ◌∙◌, append_assoc, length-append, take-append-drop, length-take-le, take_at, eqb-true}
use Rattle.std.proofs.lemmas.Bool.{false≢true}
use Rattle.std.proofs.Math.Seq.{split_at}
use Rattle.tokens.specs.Tokens.{Token, Token.int, Token.nat, between, letter, digit, name_byte, polarity_byte, nat_end_byte, spelling, Name}
use Rattle.tokens.specs.Tokens.{Digits, Proper}
use Rattle.tokens.specs.Lexing.{close, Comment, Gap, Gap.blank_byte, Gap.comment}
use Rattle.tokens.specs.Scanning.{Front, Front.token, Front.gap, Front.nothing, span, closing, named, signs, Class, Class.letters, Class.digits}
use Rattle.tokens.specs.Scanning.{Class.others, class, polarity, signed, opens, nat_front, comment_front, after_star, other_front, front_of}
use Rattle.tokens.specs.Scanning.{front}
use Rattle.tokens.proofs.Laws.ByteLaws.{both_true, span_within, span_every, Closed, closing_found, ClassOf, ClassOf.is_letter, ClassOf.is_digit}
use Rattle.tokens.proofs.Laws.ByteLaws.{ClassOf.is_blank, ClassOf.is_other, classed}
use Rattle.tokens.proofs.Laws.NamedLaws.{named_spelling, named_proper, signs_plain, At, Stands, Stands.stands, Stands.stands_not, sign_stands}
use Rattle.tokens.specs.Bytes.{star, slash}

pub data Sound (x : List ℕ) : Front → Type 0 where
  token_sound : {t : Token} {n : ℕ} → At x t n → (Comment x → ⊥) → Sound x (token t n)
  gap_sound : {n : ℕ} → Gap (take (suc n) x) → suc n ≤ length x → Sound x (gap n)
  nothing_sound : Sound x nothing

-- a first byte that no comment has
no_comment : (b : ℕ) (s : List ℕ) → (b ≡ slash → ⊥) → Comment (b ∷ s) → ⊥
no_comment b s n c = n (let e = c.1 in let f : b ≡ slash = cc in f)

-- Names --------------------------------------------------------------------------------

letter_sound : (b : ℕ) (s : List ℕ) → letter b ≡ true → Sound (b ∷ s) (front_of letters b s)
unfolding front_of Name letter between
letter_sound b s e = token_sound at (no_comment b s (λ f. false≢true (rw f at e)))
  where
    n : ℕ
    n = span name_byte s

    at : At (b ∷ s) (named (b ∷ take n s)) n
    at = record {
      proper = named_proper (b ∷ take n s) (e, span_every name_byte s);
      whole = rw (named_spelling (b ∷ take n s)) (ap (λ l. b ∷ l) (take-append-drop n s));
      sized = rw (named_spelling (b ∷ take n s)) (ap suc (length-take-le n s (span_within name_byte s)));
    }

-- Nat literals -----------------------------------------------------------------------------

-- a byte that is not 0 stands within
within : (s : List ℕ) (n c : ℕ) → get_or s n 0 ≡ suc c → n < length s
within [] n c e = absurd (omega (arith, e))
within (b ∷ s) zero c e = omega arith
within (b ∷ s) (suc n) c e = let h = within s n c e in omega arith

digit_sound : (b : ℕ) (s : List ℕ) → digit b ≡ true → Sound (b ∷ s) (front_of digits b s)
unfolding front_of nat_front Proper Digits spelling digit between
digit_sound b s e = go (eqb (get_or s n 0) nat_end_byte) refl
  where
    n : ℕ
    n = span digit s

    at : get_or s n 0 ≡ nat_end_byte → At (b ∷ s) (nat (b ∷ take n s)) (suc n)
    at f =
        let h : n < length s = within s n 109 f in
        let l : length (take n s) ≡ n = length-take-le n s (omega arith) in
        let w : s ≡ take n s ++ (nat_end_byte ∷ drop (suc n) s) = split_at s n 0 h ∙ ap (λ c. take n s ++ (c ∷ drop (suc n) s)) f in
        record {
          proper = (e, span_every digit s);
          whole = ap (λ r. b ∷ r) (append_assoc (take n s) (nat_end_byte ∷ []) (drop (suc n) s) ∙ sym w);
          sized = ap suc (length-append (take n s) (nat_end_byte ∷ []) ∙ omega arith);
        }

    go : (t : Bool) → eqb (get_or s n 0) nat_end_byte ≡ t → Sound (b ∷ s) (nat_front b s n)
    go true f = rw (f, nat_front) (token_sound (at (eqb-true (get_or s n 0) nat_end_byte f)) (no_comment b s (λ g. false≢true (rw g at e))))
    go false f = rw (f, nat_front) nothing_sound

-- Comments -----------------------------------------------------------------------------------

comment_sound : (s : List ℕ) → Sound (slash ∷ star ∷ s) (comment_front (closing s))
unfolding comment_front
comment_sound s = go (closing s) refl
  where
    go : (n : ℕ) → closing s ≡ n → Sound (slash ∷ star ∷ s) (comment_front n)
    go zero e = nothing_sound
    go (suc n) e =
        let c : Closed s (suc n) = closing_found s n e in
        let l : length (c.inside ++ close) ≡ suc n = length-append c.inside close ∙ (let z = c.sized in omega arith) in
        let w : (c.inside ++ close) ++ c.rest ≡ s = append_assoc c.inside close c.rest ∙ c.whole in
        let f : take (suc n) s ≡ c.inside ++ close = ap (take (suc n)) (sym w) ∙ take_at (c.inside ++ close) c.rest (suc n) l in
        gap_sound {n = suc (suc n)}
        (rw f (comment c.inside c.first))
        (let k = length-append (c.inside ++ close) c.rest in let m = ap length w in omega arith)

-- Int literals ---------------------------------------------------------------------------------

polarity_of : (b : ℕ) → (eqb b 43 || eqb b 45) ≡ true → polarity_byte (polarity b) ≡ b
unfolding polarity polarity_byte
polarity_of b e = go (eqb b 43) refl (eqb b 45) refl
  where
    go : (p : Bool) → eqb b 43 ≡ p → (q : Bool) → eqb b 45 ≡ q → polarity_byte (polarity b) ≡ b
    go true f q g = rw (f, polarity) (sym (eqb-true b 43 f))
    go false f true g = rw (f, polarity) (sym (eqb-true b 45 g))
    go false f false g = absurd (false≢true (rw (f, g) at e))

pub digits_run : (s : List ℕ) → digit (get_or s 0 0) ≡ true → (Digits (take (span digit s) s)) × (1 ≤ span digit s)
unfolding Digits span
digits_run [] e = absurd (false≢true (unfold digit between in e))
digits_run (d ∷ s) e = rw (e, span) ((e, span_every digit s), omega arith)

int_sound : (b : ℕ) (s : List ℕ) → signed b s ≡ true → At (b ∷ s) (int (polarity b) (take (span digit s) s)) (span digit s)
unfolding signed Proper spelling
int_sound b s e =
    let h = both_true (eqb b 43 || eqb b 45) (digit (get_or s 0 0)) e in
    record {
      proper = (digits_run s h.1).0;
      whole = rw (polarity_of b h.0) (ap (λ l. b ∷ l) (take-append-drop (span digit s) s));
      sized = ap suc (length-take-le (span digit s) s (span_within digit s));
    }

-- The rest ---------------------------------------------------------------------------------------

pub opens_comment : (b : ℕ) (s : List ℕ) → opens b s ≡ true → b ∷ s ≡ slash ∷ star ∷ after_star s
unfolding opens after_star
opens_comment b [] e = absurd (false≢true (both_true (eqb b slash) false e).1)
opens_comment b (c ∷ s) e =
    let h = both_true (eqb b slash) (eqb c star) e in
    rw (eqb-true b slash h.0, eqb-true c star h.1) refl

pub opens_not : (b : ℕ) (s : List ℕ) → opens b s ≡ false → Comment (b ∷ s) → ⊥
unfolding opens
opens_not b s e c =
    let f = c.1 in
    let g : b ≡ slash = cc in
    let h : s ≡ star ∷ c.0 = cc in
    false≢true (sym (rw (g, h) at e))

other_sound : (b : ℕ) (s : List ℕ) → Sound (b ∷ s) (front_of others b s)
unfolding front_of other_front
other_sound b s = go (opens b s) refl (signed b s) refl
  where
    sign_sound : (f : Front) → (Comment (b ∷ s) → ⊥) → Stands (b ∷ s) f → Sound (b ∷ s) f
    sign_sound f n (stands a) = token_sound a n
    sign_sound f n stands_not = nothing_sound

    go : (p : Bool) → opens b s ≡ p → (q : Bool) → signed b s ≡ q → Sound (b ∷ s) (other_front b s)
    go true e q f = rw (e, other_front) (rw (opens_comment b s e) (comment_sound (after_star s)))
    go false e true f = rw (e, f, other_front) (token_sound (int_sound b s f) (opens_not b s e))
    go false e false f = rw (e, f, other_front) (sign_sound _ (opens_not b s e) (sign_stands signs (b ∷ s) signs_plain))

pub front_sound : (x : List ℕ) → Sound x (front x)
unfolding front front_of
front_sound [] = nothing_sound
front_sound (b ∷ s) = go (class b) (classed b)
  where
    go : (c : Class) → ClassOf b c → Sound (b ∷ s) (front_of c b s)
    go c (is_letter e) = letter_sound b s e
    go c (is_digit e) = digit_sound b s e
    go c (is_blank e) = gap_sound {n = 0} (blank_byte e) (omega arith)
    go c is_other = other_sound b s
