-- Laws of words and names, and of signs: what is found is spelled as the bytes that it was found for.
use Rattle.std.specs.Prelude.{ℕ, suc, ◌≡◌, refl, Bool, true, false, ◌&&◌, List, [], ◌∷◌, ◌++◌, length, drop}
use Rattle.std.proofs.Common.{arith, sym, ap, ◌∙◌}
use Rattle.std.proofs.lemmas.Bool.{false≢true}
use Rattle.tokens.specs.Tokens.{Word, Word.w_struct, Word.w_if, Word.w_then, Word.w_null, Word.w_this, Word.w_fix, Word.w_int, Word.w_nat, same}
use Rattle.tokens.specs.Tokens.{Word.w_bool, Word.w_string, Word.w_true, Word.w_false}
use Rattle.tokens.specs.Tokens.{Token, Token.word, Token.sign, Token.op, Token.name, Token.int, Token.nat, word_spelling, sign_spelling}
use Rattle.tokens.specs.Tokens.{op_spelling, spelling, Name, Proper}
use Rattle.tokens.specs.Scanning.{Front, Front.token, Front.nothing, begins, words, find_word, named, doubles, singles, signs}
use Rattle.tokens.specs.Scanning.{behind_first, find_sign}
use Rattle.tokens.proofs.Laws.ByteLaws.{both_true, same_true, begins_true}

-- Words and names ----------------------------------------------------------------------

-- what the bytes of a name are found to be
pub data Found (s : List ℕ) : Token → Type 0 where
  a_word : (w : Word) → word_spelling w ≡ s → Found s (word w)
  a_name : Found s (name s)

found_in : (ws : List Word) (s : List ℕ) → Found s (find_word ws s)
unfolding find_word
found_in [] s = a_name
found_in (w ∷ ws) s = go (same (word_spelling w) s) refl (found_in ws s)
  where
    go : (t : Bool) → same (word_spelling w) s ≡ t → Found s (find_word ws s) → Found s (find_word (w ∷ ws) s)
    go true e r = rw (e, find_word) (a_word w (same_true (word_spelling w) s e))
    go false e r = rw (e, find_word) r

pub found : (s : List ℕ) → Found s (named s)
unfolding named
found s = found_in words s

pub named_spelling : (s : List ℕ) → spelling (named s) ≡ s
unfolding spelling
named_spelling s = go (named s) (found s)
  where
    go : (t : Token) → Found s t → spelling t ≡ s
    go t (a_word w e) = e
    go t a_name = refl

pub named_word : (w : Word) → named (word_spelling w) ≡ word w
unfolding named words find_word word_spelling same
named_word w_struct = refl
named_word w_if = refl
named_word w_then = refl
named_word w_null = refl
named_word w_this = refl
named_word w_fix = refl
named_word w_int = refl
named_word w_nat = refl
named_word w_bool = refl
named_word w_string = refl
named_word w_true = refl
named_word w_false = refl

pub named_proper : (s : List ℕ) → Name s → Proper (named s)
unfolding Proper
named_proper s n = go (named s) refl (found s)
  where
    go : (t : Token) → named s ≡ t → Found s t → Proper t
    go t e (a_word w f) = tt
    go t e a_name = (n, λ w f. let g : word w ≡ name s = sym (named_word w) ∙ ap named f ∙ e in absurd (let z : ◌≡◌ {A = ℕ} 0 1 = cc in omega arith))

pub named_name : (s : List ℕ) → ((w : Word) → word_spelling w ≡ s → ⊥) → named s ≡ name s
named_name s n = go (named s) refl (found s)
  where
    go : (t : Token) → named s ≡ t → Found s t → named s ≡ name s
    go t e (a_word w f) = absurd (n w f)
    go t e a_name = e

-- Signs -----------------------------------------------------------------------------------

-- a sign or an operator, of a byte or more
unfoldable pub some_byte : List ℕ → Bool
some_byte [] = false
some_byte (b ∷ s) = true

unfoldable pub plain : Token → Bool
plain (sign g) = some_byte (sign_spelling g)
plain (op o) = some_byte (op_spelling o)
plain (word w) = false
plain (name s) = false
plain (int p ds) = false
plain (nat ds) = false

unfoldable pub all_plain : List Token → Bool
all_plain [] = true
all_plain (t ∷ ts) = plain t && all_plain ts

pub signs_plain : all_plain signs ≡ true
unfolding all_plain plain some_byte signs doubles singles sign_spelling op_spelling
signs_plain = refl

-- it is a token as it stands, and has as many bytes as are behind its first, and that one
byte_counted : (s : List ℕ) → some_byte s ≡ true → length s ≡ suc (behind_first s)
unfolding some_byte behind_first
byte_counted [] e = absurd (false≢true e)
byte_counted (b ∷ s) e = refl

plain_token : (t : Token) → plain t ≡ true → (Proper t) × (length (spelling t) ≡ suc (behind_first (spelling t)))
unfolding plain Proper spelling
plain_token (sign g) e = (tt, byte_counted (sign_spelling g) e)
plain_token (op o) e = (tt, byte_counted (op_spelling o) e)
plain_token (word w) e = absurd (false≢true e)
plain_token (name s) e = absurd (false≢true e)
plain_token (int p ds) e = absurd (false≢true e)
plain_token (nat ds) e = absurd (false≢true e)

-- a token of n bytes behind its first at the front of x
pub record At (x : List ℕ) (t : Token) (n : ℕ) : Type 0 where
  pub proper : Proper t
  pub whole : spelling t ++ drop (suc n) x ≡ x
  pub sized : length (spelling t) ≡ suc n

pub data Stands (x : List ℕ) : Front → Type 0 where
  stands : {t : Token} {n : ℕ} → At x t n → Stands x (token t n)
  stands_not : Stands x nothing

pub sign_stands : (ts : List Token) (x : List ℕ) → all_plain ts ≡ true → Stands x (find_sign ts x)
unfolding find_sign all_plain
sign_stands [] x p = stands_not
sign_stands (t ∷ ts) x p = go (begins (spelling t) x) refl (sign_stands ts x (both_true (plain t) (all_plain ts) p).1)
  where
    is : (Proper t) × (length (spelling t) ≡ suc (behind_first (spelling t)))
    is = plain_token t (both_true (plain t) (all_plain ts) p).0

    go : (b : Bool) → begins (spelling t) x ≡ b → Stands x (find_sign ts x) → Stands x (find_sign (t ∷ ts) x)
    go true e r =
        rw (e, find_sign)
        (stands record {
          proper = is.0;
          whole = ap (λ n. spelling t ++ drop n x) (sym is.1) ∙ begins_true (spelling t) x e;
          sized = is.1;
        })
    go false e r = rw (e, find_sign) r
