-- How text parts into tokens (02 §1): blanks, tabs, line ends and /* */ comments part them, and the longest token is taken first. A relation
-- between bytes and tokens, which knows no reader. A text that has no tokens is one that holds an unclosed comment or a sequence that is no token.
use Rattle.std.specs.Prelude.{ℕ, ◌≤◌, ◌≡◌, true, List, [], ◌∷◌, ◌++◌, length}
use Rattle.tokens.specs.Bytes.{star, slash}
use Rattle.tokens.specs.Tokens.{Token, spelling, Proper, blank}

abbrev pub close : List ℕ
close = star ∷ slash ∷ []

-- bytes that begin a comment, closed or not
abbrev pub Comment : List ℕ → Type 0
Comment x = (s : List ℕ) × (x ≡ slash ∷ star ∷ s)

-- w and the close behind it hold no other close
abbrev pub Closes : List ℕ → Type 0
Closes w = (a b : List ℕ) → w ++ close ≡ a ++ (close ++ b) → b ≡ []

-- what parts tokens
pub data Gap : List ℕ → Type 0 where
  blank_byte : {b : ℕ} → blank b ≡ true → Gap (b ∷ [])
  comment : (w : List ℕ) → Closes w → Gap (slash ∷ star ∷ (w ++ close))

-- u is the longest token in front of s: no comment begins there, and no longer token
pub record Longest (u s : List ℕ) : Type 0 where
  pub no_comment : Comment (u ++ s) → ⊥
  pub most : (t : Token) (v : List ℕ) → Proper t → spelling t ++ v ≡ u ++ s → length (spelling t) ≤ length u

-- bytes and their tokens
pub data Lexed : List ℕ → List Token → Type 0 where
  end : Lexed [] []
  gap : {x s : List ℕ} {ts : List Token} (u : List ℕ) → Gap u → u ++ s ≡ x → Lexed s ts → Lexed x ts
  token : {x s : List ℕ} {ts : List Token} (t : Token) → Proper t → Longest (spelling t) s → spelling t ++ s ≡ x → Lexed s ts → Lexed x (t ∷ ts)
