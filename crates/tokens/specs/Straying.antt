-- Why a text parts into no tokens (02 §1, 15: "an unclosed comment, or a character sequence that is no token"): after gaps and longest tokens a comment
-- begins that is not closed, or a byte comes that is no gap and at which no token begins. Nothing here speaks of a scanner.
use Rattle.std.specs.Prelude.{ℕ, ◌≡◌, false, List, ◌∷◌, ◌++◌}
use Rattle.tokens.specs.Tokens.{Token, spelling, Proper, blank}
use Rattle.tokens.specs.Bytes.{slash, star}
use Rattle.tokens.specs.Lexing.{close, Comment, Gap, Longest}

pub data Strays : List ℕ → Type 0 where
  -- "an unclosed comment"
  unclosed : {s : List ℕ} → ((w t : List ℕ) → w ++ (close ++ t) ≡ s → ⊥) → Strays (slash ∷ star ∷ s)
  -- "a character sequence that is no token"
  no_token : {b : ℕ} {s : List ℕ} → blank b ≡ false → (Comment (b ∷ s) → ⊥) → ((t : Token) (v : List ℕ) → Proper t → spelling t ++ v ≡ b ∷ s → ⊥) → Strays (b ∷ s)
  -- either may come after gaps and after tokens, the longest first
  past_gap : {x s : List ℕ} (u : List ℕ) → Gap u → u ++ s ≡ x → Strays s → Strays x
  past_token : {x s : List ℕ} (t : Token) → Proper t → Longest (spelling t) s → spelling t ++ s ≡ x → Strays s → Strays x
