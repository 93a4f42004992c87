-- How roles stand in a text: each by its byte in the place where its token begins, 0 in the others, and its name or its digits in the text from there on.
use Rattle.std.specs.Prelude.{ℕ, ◌≡◌, List, [], ◌∷◌, get_or, drop}
use Rattle.tokens.specs.Tokens.{Token, Token.word, Token.sign, Token.op, Token.name, Token.int, Token.nat}
use Rattle.tokens.specs.Scanning.{polarity}
use Rattle.text_shape.specs.Roles.{Role, code, token_of}
use Rattle.resolve.specs.Named.{name_of}
use Rattle.resolve.specs.Digits.{digits_of}

-- what bytes that begin with a token say of it
unfoldable pub Spelt : Token → List ℕ → Type 0
Spelt (word w) s = Unit {0}
Spelt (sign g) s = Unit {0}
Spelt (op o) s = Unit {0}
Spelt (name x) s = name_of s ≡ x
Spelt (int g l) s = (polarity (get_or s 0 0) ≡ g) × (digits_of (drop 1 s) ≡ l)
Spelt (nat l) s = digits_of s ≡ l

-- bytes of a text, what stands in their places, and the roles there
pub data Stood : List ℕ → List ℕ → List Role → Type 0 where
  at_end : Stood [] [] []
  no_token : {b : ℕ} {s cs : List ℕ} {rs : List Role} → Stood s cs rs → Stood (b ∷ s) (0 ∷ cs) rs
  a_role : {b : ℕ} {s cs : List ℕ} {rs : List Role} (r : Role) → Spelt (token_of r) (b ∷ s) → Stood s cs rs → Stood (b ∷ s) (code r ∷ cs) (r ∷ rs)
