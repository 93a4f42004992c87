-- What stands in each place of a text: the kind of the token that begins there, 0 where none does; and whether the text parts into tokens.
use Rattle.std.specs.Prelude.{ℕ, zero, suc, ◌≡◌, Bool, true, false, ◌&&◌, ◌||◌, List, [], ◌∷◌, eqb, Option as Maybe, Some, None, option_map}
use Rattle.std.proofs.Math.Option.{Option, none, some}
use Rattle.tokens.specs.Tokens.{Token, digit, name_byte}
use Rattle.tokens.specs.Scanning.{Front, Front.token, Front.gap, Front.nothing, front, lex}
use Rattle.tokens.specs.Kinds.{kind}
use Rattle.tokens.specs.Spot.{Spot}
use Rattle.tokens.specs.KindNames.{no_kind}
use Rattle.tokens.specs.Bytes.{plus_byte, minus_byte}

unfoldable pub spot_of : Front → Spot
spot_of (token t n) = Some (kind t, n)
spot_of (gap n) = Some (no_kind, n)
spot_of nothing = None

-- a byte is a token of kind k, whatever stands behind it
abbrev pub Lone : ℕ → ℕ → Type 0
Lone b k = (t : List ℕ) → Some (k, 0) ≡ spot_of (front (b ∷ t))

-- k bytes belong to what was taken before
unfoldable pub at_spot : ℕ → List ℕ → Spot
at_spot zero x = spot_of (front x)
at_spot (suc k) x = Some (no_kind, k)

unfoldable pub marks_of : Spot → (ℕ → List ℕ) → List ℕ
marks_of (Some (q, n)) rest = q ∷ rest n
marks_of None rest = []

-- up to a place where nothing of a text stands
unfoldable pub marks_from : ℕ → List ℕ → List ℕ
marks_from k [] = []
marks_from k (b ∷ s) = marks_of (at_spot k (b ∷ s)) λ n. marks_from n s

abbrev pub marks : List ℕ → List ℕ
marks x = marks_from 0 x

-- the text parts into tokens
unfoldable pub found : Option (List Token) → Bool
found none = false
found (some ts) = true

abbrev pub parts : List ℕ → Bool
parts x = found (lex 0 x)

-- the kinds among the marks
unfoldable pub kinds_in : List ℕ → List ℕ
kinds_in [] = []
kinds_in (k ∷ ks) = elim (eqb k 0) [ true ↦ kinds_in ks | false ↦ k ∷ kinds_in ks ]

-- Bytes that are told by the one behind them ------------------------------------------------

-- two bytes where d follows, else one of its own, if there is one
unfoldable pub followed : ℕ → ℕ → ℕ → Maybe ℕ → Spot
followed c d two one = elim (eqb c d) [ true ↦ Some (two, 1) | false ↦ option_map (λ k. (k, 0)) one ]

-- what a run goes on with: a name's, or else that of a number
abbrev pub run_byte : Bool → ℕ → Bool
run_byte true = name_byte
run_byte false = digit

-- a sign with a digit behind it
abbrev pub signs_digit : ℕ → ℕ → Bool
signs_digit b c = (eqb b plus_byte || eqb b minus_byte) && digit c
