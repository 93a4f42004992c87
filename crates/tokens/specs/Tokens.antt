-- Tokens of program text (02 §1; 000, section 3) and how each is spelled, as a list of bytes. Nothing here speaks of reading.
use Rattle.std.specs.Prelude.{ℕ, ◌≡◌, Bool, true, false, ◌&&◌, ◌||◌, List, [], ◌∷◌, ◌++◌, eqb, leb}
use Rattle.program.specs.Tree.{Op, Op.op_eq, Op.op_ne, Op.op_le, Op.op_ge, Op.op_lt, Op.op_gt, Op.op_mul, Op.op_div, Op.op_rem, Op.op_add, Op.op_sub}
use Rattle.program.specs.Tree.{Op.op_and, Op.op_or}
use Rattle.tokens.specs.Bytes.{tab_byte, line_byte, return_byte, space_byte, underscore_byte, zero_byte, nine_byte, upper_a_byte, upper_z_byte}
use Rattle.tokens.specs.Bytes.{lower_a_byte, lower_z_byte, bang_byte, percent_byte, ampersand_byte, lpar_byte, rpar_byte, plus_byte, comma_byte}
use Rattle.tokens.specs.Bytes.{minus_byte, dot_byte, colon_byte, semicolon_byte, less_byte, equals_byte, more_byte, lbrace_byte, bar_byte}
use Rattle.tokens.specs.Bytes.{rbrace_byte, star, slash}

-- the grammar's own words: struct, if, then, null, this, Fix, Int, Nat, Bool, String, true, false
pub data Word : Type 0 where
  w_struct w_if w_then w_null w_this w_fix w_int w_nat w_bool w_string w_true w_false : Word

-- ( ) { } , : ; := . !
pub data Sign : Type 0 where
  lpar rpar lbrace rbrace comma colon semicolon assign dot bang : Sign

-- of an Int literal
pub data Polarity : Type 0 where
  plus minus : Polarity

-- a name by its bytes, literals by their digits
pub data Token : Type 0 where
  word : Word → Token
  sign : Sign → Token
  op : Op → Token
  name : List ℕ → Token
  int : Polarity → List ℕ → Token
  nat : List ℕ → Token

-- Bytes --------------------------------------------------------------------------

unfoldable pub between : ℕ → ℕ → ℕ → Bool
between lo hi b = leb lo b && leb b hi

-- A to Z and a to z; 0 to 9
unfoldable pub letter : ℕ → Bool
letter b = between upper_a_byte upper_z_byte b || between lower_a_byte lower_z_byte b

unfoldable pub digit : ℕ → Bool
digit b = between zero_byte nine_byte b

-- what stands in a name behind its first letter: a letter, a digit or _
unfoldable pub name_byte : ℕ → Bool
name_byte b = letter b || (digit b || eqb b underscore_byte)

-- a blank, a tab, the two bytes of line ends
unfoldable pub blank : ℕ → Bool
blank b = eqb b space_byte || (eqb b tab_byte || (eqb b line_byte || eqb b return_byte))

unfoldable pub every : (ℕ → Bool) → List ℕ → Bool
every p [] = true
every p (b ∷ s) = p b && every p s

-- whether two are one
unfoldable pub same : List ℕ → List ℕ → Bool
same [] [] = true
same [] (b ∷ t) = false
same (a ∷ s) [] = false
same (a ∷ s) (b ∷ t) = eqb a b && same s t

-- Spelling -----------------------------------------------------------------------

unfoldable pub word_spelling : Word → List ℕ
word_spelling w_struct = 115 ∷ 116 ∷ 114 ∷ 117 ∷ 99 ∷ 116 ∷ []
word_spelling w_if = 105 ∷ 102 ∷ []
word_spelling w_then = 116 ∷ 104 ∷ 101 ∷ 110 ∷ []
word_spelling w_null = 110 ∷ 117 ∷ 108 ∷ 108 ∷ []
word_spelling w_this = 116 ∷ 104 ∷ 105 ∷ 115 ∷ []
word_spelling w_fix = 70 ∷ 105 ∷ 120 ∷ []
word_spelling w_int = 73 ∷ 110 ∷ 116 ∷ []
word_spelling w_nat = 78 ∷ 97 ∷ 116 ∷ []
word_spelling w_bool = 66 ∷ 111 ∷ 111 ∷ 108 ∷ []
word_spelling w_string = 83 ∷ 116 ∷ 114 ∷ 105 ∷ 110 ∷ 103 ∷ []
word_spelling w_true = 116 ∷ 114 ∷ 117 ∷ 101 ∷ []
word_spelling w_false = 102 ∷ 97 ∷ 108 ∷ 115 ∷ 101 ∷ []

unfoldable pub sign_spelling : Sign → List ℕ
sign_spelling lpar = lpar_byte ∷ []
sign_spelling rpar = rpar_byte ∷ []
sign_spelling lbrace = lbrace_byte ∷ []
sign_spelling rbrace = rbrace_byte ∷ []
sign_spelling comma = comma_byte ∷ []
sign_spelling colon = colon_byte ∷ []
sign_spelling semicolon = semicolon_byte ∷ []
sign_spelling assign = colon_byte ∷ equals_byte ∷ []
sign_spelling dot = dot_byte ∷ []
sign_spelling bang = bang_byte ∷ []

-- = != <= >= < > * / % + - && ||
unfoldable pub op_spelling : Op → List ℕ
op_spelling op_eq = equals_byte ∷ []
op_spelling op_ne = bang_byte ∷ equals_byte ∷ []
op_spelling op_le = less_byte ∷ equals_byte ∷ []
op_spelling op_ge = more_byte ∷ equals_byte ∷ []
op_spelling op_lt = less_byte ∷ []
op_spelling op_gt = more_byte ∷ []
op_spelling op_mul = star ∷ []
op_spelling op_div = slash ∷ []
op_spelling op_rem = percent_byte ∷ []
op_spelling op_add = plus_byte ∷ []
op_spelling op_sub = minus_byte ∷ []
op_spelling op_and = ampersand_byte ∷ ampersand_byte ∷ []
op_spelling op_or = bar_byte ∷ bar_byte ∷ []

unfoldable pub polarity_byte : Polarity → ℕ
polarity_byte plus = plus_byte
polarity_byte minus = minus_byte

-- the n that ends a Nat literal
abbrev pub nat_end_byte : ℕ
nat_end_byte = 110

unfoldable pub spelling : Token → List ℕ
spelling (word w) = word_spelling w
spelling (sign g) = sign_spelling g
spelling (op o) = op_spelling o
spelling (name s) = s
spelling (int p ds) = polarity_byte p ∷ ds
spelling (nat ds) = ds ++ (nat_end_byte ∷ [])

-- Which tokens there are -----------------------------------------------------------

-- a letter, then letters, digits or underscores
unfoldable pub Name : List ℕ → Type 0
Name [] = ⊥
Name (b ∷ s) = (letter b ≡ true) × (every name_byte s ≡ true)

-- one digit or more
unfoldable pub Digits : List ℕ → Type 0
Digits [] = ⊥
Digits (b ∷ s) = (digit b ≡ true) × (every digit s ≡ true)

-- a name is none of the words
unfoldable pub Proper : Token → Type 0
Proper (word w) = Unit {0}
Proper (sign g) = Unit {0}
Proper (op o) = Unit {0}
Proper (name s) = (Name s) × ((w : Word) → word_spelling w ≡ s → ⊥)
Proper (int p ds) = Digits ds
Proper (nat ds) = Digits ds
