-- How text is scanned: what stands at the front of some bytes, by the first byte, and the tokens of a text, byte by byte.
use Rattle.std.specs.Prelude.{ℕ, zero, suc, Bool, true, false, ◌&&◌, ◌||◌, List, [], ◌∷◌, ◌++◌, length, take, get_or, eqb}
use Rattle.std.proofs.Math.Option.{Option, none, some}
use Rattle.program.specs.Tree.{Op.op_eq, Op.op_ne, Op.op_le, Op.op_ge, Op.op_lt, Op.op_gt, Op.op_mul, Op.op_div, Op.op_rem, Op.op_add, Op.op_sub}
use Rattle.program.specs.Tree.{Op.op_and, Op.op_or}
use Rattle.tokens.specs.Tokens.{Word, Word.w_struct, Word.w_if, Word.w_then, Word.w_null, Word.w_this, Word.w_fix, Word.w_int, Word.w_nat}
use Rattle.tokens.specs.Tokens.{Word.w_bool, Word.w_string, Word.w_true, Word.w_false}
use Rattle.tokens.specs.Tokens.{Sign.lpar, Sign.rpar, Sign.lbrace, Sign.rbrace, Sign.comma, Sign.colon, Sign.semicolon, Sign.assign, Sign.dot}
use Rattle.tokens.specs.Tokens.{Sign.bang, Polarity, Polarity.plus, Polarity.minus}
use Rattle.tokens.specs.Tokens.{Token, Token.word, Token.sign, Token.op, Token.name, Token.int, Token.nat, letter, digit, name_byte, blank}
use Rattle.tokens.specs.Tokens.{same, word_spelling, spelling, nat_end_byte}
use Rattle.tokens.specs.Lexing.{close}
use Rattle.tokens.specs.Bytes.{star, plus_byte, minus_byte, slash}

-- what stands at the front, with the count of its bytes behind the first
pub data Front : Type 0 where
  token : Token → ℕ → Front
  gap : ℕ → Front
  nothing : Front

-- the bytes in a row at the front of which p holds
unfoldable pub span : (ℕ → Bool) → List ℕ → ℕ
span p [] = 0
span p (b ∷ s) = elim (p b) [ true ↦ suc (span p s) | false ↦ 0 ]

-- whether u is a front of x
unfoldable pub begins : List ℕ → List ℕ → Bool
begins [] x = true
begins (a ∷ u) [] = false
begins (a ∷ u) (b ∷ x) = eqb a b && begins u x

-- one more, of a count that is 0 where there is nothing to count
unfoldable pub one_more : ℕ → ℕ
one_more zero = 0
one_more (suc n) = suc (suc n)

-- the bytes up to the first close and with it; 0 where there is none
unfoldable pub closing : List ℕ → ℕ
closing [] = 0
closing (b ∷ s) = elim (begins close (b ∷ s)) [ true ↦ 2 | false ↦ one_more (closing s) ]

-- a word, or else a name
unfoldable pub words : List Word
words = w_struct ∷ w_if ∷ w_then ∷ w_null ∷ w_this ∷ w_fix ∷ w_int ∷ w_nat ∷ w_bool ∷ w_string ∷ w_true ∷ w_false ∷ []

unfoldable pub find_word : List Word → List ℕ → Token
find_word [] s = name s
find_word (w ∷ ws) s = elim (same (word_spelling w) s) [ true ↦ word w | false ↦ find_word ws s ]

unfoldable pub named : List ℕ → Token
named s = find_word words s

-- signs and operators of two bytes, and of one
unfoldable pub doubles : List Token
doubles = sign assign ∷ op op_ne ∷ op op_le ∷ op op_ge ∷ op op_and ∷ op op_or ∷ []

unfoldable pub singles : List Token
singles =
    sign lpar ∷ sign rpar ∷ sign lbrace ∷ sign rbrace ∷ sign comma ∷ sign colon ∷ sign semicolon ∷ sign dot ∷ sign bang
    ∷ op op_eq ∷ op op_lt ∷ op op_gt ∷ op op_mul ∷ op op_div ∷ op op_rem ∷ op op_add ∷ op op_sub ∷ []

unfoldable pub signs : List Token
signs = doubles ++ singles

-- the bytes of a list behind its first
unfoldable pub behind_first : List ℕ → ℕ
behind_first [] = 0
behind_first (b ∷ s) = length s

unfoldable pub find_sign : List Token → List ℕ → Front
find_sign [] x = nothing
find_sign (t ∷ ts) x = elim (begins (spelling t) x) [ true ↦ token t (behind_first (spelling t)) | false ↦ find_sign ts x ]

-- By the first byte ----------------------------------------------------------------

pub data Class : Type 0 where
  letters digits blanks others : Class

unfoldable pub class : ℕ → Class
class b = elim (letter b) [ true ↦ letters | false ↦ elim (digit b) [ true ↦ digits | false ↦ elim (blank b) [ true ↦ blanks | false ↦ others ] ] ]

unfoldable pub polarity : ℕ → Polarity
polarity b = elim (eqb b plus_byte) [ true ↦ plus | false ↦ minus ]

-- a sign with a digit directly behind it; the front of a comment
unfoldable pub signed : ℕ → List ℕ → Bool
signed b s = (eqb b plus_byte || eqb b minus_byte) && digit (get_or s 0 0)

unfoldable pub opens : ℕ → List ℕ → Bool
opens b s = eqb b slash && eqb (get_or s 0 0) star

-- n digits behind the first
unfoldable pub nat_front : ℕ → List ℕ → ℕ → Front
nat_front b s n = elim (eqb (get_or s n 0) nat_end_byte) [ true ↦ token (nat (b ∷ take n s)) (suc n) | false ↦ nothing ]

-- the bytes of a comment behind its opening
unfoldable pub comment_front : ℕ → Front
comment_front zero = nothing
comment_front (suc n) = gap (suc (suc n))

unfoldable pub after_star : List ℕ → List ℕ
after_star [] = []
after_star (c ∷ s) = s

unfoldable pub other_front : ℕ → List ℕ → Front
other_front b s = elim (opens b s) [
  | true ↦ comment_front (closing (after_star s))
  | false ↦ elim (signed b s) [ true ↦ token (int (polarity b) (take (span digit s) s)) (span digit s) | false ↦ find_sign signs (b ∷ s) ]
]

unfoldable pub front_of : Class → ℕ → List ℕ → Front
front_of letters b s = token (named (b ∷ take (span name_byte s) s)) (span name_byte s)
front_of digits b s = nat_front b s (span digit s)
front_of blanks b s = gap 0
front_of others b s = other_front b s

unfoldable pub front : List ℕ → Front
front [] = nothing
front (b ∷ s) = front_of (class b) b s

-- The whole text ---------------------------------------------------------------------

unfoldable pub added : Token → Option (List Token) → Option (List Token)
added t none = none
added t (some ts) = some (t ∷ ts)

unfoldable pub taken : Front → (ℕ → Option (List Token)) → Option (List Token)
taken (token t n) rest = added t (rest n)
taken (gap n) rest = rest n
taken nothing rest = none

-- k bytes belong to what was taken before
unfoldable pub lex : ℕ → List ℕ → Option (List Token)
lex k [] = some []
lex zero (b ∷ s) = taken (front (b ∷ s)) (λ n. lex n s)
lex (suc k) (b ∷ s) = lex k s
