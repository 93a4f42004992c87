-- Literals where they stand in a text, as the word of four bytes that a stream has for them (02 §1; 01, 'Program stream').
use Rattle.std.specs.Prelude.{ℕ, zero, suc, ◌+◌, ◌-◌, Bool, true, false, List, get_or, take, drop, ltb, Option, Some, None}
use Rattle.std.proofs.Math.Option.{Option as Meaning, none, some}
use Rattle.types.specs.Limits.{nat_end, int_half}
use Rattle.program.specs.Tree.{Expr, Expr.inv, Expr.make, Expr.path, Expr.int_lit, Expr.nat_lit, Expr.bool_lit, Expr.null, Expr.self, Expr.op}
use Rattle.tokens.specs.Tokens.{digit}
use Rattle.tokens.specs.Scanning.{span, polarity}
use Rattle.syntax.specs.Syntax.{Literal.int_literal, Literal.nat_literal}
use Rattle.meaning.specs.Meant.{literal_meaning}

-- the digits that bytes begin with; those at a place of a text
unfoldable pub digits_of : List ℕ → List ℕ
digits_of s = take (span digit s) s

abbrev pub digits_at : List ℕ → ℕ → List ℕ
digits_at text i = digits_of (drop i text)

-- a number, but no more than the first that is no Nat
unfoldable pub capped : ℕ → ℕ
capped n = elim (ltb n nat_end) [ true ↦ n | false ↦ nat_end ]

-- the word of a literal by its meaning
unfoldable pub word_of : Meaning Expr → Option ℕ
word_of none = None
word_of (some (inv e)) = None
word_of (some (make k es)) = None
word_of (some (path v vs)) = None
word_of (some (int_lit n)) = Some n
word_of (some (nat_lit n)) = Some n
word_of (some (bool_lit n)) = Some n
word_of (some (null t)) = None
word_of (some self) = None
word_of (some (op o a b)) = None

-- of an Int by its sign and its number
unfoldable pub signed_word : Bool → ℕ → Option ℕ
signed_word true n = elim (ltb n int_half) [ true ↦ Some n | false ↦ None ]
signed_word false zero = Some 0
signed_word false (suc n) = elim (ltb n int_half) [ true ↦ Some (nat_end - suc n) | false ↦ None ]

-- of the Nat literal at a place; of the Int literal, behind its sign
unfoldable pub nat_at : List ℕ → ℕ → Option ℕ
nat_at text i = word_of (literal_meaning (nat_literal (digits_at text i)))

unfoldable pub int_at : List ℕ → ℕ → Option ℕ
int_at text i = word_of (literal_meaning (int_literal (polarity (get_or text i 0)) (digits_at text (i + 1))))
