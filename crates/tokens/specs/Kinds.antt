-- The kind of a token as a byte: what is kept of it in its place of the text. 0 is no kind: no token begins there. Each has a name (`KindNames.antt`).
use Rattle.std.specs.Prelude.{ℕ, ◌+◌, ◌-◌, List, [], ◌∷◌}
use Rattle.program.specs.Tree.{Op, Op.op_eq, Op.op_ne, Op.op_le, Op.op_ge, Op.op_lt, Op.op_gt, Op.op_mul, Op.op_div, Op.op_rem, Op.op_add, Op.op_sub}
use Rattle.program.specs.Tree.{Op.op_and, Op.op_or}
use Rattle.program.specs.Encoding.{op_code}
use Rattle.tokens.specs.Tokens.{Word, Word.w_struct, Word.w_if, Word.w_then, Word.w_null, Word.w_this, Word.w_fix, Word.w_int, Word.w_nat}
use Rattle.tokens.specs.Tokens.{Word.w_bool, Word.w_string, Word.w_true, Word.w_false}
use Rattle.tokens.specs.Tokens.{Sign, Sign.lpar, Sign.rpar, Sign.lbrace, Sign.rbrace, Sign.comma, Sign.colon, Sign.semicolon, Sign.assign}
use Rattle.tokens.specs.Tokens.{Sign.dot, Sign.bang, Token, Token.word, Token.sign, Token.op, Token.name, Token.int, Token.nat}
use Rattle.tokens.specs.TokenNumbers.{word_number, sign_number}
use Rattle.tokens.specs.KindNames.{no_kind, struct_kind, lpar_kind, eq_kind, name_kind, int_kind, nat_kind}

-- the words, the signs
unfoldable pub word_kind : Word → ℕ
word_kind w = struct_kind + word_number w

unfoldable pub sign_kind : Sign → ℕ
sign_kind g = lpar_kind + sign_number g

-- the operators, in the order of their bytes in a stream
unfoldable pub op_kind : Op → ℕ
unfolding op_code
op_kind o = eq_kind + (op_code o - op_code op_eq)

unfoldable pub kind : Token → ℕ
kind (word w) = word_kind w
kind (sign g) = sign_kind g
kind (op o) = op_kind o
kind (name x) = name_kind
kind (int p ds) = int_kind
kind (nat ds) = nat_kind

-- every kind in order, behind the 0 that is none, as the code hands them out
unfoldable pub all_kinds : List ℕ
unfolding op_code
all_kinds =
    no_kind
    ∷ word_kind w_struct ∷ word_kind w_if ∷ word_kind w_then ∷ word_kind w_null ∷ word_kind w_this ∷ word_kind w_fix ∷ word_kind w_int ∷ word_kind w_nat
    ∷ word_kind w_bool ∷ word_kind w_string ∷ word_kind w_true ∷ word_kind w_false
    ∷ sign_kind lpar ∷ sign_kind rpar ∷ sign_kind lbrace ∷ sign_kind rbrace ∷ sign_kind comma ∷ sign_kind colon ∷ sign_kind semicolon ∷ sign_kind assign
    ∷ sign_kind dot ∷ sign_kind bang
    ∷ op_kind op_eq ∷ op_kind op_ne ∷ op_kind op_le ∷ op_kind op_ge ∷ op_kind op_lt ∷ op_kind op_gt ∷ op_kind op_mul ∷ op_kind op_div ∷ op_kind op_rem
    ∷ op_kind op_add ∷ op_kind op_sub ∷ op_kind op_and ∷ op_kind op_or
    ∷ name_kind ∷ int_kind ∷ nat_kind ∷ []
