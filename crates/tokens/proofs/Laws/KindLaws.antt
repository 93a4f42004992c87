-- A kind is never 0 and always below the count of kinds; and each is the one of its name.
use Rattle.std.specs.Prelude.{ℕ, ◌<◌, ◌≡◌, refl, List, [], ◌∷◌}
use Rattle.std.proofs.Common.{arith}
use Rattle.program.specs.Tree.{Op, Op.op_eq, Op.op_ne, Op.op_le, Op.op_ge, Op.op_lt, Op.op_gt, Op.op_mul, Op.op_div, Op.op_rem, Op.op_add, Op.op_sub}
use Rattle.program.specs.Tree.{Op.op_and, Op.op_or}
use Rattle.tokens.specs.Tokens.{Word, Word.w_struct, Word.w_if, Word.w_then, Word.w_null, Word.w_this, Word.w_fix, Word.w_int, Word.w_nat}
use Rattle.tokens.specs.Tokens.{Word.w_bool, Word.w_string, Word.w_true, Word.w_false}
use Rattle.tokens.specs.Tokens.{Sign, Sign.lpar, Sign.rpar, Sign.lbrace, Sign.rbrace, Sign.comma, Sign.colon, Sign.semicolon, Sign.assign, Sign.dot}
use Rattle.tokens.specs.Tokens.{Sign.bang, Token, Token.word, Token.sign, Token.op, Token.name, Token.int, Token.nat}
use Rattle.tokens.specs.TokenNumbers.{word_number, sign_number}
use Rattle.tokens.specs.Kinds.{word_kind, sign_kind, op_kind, kind, all_kinds}
use Rattle.tokens.specs.KindNames.{no_kind, struct_kind, if_kind, then_kind, null_kind, this_kind, fix_kind, int_type_kind, nat_type_kind}
use Rattle.tokens.specs.KindNames.{bool_type_kind, string_type_kind, true_kind, false_kind, lpar_kind, rpar_kind, lbrace_kind, rbrace_kind}
use Rattle.tokens.specs.KindNames.{comma_kind, colon_kind, semicolon_kind, assign_kind, dot_kind, bang_kind, eq_kind, ne_kind, le_kind, ge_kind}
use Rattle.tokens.specs.KindNames.{lt_kind, gt_kind, mul_kind, div_kind, rem_kind, add_kind, sub_kind, and_kind, or_kind, name_kind, int_kind}
use Rattle.tokens.specs.KindNames.{nat_kind, kinds}

-- within the bounds of a group
abbrev pub Within : ℕ → ℕ → ℕ → Type 0
Within lo hi n = (lo < n) × (n < hi)

pub word_within : (w : Word) → Within no_kind lpar_kind (word_kind w)
unfolding word_kind word_number
word_within w_struct = (omega arith, omega arith)
word_within w_if = (omega arith, omega arith)
word_within w_then = (omega arith, omega arith)
word_within w_null = (omega arith, omega arith)
word_within w_this = (omega arith, omega arith)
word_within w_fix = (omega arith, omega arith)
word_within w_int = (omega arith, omega arith)
word_within w_nat = (omega arith, omega arith)
word_within w_bool = (omega arith, omega arith)
word_within w_string = (omega arith, omega arith)
word_within w_true = (omega arith, omega arith)
word_within w_false = (omega arith, omega arith)

pub sign_within : (g : Sign) → Within false_kind eq_kind (sign_kind g)
unfolding sign_kind sign_number
sign_within lpar = (omega arith, omega arith)
sign_within rpar = (omega arith, omega arith)
sign_within lbrace = (omega arith, omega arith)
sign_within rbrace = (omega arith, omega arith)
sign_within comma = (omega arith, omega arith)
sign_within colon = (omega arith, omega arith)
sign_within semicolon = (omega arith, omega arith)
sign_within assign = (omega arith, omega arith)
sign_within dot = (omega arith, omega arith)
sign_within bang = (omega arith, omega arith)

pub op_within : (o : Op) → Within bang_kind name_kind (op_kind o)
unfolding op_kind
op_within op_eq = (omega arith, omega arith)
op_within op_ne = (omega arith, omega arith)
op_within op_le = (omega arith, omega arith)
op_within op_ge = (omega arith, omega arith)
op_within op_lt = (omega arith, omega arith)
op_within op_gt = (omega arith, omega arith)
op_within op_mul = (omega arith, omega arith)
op_within op_div = (omega arith, omega arith)
op_within op_rem = (omega arith, omega arith)
op_within op_add = (omega arith, omega arith)
op_within op_sub = (omega arith, omega arith)
op_within op_and = (omega arith, omega arith)
op_within op_or = (omega arith, omega arith)

pub kind_within : (t : Token) → Within no_kind kinds (kind t)
unfolding kind
kind_within (word w) = let h = word_within w in (omega arith, omega arith)
kind_within (sign g) = let h = sign_within g in (omega arith, omega arith)
kind_within (op o) = let h = op_within o in (omega arith, omega arith)
kind_within (name x) = (omega arith, omega arith)
kind_within (int p ds) = (omega arith, omega arith)
kind_within (nat ds) = (omega arith, omega arith)

-- each kind has its name
abbrev pub named_kinds : List ℕ
named_kinds =
    no_kind ∷ struct_kind ∷ if_kind ∷ then_kind ∷ null_kind ∷ this_kind ∷ fix_kind ∷ int_type_kind ∷ nat_type_kind ∷ bool_type_kind ∷ string_type_kind
    ∷ true_kind ∷ false_kind ∷ lpar_kind ∷ rpar_kind ∷ lbrace_kind ∷ rbrace_kind ∷ comma_kind ∷ colon_kind ∷ semicolon_kind ∷ assign_kind ∷ dot_kind
    ∷ bang_kind ∷ eq_kind ∷ ne_kind ∷ le_kind ∷ ge_kind ∷ lt_kind ∷ gt_kind ∷ mul_kind ∷ div_kind ∷ rem_kind ∷ add_kind ∷ sub_kind ∷ and_kind ∷ or_kind
    ∷ name_kind ∷ int_kind ∷ nat_kind ∷ []

pub kinds_named : named_kinds ≡ all_kinds
unfolding all_kinds word_kind word_number sign_kind sign_number op_kind
kinds_named = refl
