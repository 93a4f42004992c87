-- What a token is read as: one that is expected goes on with what it brings, any other with what is left to try.
use Rattle.std.specs.Prelude.{true, false, eqb}
use Rattle.program.specs.Tree.{Op, Op.op_eq, Op.op_ne, Op.op_le, Op.op_ge, Op.op_lt, Op.op_gt, Op.op_mul, Op.op_div, Op.op_rem, Op.op_add, Op.op_sub}
use Rattle.program.specs.Tree.{Op.op_and, Op.op_or}
use Rattle.tokens.specs.Tokens.{Word, Word.w_struct, Word.w_if, Word.w_then, Word.w_null, Word.w_this, Word.w_fix, Word.w_int, Word.w_nat}
use Rattle.tokens.specs.Tokens.{Word.w_bool, Word.w_string, Word.w_true, Word.w_false}
use Rattle.tokens.specs.Tokens.{Sign}
use Rattle.tokens.specs.Tokens.{Token, Token.word, Token.sign, Token.op, Token.name, Token.int, Token.nat}
use Rattle.syntax.specs.Syntax.{Id, TypeName, TypeName.int_type, TypeName.nat_type, TypeName.bool_type, TypeName.id_type, Literal}
use Rattle.syntax.specs.Syntax.{Literal.int_literal, Literal.nat_literal, Literal.bool_literal}
unfoldable pub use Rattle.tokens.specs.TokenNumbers.{word_number, sign_number}

module _ {S : Type 0} where
  -- a given word; a given sign
  unfoldable pub on_word : Word → S → S → Token → S
  on_word w s z (word v) = elim (eqb (word_number w) (word_number v)) [ true ↦ s | false ↦ z ]
  on_word w s z (sign g) = z
  on_word w s z (op o) = z
  on_word w s z (name x) = z
  on_word w s z (int p ds) = z
  on_word w s z (nat ds) = z

  unfoldable pub on_sign : Sign → S → S → Token → S
  on_sign g s z (word v) = z
  on_sign g s z (sign h) = elim (eqb (sign_number g) (sign_number h)) [ true ↦ s | false ↦ z ]
  on_sign g s z (op o) = z
  on_sign g s z (name x) = z
  on_sign g s z (int p ds) = z
  on_sign g s z (nat ds) = z

  -- a name
  unfoldable pub on_name : (Id → S) → S → Token → S
  on_name f z (word v) = z
  on_name f z (sign g) = z
  on_name f z (op o) = z
  on_name f z (name x) = f x
  on_name f z (int p ds) = z
  on_name f z (nat ds) = z

  -- an operator; the one that a schedule's items stand between
  unfoldable pub on_op : (Op → S) → S → Token → S
  on_op f z (word v) = z
  on_op f z (sign g) = z
  on_op f z (op o) = f o
  on_op f z (name x) = z
  on_op f z (int p ds) = z
  on_op f z (nat ds) = z

  unfoldable pub less : S → S → Op → S
  less s z op_eq = z
  less s z op_ne = z
  less s z op_le = z
  less s z op_ge = z
  less s z op_lt = s
  less s z op_gt = z
  less s z op_mul = z
  less s z op_div = z
  less s z op_rem = z
  less s z op_add = z
  less s z op_sub = z
  less s z op_and = z
  less s z op_or = z

  -- a literal's token
  unfoldable pub literal_word : (Literal → S) → S → Word → S
  literal_word f z w_struct = z
  literal_word f z w_if = z
  literal_word f z w_then = z
  literal_word f z w_null = z
  literal_word f z w_this = z
  literal_word f z w_fix = z
  literal_word f z w_int = z
  literal_word f z w_nat = z
  literal_word f z w_bool = z
  literal_word f z w_string = z
  literal_word f z w_true = f (bool_literal true)
  literal_word f z w_false = f (bool_literal false)

  unfoldable pub on_literal : (Literal → S) → S → Token → S
  unfolding literal_word
  on_literal f z (word v) = literal_word f z v
  on_literal f z (sign g) = z
  on_literal f z (op o) = z
  on_literal f z (name x) = z
  on_literal f z (int p ds) = f (int_literal p ds)
  on_literal f z (nat ds) = f (nat_literal ds)

  -- a type's word
  unfoldable pub type_word : (TypeName → S) → S → Word → S
  type_word f z w_struct = z
  type_word f z w_if = z
  type_word f z w_then = z
  type_word f z w_null = z
  type_word f z w_this = z
  type_word f z w_fix = z
  type_word f z w_int = f int_type
  type_word f z w_nat = f nat_type
  type_word f z w_bool = f bool_type
  type_word f z w_string = z
  type_word f z w_true = z
  type_word f z w_false = z

  unfoldable pub on_type_word : (TypeName → S) → S → Token → S
  unfolding type_word
  on_type_word f z (word v) = type_word f z v
  on_type_word f z (sign g) = z
  on_type_word f z (op o) = z
  on_type_word f z (name x) = z
  on_type_word f z (int p ds) = z
  on_type_word f z (nat ds) = z

  -- a type
  unfoldable pub on_type : (TypeName → S) → S → Token → S
  unfolding on_type_word on_name
  on_type f z t = on_type_word f (on_name (λ x. f (id_type x)) z t) t

  unfoldable pub on_less : S → S → Token → S
  unfolding on_op less
  on_less s z t = on_op (less s z) z t
