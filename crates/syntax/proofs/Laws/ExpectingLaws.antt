-- Laws of expecting: what holds of a token that is expected, and of any other with what is left to try, holds of the token that came.
use Rattle.std.specs.Prelude.{◌≡◌, refl, Bool, true, false, List, [], ◌∷◌, get_or, eqb}
use Rattle.std.proofs.Common.{sym, ap, ◌∙◌, eqb-true}
use Rattle.program.specs.Tree.{Op, Op.op_eq, Op.op_ne, Op.op_le, Op.op_ge, Op.op_lt, Op.op_gt, Op.op_mul, Op.op_div, Op.op_rem, Op.op_add, Op.op_sub}
use Rattle.program.specs.Tree.{Op.op_and, Op.op_or}
use Rattle.tokens.specs.Tokens.{Word, Word.w_struct, Word.w_if, Word.w_then, Word.w_null, Word.w_this, Word.w_fix, Word.w_int, Word.w_nat}
use Rattle.tokens.specs.Tokens.{Word.w_bool, Word.w_string, Word.w_true, Word.w_false}
use Rattle.tokens.specs.Tokens.{Sign, Sign.lpar, Sign.rpar, Sign.lbrace, Sign.rbrace, Sign.comma, Sign.colon, Sign.semicolon, Sign.assign, Sign.dot}
use Rattle.tokens.specs.Tokens.{Sign.bang, Token, Token.word, Token.sign, Token.op, Token.name, Token.int, Token.nat}
use Rattle.tokens.specs.Scanning.{words}
use Rattle.syntax.specs.Syntax.{Id, TypeName, TypeName.int_type, TypeName.nat_type, TypeName.bool_type, TypeName.id_type, Literal}
use Rattle.syntax.specs.Syntax.{Literal.int_literal, Literal.nat_literal, Literal.bool_literal}
use Rattle.syntax.specs.Yield.{type_token, literal_token}
use Rattle.syntax.specs.Expecting.{word_number, sign_number, on_word, on_sign, on_name, on_op, less, on_less, literal_word, on_literal}
use Rattle.syntax.specs.Expecting.{type_word, on_type_word, on_type}

-- Numbers tell words and signs apart ------------------------------------------------------

word_back : (w : Word) → get_or words (word_number w) w_false ≡ w
unfolding words word_number
word_back w_struct = refl
word_back w_if = refl
word_back w_then = refl
word_back w_null = refl
word_back w_this = refl
word_back w_fix = refl
word_back w_int = refl
word_back w_nat = refl
word_back w_bool = refl
word_back w_string = refl
word_back w_true = refl
word_back w_false = refl

word_same : (v w : Word) → eqb (word_number v) (word_number w) ≡ true → v ≡ w
word_same v w e = sym (word_back v) ∙ ap (λ n. get_or words n w_false) (eqb-true (word_number v) (word_number w) e) ∙ word_back w

all_signs : List Sign
all_signs = lpar ∷ rpar ∷ lbrace ∷ rbrace ∷ comma ∷ colon ∷ semicolon ∷ assign ∷ dot ∷ bang ∷ []

sign_back : (g : Sign) → get_or all_signs (sign_number g) bang ≡ g
unfolding all_signs sign_number
sign_back lpar = refl
sign_back rpar = refl
sign_back lbrace = refl
sign_back rbrace = refl
sign_back comma = refl
sign_back colon = refl
sign_back semicolon = refl
sign_back assign = refl
sign_back dot = refl
sign_back bang = refl

sign_same : (g h : Sign) → eqb (sign_number g) (sign_number h) ≡ true → g ≡ h
sign_same g h e = sym (sign_back g) ∙ ap (λ n. get_or all_signs n bang) (eqb-true (sign_number g) (sign_number h) e) ∙ sign_back h

-- The laws ------------------------------------------------------------------------------------

module _ {S : Type 0} (P : Token → S → Type 0) where
  -- by a test
  tested : (t : Token) (s z : S) (b : Bool) → (b ≡ true → P t s) → P t z → P t (elim b [ true ↦ s | false ↦ z ])
  tested t s z true p q = p refl
  tested t s z false p q = q

  pub on_word_law : (w : Word) (s z : S) (t : Token) → P (word w) s → P t z → P t (on_word w s z t)
  unfolding on_word
  on_word_law w s z (word v) p q = tested (word v) s z (eqb (word_number w) (word_number v)) (λ e. rw (word_same w v e) at p) q
  on_word_law w s z (sign g) p q = q
  on_word_law w s z (op o) p q = q
  on_word_law w s z (name x) p q = q
  on_word_law w s z (int r ds) p q = q
  on_word_law w s z (nat ds) p q = q

  pub on_sign_law : (g : Sign) (s z : S) (t : Token) → P (sign g) s → P t z → P t (on_sign g s z t)
  unfolding on_sign
  on_sign_law g s z (word v) p q = q
  on_sign_law g s z (sign h) p q = tested (sign h) s z (eqb (sign_number g) (sign_number h)) (λ e. rw (sign_same g h e) at p) q
  on_sign_law g s z (op o) p q = q
  on_sign_law g s z (name x) p q = q
  on_sign_law g s z (int r ds) p q = q
  on_sign_law g s z (nat ds) p q = q

  pub on_name_law : (f : Id → S) (z : S) (t : Token) → ((x : Id) → P (name x) (f x)) → P t z → P t (on_name f z t)
  unfolding on_name
  on_name_law f z (word v) p q = q
  on_name_law f z (sign g) p q = q
  on_name_law f z (op o) p q = q
  on_name_law f z (name x) p q = p x
  on_name_law f z (int r ds) p q = q
  on_name_law f z (nat ds) p q = q

  pub on_op_law : (f : Op → S) (z : S) (t : Token) → ((o : Op) → P (op o) (f o)) → P t z → P t (on_op f z t)
  unfolding on_op
  on_op_law f z (word v) p q = q
  on_op_law f z (sign g) p q = q
  on_op_law f z (op o) p q = p o
  on_op_law f z (name x) p q = q
  on_op_law f z (int r ds) p q = q
  on_op_law f z (nat ds) p q = q

  less_law : (s z : S) (o : Op) → P (op op_lt) s → P (op o) z → P (op o) (less s z o)
  unfolding less
  less_law s z op_eq p q = q
  less_law s z op_ne p q = q
  less_law s z op_le p q = q
  less_law s z op_ge p q = q
  less_law s z op_lt p q = p
  less_law s z op_gt p q = q
  less_law s z op_mul p q = q
  less_law s z op_div p q = q
  less_law s z op_rem p q = q
  less_law s z op_add p q = q
  less_law s z op_sub p q = q
  less_law s z op_and p q = q
  less_law s z op_or p q = q

  pub on_less_law : (s z : S) (t : Token) → P (op op_lt) s → P t z → P t (on_less s z t)
  unfolding on_less on_op
  on_less_law s z (word v) p q = q
  on_less_law s z (sign g) p q = q
  on_less_law s z (op o) p q = less_law s z o p q
  on_less_law s z (name x) p q = q
  on_less_law s z (int r ds) p q = q
  on_less_law s z (nat ds) p q = q

  literal_word_law : (f : Literal → S) (z : S) (w : Word) → ((l : Literal) → P (literal_token l) (f l)) → P (word w) z → P (word w) (literal_word f z w)
  unfolding literal_word literal_token
  literal_word_law f z w_true p q = p (bool_literal true)
  literal_word_law f z w_false p q = p (bool_literal false)
  literal_word_law f z w_struct p q = q
  literal_word_law f z w_if p q = q
  literal_word_law f z w_then p q = q
  literal_word_law f z w_null p q = q
  literal_word_law f z w_this p q = q
  literal_word_law f z w_fix p q = q
  literal_word_law f z w_int p q = q
  literal_word_law f z w_nat p q = q
  literal_word_law f z w_bool p q = q
  literal_word_law f z w_string p q = q

  pub on_literal_law : (f : Literal → S) (z : S) (t : Token) → ((l : Literal) → P (literal_token l) (f l)) → P t z → P t (on_literal f z t)
  unfolding on_literal literal_token
  on_literal_law f z (word v) p q = literal_word_law f z v p q
  on_literal_law f z (sign g) p q = q
  on_literal_law f z (op o) p q = q
  on_literal_law f z (name x) p q = q
  on_literal_law f z (int r ds) p q = p (int_literal r ds)
  on_literal_law f z (nat ds) p q = p (nat_literal ds)

  type_word_law : (f : TypeName → S) (z : S) (w : Word) → ((a : TypeName) → P (type_token a) (f a)) → P (word w) z → P (word w) (type_word f z w)
  unfolding type_word type_token
  type_word_law f z w_struct p q = q
  type_word_law f z w_if p q = q
  type_word_law f z w_then p q = q
  type_word_law f z w_null p q = q
  type_word_law f z w_this p q = q
  type_word_law f z w_fix p q = q
  type_word_law f z w_int p q = p int_type
  type_word_law f z w_nat p q = p nat_type
  type_word_law f z w_bool p q = p bool_type
  type_word_law f z w_string p q = q
  type_word_law f z w_true p q = q
  type_word_law f z w_false p q = q

  pub on_type_word_law : (f : TypeName → S) (z : S) (t : Token) → ((a : TypeName) → P (type_token a) (f a)) → P t z → P t (on_type_word f z t)
  unfolding on_type_word
  on_type_word_law f z (word v) p q = type_word_law f z v p q
  on_type_word_law f z (sign g) p q = q
  on_type_word_law f z (op o) p q = q
  on_type_word_law f z (name x) p q = q
  on_type_word_law f z (int r ds) p q = q
  on_type_word_law f z (nat ds) p q = q

  pub on_type_law : (f : TypeName → S) (z : S) (t : Token) → ((a : TypeName) → P (type_token a) (f a)) → P t z → P t (on_type f z t)
  unfolding on_type type_token
  on_type_law f z t p q = on_type_word_law f _ t p (on_name_law (λ x. f (id_type x)) z t (λ x. p (id_type x)) q)
