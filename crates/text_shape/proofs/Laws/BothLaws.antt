-- One test of a token gives a state and an act: what holds of both where the token is the expected one, and of both where it is any other, holds of both.
use Rattle.std.specs.Prelude.{◌≡◌, refl, Bool, true, false, eqb}
use Rattle.std.proofs.lemmas.Bool.{false≢true}
use Rattle.program.specs.Tree.{Op, Op.op_eq, Op.op_ne, Op.op_le, Op.op_ge, Op.op_lt, Op.op_gt, Op.op_mul, Op.op_div, Op.op_rem, Op.op_add, Op.op_sub, Op.op_and}
use Rattle.program.specs.Tree.{Op.op_or}
use Rattle.tokens.specs.Tokens.{Word, Word.w_struct, Word.w_if, Word.w_then, Word.w_null, Word.w_this, Word.w_fix, Word.w_int, Word.w_nat, Word.w_bool}
use Rattle.tokens.specs.Tokens.{Word.w_string, Word.w_true, Word.w_false}
use Rattle.tokens.specs.Tokens.{Sign, Token, Token.word, Token.sign, Token.op, Token.name, Token.int, Token.nat}
use Rattle.syntax.specs.Syntax.{Id, TypeName, TypeName.int_type, TypeName.nat_type, TypeName.bool_type, TypeName.id_type, Literal, Literal.int_literal}
use Rattle.syntax.specs.Syntax.{Literal.nat_literal, Literal.bool_literal}
use Rattle.syntax.specs.Expecting.{word_number, sign_number, on_word, on_sign, on_name, on_op, less, on_less, literal_word, on_literal, type_word, on_type_word}
use Rattle.syntax.specs.Expecting.{on_type}
use Rattle.syntax.proofs.Laws.ExpectingLaws.{on_word_law, on_sign_law}
use Rattle.syntax.specs.Yield.{type_token, literal_token}
use Rattle.syntax.specs.Places.{State}
use Rattle.text_shape.specs.declared.Act.{Act}

word_is : (w v : Word) → eqb (word_number w) (word_number v) ≡ true → word v ≡ word w
unfolding on_word
word_is w v e = on_word_law (λ t b. b ≡ true → t ≡ word w) w true false (word v) (λ f. refl) (λ f. absurd (false≢true f)) (rw (e, on_word) refl)

sign_is : (g h : Sign) → eqb (sign_number g) (sign_number h) ≡ true → sign h ≡ sign g
unfolding on_sign
sign_is g h e = on_sign_law (λ t b. b ≡ true → t ≡ sign g) g true false (sign h) (λ f. refl) (λ f. absurd (false≢true f)) (rw (e, on_sign) refl)

module _ (P : Token → State → Act → Type 0) where
  -- by the test's value
  test_both : {s z : State} {a b : Act} {t u : Token} (x : Bool) → (x ≡ true → t ≡ u) → P u s a → P t z b
      → P t (elim x [ true ↦ s | false ↦ z ]) (elim x [ true ↦ a | false ↦ b ])
  test_both true e p q = rw (e refl) p
  test_both false e p q = q

  pub word_both : (w : Word) {s z : State} {a b : Act} (t : Token) → P (word w) s a → P t z b → P t (on_word w s z t) (on_word w a b t)
  unfolding on_word
  word_both w (word v) p q = test_both (eqb (word_number w) (word_number v)) (word_is w v) p q
  word_both w (sign g) p q = q
  word_both w (op o) p q = q
  word_both w (name x) p q = q
  word_both w (int r ds) p q = q
  word_both w (nat ds) p q = q

  pub sign_both : (g : Sign) {s z : State} {a b : Act} (t : Token) → P (sign g) s a → P t z b → P t (on_sign g s z t) (on_sign g a b t)
  unfolding on_sign
  sign_both g (word v) p q = q
  sign_both g (sign h) p q = test_both (eqb (sign_number g) (sign_number h)) (sign_is g h) p q
  sign_both g (op o) p q = q
  sign_both g (name x) p q = q
  sign_both g (int r ds) p q = q
  sign_both g (nat ds) p q = q

  pub name_both : {f : Id → State} {z : State} {a b : Act} (t : Token) → ((x : Id) → P (name x) (f x) a) → P t z b → P t (on_name f z t) (on_name (λ x. a) b t)
  unfolding on_name
  name_both (word v) p q = q
  name_both (sign g) p q = q
  name_both (op o) p q = q
  name_both (name x) p q = p x
  name_both (int r ds) p q = q
  name_both (nat ds) p q = q

  pub op_both : {f : Op → State} {z : State} {a : Op → Act} {b : Act} (t : Token) → ((o : Op) → P (op o) (f o) (a o)) → P t z b
      → P t (on_op f z t) (on_op a b t)
  unfolding on_op
  op_both (word v) p q = q
  op_both (sign g) p q = q
  op_both (op o) p q = p o
  op_both (name x) p q = q
  op_both (int r ds) p q = q
  op_both (nat ds) p q = q

  pub less_both : {s z : State} {a b : Act} (t : Token) → P (op op_lt) s a → P t z b → P t (on_less s z t) (on_less a b t)
  unfolding on_less on_op less
  less_both (word v) p q = q
  less_both (sign g) p q = q
  less_both (op op_eq) p q = q
  less_both (op op_ne) p q = q
  less_both (op op_le) p q = q
  less_both (op op_ge) p q = q
  less_both (op op_lt) p q = p
  less_both (op op_gt) p q = q
  less_both (op op_mul) p q = q
  less_both (op op_div) p q = q
  less_both (op op_rem) p q = q
  less_both (op op_add) p q = q
  less_both (op op_sub) p q = q
  less_both (op op_and) p q = q
  less_both (op op_or) p q = q
  less_both (name x) p q = q
  less_both (int r ds) p q = q
  less_both (nat ds) p q = q

  pub literal_both : {f : Literal → State} {z : State} {a b : Act} (t : Token) → ((l : Literal) → P (literal_token l) (f l) a) → P t z b
      → P t (on_literal f z t) (on_literal (λ l. a) b t)
  unfolding on_literal literal_word literal_token
  literal_both (word w_struct) p q = q
  literal_both (word w_if) p q = q
  literal_both (word w_then) p q = q
  literal_both (word w_null) p q = q
  literal_both (word w_this) p q = q
  literal_both (word w_fix) p q = q
  literal_both (word w_int) p q = q
  literal_both (word w_nat) p q = q
  literal_both (word w_bool) p q = q
  literal_both (word w_string) p q = q
  literal_both (word w_true) p q = p (bool_literal true)
  literal_both (word w_false) p q = p (bool_literal false)
  literal_both (sign g) p q = q
  literal_both (op o) p q = q
  literal_both (name x) p q = q
  literal_both (int r ds) p q = p (int_literal r ds)
  literal_both (nat ds) p q = p (nat_literal ds)

  pub type_word_both : {f : TypeName → State} {z : State} {a b : Act} (t : Token) → ((u : TypeName) → P (type_token u) (f u) a) → P t z b
      → P t (on_type_word f z t) (on_type_word (λ u. a) b t)
  unfolding on_type_word type_word type_token
  type_word_both (word w_struct) p q = q
  type_word_both (word w_if) p q = q
  type_word_both (word w_then) p q = q
  type_word_both (word w_null) p q = q
  type_word_both (word w_this) p q = q
  type_word_both (word w_fix) p q = q
  type_word_both (word w_int) p q = p int_type
  type_word_both (word w_nat) p q = p nat_type
  type_word_both (word w_bool) p q = p bool_type
  type_word_both (word w_string) p q = q
  type_word_both (word w_true) p q = q
  type_word_both (word w_false) p q = q
  type_word_both (sign g) p q = q
  type_word_both (op o) p q = q
  type_word_both (name x) p q = q
  type_word_both (int r ds) p q = q
  type_word_both (nat ds) p q = q

  pub type_both : {f : TypeName → State} {z : State} {a b : Act} (t : Token) → ((u : TypeName) → P (type_token u) (f u) a) → P t z b
      → P t (on_type f z t) (on_type (λ u. a) b t)
  unfolding on_type type_token
  type_both t p q = type_word_both t p (name_both t (λ x. p (id_type x)) q)
