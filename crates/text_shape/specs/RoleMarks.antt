-- The role of each token from codes and kinds alone: by the state that the token meets, or by what was opened last. A name that begins a statement, an
-- expression or an item has its role by the token behind it. And bytes in the places of a text where tokens begin.
use Rattle.std.specs.Prelude.{ℕ, ◌+◌, Bool, true, false, ◌||◌, List, [], ◌∷◌, get_or, eqb}
use Rattle.tokens.specs.Tokens.{Sign.lpar, Sign.rpar, Sign.lbrace, Sign.rbrace, Sign.comma, Sign.dot as dot_sign, Token}
use Rattle.syntax.specs.Syntax.{TypeName.id_type}
use Rattle.syntax.specs.Expecting.{sign_number, on_sign, on_name, on_op, less, on_less, type_word, on_type_word, on_type}
use Rattle.tokens.specs.Kinds.{sign_kind}
use Rattle.text_shape.specs.Roles.{Typed.of_par, Typed.of_local, Typed.of_null, Naming.new_struct, Naming.new_par, Naming.new_step, Naming.new_local}
use Rattle.text_shape.specs.Roles.{Naming.first_read, Naming.first_written, Naming.later_variable, Naming.made, Naming.made_statement, Naming.called}
use Rattle.text_shape.specs.Roles.{Naming.called_struct, Naming.called_step}
use Rattle.text_shape.specs.Roles.{Part.brackets_open, Part.brackets_close, Part.args_open, Part.args_close, Part.no_args_close, Part.pars_open}
use Rattle.text_shape.specs.Roles.{Part.pars_close, Part.fix_open, Part.fix_close, Part.steps_open, Part.steps_close, Part.body_open, Part.body_close}
use Rattle.text_shape.specs.Roles.{Part.then_open, Part.then_close, Part.par_comma, Part.arg_comma, Part.barrier_sign}
use Rattle.text_shape.specs.Roles.{Naming, naming_code, typed_code, type_number, part_code}
use Rattle.text_shape.specs.Shape.{Shape, Shape.shape, sample, move}
use Rattle.text_shape.specs.CodeNames.{behind_name_code, behind_id_code, behind_execution_code}
use Rattle.tokens.specs.KindNames.{name_kind}

-- By code and token ----------------------------------------------------------------------------

-- two bytes that are no role: the kind says it all; what was opened last says it
abbrev pub by_kind : ℕ
by_kind = 95

abbrev pub by_opened : ℕ
by_opened = 94

unfoldable pub a_name : Naming → Token → ℕ
unfolding on_name naming_code
a_name n t = on_name (λ x. naming_code n) by_kind t

-- where an expression is wanted; its arguments, with a ) of its own where there are none; behind an item; behind an argument
unfoldable pub exp_mark : Token → ℕ
unfolding on_name on_sign sign_number naming_code part_code
exp_mark t = on_name (λ x. naming_code first_read) (on_sign lpar (part_code brackets_open) by_kind t) t

unfoldable pub args_mark : Token → ℕ
unfolding on_sign sign_number exp_mark part_code
args_mark t = on_sign rpar (part_code no_args_close) (exp_mark t) t

unfoldable pub past_mark : Token → ℕ
unfolding on_less on_op less part_code
past_mark t = on_less (part_code barrier_sign) by_opened t

unfoldable pub argument_mark : Token → ℕ
unfolding on_sign sign_number part_code
argument_mark t = on_sign comma (part_code arg_comma) (on_sign rpar (part_code args_close) by_kind t) t

-- behind an expression, by what was opened last
unfoldable pub past_marks : Token → List ℕ → List ℕ
unfolding argument_mark on_sign sign_number part_code
past_marks t k = on_sign rpar (part_code brackets_close) by_kind t ∷ argument_mark t ∷ argument_mark t ∷ by_kind ∷ by_kind ∷ k

-- by the codes, from 0 on, as `acts`; a name that waits has the role that most tokens behind it leave it
unfoldable pub marks : Token → List ℕ
unfolding a_name exp_mark args_mark past_mark past_marks on_type on_type_word type_word typed_code type_number
marks t =
    by_kind
    ∷ by_kind
    ∷ a_name called t
    ∷ a_name new_struct t
    ∷ on_sign lpar (part_code pars_open) by_kind t
    ∷ on_sign rpar (part_code pars_close) (a_name new_par t) t
    ∷ a_name new_par t
    ∷ by_kind
    ∷ on_type (λ a. typed_code of_par + type_number a) by_kind t
    ∷ on_sign comma (part_code par_comma) (on_sign rpar (part_code pars_close) by_kind t) t
    ∷ on_sign lbrace (part_code steps_open) by_kind t
    ∷ on_sign rbrace (part_code steps_close) (a_name new_step t) t
    ∷ on_sign lbrace (part_code body_open) by_kind t
    ∷ on_type_word (λ a. typed_code of_local + type_number a) (on_sign rbrace by_opened (a_name first_written t) t) t
    ∷ on_sign lpar (part_code args_open) (a_name new_local t) t
    ∷ a_name later_variable t
    ∷ by_kind
    ∷ a_name new_local t
    ∷ by_kind
    ∷ args_mark t
    ∷ by_kind
    ∷ on_sign lbrace (part_code then_open) by_kind t
    ∷ exp_mark t
    ∷ by_opened
    ∷ on_sign lpar (part_code args_open) (on_sign dot_sign by_kind by_opened t) t
    ∷ a_name later_variable t
    ∷ on_sign dot_sign by_kind by_opened t
    ∷ args_mark t
    ∷ on_type (λ a. typed_code of_null + type_number a) by_kind t
    ∷ a_name called t
    ∷ on_sign dot_sign by_kind (past_mark t) t
    ∷ a_name called_step t
    ∷ on_sign lpar (part_code fix_open) by_kind t
    ∷ past_mark t
    -- from 34 on: what was opened last says it
    ∷ on_sign rpar (part_code fix_close) by_kind t
    ∷ past_marks t (on_sign rbrace (part_code body_close) by_kind t ∷ on_sign rbrace (part_code then_close) by_kind t ∷ past_marks t [])

unfoldable pub mark : ℕ → Token → ℕ
unfolding marks
mark q t = get_or (marks t) q by_kind

-- By kinds ---------------------------------------------------------------------------------------

-- what a mark says of a token of kind k
unfoldable pub said : ℕ → ℕ → ℕ
said m k = elim (eqb m by_kind) [ true ↦ k | false ↦ m ]

unfoldable pub said_below : List ℕ → ℕ → ℕ
said_below [] k = k
said_below (r ∷ st) k = said (mark r (sample k)) k

unfoldable pub role : Shape → ℕ → ℕ
role (shape q st) k = elim (eqb (mark q (sample k)) by_opened) [ true ↦ said_below st k | false ↦ said (mark q (sample k)) k ]

-- behind a name that begins a statement, an expression, an item
unfoldable pub waits : ℕ → Bool
waits q = eqb q behind_name_code || (eqb q behind_id_code || eqb q behind_execution_code)

-- the other role of such a name, by the kind behind it; 0 where it keeps its role
unfoldable pub other_role : ℕ → ℕ → ℕ
unfolding sign_kind sign_number naming_code typed_code type_number
other_role q k =
    elim (eqb q behind_name_code) [
      | true ↦ elim (eqb k name_kind) [
        | true ↦ typed_code of_local + type_number (id_type [])
        | false ↦ elim (eqb k (sign_kind lpar)) [ true ↦ naming_code made_statement | false ↦ 0 ]
      ]
      | false ↦ elim (eqb q behind_id_code) [
        | true ↦ elim (eqb k (sign_kind lpar)) [ true ↦ naming_code made | false ↦ 0 ]
        | false ↦ elim (eqb k (sign_kind dot_sign)) [ true ↦ naming_code called_struct | false ↦ 0 ]
      ]
    ]

unfoldable pub renamed : ℕ → ℕ → ℕ
renamed q k = elim (waits q) [ true ↦ other_role q k | false ↦ 0 ]

unfoldable pub kept_or : ℕ → ℕ → ℕ
kept_or r w = elim (eqb w 0) [ true ↦ r | false ↦ w ]

-- the role r of a token, by the code behind it and the kinds that follow
unfoldable pub by_next : ℕ → ℕ → List ℕ → ℕ
by_next r q [] = r
by_next r q (k ∷ ks) = kept_or r (other_role q k)

unfoldable pub settled : ℕ → Shape → List ℕ → ℕ
settled r (shape q st) ks = elim (waits q) [ true ↦ by_next r q ks | false ↦ r ]

unfoldable pub role_codes : Shape → List ℕ → List ℕ
role_codes s [] = []
role_codes s (k ∷ ks) = settled (role s k) (move s (sample k)) ks ∷ role_codes (move s (sample k)) ks

-- By place -----------------------------------------------------------------------------------------

-- the bytes rs in the places where tokens begin
unfoldable pub placed : List ℕ → List ℕ → List ℕ
placed [] rs = []
placed (k ∷ ks) [] = k ∷ ks
placed (k ∷ ks) (r ∷ rs) = elim (eqb k 0) [ true ↦ k ∷ placed ks (r ∷ rs) | false ↦ r ∷ placed ks rs ]
