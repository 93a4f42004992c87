-- The stream of a text's steps and schedule, written from its end: what each role does to what is written so far, from the last role to the first. An operator
-- waits until a looser one comes or its expression begins (02 §2), a count until its row begins. A role is taken by its byte (`text_shape/specs/Roles.antt`), a
-- literal with the number that it is.
use Rattle.std.specs.Prelude.{ℕ, suc, ◌+◌, ◌-◌, Bool, true, false, ◌&&◌, List, [], ◌∷◌, ◌++◌, get_or, eqb, leb, ltb}
use Rattle.types.specs.Limits.{max_statements, max_steps}
use Rattle.types.specs.Values.{int_word}
use Rattle.program.specs.Encoding.{enc_word}
use Rattle.tokens.specs.Tokens.{Token, Token.word, Token.sign, Token.op, Token.name, Token.int, Token.nat}
use Rattle.meaning.specs.Values.{decimal, signed}
use Rattle.text_shape.specs.Roles.{Role, Role.plain, Role.naming, Role.typed, Role.part, code}
use Rattle.program.specs.Forms.{when_form, declare_form, update_form, create_form, inv_form, make_form, path_form, int_form, nat_form, bool_form}
use Rattle.program.specs.Forms.{null_form, this_form, eq_form, mul_form, add_form, and_form, or_form, call_form, call_in_form, fix_form}
use Rattle.tokens.specs.KindNames.{eq_kind}

-- the bytes; what waits, the last one first: operators, 0 at the end of each expression that has not begun, and counts; the numbers that are left, the last one
-- first; the later variables of the path at hand; whether counts keep to what a stream holds
pub data Writing : Type 0 where
  writing : List ℕ → List ℕ → List ℕ → ℕ → Bool → Writing

-- Bytes -----------------------------------------------------------------------------------------

unfoldable pub wrote : ℕ → Writing → Writing
wrote b (writing s w n l f) = writing (b ∷ s) w n l f

-- the number of a name or a type; of a later variable; of a first one, in front of it the length of its path
unfoldable pub numbered : Writing → Writing
numbered (writing s w [] l f) = writing s w [] l false
numbered (writing s w (b ∷ n) l f) = writing (b ∷ s) w n l f

unfoldable pub lengthened : Writing → Writing
lengthened (writing s w n l f) = writing s w n (suc l) f

abbrev pub max_later : ℕ
max_later = 3

unfoldable pub pathed : Writing → Writing
pathed (writing s w n l f) = writing (suc l ∷ s) w n 0 (f && leb l max_later)

unfoldable pub worded : ℕ → Writing → Writing
worded v (writing s w n l f) = writing (enc_word 4 v ++ s) w n l f

-- What waits ------------------------------------------------------------------------------------

unfoldable pub more : ℕ → Writing → Writing
more limit (writing s [] n l f) = writing s [] n l false
more limit (writing s (c ∷ w) n l f) = writing s (suc c ∷ w) n l (f && ltb c limit)

-- one more waits: an operator, the end of an expression, or the count of a row that ends
unfoldable pub opened : ℕ → Writing → Writing
opened c (writing s w n l f) = writing s (c ∷ w) n l f

-- a count is written
unfoldable pub counted : Writing → Writing
counted (writing s [] n l f) = writing s [] n l false
counted (writing s (c ∷ w) n l f) = writing (c ∷ s) w n l f

-- how tight an operator binds, by its byte, above 0: or, and, comparisons, sums, products
unfoldable pub tightness : ℕ → ℕ
tightness c =
    elim (eqb c 0) [
      | true ↦ 0
      | false ↦ elim (ltb c mul_form) [
        | true ↦ 3
        | false ↦ elim (ltb c add_form) [
          | true ↦ 5
          | false ↦ elim (ltb c and_form) [ true ↦ 4 | false ↦ elim (ltb c or_form) [ true ↦ 2 | false ↦ 1 ] ]
        ]
      ]
    ]

-- the operators that wait are written, the last one first, down to one that is not tighter than t
unfoldable pub pour : ℕ → List ℕ → List ℕ → List ℕ → ℕ → Bool → Writing
unfolding tightness
pour t s [] n l f = writing s [] n l f
pour t s (c ∷ w) n l f = elim (ltb t (tightness c)) [ true ↦ pour t (c ∷ s) w n l f | false ↦ writing s (c ∷ w) n l f ]

unfoldable pub poured : ℕ → Writing → Writing
unfolding pour
poured t (writing s w n l f) = pour t s w n l f

-- an expression begins: all that wait behind its end are
unfoldable pub passed : Writing → Writing
passed (writing s [] n l f) = writing s [] n l false
passed (writing s (c ∷ w) n l f) = writing s w n l f

unfoldable pub begun : Writing → Writing
unfolding poured passed
begun x = passed (poured 0 x)

-- What each role does, by its byte ---------------------------------------------------------------

-- what stands behind the form's byte: nothing; a number; that of a later variable, of a first one; a word; true; false
unfoldable pub behinds : ℕ → List (Writing → Writing)
unfolding numbered lengthened pathed worded wrote
behinds v = (λ w. w) ∷ numbered ∷ (λ w. lengthened (numbered w)) ∷ (λ w. pathed (numbered w)) ∷ worded v ∷ wrote 1 ∷ wrote 0 ∷ []

-- which of them, by a role's byte: 0 and words; signs; operators and other tokens; names and types; parts
unfoldable pub behind_marks : List ℕ
behind_marks =
    0 ∷ 0 ∷ 0 ∷ 0 ∷ 0 ∷ 0 ∷ 0 ∷ 0 ∷ 0 ∷ 0 ∷ 0 ∷ 5 ∷ 6 ∷
    0 ∷ 0 ∷ 0 ∷ 0 ∷ 0 ∷ 0 ∷ 0 ∷ 0 ∷ 0 ∷ 0 ∷
    0 ∷ 0 ∷ 0 ∷ 0 ∷ 0 ∷ 0 ∷ 0 ∷ 0 ∷ 0 ∷ 0 ∷ 0 ∷ 0 ∷ 0 ∷ 0 ∷ 4 ∷ 4 ∷
    0 ∷ 0 ∷ 1 ∷ 1 ∷ 3 ∷ 3 ∷ 2 ∷ 1 ∷ 1 ∷ 1 ∷ 1 ∷ 1 ∷ 0 ∷ 0 ∷ 0 ∷ 0 ∷ 1 ∷ 1 ∷ 1 ∷ 1 ∷ 1 ∷ 1 ∷ 1 ∷ 1 ∷
    0 ∷ 0 ∷ 0 ∷ 0 ∷ 0 ∷ 0 ∷ 0 ∷ 0 ∷ 0 ∷ 0 ∷ 0 ∷ 0 ∷ 0 ∷ 0 ∷ 0 ∷ 0 ∷ 0 ∷ 0 ∷ []

-- the form's byte, 0 where there is none
unfoldable pub forms : List ℕ
forms =
    0 ∷ 0 ∷ when_form ∷ 0 ∷ null_form ∷ this_form ∷ fix_form ∷ 0 ∷ 0 ∷ 0 ∷ 0 ∷ bool_form ∷ bool_form ∷
    0 ∷ 0 ∷ 0 ∷ 0 ∷ 0 ∷ 0 ∷ 0 ∷ 0 ∷ 0 ∷ inv_form ∷
    0 ∷ 0 ∷ 0 ∷ 0 ∷ 0 ∷ 0 ∷ 0 ∷ 0 ∷ 0 ∷ 0 ∷ 0 ∷ 0 ∷ 0 ∷ 0 ∷ int_form ∷ nat_form ∷
    0 ∷ 0 ∷ 0 ∷ 0 ∷ path_form ∷ update_form ∷ 0 ∷ make_form ∷ create_form ∷ call_form ∷ call_in_form ∷ 0 ∷ 0 ∷ 0 ∷ 0 ∷ 0 ∷
    declare_form ∷ declare_form ∷ declare_form ∷ declare_form ∷ 0 ∷ 0 ∷ 0 ∷ 0 ∷
    0 ∷ 0 ∷ 0 ∷ 0 ∷ 0 ∷ 0 ∷ 0 ∷ 0 ∷ 0 ∷ 0 ∷ 0 ∷ 0 ∷ 0 ∷ 0 ∷ 0 ∷ 0 ∷ 0 ∷ 0 ∷ []

unfoldable pub formed : ℕ → Writing → Writing
unfolding wrote
formed b w = elim (eqb b 0) [ true ↦ w | false ↦ wrote b w ]

-- what waits is written first: nothing; where an expression begins; what is tighter than an operator
unfoldable pub pourings : ℕ → List (Writing → Writing)
unfolding begun poured
pourings o = (λ w. w) ∷ begun ∷ poured (tightness o) ∷ []

unfoldable pub pour_marks : List ℕ
pour_marks =
    0 ∷ 0 ∷ 1 ∷ 0 ∷ 0 ∷ 0 ∷ 0 ∷ 0 ∷ 0 ∷ 0 ∷ 0 ∷ 0 ∷ 0 ∷
    0 ∷ 0 ∷ 0 ∷ 0 ∷ 0 ∷ 0 ∷ 0 ∷ 1 ∷ 0 ∷ 0 ∷
    2 ∷ 2 ∷ 2 ∷ 2 ∷ 2 ∷ 2 ∷ 2 ∷ 2 ∷ 2 ∷ 2 ∷ 2 ∷ 2 ∷ 2 ∷ 0 ∷ 0 ∷ 0 ∷
    0 ∷ 0 ∷ 0 ∷ 0 ∷ 0 ∷ 0 ∷ 0 ∷ 0 ∷ 1 ∷ 0 ∷ 0 ∷ 0 ∷ 0 ∷ 0 ∷ 0 ∷ 0 ∷ 0 ∷ 0 ∷ 0 ∷ 0 ∷ 0 ∷ 0 ∷ 0 ∷ 0 ∷
    1 ∷ 0 ∷ 1 ∷ 0 ∷ 0 ∷ 0 ∷ 0 ∷ 0 ∷ 0 ∷ 0 ∷ 0 ∷ 0 ∷ 0 ∷ 0 ∷ 0 ∷ 0 ∷ 1 ∷ 0 ∷ []

-- what waits: nothing changes; one more in a row of statements or items; one more step; a row or an expression ends; a row begins; an operator; a row begins
-- and another ends
unfoldable pub stackings : ℕ → List (Writing → Writing)
unfolding more opened counted
stackings o =
    (λ w. w)
    ∷ more max_statements
    ∷ more max_steps
    ∷ opened 0
    ∷ counted
    ∷ opened o
    ∷ (λ w. opened 0 (counted w))
    ∷ []

unfoldable pub stack_marks : List ℕ
stack_marks =
    0 ∷ 0 ∷ 1 ∷ 3 ∷ 0 ∷ 0 ∷ 1 ∷ 0 ∷ 0 ∷ 0 ∷ 0 ∷ 0 ∷ 0 ∷
    0 ∷ 0 ∷ 0 ∷ 0 ∷ 0 ∷ 0 ∷ 3 ∷ 0 ∷ 0 ∷ 0 ∷
    5 ∷ 5 ∷ 5 ∷ 5 ∷ 5 ∷ 5 ∷ 5 ∷ 5 ∷ 5 ∷ 5 ∷ 5 ∷ 5 ∷ 5 ∷ 0 ∷ 0 ∷ 0 ∷
    0 ∷ 0 ∷ 2 ∷ 0 ∷ 0 ∷ 1 ∷ 0 ∷ 0 ∷ 1 ∷ 1 ∷ 1 ∷ 0 ∷ 0 ∷ 0 ∷ 0 ∷ 0 ∷ 1 ∷ 1 ∷ 1 ∷ 1 ∷ 0 ∷ 0 ∷ 0 ∷ 0 ∷
    0 ∷ 3 ∷ 0 ∷ 3 ∷ 3 ∷ 0 ∷ 0 ∷ 4 ∷ 3 ∷ 0 ∷ 6 ∷ 4 ∷ 3 ∷ 4 ∷ 3 ∷ 0 ∷ 3 ∷ 0 ∷ []

-- how far the byte of an operator in a stream is above its kind
abbrev pub op_shift : ℕ
op_shift = eq_form - eq_kind

-- a role's own bytes, and what waits behind them
unfoldable pub spelt : ℕ → ℕ → Writing → Writing
unfolding behinds stackings behind_marks forms stack_marks formed
spelt c v w =
    get_or (stackings (c + op_shift)) (get_or stack_marks c 0) (λ w. w) (formed (get_or forms c 0) (get_or (behinds v) (get_or behind_marks c 0) (λ w. w) w))

unfoldable pub put : ℕ → ℕ → Writing → Writing
unfolding spelt pourings pour_marks
put c v w = spelt c v (get_or (pourings (c + op_shift)) (get_or pour_marks c 0) (λ w. w) w)

-- Role by role, from the last one -----------------------------------------------------------------

unfoldable pub token_value : Token → ℕ
token_value (word w) = 0
token_value (sign g) = 0
token_value (op o) = 0
token_value (name x) = 0
token_value (int p ds) = int_word (signed p (decimal ds))
token_value (nat ds) = decimal ds

unfoldable pub value : Role → ℕ
unfolding token_value
value (plain t) = token_value t
value (naming n x) = 0
value (typed u t) = 0
value (part g) = 0

unfoldable pub writes : List Role → Writing → Writing
unfolding put value
writes [] z = z
writes (r ∷ k) z = put (code r) (value r) (writes k z)

-- from the end of the text: the schedule's items are counted
abbrev pub start : List ℕ → Writing
start numbers = writing [] (0 ∷ []) numbers 0 true
