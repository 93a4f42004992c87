-- The pass by places leaves what the pass by roles leaves: each role is its byte, and is spelt from its place on.
use Rattle.std.specs.Prelude.{ℕ, ◌+◌, ◌≤◌, ◌<◌, ◌≡◌, List, ◌∷◌, get_or, drop}
use Rattle.std.proofs.Common.{arith, ◌∙◌}
use Rattle.std.proofs.Math.Path.{refl, ap}
use Rattle.std.proofs.Math.Option.{Option, none, some}
use borrow.Author.Tests.{lt-ltb, le-ltb, ne_eqb}
use Rattle.tokens.specs.Tokens.{Sign, Sign.lpar, Sign.rpar, Sign.lbrace, Sign.rbrace, Sign.comma, Sign.colon, Sign.semicolon, Sign.assign, Sign.dot}
use Rattle.tokens.specs.Tokens.{Sign.bang, Polarity, Token, Token.word, Token.sign, Token.op, Token.name, Token.int, Token.nat}
use Rattle.tokens.specs.TokenNumbers.{sign_number}
use Rattle.tokens.specs.Scanning.{polarity}
use Rattle.tokens.specs.Kinds.{kind, word_kind, op_kind, sign_kind}
use Rattle.tokens.proofs.Laws.KindLaws.{kind_within, word_within, op_within}
use Rattle.syntax.specs.Syntax.{TypeName, TypeName.int_type, TypeName.nat_type, TypeName.bool_type, TypeName.id_type}
use Rattle.syntax.specs.Yield.{type_token}
use Rattle.meaning.specs.Meant.{then}
use Rattle.text_shape.specs.Roles.{Typed, Typed.of_par, Typed.of_local, Typed.of_null, Naming, Naming.new_struct, Naming.new_par, Naming.new_step}
use Rattle.text_shape.specs.Roles.{Naming.new_local, Naming.first_read, Naming.first_written, Naming.later_variable, Naming.made, Naming.made_statement}
use Rattle.text_shape.specs.Roles.{Naming.called, Naming.called_struct, Naming.called_step}
use Rattle.text_shape.specs.Roles.{Part, Part.brackets_open, Part.brackets_close, Part.args_open, Part.args_close, Part.no_args_close, Part.pars_open}
use Rattle.text_shape.specs.Roles.{Part.pars_close, Part.fix_open, Part.fix_close, Part.steps_open, Part.steps_close, Part.body_open, Part.body_close}
use Rattle.text_shape.specs.Roles.{Part.then_open, Part.then_close, Part.par_comma, Part.arg_comma, Part.barrier_sign, Role, Role.plain, Role.naming}
use Rattle.text_shape.specs.Roles.{Role.typed}
use Rattle.text_shape.specs.Roles.{Role.part, naming_code, typed_code, type_number, part_code, code, token_of}
use Rattle.resolve.specs.Named.{name_of}
use Rattle.resolve.specs.Digits.{digits_of}
use Rattle.resolve.specs.Checks.{type_here}
use Rattle.resolve.specs.Standing.{Spelt, Stood, Stood.at_end, Stood.no_token, Stood.a_role}
use Rattle.resolve.specs.Laws.RowLaws.{typed_far, part_far}
use Rattle.resolve.specs.Laws.PlacesLaws.{naming_near, type_near, type_spelt}
use Rattle.resolve.specs.Using.{Book, Use, chosen, use_name, use_type, use_part, use_token, use_role, uses}
use Rattle.resolve.specs.UsingAt.{naming_at, typed_at, number_at, part_at, use_kind, use_at, uses_at}
use Rattle.text_shape.specs.RoleNames.{null_nat_role, first_type_role, first_part_role}
use Rattle.tokens.specs.KindNames.{lpar_kind, rpar_kind, lbrace_kind, rbrace_kind, comma_kind, colon_kind, semicolon_kind, assign_kind, dot_kind}
use Rattle.tokens.specs.KindNames.{bang_kind, name_kind, int_kind, nat_kind, kinds}

-- What a byte says -----------------------------------------------------------------------------------

naming_back : (m : Naming) → naming_at (naming_code m) ≡ m
unfolding naming_at naming_code
naming_back new_struct = refl
naming_back new_par = refl
naming_back new_step = refl
naming_back new_local = refl
naming_back first_read = refl
naming_back first_written = refl
naming_back later_variable = refl
naming_back made = refl
naming_back made_statement = refl
naming_back called = refl
naming_back called_struct = refl
naming_back called_step = refl

part_back : (g : Part) → part_at (part_code g) ≡ g
unfolding part_at part_code
part_back brackets_open = refl
part_back brackets_close = refl
part_back args_open = refl
part_back args_close = refl
part_back no_args_close = refl
part_back pars_open = refl
part_back pars_close = refl
part_back fix_open = refl
part_back fix_close = refl
part_back steps_open = refl
part_back steps_close = refl
part_back body_open = refl
part_back body_close = refl
part_back then_open = refl
part_back then_close = refl
part_back par_comma = refl
part_back arg_comma = refl
part_back barrier_sign = refl

typed_back : (k : Typed) (t : TypeName) → (typed_at (typed_code k + type_number t) ≡ k) × (number_at (typed_code k + type_number t) ≡ type_number t)
unfolding typed_at number_at typed_code type_number
typed_back of_par int_type = (refl, refl)
typed_back of_par nat_type = (refl, refl)
typed_back of_par bool_type = (refl, refl)
typed_back of_par (id_type x) = (refl, refl)
typed_back of_local int_type = (refl, refl)
typed_back of_local nat_type = (refl, refl)
typed_back of_local bool_type = (refl, refl)
typed_back of_local (id_type x) = (refl, refl)
typed_back of_null int_type = (refl, refl)
typed_back of_null nat_type = (refl, refl)
typed_back of_null bool_type = (refl, refl)
typed_back of_null (id_type x) = (refl, refl)

typed_below : (k : Typed) → typed_code k < null_nat_role
unfolding typed_code
typed_below of_par = omega arith
typed_below of_local = omega arith
typed_below of_null = omega arith

-- Tokens ---------------------------------------------------------------------------------------------

module _ (s : List ℕ) (u : Use) where
  other_kind : (c : ℕ) → (c ≡ semicolon_kind → ⊥) → c < int_kind → use_kind c s u ≡ some u
  unfolding use_kind chosen
  other_kind c n l = rw (ne_eqb c semicolon_kind n, ne_eqb c int_kind (λ e. omega (arith, e, l)), ne_eqb c nat_kind (λ e. omega (arith, e, l))) refl

  semicolon_as : use_kind semicolon_kind s u ≡ use_token (sign semicolon) u
  unfolding use_kind chosen
  semicolon_as = refl

  sign_as : (g : Sign) → use_kind (sign_kind g) s u ≡ use_token (sign g) u
  unfolding use_token sign_kind sign_number
  sign_as lpar = other_kind lpar_kind (λ e. omega (arith, e)) (omega arith)
  sign_as rpar = other_kind rpar_kind (λ e. omega (arith, e)) (omega arith)
  sign_as lbrace = other_kind lbrace_kind (λ e. omega (arith, e)) (omega arith)
  sign_as rbrace = other_kind rbrace_kind (λ e. omega (arith, e)) (omega arith)
  sign_as comma = other_kind comma_kind (λ e. omega (arith, e)) (omega arith)
  sign_as colon = other_kind colon_kind (λ e. omega (arith, e)) (omega arith)
  sign_as semicolon = semicolon_as
  sign_as assign = other_kind assign_kind (λ e. omega (arith, e)) (omega arith)
  sign_as dot = other_kind dot_kind (λ e. omega (arith, e)) (omega arith)
  sign_as bang = other_kind bang_kind (λ e. omega (arith, e)) (omega arith)

  int_as : (g : Polarity) (l : List ℕ) → polarity (get_or s 0 0) ≡ g → digits_of (drop 1 s) ≡ l → use_kind int_kind s u ≡ use_token (int g l) u
  unfolding use_kind chosen
  int_as g l e f = ap (λ h. use_token (int h (digits_of (drop 1 s))) u) e ∙ ap (λ m. use_token (int g m) u) f

  nat_as : (l : List ℕ) → digits_of s ≡ l → use_kind nat_kind s u ≡ use_token (nat l) u
  unfolding use_kind chosen
  nat_as l f = ap (λ m. use_token (nat m) u) f

  token_as : (t : Token) → Spelt t s → use_kind (kind t) s u ≡ use_token t u
  unfolding kind Spelt use_token
  token_as (word w) p = let h = (word_within w).1 in other_kind (word_kind w) (λ e. omega (arith, e, h)) (omega (arith, h))
  token_as (sign g) p = sign_as g
  token_as (op o) p = let h = op_within o in other_kind (op_kind o) (λ e. omega (arith, e, h.0)) (omega (arith, h.1))
  token_as (name x) p = other_kind name_kind (λ e. omega (arith, e)) (omega arith)
  token_as (int g l) p = int_as g l p.0 p.1
  token_as (nat l) p = nat_as l p

-- Roles ----------------------------------------------------------------------------------------------

module _ (b : Book) (s : List ℕ) (u : Use) where
  -- by the group of a byte
  kinds_at : (c : ℕ) → c < kinds → use_at b c s u ≡ use_kind c s u
  unfolding use_at chosen
  kinds_at c l = rw (lt-ltb c kinds l) refl

  names_at_byte : (c : ℕ) → kinds ≤ c → c < first_type_role → use_at b c s u ≡ use_name b (naming_at c) (name_of s) u
  unfolding use_at chosen
  names_at_byte c l h = rw (le-ltb c kinds l, lt-ltb c first_type_role h) refl

  types_at_byte : (c : ℕ) → first_type_role ≤ c → c < first_part_role → use_at b c s u ≡ use_type b (typed_at c) (type_here (number_at c) s) u
  unfolding use_at chosen
  types_at_byte c l h = rw (le-ltb c kinds (omega (arith, l)), le-ltb c first_type_role l, lt-ltb c first_part_role h) refl

  parts_at_byte : (c : ℕ) → first_part_role ≤ c → use_at b c s u ≡ use_part (part_at c) u
  unfolding use_at chosen
  parts_at_byte c l = rw (le-ltb c kinds (omega (arith, l)), le-ltb c first_type_role (omega (arith, l)), le-ltb c first_part_role l) refl

  typed_as : (k : Typed) (t : TypeName) → Spelt (type_token t) s → use_at b (typed_code k + type_number t) s u ≡ use_type b k t u
  typed_as k t p =
      let f = typed_far k in
      let g = typed_below k in
      let n = type_near t in
      let h = typed_back k t in
      types_at_byte (typed_code k + type_number t) (omega (arith, f)) (omega (arith, g, n))
      ∙ ap (λ j. use_type b j (type_here (number_at (typed_code k + type_number t)) s) u) h.0
      ∙ ap (λ j. use_type b k (type_here j s) u) h.1 ∙ ap (λ v. use_type b k v u) (type_spelt t s p)

  role_as : (r : Role) → Spelt (token_of r) s → use_at b (code r) s u ≡ use_role b r u
  unfolding code token_of use_role Spelt
  role_as (plain t) p = kinds_at (kind t) (kind_within t).1 ∙ token_as s u t p
  role_as (naming m x) p =
      let h = naming_near m in
      names_at_byte (naming_code m) (omega (arith, h.0)) (omega (arith, h.1)) ∙ ap (λ n. use_name b n (name_of s) u) (naming_back m)
      ∙ ap (λ y. use_name b m y u) p
  role_as (typed k t) p = typed_as k t p
  role_as (part g) p = let h = part_far g in parts_at_byte (part_code g) (omega (arith, h)) ∙ ap (λ q. use_part q u) (part_back g)

-- a role's byte is not 0
role_there : (r : Role) → code r ≡ 0 → ⊥
unfolding code
role_there (plain t) e = let h = (kind_within t).0 in omega (arith, e, h)
role_there (naming m x) e = let h = (naming_near m).0 in omega (arith, e, h)
role_there (typed k t) e = let h = typed_far k in omega (arith, e, h)
role_there (part g) e = let h = part_far g in omega (arith, e, h)

-- All places -----------------------------------------------------------------------------------------

pub uses_stand : {s cs : List ℕ} {rs : List Role} (b : Book) (u : Use) → Stood s cs rs → uses_at b s cs u ≡ uses b rs u
unfolding uses_at uses then chosen
uses_stand b u at_end = refl
uses_stand b u (no_token st) = uses_stand b u st
uses_stand b u (a_role {b = t} {s = s} {cs = cs} {rs = rs} r p st) =
    rw (ne_eqb (code r) 0 (role_there r), role_as b (t ∷ s) u r p) (go (use_role b r u) (λ v. uses_stand b v st))
  where
    go : (o : Option Use) → ((v : Use) → uses_at b s cs v ≡ uses b rs v) → then o (uses_at b s cs) ≡ then o (uses b rs)
    go none h = refl
    go (some v) h = h v
