-- The pass over uses by the places of a text (02 §1): a role is its byte, and its name, its type or its digits stand in the text from its place on.
use Rattle.std.specs.Prelude.{ℕ, ◌-◌, get_or, drop, eqb, ltb}
use mathlib.Core.List.{List, [], ◌∷◌}
use Rattle.std.proofs.Math.Option.{Option, some}
use Rattle.tokens.specs.Tokens.{Sign.semicolon, Token.sign, Token.int, Token.nat}
use Rattle.tokens.specs.Scanning.{polarity}
use Rattle.meaning.specs.Meant.{then}
use Rattle.text_shape.specs.Roles.{Typed, Typed.of_par, Typed.of_local, Typed.of_null, Naming, Naming.new_struct, Naming.new_par, Naming.new_step}
use Rattle.text_shape.specs.Roles.{Naming.new_local, Naming.first_read, Naming.first_written, Naming.later_variable, Naming.made, Naming.made_statement}
use Rattle.text_shape.specs.Roles.{Naming.called, Naming.called_struct, Naming.called_step}
use Rattle.text_shape.specs.Roles.{Part, Part.brackets_open, Part.brackets_close, Part.args_open, Part.args_close, Part.no_args_close, Part.pars_open}
use Rattle.text_shape.specs.Roles.{Part.pars_close, Part.fix_open, Part.fix_close, Part.steps_open, Part.steps_close, Part.body_open, Part.body_close}
use Rattle.text_shape.specs.Roles.{Part.then_open, Part.then_close, Part.par_comma, Part.arg_comma, Part.barrier_sign}
use Rattle.resolve.specs.Named.{name_of}
use Rattle.resolve.specs.Digits.{digits_of}
use Rattle.resolve.specs.Checks.{type_here}
use Rattle.resolve.specs.Using.{Book, Use, chosen, use_name, use_type, use_part, use_token}
use Rattle.text_shape.specs.RoleNames.{new_struct_role, first_type_role, first_part_role}
use Rattle.tokens.specs.KindNames.{semicolon_kind, int_kind, nat_kind, kinds}

-- names, types, four to each, and parts, each in the order of their roles
abbrev namings : List Naming
namings =
    new_struct ∷ new_par ∷ new_step ∷ new_local ∷ first_read ∷ first_written ∷ later_variable ∷ made ∷ made_statement ∷ called ∷ called_struct
    ∷ called_step ∷ []

abbrev typeds : List Typed
typeds =
    of_par ∷ of_par ∷ of_par ∷ of_par ∷ of_local ∷ of_local ∷ of_local ∷ of_local ∷ of_null ∷ of_null ∷ of_null ∷ of_null ∷ []

abbrev type_numbers : List ℕ
type_numbers = 0 ∷ 1 ∷ 2 ∷ 3 ∷ 0 ∷ 1 ∷ 2 ∷ 3 ∷ 0 ∷ 1 ∷ 2 ∷ 3 ∷ []

abbrev parts : List Part
parts =
    brackets_open ∷ brackets_close ∷ args_open ∷ args_close ∷ no_args_close ∷ pars_open ∷ pars_close ∷ fix_open ∷ fix_close ∷ steps_open ∷ steps_close
    ∷ body_open ∷ body_close ∷ then_open ∷ then_close ∷ par_comma ∷ arg_comma ∷ barrier_sign ∷ []

unfoldable pub naming_at : ℕ → Naming
naming_at c = get_or namings (c - new_struct_role) new_par

unfoldable pub typed_at : ℕ → Typed
typed_at c = get_or typeds (c - first_type_role) of_par

unfoldable pub number_at : ℕ → ℕ
number_at c = get_or type_numbers (c - first_type_role) 0

unfoldable pub part_at : ℕ → Part
part_at c = get_or parts (c - first_part_role) brackets_open

-- One place ----------------------------------------------------------------------------------------

-- a token whose kind says it all, by the bytes from its place on
unfoldable pub use_kind : ℕ → List ℕ → Use → Option Use
unfolding chosen use_token
use_kind c s u =
    chosen (eqb c semicolon_kind) (use_token (sign semicolon) u)
    (chosen (eqb c int_kind) (use_token (int (polarity (get_or s 0 0)) (digits_of (drop 1 s))) u)
    (chosen (eqb c nat_kind) (use_token (nat (digits_of s)) u) (some u)))

module _ (b : Book) where
  unfoldable pub use_at : ℕ → List ℕ → Use → Option Use
  unfolding chosen use_kind use_name use_type use_part naming_at typed_at number_at part_at
  use_at c s u =
      chosen (ltb c kinds) (use_kind c s u)
      (chosen (ltb c first_type_role) (use_name b (naming_at c) (name_of s) u)
      (chosen (ltb c first_part_role) (use_type b (typed_at c) (type_here (number_at c) s) u) (use_part (part_at c) u)))

  -- all places: 0 stands where no token begins
  unfoldable pub uses_at : List ℕ → List ℕ → Use → Option Use
  unfolding then chosen use_at
  uses_at [] cs u = some u
  uses_at (t ∷ s) [] u = some u
  uses_at (t ∷ s) (c ∷ cs) u = then (chosen (eqb c 0) (some u) (use_at c (t ∷ s) u)) (uses_at s cs)
