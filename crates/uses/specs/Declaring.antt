-- The tables of a text's declarations in lent memory (02 §1), and what is known of its roles before.
use Rattle.std.specs.Prelude.{ℕ, ◌+◌, ◌≤◌, ◌≡◌, List, length, get_or}
use Rattle.resolve.specs.Named.{names_at}
use Rattle.resolve.specs.Tables.{places, offsets}
use Rattle.resolve.specs.Checks.{part_of, types_at}
use Rattle.resolve.specs.Resolved.{book_at}
use Rattle.uses.specs.Lent.{structs_of_table, book_in, Booked}
use Rattle.text_shape.specs.RoleNames.{new_struct_role, new_par_role, new_step_role, first_type_role, last_par_type_role}
use Rattle.uses.specs.Layout.{rows_room, offsets_place, types_place}

-- no parameter and no step stands before the first struct, and every parameter has a type: so it is where a derivation gives the roles
pub record Fronted (roles : List ℕ) : Type 0 where
  pub pars : get_or (offsets new_par_role roles) 0 0 ≡ 0
  pub steps : get_or (offsets new_step_role roles) 0 0 ≡ 0
  pub types : length (places first_type_role last_par_type_role roles) ≡ length (places new_par_role new_par_role roles)

abbrev pub type_bytes : List ℕ → List ℕ → List ℕ
type_bytes text roles = types_at text roles (names_at text (places new_struct_role new_struct_role roles)) (places first_type_role last_par_type_role roles)

-- a text's tables
pub record Tabled (text roles t : List ℕ) : Type 0 where
  pub booked : Booked t
  pub book : book_in text t ≡ book_at text roles
  pub structs : structs_of_table t ≡ length (places new_struct_role new_struct_role roles)
  pub rows : part_of t offsets_place (offsets_place + 1 + structs_of_table t) ≡ offsets new_par_role roles
  pub few : length (places first_type_role last_par_type_role roles) ≤ rows_room
  pub types : part_of t types_place (types_place + length (places first_type_role last_par_type_role roles)) ≡ type_bytes text roles
