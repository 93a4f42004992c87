-- The tables that the pass over uses is lent (02 §1), by name. Declarations stand in one table: places of structs, offsets of their rows of parameters,
-- places of
-- parameters, bytes of their types, places of step names, the counts of structs and of names. A step's locals stand in another: those declared, those alive,
-- their numbers, the bytes of their types, each part filled from its end.
use Rattle.std.specs.Prelude.{ℕ, ◌+◌, ◌*◌, List, [], ◌∷◌}
use Rattle.types.specs.Limits.{max_structs, max_params, step_names, max_locals}

-- Declarations -----------------------------------------------------------------

-- how many places each part has: an offset for each struct and one behind the last; parameters, or steps, of all structs
abbrev pub offsets_room : ℕ
offsets_room = max_structs + 1

abbrev pub rows_room : ℕ
rows_room = max_structs * max_params

-- where each part begins, and each count stands
abbrev pub offsets_place : ℕ
offsets_place = max_structs

abbrev pub pars_place : ℕ
pars_place = offsets_place + offsets_room

abbrev pub types_place : ℕ
types_place = pars_place + rows_room

abbrev pub names_place : ℕ
names_place = types_place + rows_room

abbrev pub struct_count_place : ℕ
struct_count_place = names_place + step_names

abbrev pub name_count_place : ℕ
name_count_place = struct_count_place + 1

abbrev pub table_size : ℕ
table_size = name_count_place + 1

-- declarations of all kinds: structs, parameters, their types, steps
abbrev pub all_many : ℕ
all_many = max_structs + 3 * rows_room

-- Locals -----------------------------------------------------------------------

-- where each part ends
abbrev pub declared_end : ℕ
declared_end = max_locals

abbrev pub living_end : ℕ
living_end = declared_end + max_locals

abbrev pub numbers_end : ℕ
numbers_end = living_end + max_locals

abbrev pub bytes_end : ℕ
bytes_end = numbers_end + max_locals

-- All of them, as the code hands them out ----------------------------------------

abbrev pub layout : List ℕ
layout =
    offsets_room ∷ rows_room ∷ offsets_place ∷ pars_place ∷ types_place ∷ names_place ∷ struct_count_place ∷ name_count_place ∷ table_size ∷ all_many
    ∷ declared_end
    ∷ living_end ∷ numbers_end ∷ bytes_end ∷ []
