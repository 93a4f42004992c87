-- What stands in a table of declarations before its types do (02 §1), and which tests it passes then.
use Rattle.std.specs.Prelude.{ℕ, ◌+◌, ◌-◌, ◌≤◌, min, ◌≡◌, Bool, ◌&&◌, List, [], length, get_or, leb}
use Rattle.std.proofs.lemmas.List.Edits.{sets}
use Rattle.types.specs.Limits.{max_structs, step_names as max_names}
use Rattle.meaning.specs.Finding.{distinct}
use Rattle.resolve.specs.Named.{names_at}
use Rattle.resolve.specs.Tables.{places, offsets}
use Rattle.resolve.specs.Checks.{part_of, rows_ok, narrow, firsts}
use Rattle.text_shape.specs.RoleNames.{new_struct_role, new_par_role, new_step_role}
use Rattle.uses.specs.Layout.{rows_room, offsets_place, pars_place, types_place, names_place, struct_count_place, name_count_place, table_size}

-- places of structs, of parameters, of steps, of types; those where step names are first declared
abbrev pub structs_at : List ℕ → List ℕ
structs_at roles = places new_struct_role new_struct_role roles

abbrev pub pars_at : List ℕ → List ℕ
pars_at roles = places new_par_role new_par_role roles

abbrev pub steps_at : List ℕ → List ℕ
steps_at roles = places new_step_role new_step_role roles

abbrev pub names_first : List ℕ → List ℕ → List ℕ
names_first text roles = firsts text [] (steps_at roles)

-- a list at the front of a table's part, where that has room for it
abbrev pub Front : List ℕ → ℕ → ℕ → List ℕ → Type 0
Front t a b l = length l ≤ b - a → part_of t a (a + length l) ≡ l

-- the names of few steps, gathered in a table of their own
pub record Gathered (text roles t₀ t : List ℕ) (k : ℕ) : Type 0 where
  pub count : length (steps_at roles) ≤ rows_room → k ≡ min (length (names_first text roles)) (max_names + 1)
  pub stored : length (steps_at roles) ≤ rows_room → t ≡ sets t₀ 0 (names_first text roles)

-- a table with places and counts
pub record Laid (text roles t : List ℕ) : Type 0 where
  pub long : length t ≡ table_size
  pub count : get_or t struct_count_place 0 ≡ length (structs_at roles)
  pub structs : Front t 0 offsets_place (structs_at roles)
  pub rows : Front t offsets_place pars_place (offsets new_par_role roles)
  pub pars : Front t pars_place types_place (pars_at roles)
  pub names_count : length (steps_at roles) ≤ rows_room → get_or t name_count_place 0 ≡ min (length (names_first text roles)) (max_names + 1)
  pub names : length (steps_at roles) ≤ rows_room → Front t names_place struct_count_place (names_first text roles)

-- the tests but that of types
unfoldable pub tested : List ℕ → List ℕ → Bool
unfolding rows_ok narrow firsts distinct
tested text roles =
    leb (length (structs_at roles)) max_structs
    && (distinct (names_at text (structs_at roles))
    && (rows_ok text (pars_at roles) (offsets new_par_role roles)
    && (narrow (offsets new_step_role roles) && leb (length (names_first text roles)) max_names)))
