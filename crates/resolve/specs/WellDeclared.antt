-- Declarations that a stream has counts and numbers for (02 §1, 17): what is tested of a derivation's structs, and the same tests of the tables of its text.
use Rattle.std.specs.Prelude.{ℕ, Bool, ◌&&◌, List, [], map, length, leb}
use Rattle.types.specs.Limits.{max_structs, max_params, max_steps, step_names as max_names}
use Rattle.syntax.specs.Syntax.{Struct}
use Rattle.meaning.specs.Scope.{par_id, par_type, struct_id, pars_of, steps_of}
use Rattle.meaning.specs.StepNames.{step_names}
use Rattle.meaning.specs.Finding.{distinct}
use Rattle.meaning.specs.HoldsDecide.{all}
use Rattle.resolve.specs.Named.{names_at}
use Rattle.resolve.specs.Tables.{places, offsets}
use Rattle.resolve.specs.Declares.{all_pars}
use Rattle.resolve.specs.Checks.{rows_ok, narrow, byte_of, types_at, known, firsts}
use Rattle.text_shape.specs.RoleNames.{new_struct_role, new_par_role, new_step_role, first_type_role, last_par_type_role}

-- few parameters with different names; few steps
unfoldable pub few_named : Struct → Bool
few_named d = leb (length (pars_of d)) max_params && distinct (map par_id (pars_of d))

unfoldable pub few_stepped : Struct → Bool
few_stepped d = leb (length (steps_of d)) max_steps

-- few structs of different names, each with such rows, types whose structs there are, few names of steps
unfoldable pub well_declared : List Struct → Bool
unfolding all few_named few_stepped known byte_of all_pars distinct step_names
well_declared ds =
    leb (length ds) max_structs
    && (distinct (map struct_id ds)
    && (all few_named ds
    && (known (length ds) (map (byte_of (map struct_id ds)) (map par_type (all_pars ds)))
    && (all few_stepped ds && leb (length (step_names ds)) max_names))))

-- of tables
unfoldable pub tables_ok : List ℕ → List ℕ → Bool
unfolding rows_ok narrow types_at known firsts distinct
tables_ok text roles =
    leb (length (places new_struct_role new_struct_role roles)) max_structs
    && (distinct (names_at text (places new_struct_role new_struct_role roles))
    && (rows_ok text (places new_par_role new_par_role roles) (offsets new_par_role roles)
    && (known (length (places new_struct_role new_struct_role roles))
    (types_at text roles (names_at text (places new_struct_role new_struct_role roles)) (places first_type_role last_par_type_role roles))
    && (narrow (offsets new_step_role roles) && leb (length (firsts text [] (places new_step_role new_step_role roles))) max_names))))
