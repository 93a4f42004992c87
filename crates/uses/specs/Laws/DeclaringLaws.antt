-- The roles of a derivation's text (02 §1): no parameter and no step stands before the first struct, and every parameter has a type.
use Rattle.std.specs.Prelude.{ℕ, ◌≡◌, refl, List, [], ◌∷◌, map, length, get_or}
use Rattle.std.proofs.Common.{arith, sym, ap, ◌∙◌}
use Rattle.std.proofs.lemmas.List.{length-map}
use Rattle.syntax.specs.Syntax.{Program, Program.program}
use Rattle.meaning.specs.Scope.{par_id, par_type, pars_of, steps_of, structs_of}
use Rattle.text_shape.specs.Roles.{roles}
use Rattle.resolve.specs.Named.{name_at}
use Rattle.resolve.specs.Tables.{places}
use Rattle.resolve.specs.Declares.{par_types, all_pars, sums}
use Rattle.resolve.specs.Laws.DeclaresLaws.{types_declared}
use Rattle.resolve.specs.Laws.RowLaws.{par_rows_declared, step_rows_declared}
use Rattle.resolve.specs.Checks.{byte_of, types_at}
use Rattle.resolve.specs.Laws.WellDeclaredLaws.{par_names}
use Rattle.resolve.specs.Standing.{Stood}
use Rattle.resolve.specs.Laws.PlacesLaws.{rows_stand, types_stand}
use Rattle.uses.specs.Declaring.{Fronted}
use Rattle.text_shape.specs.RoleNames.{new_par_role, new_step_role, first_type_role, last_par_type_role}

sums_first : (n : ℕ) (l : List ℕ) → get_or (sums n l) 0 0 ≡ n
unfolding sums
sums_first n [] = refl
sums_first n (a ∷ l) = refl

pub roles_fronted : {x cs : List ℕ} (c : Program) → Stood x cs (roles c) → Fronted cs
unfolding types_at
roles_fronted {x = x} {cs = cs} (program d s) st =
    record {
      pars =
          ap (λ l. get_or l 0 0) (rows_stand new_par_role 0 (omega arith) st ∙ par_rows_declared d s)
          ∙ sums_first 0 (map (λ e. length (pars_of e)) (structs_of d));
      steps =
          ap (λ l. get_or l 0 0) (rows_stand new_step_role 0 (omega arith) st ∙ step_rows_declared d s)
          ∙ sums_first 0 (map (λ e. length (steps_of e)) (structs_of d));
      types = typed ∙ sym declared;
    }
  where
    typed : length (places first_type_role last_par_type_role cs) ≡ length (all_pars (structs_of d))
    typed =
        sym (length-map (places first_type_role last_par_type_role cs) _) ∙ ap length (types_stand x cs [] 0 refl refl st)
        ∙ length-map (par_types (roles (program d s))) (byte_of []) ∙ ap length (types_declared d s)
        ∙ length-map (all_pars (structs_of d)) par_type

    declared : length (places new_par_role new_par_role cs) ≡ length (all_pars (structs_of d))
    declared =
        sym (length-map (places new_par_role new_par_role cs) (name_at x)) ∙ ap length (par_names x cs d s st) ∙ length-map (all_pars (structs_of d)) par_id
