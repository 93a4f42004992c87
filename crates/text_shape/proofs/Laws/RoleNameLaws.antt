-- Each role has the byte of its name.
use Rattle.std.specs.Prelude.{ℕ, ◌≡◌, refl, List, [], ◌∷◌}
use Rattle.text_shape.specs.Roles.{naming_number, naming_code, typed_code, type_number, part_number, part_code, all_roles}
use Rattle.text_shape.specs.RoleNames.{new_struct_role, new_par_role, new_step_role, new_local_role, first_read_role, first_written_role}
use Rattle.text_shape.specs.RoleNames.{later_variable_role, made_role, made_statement_role, called_role, called_struct_role, called_step_role}
use Rattle.text_shape.specs.RoleNames.{par_int_role, par_nat_role, par_bool_role, par_struct_role, local_int_role, local_nat_role}
use Rattle.text_shape.specs.RoleNames.{local_bool_role, local_struct_role, null_int_role, null_nat_role, null_bool_role, null_struct_role}
use Rattle.text_shape.specs.RoleNames.{brackets_open_role, brackets_close_role, args_open_role, args_close_role, no_args_close_role}
use Rattle.text_shape.specs.RoleNames.{pars_open_role, pars_close_role, fix_open_role, fix_close_role, steps_open_role, steps_close_role}
use Rattle.text_shape.specs.RoleNames.{body_open_role, body_close_role, then_open_role, then_close_role, par_comma_role, arg_comma_role}
use Rattle.text_shape.specs.RoleNames.{barrier_role}

abbrev named_roles : List ℕ
named_roles =
    new_struct_role ∷ new_par_role ∷ new_step_role ∷ new_local_role ∷ first_read_role ∷ first_written_role ∷ later_variable_role ∷ made_role
    ∷ made_statement_role ∷ called_role ∷ called_struct_role ∷ called_step_role ∷ par_int_role ∷ par_nat_role ∷ par_bool_role ∷ par_struct_role
    ∷ local_int_role ∷ local_nat_role ∷ local_bool_role ∷ local_struct_role ∷ null_int_role ∷ null_nat_role ∷ null_bool_role ∷ null_struct_role
    ∷ brackets_open_role ∷ brackets_close_role ∷ args_open_role ∷ args_close_role ∷ no_args_close_role ∷ pars_open_role ∷ pars_close_role
    ∷ fix_open_role ∷ fix_close_role ∷ steps_open_role ∷ steps_close_role ∷ body_open_role ∷ body_close_role ∷ then_open_role ∷ then_close_role
    ∷ par_comma_role ∷ arg_comma_role ∷ barrier_role ∷ []

pub roles_named : named_roles ≡ all_roles
unfolding all_roles naming_code naming_number typed_code type_number part_code part_number
roles_named = refl
