-- `role::all_roles` meets its contract: each constant is the code of its role.
use Rattle.std.proofs.Common.{refl}
use Rattle.text_shape.specs.Roles.{naming_number, naming_code, typed_code, type_number, part_number, part_code, all_roles}
use Rattle.text_shape.proofs.role.all_roles.Goals as goal

pub returns : goal.returns
unfolding all_roles naming_code naming_number typed_code type_number part_code part_number
returns c = refl
