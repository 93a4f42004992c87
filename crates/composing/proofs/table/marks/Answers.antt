-- `table::marks` meets its contract: the bytes of the source are the tables of roles.
use Rattle.std.proofs.Common.{refl}
use Rattle.compose.specs.Writing.{behind_marks, forms, stack_marks, pour_marks}
use Rattle.composing.specs.RoleTable.{shifted, in_a_row, mark_bytes}
use Rattle.composing.proofs.table.marks.Goals as goal

pub returns : goal.returns
unfolding mark_bytes in_a_row shifted behind_marks forms stack_marks pour_marks
returns c = refl
