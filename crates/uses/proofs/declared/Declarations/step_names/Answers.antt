-- `Declarations::step_names` meets its contract: one law for each way.
use Rattle.std.proofs.Common.{arith}
use Rattle.resolve.specs.Laws.FirstLaws.{take_long}
use Rattle.uses.specs.Laws.AmongLaws.{one_declares}
use Rattle.uses.specs.Laws.TablingLaws.{gathered_not, gathered_all}
use Rattle.text_shape.specs.RoleNames.{new_step_role}
use Rattle.uses.proofs.declared.Declarations.step_names.Goals as goal

pub gather-n-requires : goal.gather-n-requires
gather-n-requires c = one_declares new_step_role (omega arith) (omega arith)

pub returns-then-n-gt-ROWS_ROOM : goal.returns-then-n-gt-ROWS_ROOM
returns-then-n-gt-ROWS_ROOM c = gathered_not _ _ _ c.gather-n.ensures.value c.if-n-gt-ROWS_ROOM.true

pub slice_bounds-step_names-end : goal.slice_bounds-step_names-end
slice_bounds-step_names-end c = take_long _ _ (omega (arith, c.gather-n.auto.table, c.if-n-gt-ROWS_ROOM.false))

pub returns : goal.returns
returns c =
    gathered_all _ _ _ _ c.requires c.gather-n.ensures.value c.gather-n.ensures.table_after c.if-n-gt-ROWS_ROOM.false c.step_names.ensures.value
    c.step_names.ensures.table_after
