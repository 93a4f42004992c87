-- `Declarations::lay` meets its contract: each part of the table is lent, filled and back before the next.
use Rattle.std.proofs.Common.{arith}
use Rattle.uses.specs.Laws.AmongLaws.{one_declares}
use Rattle.uses.specs.Laws.LayingLaws.{room_counted, laid_long, laid_all}
use Rattle.text_shape.specs.RoleNames.{new_struct_role, new_par_role}
use Rattle.uses.proofs.declared.Declarations.lay.Goals as goal

pub gather-s-requires : goal.gather-s-requires
gather-s-requires c = one_declares new_struct_role (omega arith) (omega arith)

pub gather-requires : goal.gather-requires
gather-requires c = one_declares new_par_role (omega arith) (omega arith)

pub bounds-table-322 : goal.bounds-table-322
bounds-table-322 c =
    room_counted c.args.table.now _ _ _ c.step_names-k.new.table c.gather-s.result 0 c.args.self.text.now _
    c.requires c.gather-s.ensures.table_after c.rows.ensures c.gather.ensures.table_after c.step_names-k.auto.table

pub shape_of-table : goal.shape_of-table
shape_of-table c =
    laid_long c.args.table.now _ _ _ c.step_names-k.new.table c.gather-s.result c.step_names-k.result
    c.args.self.text.now _ c.requires c.gather-s.ensures.table_after c.rows.ensures c.gather.ensures.table_after
    c.step_names-k.auto.table

pub returns : goal.returns
returns c =
    laid_all c.args.table.now _ _ _ c.step_names-k.new.table c.gather-s.result c.step_names-k.result _ _
    c.requires c.gather-s.ensures.table_after c.rows.ensures c.gather.ensures.table_after c.step_names-k.auto.table
    c.gather-s.ensures.value c.step_names-k.ensures
