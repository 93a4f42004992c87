-- `Declarations::par_types` meets its contract: places gathered in tables that have room for them.
use Rattle.std.proofs.Common.{refl, arith}
use Rattle.resolve.specs.Laws.FirstLaws.{take_long}
use Rattle.uses.specs.Laws.AmongLaws.{one_declares, types_declare}
use Rattle.uses.specs.Laws.TablingLaws.{structs_few, types_tested, types_stored}
use Rattle.text_shape.specs.RoleNames.{new_struct_role}
use Rattle.uses.proofs.declared.Declarations.par_types.Goals as goal

pub gather-s-requires : goal.gather-s-requires
gather-s-requires c = one_declares new_struct_role (omega arith) (omega arith)

pub gather-n-requires : goal.gather-n-requires
gather-n-requires c = types_declare

pub slice_bounds-types-end : goal.slice_bounds-types-end
slice_bounds-types-end c =
    take_long _ _ (omega (arith, c.gather-s.auto.table, c.gather-s.ensures.value, c.requires.0))

pub slice_bounds-types-end-2 : goal.slice_bounds-types-end-2
slice_bounds-types-end-2 c =
    take_long _ _ (omega (arith, c.gather-n.auto.table, c.gather-n.ensures.value, c.requires.1))

pub types-requires : goal.types-requires
types-requires c =
    let pre = c.requires in
    structs_few c.args.self.text.now _ _ _ pre.0 pre.1 c.gather-s.ensures.value c.gather-s.ensures.table_after refl
    c.gather-n.ensures.value c.gather-n.ensures.table_after refl

pub returns : goal.returns
returns c =
    let pre = c.requires in
    record {
      value = types_tested _ _ _ _ pre.0 pre.1 c.gather-s.ensures.value c.gather-s.ensures.table_after refl c.gather-n.ensures.value
          c.gather-n.ensures.table_after refl c.types.ensures.value;
      table_after = λ e. types_stored _ _ _ _ pre.0 pre.1 c.gather-s.ensures.value c.gather-s.ensures.table_after refl c.gather-n.ensures.value
          c.gather-n.ensures.table_after refl _ (c.types.ensures.table_after e);
    }
