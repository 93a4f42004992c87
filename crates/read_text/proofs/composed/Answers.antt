-- `composed` meets its contract: the offsets and the bytes of types are parts of the one table.
use Rattle.std.proofs.Common.{arith, ◌∙◌}
use Rattle.read_text.specs.MeantLaws.{within, rows_lent, composed_lent}
use Rattle.read_text.proofs.composed.Goals as goal

pub overflow_add-types_end : goal.overflow_add-types_end
overflow_add-types_end c =
    omega (arith, (within c.args.text.now c.args.roles.now c.args.tables.now c.requires.roled.0 c.requires.rows c.requires.roled.1).1)

pub slice_bounds-stream-end-2 : goal.slice_bounds-stream-end-2
slice_bounds-stream-end-2 c =
    omega (
      arith,
      (within c.args.text.now c.args.roles.now c.args.tables.now c.requires.roled.0 c.requires.rows c.requires.roled.1).1,
      c.requires.roled.1.booked.long,
    )

pub stream-requires : goal.stream-requires
stream-requires c =
    let args = c.args in
    record {
      roles_in_bounds = c.requires.roles_in_bounds;
      rows = rows_lent args.text.now args.roles.now args.tables.now c.requires.roled.0 c.requires.rows c.requires.roled.1;
    }

pub returns : goal.returns
returns c =
    let args = c.args in
    c.stream.ensures ∙ composed_lent args.text.now args.roles.now args.tables.now c.requires.roled.0 c.requires.rows c.requires.roled.1 _
