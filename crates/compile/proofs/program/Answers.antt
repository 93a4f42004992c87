-- `program` meets its contract: where the steps stand, and the schedule.
use Rattle.compile.specs.PreparedLaws.{structs_few, rows_held, codes_ready, prepared}
use Rattle.compile.proofs.program.Goals as goal

pub of_rows-requires : goal.of_rows-requires
of_rows-requires c =
    let h = c.requires in (h.rows_long, rows_held h, h.spans_long, structs_few h)

pub schedule-requires : goal.schedule-requires
schedule-requires c =
    codes_ready c.requires

pub returns : goal.returns
returns c =
    prepared c.requires c.of_rows.ensures c.schedule.ensures.laid_program
