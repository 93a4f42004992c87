-- `spans::note_row` meets its contract: struct and name of a row as places.
use Rattle.compile.specs.SpansLaws.{row_paired}
use Rattle.compile.proofs.spans.note_row.Goals as goal

pub returns : goal.returns
returns c = row_paired c.args.r _ _ _ _ c.from.ensures c.from-2.ensures c.pair.ensures
