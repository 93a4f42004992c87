-- `rows::put_row` meets its contract: four numbers side by side.
use Rattle.std.proofs.Common.{refl}
use Rattle.directory.proofs.RowsLaws.{put_row_is}
use Rattle.directory.proofs.rows.put_row.Goals as goal

pub returns : goal.returns
returns c = let a = c.args in put_row_is a.rows.now a.i a.r _ _ _ _ refl refl refl refl
