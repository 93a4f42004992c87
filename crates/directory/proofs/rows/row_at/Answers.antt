-- `rows::row_at` meets its contract: four numbers side by side.
use Rattle.directory.specs.Rows.{row_at}
use Rattle.directory.proofs.rows.row_at.Goals as goal

pub returns : goal.returns
unfolding row_at
returns c = simp (row_at, c.look-4.ensures, c.look-3.ensures, c.look-2.ensures, c.look.ensures)
