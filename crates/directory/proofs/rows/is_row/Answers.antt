-- `rows::is_row` meets its contract.
use Rattle.std.proofs.Common.{eq-eqb, ne_eqb}
use Rattle.directory.specs.Directory.{is_row}
use Rattle.directory.proofs.rows.is_row.Goals as goal

pub returns-then-r-structure : goal.returns-then-r-structure
unfolding is_row
returns-then-r-structure c = simp (is_row, eq-eqb _ _ c.if-r-structure.true)

pub returns-else-r-structure : goal.returns-else-r-structure
unfolding is_row
returns-else-r-structure c = simp (is_row, ne_eqb _ _ c.if-r-structure.false)
