-- `table::mark_at` meets its contract.
use Rattle.derive.specs.TableLaws.{mark_in, mark_here}
use Rattle.derive.proofs.table.mark_at.Goals as goal

pub bounds-marks-i : goal.bounds-marks-i
bounds-marks-i c = mark_in c.marks-marks.ensures c.requires

pub returns : goal.returns
returns c = mark_here c.marks-marks.ensures c.requires
