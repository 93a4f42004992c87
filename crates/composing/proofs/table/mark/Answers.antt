-- `table::mark` meets its contract: the bytes of the tables are 48 above their numbers.
use Rattle.std.proofs.Common.{arith}
use Rattle.composing.specs.TableLaws.{marks_in}
use Rattle.composing.proofs.table.mark.Goals as goal

pub bounds-marks-i : goal.bounds-marks-i
bounds-marks-i c = let pre = c.requires in omega (arith, (marks_in c.marks.ensures pre.0 pre.1).inside)

pub overflow_sub-result : goal.overflow_sub-result
overflow_sub-result c = let pre = c.requires in omega (arith, (marks_in c.marks.ensures pre.0 pre.1).says)

pub returns : goal.returns
returns c = let pre = c.requires in omega (arith, (marks_in c.marks.ensures pre.0 pre.1).says)
