use Rattle.read_program.specs.Own.{Back}
use Rattle.read_program.proofs.totals.listed.Given as goal

abbrev pub invariant-loop-i : goal.invariant-loop-i
invariant-loop-i l = Back l.rows l.end l.k l.n l.i

abbrev pub decreases-loop-i : goal.decreases-loop-i
decreases-loop-i l = l.i
