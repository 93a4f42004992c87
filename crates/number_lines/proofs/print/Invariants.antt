use Rattle.number_lines.specs.LineLaws.{LinesPassed}
use Rattle.number_lines.proofs.print.Given as goal

abbrev pub invariant-loop-w : goal.invariant-loop-w
invariant-loop-w l = LinesPassed l.words l.initial.out l.out l.k l.begin l.w-index
