use Rattle.std.proofs.Common.{◌≡◌}
use Rattle.blocks.specs.Images.{first_fault}
use Rattle.blocks.proofs.reading.first_fault.Given as goal
use Rattle.std.specs.Prelude.{None}

abbrev pub invariant-loop-k : goal.invariant-loop-k
invariant-loop-k l = first_fault l.n l.image l.k ≡ None
