use Rattle.std.proofs.Common.{◌≡◌, take}
use Rattle.block.specs.Put.{put}
use Rattle.block.proofs.put.copy.Given as goal

abbrev pub invariant-loop-i : goal.invariant-loop-i
invariant-loop-i l = l.dst ≡ put l.initial.dst l.at (take l.i l.src)
