-- `pair_at` meets its contract: the two bytes' sum.
use native.Mathlib.Omega.{arith}
use Rattle.little_endian.specs.Numbers.{pair_at}
use Rattle.little_endian.proofs.pair_at.Goals as goal

pub returns : goal.returns
unfolding pair_at
returns c = omega arith
