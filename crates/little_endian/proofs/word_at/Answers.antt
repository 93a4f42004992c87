-- `word_at` meets its contract: the four bytes' sum.
use native.Mathlib.Omega.{arith}
use Rattle.little_endian.specs.Numbers.{word_at}
use Rattle.little_endian.proofs.word_at.Goals as goal

pub returns : goal.returns
unfolding word_at
returns c = omega arith
