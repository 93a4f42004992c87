-- `leaf::word` meets its contract: four bytes are left, or the stream ends among them.
use Rattle.std.proofs.Common.{arith, sym}
use Rattle.judge.specs.Facts.{pushed}
use Rattle.read_exprs.specs.ByteWays.{word_in, word_out}
use Rattle.read_exprs.proofs.leaf.word.Goals as goal

pub returns-then-s-at-lt4 : goal.returns-then-s-at-lt4
returns-then-s-at-lt4 c =
    let a = c.args in record { value = sym (word_out a.s.now (λ i. omega (arith, c.type_inv.s i)) (pushed a.t) 4 a.at c.requires (omega arith)); behind = tt }

pub returns : goal.returns
returns c =
    let a = c.args in
    record { value = rw c.pushed.ensures (sym (word_in a.s.now (λ i. omega (arith, c.type_inv.s i)) (pushed a.t) 4 a.at (omega arith))); behind = rw c.pushed.ensures (omega arith) }
