-- `from` meets its contract, one return for each byte: up to 32 a byte names =, above 43 or.
use Rattle.std.proofs.Common.{ℕ, arith, sym}
use Rattle.operators.specs.Words.{op_of}
use Rattle.operators.specs.Named.{meant}
use Rattle.operators.proofs.Laws.WordLaws.{op_first, op_last}
use Rattle.operators.proofs.OperatorFromU8.from.Goals as goal

pub returns-in-0-to-32 : goal.returns-in-0-to-32
unfolding meant
returns-in-0-to-32 c = let b : ℕ = c.args.byte in sym (op_first {o = b} (omega arith))

pub returns-in-33 : goal.returns-in-33
unfolding meant op_of
returns-in-33 c = rw c.in-33.is

pub returns-in-34 : goal.returns-in-34
unfolding meant op_of
returns-in-34 c = rw c.in-34.is

pub returns-in-35 : goal.returns-in-35
unfolding meant op_of
returns-in-35 c = rw c.in-35.is

pub returns-in-36 : goal.returns-in-36
unfolding meant op_of
returns-in-36 c = rw c.in-36.is

pub returns-in-37 : goal.returns-in-37
unfolding meant op_of
returns-in-37 c = rw c.in-37.is

pub returns-in-38 : goal.returns-in-38
unfolding meant op_of
returns-in-38 c = rw c.in-38.is

pub returns-in-39 : goal.returns-in-39
unfolding meant op_of
returns-in-39 c = rw c.in-39.is

pub returns-in-40 : goal.returns-in-40
unfolding meant op_of
returns-in-40 c = rw c.in-40.is

pub returns-in-41 : goal.returns-in-41
unfolding meant op_of
returns-in-41 c = rw c.in-41.is

pub returns-in-42 : goal.returns-in-42
unfolding meant op_of
returns-in-42 c = rw c.in-42.is

pub returns-in-43 : goal.returns-in-43
unfolding meant op_of
returns-in-43 c = rw c.in-43.is

pub returns-in_default : goal.returns-in_default
unfolding meant
returns-in_default c = let b : ℕ = c.args.byte in sym (op_last {o = b} (omega arith))
