-- `read::byte` meets its contract: the byte is there, or is not.
use Rattle.std.proofs.Common.{arith, ap, sym}
use Rattle.read_exprs.specs.Told.{byte_told}
use Rattle.read_exprs.specs.ByteWays.{byte_out, byte_in}
use Rattle.read_exprs.proofs.read.byte.Goals as goal

pub returns-then-s-at : goal.returns-then-s-at
returns-then-s-at c = record { value = sym (ap byte_told (byte_out c.args.s.now c.args.at c.if-s-at.true)); byte_span = tt }

pub returns : goal.returns
returns c = record { value = sym (ap byte_told (byte_in c.args.s.now c.args.at c.if-s-at.false)); byte_span = omega (arith, c.type_inv.s c.args.at) }
