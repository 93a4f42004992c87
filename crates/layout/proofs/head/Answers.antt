-- `head` meets its contract: a number of two bytes, which fits.
use Rattle.std.proofs.Common.{arith, refl}
use Rattle.layout.specs.Layout.{head}
use Rattle.layout.proofs.head.Goals as goal

pub overflow_cast-result : goal.overflow_cast-result
overflow_cast-result c = let args = c.args in omega (arith, c.type_inv.heads (head args.l args.f))

pub returns : goal.returns
returns c = let args = c.args in (refl, omega (arith, c.type_inv.heads (head args.l args.f)))
