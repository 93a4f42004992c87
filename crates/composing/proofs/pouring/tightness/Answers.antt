-- `pouring::tightness` meets its contract: one law for each range.
use Rattle.std.proofs.Common.{arith}
use Rattle.composing.specs.PouringLaws.{tight_none, tight_comparison, tight_product, tight_sum, tight_and, tight_or}
use Rattle.composing.proofs.pouring.tightness.Goals as goal

pub returns-in-0 : goal.returns-in-0
returns-in-0 c = tight_none c.args.c c.in-0.is

pub returns-in-1-to-37 : goal.returns-in-1-to-37
returns-in-1-to-37 c = tight_comparison c.args.c (λ e. omega arith) (omega arith)

pub returns-in-38-to-40 : goal.returns-in-38-to-40
returns-in-38-to-40 c = tight_product c.args.c (λ e. omega arith) (omega arith) (omega arith)

pub returns-in-41-to-42 : goal.returns-in-41-to-42
returns-in-41-to-42 c = tight_sum c.args.c (λ e. omega arith) (omega arith) (omega arith)

pub returns-in-43 : goal.returns-in-43
returns-in-43 c = tight_and c.args.c (λ e. omega arith) (omega arith) (omega arith)

pub returns-in_default : goal.returns-in_default
returns-in_default c = tight_or c.args.c (λ e. omega arith) (omega arith)
