-- `reading::allowed` meets its contract.
use Rattle.std.proofs.Common.{sym, ap, ltb, arith}
use Rattle.std.proofs.lemmas.Grind.{common_steps}
use Rattle.table_read.specs.Laws.ValueWays.{allowed_bool, allowed_any}
use Rattle.table_read.proofs.reading.allowed.Goals as goal

pub returns-then-t-ne-BOOL : goal.returns-then-t-ne-BOOL
returns-then-t-ne-BOOL c = let e = allowed_any _ _ c.if-t-ne-BOOL.true c.requires in rw e (grind (arith, common_steps))

pub returns-else-t-ne-BOOL : goal.returns-else-t-ne-BOOL
returns-else-t-ne-BOOL c = ap (ltb c.args.w) (sym (allowed_bool _ 0 c.if-t-ne-BOOL.false))
