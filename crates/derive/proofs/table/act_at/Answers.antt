-- `table::act_at` meets its contract: the two numbers of an entry.
use Rattle.std.proofs.Common.{arith}
use Rattle.derive.specs.TableLaws.{next_in, next_here, next_less, opened_in, opened_here, opened_less}
use Rattle.derive.specs.IndexLaws.{told_stop, told_below, told_go, told_open}
use Rattle.derive.proofs.table.act_at.Goals as goal

pub bounds-next-i : goal.bounds-next-i
bounds-next-i c = next_in c.next.ensures c.requires

pub overflow_sub-next : goal.overflow_sub-next
overflow_sub-next c = omega (arith, next_here c.next.ensures c.requires)

pub bounds-opened-i : goal.bounds-opened-i
bounds-opened-i c = opened_in c.opened.ensures c.requires

pub overflow_sub-opened : goal.overflow_sub-opened
overflow_sub-opened c = omega (arith, opened_here c.opened.ensures c.requires)

pub returns-in-0 : goal.returns-in-0
returns-in-0 c = told_stop c.requires (next_less c.next.ensures c.requires) c.in-0.is

pub returns-in-63 : goal.returns-in-63
returns-in-63 c = told_below c.requires (next_less c.next.ensures c.requires) (omega arith) c.in-63.is

pub returns-in-0-2 : goal.returns-in-0-2
returns-in-0-2 c =
    told_go c.requires (next_less c.next.ensures c.requires) (omega arith) (omega arith) (opened_less c.opened.ensures c.requires) c.in-0-2.is

pub returns-in_default-2 : goal.returns-in_default-2
returns-in_default-2 c =
    told_open c.requires (next_less c.next.ensures c.requires) (omega arith) (omega arith) (opened_less c.opened.ensures c.requires) (omega arith)
