-- `refer::cell_refers` meets its contract: no reference, a label that no instance has, the struct of an instance.
use Rattle.std.proofs.Common.{◌∙◌, sym, le-ltb}
use Rattle.table_read.specs.Laws.ReferWays.{cell_plain, cell_absent, cell_struct}
use Rattle.table_read.proofs.refer.cell_refers.Goals as goal

pub returns-then-not-is_reference : goal.returns-then-not-is_reference
returns-then-not-is_reference c =
    rw c.if-not-is_reference.true (cell_plain _ _ _ _ (sym c.is_reference.ensures ∙ c.if-not-is_reference.true))

pub returns-then-l-n : goal.returns-then-l-n
returns-then-l-n c =
    let l = c.operand-l.ensures.0 in
    rw (rw l at c.head.ensures.0)
    (cell_struct _ _ _ _ (sym c.is_reference.ensures ∙ c.if-not-is_reference.false) (rw l at c.if-l-n.true) c.index.result
    (c.index.ensures.0 ∙ c.struct_of.ensures))

pub returns-else-l-n : goal.returns-else-l-n
returns-else-l-n c =
    let args = c.args in
    let e = cell_absent args.heads.now args.n args.t args.c (sym c.is_reference.ensures ∙ c.if-not-is_reference.false)
    (rw c.operand-l.ensures.0 at c.if-l-n.false) in
    rw (← e) (le-ltb c.operand-l.result args.n c.if-l-n.false)
