-- `operate` meets its contract, one return for each answer of the operator.
use Rattle.std.proofs.Common.{sym, ap, ◌∙◌, Err}
use Rattle.layout.specs.Layout.{cell}
use Rattle.execute_operator.specs.OperWays.{value_way, outside_way, unfit_way}
use Rattle.execute_operator.proofs.operate.Goals as goal

pub returns-in-Ok : goal.returns-in-Ok
returns-in-Ok c =
    let v = c.in-Ok.v in
    let says = rw (c.type_byte-t.ensures, c.operand.ensures.0, c.operand-2.ensures.0) at c.apply_word-answer.ensures in
    value_way c.requires.acting c.args.o v (sym says ∙ c.in-Ok.is)
    (c.cell-c.ensures ∙ ap (λ b. cell b v) (rw c.type_byte-t.ensures at c.result_byte.ensures)) (c.put.ensures.heads_after, c.put.ensures.cells_after)

pub returns-in-Outside : goal.returns-in-Outside
returns-in-Outside c =
    let says = rw (c.type_byte-t.ensures, c.operand.ensures.0, c.operand-2.ensures.0) at c.apply_word-answer.ensures in
    outside_way c.requires.acting c.args.o (sym says ∙ c.in-Err.is ∙ ap Err c.in-Outside.is)

pub returns-in-Unfit : goal.returns-in-Unfit
returns-in-Unfit c =
    let says = rw (c.type_byte-t.ensures, c.operand.ensures.0, c.operand-2.ensures.0) at c.apply_word-answer.ensures in
    unfit_way c.requires.acting c.args.o (sym says ∙ c.in-Err.is ∙ ap Err c.in-Unfit.is)
