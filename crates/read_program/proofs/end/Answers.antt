-- `end` meets its contract: an item is not read, a byte is left, or none is.
use Rattle.std.proofs.Common.{sym, lt-ltb, le-ltb}
use Rattle.std.proofs.lemmas.Result.{err_from_is_err_and}
use Rattle.program.specs.Reader.{read_items, read_item}
use Rattle.read_program.specs.WholeWays.{end_stop, end_on, end_read}
use Rattle.read_program.proofs.end.Goals as goal

pub returns-in_err-m : goal.returns-in_err-m
returns-in_err-m c =
    let a = c.args in
    let p = err_from_is_err_and c.from_residual.result c.from_residual.ensures.1 in
    rw (p.1, p.2) (λ ar l. sym (end_stop a.behind a.at a.structs a.t a.rows.now a.s.now
    (read_items ar a.s.now (read_item ar a.s.now 8) a.at) _ (sym (c.in_err-m.ensures.by_index ar l))))

pub returns-then-m-s : goal.returns-then-m-s
returns-then-m-s c =
    let a = c.args in
    λ ar l. sym (end_on a.behind a.at a.structs a.t a.rows.now a.s.now (read_items ar a.s.now (read_item ar a.s.now 8) a.at) _ _
    (sym (c.in_ok-m.ensures.by_index ar l)) (lt-ltb _ _ c.if-m-s.true))

pub returns : goal.returns
returns c =
    let a = c.args in
    λ ar l. rw c.summed.ensures (sym (end_read a.behind a.at a.structs a.t a.rows.now a.s.now
    (read_items ar a.s.now (read_item ar a.s.now 8) a.at) _ _
    (sym (c.in_ok-m.ensures.by_index ar l)) (le-ltb _ _ c.if-m-s.false)))
