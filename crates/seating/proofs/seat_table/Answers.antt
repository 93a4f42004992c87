-- `seat_table` meets its contract: the table is refused, or the machine that it begins with is seated by fresh numbers.
use Rattle.std.proofs.Common.{sym}
use Rattle.std.proofs.lemmas.Result.{err_from_is_err_and}
use Rattle.seating.specs.SeatLaws.{image_refused, image_seated}
use Rattle.seating.proofs.seat_table.Goals as goal

pub returns-in_err-count : goal.returns-in_err-count
returns-in_err-count c =
    let p = err_from_is_err_and c.from_residual.result c.from_residual.ensures.1 in
    rw (p.1, p.2) (λ s p a. image_refused a c.args.table.now _ (sym c.in_err-count.ensures.value))

pub returns : goal.returns
returns c =
    λ s p a. let w = image_seated a c.args.table.now _ _ _ _ c.requires.heads_len.0 c.requires.heads_len.1 c.in_ok-count.ensures.table_laid
    (sym c.in_ok-count.ensures.value) in
    (w.0, w.1, w.2 c.fresh-numbers.result c.fresh-numbers.ensures)
