-- `count` meets its contract: the program is refused, or a count begins after it.
use Rattle.std.proofs.Common.{sym, length-take-le}
use Rattle.seating.specs.SeatLaws.{images_refused, images_with}
use Rattle.count_images.specs.declared.Question.{Question}
use Rattle.count_images.specs.Laws.AnswerLaws.{refused_answers, entry_answers}
use Rattle.count_images.proofs.count.Goals as goal

pub returns-in-Err : goal.returns-in-Err
returns-in-Err c =
    let asked' : Question = record { name = c.args.name; label = c.args.label; parameter = c.args.parameter } in
    let args = c.args in let x = args.program.now in let y = args.table.now in
    let both = entry_answers x y asked' args.list.now (refused_answers asked' args.list.now (images_refused x y c.in-Err.ensures) (rw c.from.ensures at c.refused.ensures)) in record { value = both.0; list_after = both.1 }

pub slice_bounds-stream-end : goal.slice_bounds-stream-end
slice_bounds-stream-end c = c.in-Ok.ensures.2

pub slice_bounds-begun-end : goal.slice_bounds-begun-end
slice_bounds-begun-end c = sym (length-take-le _ _ c.in-Ok.ensures.2)

pub begun-requires : goal.begun-requires
begun-requires c = (c.in-Ok.ensures.0, c.in-Ok.ensures.3)

pub returns : goal.returns
returns c =
    let asked' : Question = record { name = c.args.name; label = c.args.label; parameter = c.args.parameter } in
    let args = c.args in let x = args.program.now in let y = args.table.now in
    let both = entry_answers x y asked' args.list.now (rw (images_with x y c.in-Ok.ensures.1, c.settled.ensures) (c.begun.ensures c.in-Ok.ensures.0 c.in-Ok.ensures.3)) in record { value = both.0; list_after = both.1 }
