-- `trace` meets its contract: the program is refused, or a run begins after it.
use Rattle.std.proofs.Common.{sym, length-take-le}
use Rattle.seating.specs.SeatLaws.{images_refused, images_with}
use Rattle.trace_images.specs.AnswerLaws.{refused_answers}
use Rattle.trace_images.proofs.trace.Goals as goal

pub returns-in-Err : goal.returns-in-Err
returns-in-Err c =
    let args = c.args in
    let x = args.program.now in let y = args.table.now in
    let a = refused_answers x y args.turns.now (images_refused x y c.in-Err.ensures) (rw c.from.ensures at c.refused.ensures) in
    record { value = a.answers; out_after = a.shows }

pub slice_bounds-stream-end : goal.slice_bounds-stream-end
slice_bounds-stream-end c = c.in-Ok.ensures.2

pub slice_bounds-begun-end : goal.slice_bounds-begun-end
slice_bounds-begun-end c = sym (length-take-le _ _ c.in-Ok.ensures.2)

pub begun-requires : goal.begun-requires
begun-requires c = (c.in-Ok.ensures.0, c.in-Ok.ensures.3)

pub returns : goal.returns
returns c =
    let x = c.args.program.now in
    let a = c.begun.ensures x c.in-Ok.ensures.0 c.in-Ok.ensures.3 (images_with x c.args.table.now c.in-Ok.ensures.1) in
    record { value = a.answers; out_after = a.shows }
