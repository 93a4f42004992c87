-- `check` meets its contract: the image is refused, the list is too short, or the commands of its program are written.
use Rattle.std.proofs.Common.{arith, sym, ap, ◌∙◌, length-take-le}
use Rattle.load.specs.LoadLaws.{LoadedAs, load_refused, load_value, length_fits, structs_few, admitted}
use Rattle.checker.specs.Answer.{answer}
use Rattle.checker.specs.CheckLaws.{refused_answers, short_answers, room_answers, approved_is, writable, wrote}
use Rattle.checker.proofs.check.Goals as goal

pub returns-in-Err : goal.returns-in-Err
returns-in-Err c =
    let args = c.args in let x = args.image.now in
    let w = refused_answers x args.list.now _ (load_refused x _ (sym c.in-Err.ensures.value)) in
    record { value = (rw c.from.ensures at c.refused.ensures) ∙ ap answer w.0; list_after = w.1 }

pub returns-then-list-lt-MAX_COMMANDS : goal.returns-then-list-lt-MAX_COMMANDS
returns-then-list-lt-MAX_COMMANDS c =
    let loads' : LoadedAs c.args.image.now c.in-Ok.p = load_value _ _ (sym c.in-Ok.ensures.value) in
    let args = c.args in
    let w = short_answers args.image.now args.list.now _ loads'.accepts c.if-list-lt-MAX_COMMANDS.true in
    record { value = c.refused-then-list-lt-MAX_COMMANDS.ensures ∙ ap answer w.0; list_after = w.1 }

pub slice_bounds-stream-end : goal.slice_bounds-stream-end
slice_bounds-stream-end c =
    let loads' : LoadedAs c.args.image.now c.in-Ok.p = load_value _ _ (sym c.in-Ok.ensures.value) in
    omega (arith, length_fits _ _ loads', c.program-r.auto.buffer)

pub slice_bounds-program-end-5 : goal.slice_bounds-program-end-5
slice_bounds-program-end-5 c =
    let loads' : LoadedAs c.args.image.now c.in-Ok.p = load_value _ _ (sym c.in-Ok.ensures.value) in
    sym (length-take-le _ _ (omega (arith, length_fits _ _ loads', c.program-r.auto.buffer)))

pub slice_bounds-counts-end : goal.slice_bounds-counts-end
slice_bounds-counts-end c =
    let loads' : LoadedAs c.args.image.now c.in-Ok.p = load_value _ _ (sym c.in-Ok.ensures.value) in
    omega (arith, structs_few _ _ loads', c.program-r.auto.counts)

pub slice_bounds-program-end-6 : goal.slice_bounds-program-end-6
slice_bounds-program-end-6 c =
    let loads' : LoadedAs c.args.image.now c.in-Ok.p = load_value _ _ (sym c.in-Ok.ensures.value) in
    sym (length-take-le _ _ (omega (arith, structs_few _ _ loads', c.program-r.auto.counts)))

pub program-requires : goal.program-requires
program-requires c =
    let loads' : LoadedAs c.args.image.now c.in-Ok.p = load_value _ _ (sym c.in-Ok.ensures.value) in
    let l = loads' in
    let a = admitted _ _ l _ _ _ _ _ _ c.program-r.ensures.held in
    writable _ _ l _ _ a c.args.list.now c.if-list-lt-MAX_COMMANDS.false

pub returns : goal.returns
returns c =
    let loads' : LoadedAs c.args.image.now c.in-Ok.p = load_value _ _ (sym c.in-Ok.ensures.value) in
    let l = loads' in
    let args = c.args in let a = admitted _ _ l _ _ _ _ _ _ c.program-r.ensures.held in
    let w = room_answers args.image.now args.list.now _ l.accepts c.if-list-lt-MAX_COMMANDS.false in record { value = c.accepted.ensures ∙ approved_is _ _ l ∙ ap answer w.0; list_after = wrote _ _ l _ _ a args.list.now c.program.ensures ∙ w.1 }
