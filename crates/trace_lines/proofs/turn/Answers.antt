-- `turn` meets its contract: the command is the machine's, and its bytes are the line of it.
use Rattle.std.proofs.Common.{arith, ◌≡◌}
use Rattle.layout.specs.Layout.{head, struct_of, next_of}
use Rattle.trace_lines.specs.PartsLaws.{fit_rows}
use Rattle.trace_lines.specs.TellLaws.{turnable_rows, turnable_few, turnable_fit, turnable_fits, turnable_row, turnable_spans, picked_refused}
use Rattle.trace_lines.specs.TellLaws.{picked_back, picked_told}
use Rattle.trace_lines.proofs.turn.Goals as goal

pub picked_of-l-requires : goal.picked_of-l-requires
picked_of-l-requires c =
    let t = c.requires.turnable in
    (turnable_rows t, turnable_few t, t.begun.ready.kept, t.held)

pub target-w-requires : goal.target-w-requires
target-w-requires c = turnable_fits c.requires.turnable c.args.turn.byte c.picked_of-l.ensures

pub overflow_mul-at : goal.overflow_mul-at
overflow_mul-at c = omega (arith, fit_rows (turnable_fits c.requires.turnable c.args.turn.byte c.picked_of-l.ensures))

pub overflow_add-next : goal.overflow_add-next
overflow_add-next c = omega (arith, fit_rows (turnable_fits c.requires.turnable c.args.turn.byte c.picked_of-l.ensures))

pub offset_bounds-heads-at : goal.offset_bounds-heads-at
offset_bounds-heads-at c = omega (arith, fit_rows (turnable_fits c.requires.turnable c.args.turn.byte c.picked_of-l.ensures))

pub bounds-heads-at : goal.bounds-heads-at
bounds-heads-at c = omega (arith, fit_rows (turnable_fits c.requires.turnable c.args.turn.byte c.picked_of-l.ensures))

pub overflow_cast-next : goal.overflow_cast-next
overflow_cast-next c = let l = c.picked_of-l.result in omega (arith, c.type_inv.heads (head l next_of))

pub overflow_add-f : goal.overflow_add-f
overflow_add-f c = omega (arith, fit_rows (turnable_fits c.requires.turnable c.args.turn.byte c.picked_of-l.ensures))

pub offset_bounds-heads-at-2 : goal.offset_bounds-heads-at-2
offset_bounds-heads-at-2 c = omega (arith, fit_rows (turnable_fits c.requires.turnable c.args.turn.byte c.picked_of-l.ensures))

pub bounds-heads-at-2 : goal.bounds-heads-at-2
bounds-heads-at-2 c = omega (arith, fit_rows (turnable_fits c.requires.turnable c.args.turn.byte c.picked_of-l.ensures))

pub position-requires : goal.position-requires
position-requires c =
    record { spans_size_in_bounds = (turnable_spans c.requires.turnable c.args.turn.byte c.picked_of-l.ensures, omega (arith, fit_rows (turnable_fits c.requires.turnable c.args.turn.byte c.picked_of-l.ensures))); struct_of_bound = (turnable_row c.requires.turnable c.args.turn.byte c.picked_of-l.ensures, c.requires.turnable.named) }

pub offset_bounds-list-next : goal.offset_bounds-list-next
offset_bounds-list-next c = omega (arith, fit_rows (turnable_fits c.requires.turnable c.args.turn.byte c.picked_of-l.ensures))

pub bounds-list-next : goal.bounds-list-next
bounds-list-next c = omega (arith, fit_rows (turnable_fits c.requires.turnable c.args.turn.byte c.picked_of-l.ensures))

pub command-behind-requires : goal.command-behind-requires
command-behind-requires c =
    record { fit = turnable_fit c.requires.turnable c.args.turn.byte c.picked_of-l.ensures; holding_nonzero = c.requires.turnable.held }

pub returns-then-after-ne0 : goal.returns-then-after-ne0
returns-then-after-ne0 c =
    record { cells_after = rw (← c.picked_of-l.ensures) c.command-behind.ensures; turn_told = λ p items m r. picked_refused r c.requires.turnable.held c.args.turn.byte c.picked_of-l.ensures c.command-behind.ensures c.args.turn.step c.args.turn.taken c.if-after-ne0.true; length_le_line_most = omega arith }

pub back-n-requires : goal.back-n-requires
back-n-requires c =
    record { back_fits = rw c.target-w.ensures (picked_back c.requires.turnable.begun.ready c.requires.turnable.held c.args.turn.byte c.picked_of-l.ensures c.command-behind.ensures c.if-after-ne0.false c.requires.turnable.few); back_most_in_bounds = omega (arith, c.front-k.ensures.upper_bound, c.front-k.auto.out, c.requires.line_most_in_bounds) }

pub returns : goal.returns
returns c =
    record { cells_after = rw (← c.picked_of-l.ensures) c.command-behind.ensures; turn_told = λ p items m r. picked_told r c.requires.turnable.held c.args.turn.byte c.picked_of-l.ensures c.command-behind.ensures c.args.turn.step c.args.turn.taken c.requires.turnable.named c.if-after-ne0.false c.target-w.ensures c.position.ensures c.front-k.ensures.placed c.back-n.ensures.placed (omega (arith, c.front-k.ensures.upper_bound, c.back-n.ensures.upper_bound, c.requires.line_most_in_bounds)); length_le_line_most = omega (arith, c.front-k.ensures.upper_bound, c.back-n.ensures.upper_bound) }
