-- `begun` meets its contract: the program is prepared; the table is refused, there is no room, or the machine that the table begins with is seated, the
-- commands are written, and its run is played and reported.
use Rattle.std.proofs.Common.{ℕ, arith, ◌≡◌, refl, ◌∙◌, List, length, Ok}
use Rattle.std.proofs.lemmas.Result.{err_from_is_err_and}
use Rattle.std.proofs.lemmas.List.{length-replicate}
use Rattle.program.specs.Tree.{Program}
use Rattle.run.specs.Begin.{begin}
use Rattle.run.specs.Entry.{begun, with_table}
use Rattle.layout.specs.State.{state_of}
use Rattle.compile.specs.Spans.{span_places}
use Rattle.interpreter.specs.Ready.{Ready}
use Rattle.seating.specs.Seated.{Opens, Admits, SeatedTable}
use Rattle.seating.specs.AdmitLaws.{opens_admits}
use Rattle.seating.specs.SeatLaws.{opens_tabled, with_refused, with_begun}
use Rattle.run_images.specs.Stages.{Played}
use Rattle.run_images.specs.StageLaws.{Room, refused_answers, room_answers, room_open, came_answers}
use Rattle.run_images.specs.RunLaws.{opens_preparable, admitted_ready, seated_ready, seated_played}
use Rattle.run_images.specs.RunLaws.{played_filled, played_nulls, played_holders, played_turns, played_came}
use Rattle.run_images.proofs.begun.Goals as goal

pub parameters-p-requires : goal.parameters-p-requires
parameters-p-requires c = let o = c.requires.1 in (o.few, opens_tabled o)

pub program-requires : goal.program-requires
program-requires c =
    opens_preparable c.requires.1 _ _ (simp length-replicate (omega arith)) (simp length-replicate (omega arith))

pub seat_table-requires : goal.seat_table-requires
seat_table-requires c =
    record { heads_len = (simp length-replicate (omega arith), simp length-replicate (omega arith)); table_blocks_in_bounds = simp length-replicate (omega arith) }

pub returns-in_err-seat : goal.returns-in_err-seat
returns-in_err-seat c =
    let e = err_from_is_err_and c.from_residual.result c.from_residual.ensures.1 in
    rw (e.1, e.2)
    (λ p o. refused_answers
    (with_refused c.args.table.now p
    (c.in_err-seat.ensures c.args.s.now p (rw (c.parameters-p.ensures.0, c.parameters-p.ensures.1) (opens_admits o)))) refl)

-- The room that is lent ----------------------------------------------------------------------
pub returns-in_err-room : goal.returns-in_err-room
returns-in_err-room c =
    let OpensAt' : Program → Type 0 = λ p. Opens c.args.o.now c.args.s.now c.args.rows.now p in
    let counts_of' : List ℕ = c.parameters-p.result.counts.now in
    let admits' : (p : Program) (o : OpensAt' p) → Admits c.args.s.now counts_of' c.parameters-p.result.types.now c.args.o.now.loaded.at p = λ p o. rw (c.parameters-p.ensures.0, c.parameters-p.ensures.1) (opens_admits o) in
    let heads_of' : List ℕ = c.seat_table.new.heads in
    let cells_of' : List ℕ = c.seat_table.new.cells in
    let seated' : (p : Program) (o : OpensAt' p) → SeatedTable c.args.s.now counts_of' p c.args.table.now (Ok c.in_ok-seat.seat) heads_of' cells_of' = λ p o. c.in_ok-seat.ensures c.args.s.now p (admits' p o) in
    let begins' : (p : Program) (o : OpensAt' p) → with_table c.args.table.now p ≡ begun p (seated' p o).0 = λ p o. with_begun c.args.table.now p (seated' p o).1 in
    let e = err_from_is_err_and c.from_residual-in_err-room.result c.from_residual-in_err-room.ensures.1 in
    rw (e.1, e.2) (λ p o. room_answers c.in_err-room.ensures (begins' p o) refl refl)

-- the commands may be written
pub program-requires-2 : goal.program-requires-2
program-requires-2 c =
    let OpensAt' : Program → Type 0 = λ p. Opens c.args.o.now c.args.s.now c.args.rows.now p in
    let counts_of' : List ℕ = c.parameters-p.result.counts.now in
    let admits' : (p : Program) (o : OpensAt' p) → Admits c.args.s.now counts_of' c.parameters-p.result.types.now c.args.o.now.loaded.at p = λ p o. rw (c.parameters-p.ensures.0, c.parameters-p.ensures.1) (opens_admits o) in
    let heads_of' : List ℕ = c.seat_table.new.heads in
    let cells_of' : List ℕ = c.seat_table.new.cells in
    let seated' : (p : Program) (o : OpensAt' p) → SeatedTable c.args.s.now counts_of' p c.args.table.now (Ok c.in_ok-seat.seat) heads_of' cells_of' = λ p o. c.in_ok-seat.ensures c.args.s.now p (admits' p o) in
    let opened' : OpensAt' c.requires.0 = c.requires.1 in
    let enough' : Room c.args.turns.now c.args.output.now c.args.list.now = room_open c.in_ok-room.ensures refl in
    admitted_ready (seated' _ opened').2.admitted _ enough'.places

pub run-ran-requires : goal.run-ran-requires
run-ran-requires c =
    let OpensAt' : Program → Type 0 = λ p. Opens c.args.o.now c.args.s.now c.args.rows.now p in
    let spans_of' : List ℕ = c.program.new.spans in
    let items_of' : List ℕ = c.program.new.codes in
    let spans_long' : length spans_of' ≡ span_places = c.program.auto.spans ∙ simp length-replicate (omega arith) in
    let counts_of' : List ℕ = c.parameters-p.result.counts.now in
    let admits' : (p : Program) (o : OpensAt' p) → Admits c.args.s.now counts_of' c.parameters-p.result.types.now c.args.o.now.loaded.at p = λ p o. rw (c.parameters-p.ensures.0, c.parameters-p.ensures.1) (opens_admits o) in
    let heads_of' : List ℕ = c.seat_table.new.heads in
    let cells_of' : List ℕ = c.seat_table.new.cells in
    let seated' : (p : Program) (o : OpensAt' p) → SeatedTable c.args.s.now counts_of' p c.args.table.now (Ok c.in_ok-seat.seat) heads_of' cells_of' = λ p o. c.in_ok-seat.ensures c.args.s.now p (admits' p o) in
    let opened' : OpensAt' c.requires.0 = c.requires.1 in
    let list_of' : List ℕ = c.program-2.new.list in
    let ready' : (p : Program) (o : OpensAt' p) → Ready p counts_of' list_of' items_of' spans_of' (begin p (seated' p o).0) (state_of c.in_ok-seat.seat.numbers heads_of' cells_of') = λ p o. seated_ready (seated' p o).2 _ _ c.program.ensures c.program-2.ensures spans_long' in
    let o = opened' in record { program = _; machine = _; ready = ready' _ o }

pub slice_bounds-reported-end-3 : goal.slice_bounds-reported-end-3
slice_bounds-reported-end-3 c = omega (arith, c.seat_table.auto.buffer)

pub reported-report-requires : goal.reported-report-requires
reported-report-requires c =
    let OpensAt' : Program → Type 0 = λ p. Opens c.args.o.now c.args.s.now c.args.rows.now p in
    let spans_of' : List ℕ = c.program.new.spans in
    let items_of' : List ℕ = c.program.new.codes in
    let spans_long' : length spans_of' ≡ span_places = c.program.auto.spans ∙ simp length-replicate (omega arith) in
    let counts_of' : List ℕ = c.parameters-p.result.counts.now in
    let admits' : (p : Program) (o : OpensAt' p) → Admits c.args.s.now counts_of' c.parameters-p.result.types.now c.args.o.now.loaded.at p = λ p o. rw (c.parameters-p.ensures.0, c.parameters-p.ensures.1) (opens_admits o) in
    let heads_of' : List ℕ = c.seat_table.new.heads in
    let cells_of' : List ℕ = c.seat_table.new.cells in
    let seated' : (p : Program) (o : OpensAt' p) → SeatedTable c.args.s.now counts_of' p c.args.table.now (Ok c.in_ok-seat.seat) heads_of' cells_of' = λ p o. c.in_ok-seat.ensures c.args.s.now p (admits' p o) in
    let opened' : OpensAt' c.requires.0 = c.requires.1 in
    let enough' : Room c.args.turns.now c.args.output.now c.args.list.now = room_open c.in_ok-room.ensures refl in
    let list_of' : List ℕ = c.program-2.new.list in
    let ready' : (p : Program) (o : OpensAt' p) → Ready p counts_of' list_of' items_of' spans_of' (begin p (seated' p o).0) (state_of c.in_ok-seat.seat.numbers heads_of' cells_of') = λ p o. seated_ready (seated' p o).2 _ _ c.program.ensures c.program-2.ensures spans_long' in
    let plays' : (p : Program) (o : OpensAt' p) → Played counts_of' c.args.turns.now c.args.list.now p (begin p (seated' p o).0) c.run-ran.result.number c.run-ran.result.taken (state_of c.run-ran.result.machine.numbers c.run-ran.new.heads c.run-ran.new.cells) list_of' = λ p o. let w = seated' p o in seated_played w.2 _ _ c.program.ensures c.program-2.ensures (c.run-ran.ensures p (begin p w.0) (ready' p o)) in
    let o = opened' in let w = plays' _ o in
    let a = (admits' _ o).admitted in record { filled = played_filled a w; counts_len_bound = (played_nulls a w, omega (arith, played_turns a w, enough'.few), played_holders a w); table_blocks_in_bounds = (omega (arith, c.seat_table.auto.buffer), enough'.long) }

pub returns : goal.returns
returns c =
    let OpensAt' : Program → Type 0 = λ p. Opens c.args.o.now c.args.s.now c.args.rows.now p in
    let spans_of' : List ℕ = c.program.new.spans in
    let items_of' : List ℕ = c.program.new.codes in
    let spans_long' : length spans_of' ≡ span_places = c.program.auto.spans ∙ simp length-replicate (omega arith) in
    let counts_of' : List ℕ = c.parameters-p.result.counts.now in
    let admits' : (p : Program) (o : OpensAt' p) → Admits c.args.s.now counts_of' c.parameters-p.result.types.now c.args.o.now.loaded.at p = λ p o. rw (c.parameters-p.ensures.0, c.parameters-p.ensures.1) (opens_admits o) in
    let heads_of' : List ℕ = c.seat_table.new.heads in
    let cells_of' : List ℕ = c.seat_table.new.cells in
    let seated' : (p : Program) (o : OpensAt' p) → SeatedTable c.args.s.now counts_of' p c.args.table.now (Ok c.in_ok-seat.seat) heads_of' cells_of' = λ p o. c.in_ok-seat.ensures c.args.s.now p (admits' p o) in
    let begins' : (p : Program) (o : OpensAt' p) → with_table c.args.table.now p ≡ begun p (seated' p o).0 = λ p o. with_begun c.args.table.now p (seated' p o).1 in
    let enough' : Room c.args.turns.now c.args.output.now c.args.list.now = room_open c.in_ok-room.ensures refl in
    let list_of' : List ℕ = c.program-2.new.list in
    let ready' : (p : Program) (o : OpensAt' p) → Ready p counts_of' list_of' items_of' spans_of' (begin p (seated' p o).0) (state_of c.in_ok-seat.seat.numbers heads_of' cells_of') = λ p o. seated_ready (seated' p o).2 _ _ c.program.ensures c.program-2.ensures spans_long' in
    let plays' : (p : Program) (o : OpensAt' p) → Played counts_of' c.args.turns.now c.args.list.now p (begin p (seated' p o).0) c.run-ran.result.number c.run-ran.result.taken (state_of c.run-ran.result.machine.numbers c.run-ran.new.heads c.run-ran.new.cells) list_of' = λ p o. let w = seated' p o in seated_played w.2 _ _ c.program.ensures c.program-2.ensures (c.run-ran.ensures p (begin p w.0) (ready' p o)) in
    λ p o. let w = plays' p o in
    let came = played_came (admits' p o).admitted w o.deep _ _ c.reported-report.ensures.value c.reported-report.ensures.output_after in
    came_answers (begins' p o) enough' came w.listed
