-- `begun` meets its contract: the table is refused, there is no room, or what is asked is answered, and the commands are written where it is counted.
use Rattle.std.proofs.Common.{ℕ, ◌*◌, ◌≤◌, arith, ◌≡◌, refl, sym, subst, ◌∙◌, List, length, take, length-take-le, Ok}
use Rattle.std.proofs.lemmas.Result.{err_from_is_err_and}
use Rattle.count_images.specs.Laws.RefusalLaws.{number_above}
use Rattle.std.proofs.lemmas.List.{length-replicate}
use Rattle.types.specs.Limits.{max_params}
use Rattle.program.specs.Tree.{Program}
use Rattle.program.specs.Reader.{Result.ok}
use Rattle.commands.specs.Bounds.{arities}
use Rattle.emit.specs.Written.{structs_at}
use Rattle.load.specs.Load.{Admitted}
use Rattle.seating.specs.declared.Opened.{Opened}
use Rattle.run.specs.Begin.{begin}
use Rattle.run.specs.Entry.{begun, with_table}
use Rattle.seating.specs.Seated.{Opens, Admits, SeatedTable}
use Rattle.seating.specs.AdmitLaws.{opens_admits}
use Rattle.seating.specs.SeatLaws.{opens_tabled, admitted_counts, with_refused, with_begun}
use Rattle.table_read.specs.Laws.ReadStands.{image_right}
use Rattle.count_images.specs.Answers.{Subject}
use Rattle.run_images.specs.RunLaws.{admitted_ready, admitted_listed}
use Rattle.count_images.specs.declared.Asking.{Asking}
use Rattle.count_images.specs.Laws.AnswerLaws.{refused_answers, list_short, number_answers, listed_answers}
use Rattle.count_images.proofs.begun.Goals as goal

-- the seat has the place at which the program's steps begin
seated_planned : {o : Opened} {s rows counts : List ℕ} {p : Program} {at : ℕ} → Opens o s rows p → Admitted s counts at p
    → structs_at (arities p) s (length (arities p)) at ≡ ok p.steps o.loaded.plan
seated_planned {o = o} {at = at} w a =
    let e = sym w.admitted.place ∙ a.place in
    let same : o.loaded.at ≡ at = cc in
    rw (← same) w.planned

pub parameters-p-requires : goal.parameters-p-requires
parameters-p-requires c = let o = c.requires.1 in (o.few, opens_tabled o)

pub seat_table-requires : goal.seat_table-requires
seat_table-requires c =
    record { heads_len = (simp length-replicate (omega arith), simp length-replicate (omega arith)); table_blocks_in_bounds = simp length-replicate (omega arith) }

pub returns-in_err-seat : goal.returns-in_err-seat
returns-in_err-seat c =
    let e = err_from_is_err_and c.from_residual.result c.from_residual.ensures.1 in
    rw (e.1, e.2)
    (λ p o. refused_answers c.args.q c.args.list.now
    (with_refused c.args.table.now p
    (c.in_err-seat.ensures c.args.s.now p (rw (c.parameters-p.ensures.0, c.parameters-p.ensures.1) (opens_admits o)))) refl)

pub returns-then-list-lt-MAX_COMMANDS : goal.returns-then-list-lt-MAX_COMMANDS
returns-then-list-lt-MAX_COMMANDS c =
    let OpensAt' : Program → Type 0 = λ p. Opens c.args.o.now c.args.s.now c.args.rows.now p in
    let counts_of' : List ℕ = c.parameters-p.result.counts.now in
    let admits' : (p : Program) (o : OpensAt' p) → Admits c.args.s.now counts_of' c.parameters-p.result.types.now c.args.o.now.loaded.at p = λ p o. rw (c.parameters-p.ensures.0, c.parameters-p.ensures.1) (opens_admits o) in
    let heads_of' : List ℕ = c.seat_table.new.heads in
    let cells_of' : List ℕ = c.seat_table.new.cells in
    let seated' : (p : Program) (o : OpensAt' p) → SeatedTable c.args.s.now counts_of' p c.args.table.now (Ok c.in_ok-seat.seat) heads_of' cells_of' = λ p o. c.in_ok-seat.ensures c.args.s.now p (admits' p o) in
    let begins' : (p : Program) (o : OpensAt' p) → with_table c.args.table.now p ≡ begun p (seated' p o).0 = λ p o. with_begun c.args.table.now p (seated' p o).1 in
    let a = c.args in
    λ p o. list_short a.q a.list.now (begins' p o) c.if-list-lt-MAX_COMMANDS.true refl

pub answered-requires : goal.answered-requires
answered-requires c =
    let OpensAt' : Program → Type 0 = λ p. Opens c.args.o.now c.args.s.now c.args.rows.now p in
    let counts_of' : List ℕ = c.parameters-p.result.counts.now in
    let admits' : (p : Program) (o : OpensAt' p) → Admits c.args.s.now counts_of' c.parameters-p.result.types.now c.args.o.now.loaded.at p = λ p o. rw (c.parameters-p.ensures.0, c.parameters-p.ensures.1) (opens_admits o) in
    let types_of' : List ℕ = c.parameters-p.result.types.now in
    let heads_of' : List ℕ = c.seat_table.new.heads in
    let cells_of' : List ℕ = c.seat_table.new.cells in
    let seated' : (p : Program) (o : OpensAt' p) → SeatedTable c.args.s.now counts_of' p c.args.table.now (Ok c.in_ok-seat.seat) heads_of' cells_of' = λ p o. c.in_ok-seat.ensures c.args.s.now p (admits' p o) in
    let asking_of' : Asking = let a = c.args in record { seat = c.in_ok-seat.seat; question = a.q; plan = a.o.now.loaded.plan; steps = a.o.now.loaded.steps } in
    let subject' : (p : Program) (o : OpensAt' p) → Subject c.args.s.now counts_of' types_of' c.args.rows.now asking_of' heads_of' cells_of' p (seated' p o).0 = λ p o. let w = seated' p o in record { admits = record { admitted = w.2.admitted; typed = (admits' p o).typed }; planned = seated_planned o w.2.admitted; listed = o.listed; long = o.long; right = image_right p (admitted_counts (admits' p o).admitted) c.args.table.now w.0 w.1; seated = w.2 } in
    let o = c.requires.1 in (c.requires.0, (seated' _ o).0, subject' _ o)

pub returns-in_err-counts : goal.returns-in_err-counts
returns-in_err-counts c =
    let OpensAt' : Program → Type 0 = λ p. Opens c.args.o.now c.args.s.now c.args.rows.now p in
    let counts_of' : List ℕ = c.parameters-p.result.counts.now in
    let admits' : (p : Program) (o : OpensAt' p) → Admits c.args.s.now counts_of' c.parameters-p.result.types.now c.args.o.now.loaded.at p = λ p o. rw (c.parameters-p.ensures.0, c.parameters-p.ensures.1) (opens_admits o) in
    let types_of' : List ℕ = c.parameters-p.result.types.now in
    let heads_of' : List ℕ = c.seat_table.new.heads in
    let cells_of' : List ℕ = c.seat_table.new.cells in
    let seated' : (p : Program) (o : OpensAt' p) → SeatedTable c.args.s.now counts_of' p c.args.table.now (Ok c.in_ok-seat.seat) heads_of' cells_of' = λ p o. c.in_ok-seat.ensures c.args.s.now p (admits' p o) in
    let begins' : (p : Program) (o : OpensAt' p) → with_table c.args.table.now p ≡ begun p (seated' p o).0 = λ p o. with_begun c.args.table.now p (seated' p o).1 in
    let asking_of' : Asking = let a = c.args in record { seat = c.in_ok-seat.seat; question = a.q; plan = a.o.now.loaded.plan; steps = a.o.now.loaded.steps } in
    let subject' : (p : Program) (o : OpensAt' p) → Subject c.args.s.now counts_of' types_of' c.args.rows.now asking_of' heads_of' cells_of' p (seated' p o).0 = λ p o. let w = seated' p o in record { admits = record { admitted = w.2.admitted; typed = (admits' p o).typed }; planned = seated_planned o w.2.admitted; listed = o.listed; long = o.long; right = image_right p (admitted_counts (admits' p o).admitted) c.args.table.now w.0 w.1; seated = w.2 } in
    let a = c.args in
    let e = err_from_is_err_and c.from_residual-in_err-counts.result c.from_residual-in_err-counts.ensures.1 in
    rw (e.1, e.2)
    (λ p o. number_answers a.q a.list.now (begins' p o) c.if-list-lt-MAX_COMMANDS.false
    (c.in_err-counts.ensures.questioned p (seated' p o).0 (subject' p o)) (number_above _))

pub program-requires : goal.program-requires
program-requires c =
    let OpensAt' : Program → Type 0 = λ p. Opens c.args.o.now c.args.s.now c.args.rows.now p in
    let counts_of' : List ℕ = c.parameters-p.result.counts.now in
    let admits' : (p : Program) (o : OpensAt' p) → Admits c.args.s.now counts_of' c.parameters-p.result.types.now c.args.o.now.loaded.at p = λ p o. rw (c.parameters-p.ensures.0, c.parameters-p.ensures.1) (opens_admits o) in
    let heads_of' : List ℕ = c.seat_table.new.heads in
    let cells_of' : List ℕ = c.seat_table.new.cells in
    let seated' : (p : Program) (o : OpensAt' p) → SeatedTable c.args.s.now counts_of' p c.args.table.now (Ok c.in_ok-seat.seat) heads_of' cells_of' = λ p o. c.in_ok-seat.ensures c.args.s.now p (admits' p o) in
    let o = c.requires.1 in
    admitted_ready (seated' _ o).2.admitted _ c.if-list-lt-MAX_COMMANDS.false

pub returns : goal.returns
returns c =
    let OpensAt' : Program → Type 0 = λ p. Opens c.args.o.now c.args.s.now c.args.rows.now p in
    let counts_of' : List ℕ = c.parameters-p.result.counts.now in
    let admits' : (p : Program) (o : OpensAt' p) → Admits c.args.s.now counts_of' c.parameters-p.result.types.now c.args.o.now.loaded.at p = λ p o. rw (c.parameters-p.ensures.0, c.parameters-p.ensures.1) (opens_admits o) in
    let types_of' : List ℕ = c.parameters-p.result.types.now in
    let heads_of' : List ℕ = c.seat_table.new.heads in
    let cells_of' : List ℕ = c.seat_table.new.cells in
    let seated' : (p : Program) (o : OpensAt' p) → SeatedTable c.args.s.now counts_of' p c.args.table.now (Ok c.in_ok-seat.seat) heads_of' cells_of' = λ p o. c.in_ok-seat.ensures c.args.s.now p (admits' p o) in
    let begins' : (p : Program) (o : OpensAt' p) → with_table c.args.table.now p ≡ begun p (seated' p o).0 = λ p o. with_begun c.args.table.now p (seated' p o).1 in
    let asking_of' : Asking = let a = c.args in record { seat = c.in_ok-seat.seat; question = a.q; plan = a.o.now.loaded.plan; steps = a.o.now.loaded.steps } in
    let subject' : (p : Program) (o : OpensAt' p) → Subject c.args.s.now counts_of' types_of' c.args.rows.now asking_of' heads_of' cells_of' p (seated' p o).0 = λ p o. let w = seated' p o in record { admits = record { admitted = w.2.admitted; typed = (admits' p o).typed }; planned = seated_planned o w.2.admitted; listed = o.listed; long = o.long; right = image_right p (admitted_counts (admits' p o).admitted) c.args.table.now w.0 w.1; seated = w.2 } in
    let a = c.args in
    λ p o. listed_answers a.q a.list.now (begins' p o) c.if-list-lt-MAX_COMMANDS.false (c.in_ok-counts.ensures.questioned p (seated' p o).0 (subject' p o)) c.in_ok-counts.ensures.counted
    (admitted_listed (seated' p o).2.admitted a.list.now c.program.ensures)
