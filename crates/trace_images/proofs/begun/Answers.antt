-- `begun` meets its contract: the table is refused, there are too many turns, or the machine that the table begins with is seated and its run is told.
use Rattle.std.proofs.Common.{ℕ, arith, ◌≡◌, ◌∙◌, List, take, Ok}
use Rattle.std.proofs.lemmas.List.{length-replicate}
use Rattle.program.specs.Tree.{Program}
use Rattle.run.specs.Begin.{begin}
use Rattle.run.specs.Entry.{begun, with_table}
use Rattle.seating.specs.Seated.{Opens, SeatedTable}
use Rattle.seating.specs.AdmitLaws.{opens_admits}
use Rattle.seating.specs.SeatLaws.{opens_tabled, with_refused, with_begun}
use Rattle.trace_images.specs.AnswerLaws.{refused_answers, many_answers, run_answers}
use Rattle.trace_images.proofs.begun.Goals as goal

pub parameters-p-requires : goal.parameters-p-requires
parameters-p-requires c = let o = c.requires.1 in (o.few, opens_tabled o)

pub seated-requires : goal.seated-requires
seated-requires c = record { heads_len = (simp length-replicate (omega arith), simp length-replicate (omega arith)) }

pub returns-in-Err : goal.returns-in-Err
returns-in-Err c =
    λ x p o w.
    refused_answers x c.args.table.now c.args.turns.now
    (w ∙ with_refused c.args.table.now p
    (c.in-Err.ensures c.args.s.now p (rw (c.parameters-p.ensures.0, c.parameters-p.ensures.1) (opens_admits o))))
    (rw c.from.ensures at c.refused.ensures)

-- The turns --------------------------------------------------------------------------------
pub returns-then-turns-gt-MAX_TURNS : goal.returns-then-turns-gt-MAX_TURNS
returns-then-turns-gt-MAX_TURNS c =
    let OpensAt' : Program → Type 0 = λ p. Opens c.args.o.now c.args.s.now c.args.rows.now p in
    let counts_of' : List ℕ = take c.args.o.now.loaded.structs c.args.o.now.counts in
    let heads_of' : List ℕ = c.seated.new.heads in
    let cells_of' : List ℕ = c.seated.new.cells in
    let seated' : (p : Program) (o : OpensAt' p) → SeatedTable c.args.s.now counts_of' p c.args.table.now (Ok c.in-Ok.seat) heads_of' cells_of' = λ p o. rw c.parameters-p.ensures.0 at (c.in-Ok.ensures c.args.s.now p (rw (c.parameters-p.ensures.0, c.parameters-p.ensures.1) (opens_admits o))) in
    let begins' : (p : Program) (o : OpensAt' p) → with_table c.args.table.now p ≡ begun p (seated' p o).0 = λ p o. with_begun c.args.table.now p (seated' p o).1 in
    let a = c.args in
    λ x p o w.
    many_answers x a.table.now a.turns.now (w ∙ begins' p o) c.if-turns-gt-MAX_TURNS.true
    (rw c.from-then-turns-gt-MAX_TURNS.ensures at c.refused-then-turns-gt-MAX_TURNS.ensures)

-- The run ----------------------------------------------------------------------------------
pub play-r-requires : goal.play-r-requires
play-r-requires c =
    let OpensAt' : Program → Type 0 = λ p. Opens c.args.o.now c.args.s.now c.args.rows.now p in
    let counts_of' : List ℕ = take c.args.o.now.loaded.structs c.args.o.now.counts in
    let heads_of' : List ℕ = c.seated.new.heads in
    let cells_of' : List ℕ = c.seated.new.cells in
    let seated' : (p : Program) (o : OpensAt' p) → SeatedTable c.args.s.now counts_of' p c.args.table.now (Ok c.in-Ok.seat) heads_of' cells_of' = λ p o. rw c.parameters-p.ensures.0 at (c.in-Ok.ensures c.args.s.now p (rw (c.parameters-p.ensures.0, c.parameters-p.ensures.1) (opens_admits o))) in
    let w = seated' c.requires.0 c.requires.1 in
    record { starting = (c.requires.0, begin c.requires.0 w.0, record { opens = c.requires.1; seated = w.2 }); turns_len_bound = c.if-turns-gt-MAX_TURNS.false }

pub returns : goal.returns
returns c =
    let OpensAt' : Program → Type 0 = λ p. Opens c.args.o.now c.args.s.now c.args.rows.now p in
    let counts_of' : List ℕ = take c.args.o.now.loaded.structs c.args.o.now.counts in
    let heads_of' : List ℕ = c.seated.new.heads in
    let cells_of' : List ℕ = c.seated.new.cells in
    let seated' : (p : Program) (o : OpensAt' p) → SeatedTable c.args.s.now counts_of' p c.args.table.now (Ok c.in-Ok.seat) heads_of' cells_of' = λ p o. rw c.parameters-p.ensures.0 at (c.in-Ok.ensures c.args.s.now p (rw (c.parameters-p.ensures.0, c.parameters-p.ensures.1) (opens_admits o))) in
    let begins' : (p : Program) (o : OpensAt' p) → with_table c.args.table.now p ≡ begun p (seated' p o).0 = λ p o. with_begun c.args.table.now p (seated' p o).1 in
    let a = c.args in let plays = c.play-r.ensures in
    λ x p o w.
    let (rs, t, z) = seated' p o in let ran = plays.ran p (begin p rs) (record { opens = o; seated = z }) in
    run_answers x a.table.now a.turns.now (w ∙ begins' p o) c.if-turns-gt-MAX_TURNS.false ran.returns
    (rw plays.begins at (c.ended.ensures _ _ ran.paged))
