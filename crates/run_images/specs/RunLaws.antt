-- A seated machine's run: its program was prepared before, its commands are written, memory is ready for it, and what it comes to is answered (01,
-- 'Table and turns', 'Numbers from the state').
use Rattle.std.specs.Prelude.{ℕ, suc, ◌*◌, ◌≤◌, ◌≡◌, List, map, length, drop}
use Rattle.std.proofs.Common.{arith, ap, ◌∙◌, length-take-le}
use Rattle.std.proofs.lemmas.List.{length-map}
use Rattle.types.specs.Limits.{max_commands, max_instances, schedule_items}
use Rattle.program.specs.Tree.{Program}
use Rattle.commands.specs.Bounds.{program_size, program_depth, Within}
use Rattle.commands.specs.Accepted.{Accepted}
use Rattle.commands.proofs.Laws.NumbersLaws.{number_accepts}
use Rattle.verdict.specs.Verdict.{listed}
use Rattle.commands.specs.ProgramWords.{structs_words, program_words}
use Rattle.emit.specs.Written.{Ready as Writable, structs_at}
use Rattle.emit_steps.specs.Emitted.{EmittedProgram}
use Rattle.emit_steps.specs.ProgramLaws.{program_ready}
use Rattle.machine.specs.Machine.{Machine}
use Rattle.run.proofs.Laws.RunAgreesVisits.{run_turns}
use Rattle.run.specs.Entry.{report, report_of, output_of, last_stream}
use Rattle.sound.proofs.Laws.AcceptedLaws.{accepted_firm}
use Rattle.layout.specs.State.{State, state_of}
use Rattle.memory.specs.Plan.{At}
use Rattle.memory.proofs.Laws.ChooseStands.{holding_few}
use Rattle.memory.proofs.Laws.BoundedLaws.{accepted_bounded}
use Rattle.load.specs.Load.{Admitted}
use Rattle.compile.specs.Spans.{span_places}
use Rattle.compile.specs.Prepared.{Preparable, Prepared, PreparedProgram}
use Rattle.table_write.specs.Written.{memory_stream, memory_blocks, memory_image, Filled}
use Rattle.table_write.specs.WriteStands.{null_ones, filled, stream_stands}
use Rattle.interpreter.specs.Ready.{Ready}
use Rattle.interpreter.specs.Laws.TurnLaws.{held_count}
use Rattle.interpreter.specs.Running.{cleared, Ended}
use Rattle.run_images.specs.declared.Report.{Report}
use Rattle.seating.specs.declared.Opened.{Opened}
use Rattle.seating.specs.declared.Seat.{Seat}
use Rattle.seating.specs.Seated.{Opens, Seated}
use Rattle.seating.specs.SeatLaws.{admitted_counts}
use Rattle.run_images.specs.Answer.{answer}
use Rattle.run_images.specs.Stages.{Played, Came}

-- The program ----------------------------------------------------------------------------

module _ {s counts : List ℕ} {at : ℕ} {p : Program} (a : Admitted s counts at p) where
  admitted_accepted : Accepted p
  admitted_accepted = (number_accepts p (admitted_counts a)).0 a.numbered

  admitted_size : program_size p ≤ max_commands
  unfolding Within
  admitted_size = admitted_accepted.1.1

  -- its commands may be written, and then the list is the program's
  pub admitted_ready : (list : List ℕ) → max_commands ≤ length list → Writable structs_words (structs_at counts s (length counts) at) list 0
  admitted_ready list h =
      program_ready counts s at p a.end a.reads a.counted a.place list admitted_size (omega (arith, admitted_size))

  pub admitted_listed : (list : List ℕ) {list' : List ℕ} → EmittedProgram counts s at list list' → list' ≡ listed p list
  unfolding listed
  admitted_listed list w = w p a.end a.reads a.counted a.place

-- a program that is opened may be prepared before a machine is seated
pub opens_preparable : {o : Opened} {s rows : List ℕ} {p : Program} → Opens o s rows p → (spans codes : List ℕ) → length spans ≡ span_places
    → suc (2 * schedule_items) ≤ length codes → Preparable s o.loaded.plan o.loaded.structs rows o.loaded.steps spans codes
opens_preparable {o} {p = p} w spans codes long wide =
    let n = length-take-le o.loaded.structs o.counts (omega (arith, w.few, w.wide.0)) in record {
      program = p;
      end = w.admitted.end;
      reads = w.admitted.reads;
      behind = record { first = o.loaded.at; params = w.admitted.place; steps = w.planned };
      counted = omega (arith, n, ap length w.admitted.counted, length-map p.params length);
      listed = w.listed;
      within = (admitted_accepted w.admitted).1;
      rows_long = w.long;
      spans_long = long;
      codes_long = wide;
    }

-- A machine that is seated -----------------------------------------------------------------

module _ {s counts : List ℕ} {seat : Seat} {heads cells : List ℕ} {p : Program} {m : Machine} (w : Seated s counts seat heads cells p m)
    (list codes : List ℕ) {list' spans' codes' : List ℕ} (d : PreparedProgram s spans' codes codes') (e : EmittedProgram counts s seat.at list list') where
  prepared : Prepared p spans' codes codes'
  prepared = d p w.admitted.end w.admitted.reads

  -- the commands stand in the list
  seated_listed : list' ≡ listed p list
  seated_listed = admitted_listed w.admitted list e

  -- memory is ready for the machine
  pub seated_ready : length spans' ≡ span_places → Ready p counts list' codes' spans' m (state_of seat.numbers heads cells)
  unfolding listed
  seated_ready long = record {
    prepared = record {
      firm = accepted_firm (admitted_accepted w.admitted);
      bounded = rw w.admitted.counted (accepted_bounded (admitted_accepted w.admitted));
      located = rw seated_listed (prepared.located (drop (length (program_words p)) list));
      spanned = omega arith;
    };
    good = w.good;
    tabled = w.tabled;
    stands = rw seated_listed (w.stands list codes' prepared.laid.start);
    kept = w.kept;
    counting = w.counting;
  }

  -- what it comes to is played
  pub seated_played : {es : List ℕ} {number taken : ℕ} {z : State} → Ended p counts list' codes' spans' m es number taken z
      → Played counts es list p m number taken z list'
  seated_played e = record { items = codes'; spans = spans'; ended = e; listed = seated_listed }

-- The end of the run -----------------------------------------------------------------------

module _ {s counts : List ℕ} {at : ℕ} {p : Program} (a : Admitted s counts at p) {m : Machine} {es list list' : List ℕ} {number taken : ℕ} {z : State}
    (d : Played counts es list p m number taken z list') where
  abbrev last : Machine
  last = d.ended.last

  same : counts ≡ map length p.params
  same = a.counted

  -- memory may be written as a table
  pub played_filled : Filled counts z.heads z.cells z.machine.count
  played_filled =
      let e = d.ended in
      rw same (filled p (admitted_counts a) list' (At d.items) last (cleared z) e.ready.stands e.ready.good.all e.ready.tabled)

  pub played_nulls : length counts ≤ z.machine.count
  played_nulls =
      let e = d.ended in
      rw same (null_ones p (admitted_counts a) list' (At d.items) last (cleared z) e.ready.stands e.ready.good.all e.ready.tabled)

  last_is : memory_stream counts z.heads z.cells z.machine.count ≡ last_stream p last
  last_is =
      let e = d.ended in
      ap (λ (cs : List ℕ). memory_stream cs z.heads z.cells z.machine.count) same
      ∙ stream_stands p (admitted_counts a) list' (At d.items) last (cleared z) e.ready.stands e.ready.good.all e.ready.tabled

  -- so are the holders
  pub played_holders : z.machine.holding ≤ max_instances
  played_holders =
      let e = d.ended in
      let a = holding_few z.heads 0 z.machine.count in
      let b = e.ready.stands.few in
      omega (arith, e.ready.kept)

  -- turns are few
  pub played_turns : taken ≤ length es
  played_turns = run_turns p m es d.ended.returns

  -- number and turns, the blocks of the last table, the program's depth and the holders are what the run comes to
  pub played_came : {out : List ℕ} {depth : ℕ} → depth ≡ program_depth p → (r : Report) (out' : List ℕ)
      → r ≡ answer (report number taken (memory_blocks counts z.heads z.cells z.machine.count) depth z.machine.holding)
      → out' ≡ memory_image counts z.heads z.cells z.machine.count out → Came p m es out r out'
  unfolding report_of output_of
  played_came {out} {depth} deep r out' e f = record {
    reported = rw (d.ended.returns, report_of, ← deep, ← last_is, ← held_count d.ended.ready) e;
    written = rw (d.ended.returns, output_of, ← last_is) f;
  }
