-- A step started on the memory of a table that is seated (02 §14): memory holds the machine that is counted from.
use Prim.Native.Nat.{ℕ, zero, suc, ◌+◌, ◌-◌, ◌*◌, ◌<◌, ◌≤◌}
use native.Mathlib.Omega.{arith}
use Rattle.std.proofs.Math.Path.{◌≡◌, refl, sym, ap, subst}
use Rattle.std.proofs.Common.{ap₂, ◌∙◌}
use Rattle.std.specs.Prelude.{Bool, drop}
use Rattle.std.proofs.Math.Bool.{true, false}
use Rattle.std.proofs.Math.Option.{Option, none, some}
use mathlib.Core.List.{List, [], ◌∷◌, ◌++◌, map}
use Rattle.std.proofs.Math.ListN.{length, get_or, get_elem?, replicate, length-map}
use Rattle.std.proofs.lemmas.List.{length-replicate}
use Rattle.std.proofs.Math.Seq.{get_or-append-add}
use Rattle.std.proofs.Math.Dec.{leb}
use borrow.Author.Tests.{leb-true, leb-false}
use Rattle.types.specs.Limits.{max_params, max_commands, max_structs, max_instances, step_names}
use Rattle.types.specs.Types.{Ty, Ty.bool}
use Rattle.program.specs.Tree.{Stmts, Program}
use Rattle.program.specs.Counts.{Counts}
use Rattle.commands.specs.Accepted.{Accepted}
use Rattle.commands.specs.Bounds.{arities, Within}
use Rattle.commands.specs.Context.{params_of}
use Rattle.commands.specs.Names.{Had}
use Rattle.commands.specs.Decide.NamesDecide.{stepped}
use Rattle.commands.proofs.Laws.NumbersLaws.{number_accepts}
use Rattle.commands.specs.ProgramWords.{program_words}
use Rattle.verdict.specs.Verdict.{listed}
use Rattle.table.specs.Table.{Record, struct_at}
use Rattle.machine.specs.Published.{StepCall.global, called, Sched, Sched.done, Sched.start, of_item, of_items, structs}
use Rattle.machine.specs.Machine.{Instance, Machine, Moved, Moved.next, Moved.stuck, move, given, started}
use Rattle.run.specs.Begin.{first_instances, begin}
use Rattle.sound.specs.Invariant.{Open, Open.open_done, Open.open_start}
use Rattle.sound.proofs.Laws.ElemLaws.{at_map}
use Rattle.orders.specs.StepAnswer.{alone, step_machine}
use Rattle.orders.proofs.Laws.AloneLaws.{alone_accepted}
use Rattle.orders.proofs.Laws.StepAnswerLaws.{begin_moves, alone_firm, step_good}
use Rattle.layout.specs.Layout.{head, head_size, struct_of}
use Rattle.layout.specs.Codes.{end_code}
use Rattle.layout.specs.State.{State, state_of, set_holding}
use Rattle.memory.specs.Choose.{holding}
use Rattle.memory.specs.Frame.{Bounded}
use Rattle.memory.specs.Move.{begin_all, do_start, move as move_on}
use Rattle.memory.specs.Plan.{At, At.at_end, At.at_start, Located}
use Rattle.memory.specs.Stands.{Stands}
use Rattle.memory.proofs.Laws.BoundedLaws.{accepted_bounded}
use Rattle.memory.proofs.Laws.MoveLaws.{move_start}
use Rattle.memory.proofs.Laws.MoveStands.{Follows, moves}
use Rattle.scheduler.specs.Ready.{Rows}
use Rattle.compile.specs.Prepared.{Prepared}
use Rattle.compile.specs.Spans.{span_places}
use Rattle.table_read.specs.Params.{types_from}
use Rattle.table_read.specs.ProgramTables.{params_back}
use Rattle.table_read.specs.Laws.ParamsLaws.{list_is}
use Rattle.table_read.specs.Laws.LaidLaws.{at_place}
use Rattle.table_read.specs.Laws.BeginStands.{few_all}
use Rattle.seating.specs.SeatLaws.{admitted_counts, admitted_tables}
use Rattle.counts.specs.CountEntry.{most_counted, type_in, type_at, started_commands, count_machine}
use Rattle.counts.proofs.Laws.CountLaws.{started_codes}
use Rattle.counting.specs.declared.count.Asked.{Asked}
use Rattle.counting.specs.Counting.{commands_in, AnyPlace, Truth, Stood, Countable}
use Rattle.counting.specs.Laws.CommandLaws.{commands_same}
use Rattle.run_images.specs.RunLaws.{admitted_ready, admitted_listed}
use Rattle.count_images.specs.declared.Asking.{Asking}
use Rattle.count_images.specs.Asking.{Compilable, Compiled, Askable, has_step, param_number, place_number}
use Rattle.count_images.specs.Answers.{Subject}
use Rattle.count_images.specs.Laws.AskingLaws.{step_had, place_told, param_told, struct_there, struct_absent}

started_struct : (p : Program) (n : ℕ) (i : Instance) → (started p (global n) i).struct ≡ i.struct
unfolding started given
started_struct p n i = go (called p (global n) i.struct)
  where
    go : (o : Option Stmts) → (given p o i).struct ≡ i.struct
    go none = refl
    go (some b) = refl

module _ {s counts types dir : List ℕ} {ask : Asking} {heads cells : List ℕ} {p : Program} {rs : List Record}
    (u : Subject s counts types dir ask heads cells p rs) where
  pub accepted : Accepted p
  accepted = (number_accepts p (admitted_counts u.admits.admitted)).0 u.admits.admitted.numbered

  counts_are : counts ≡ map length p.params
  counts_are = u.admits.admitted.counted

  -- its steps and its schedule may be noted, and its commands written
  pub compilable : (list spans : List ℕ) → max_commands ≤ length list → length spans ≡ span_places → Compilable s counts dir ask list spans
  compilable list spans h b = record {
    noted = λ codes c. record {
      program = p;
      end = u.admits.admitted.end;
      reads = u.admits.admitted.reads;
      behind = record { first = ask.seat.at; params = u.admits.admitted.place; steps = u.planned };
      counted = ap length counts_are ∙ length-map p.params length;
      listed = u.listed;
      within = accepted.1;
      rows_long = u.long;
      spans_long = b;
      codes_long = c;
    };
    written = admitted_ready u.admits.admitted list h;
  }

  abbrev pub memory : State
  memory = state_of ask.seat.numbers heads cells

  module _ {list list' spans : List ℕ} (room : max_commands ≤ length list) (c : Compiled s counts ask.seat.at list list' spans) where
    prepared : Prepared p spans c.room c.codes
    prepared = c.noted p u.admits.admitted.end u.admits.admitted.reads

    -- the commands are in the list
    pub compiled_listed : list' ≡ listed p list
    compiled_listed = admitted_listed u.admits.admitted list c.emitted

    located : Located p list' spans
    unfolding listed
    located = rw compiled_listed (prepared.located (drop (length (program_words p)) list))

    stands : Stands list' (At c.codes) (begin p rs) memory
    stands = rw compiled_listed (u.seated.stands list c.codes prepared.laid.start)

    many : ask.seat.numbers.count ≡ length (first_instances p rs)
    unfolding begin
    many = stands.counted

    known : (l : ℕ) (i : Instance) → get_elem? (first_instances p rs) l ≡ some i → i.struct < structs p
    unfolding begin
    known l i g = (u.seated.tabled.each l i g).0

    -- the step is there exactly where a struct has it
    pub has_is : (n : ℕ) → n < step_names → has_step spans n 0 (length counts) ≡ stepped n p.steps
    has_is n h =
        let b = accepted_bounded accepted in
        ap (has_step spans n 0) (ap length counts_are ∙ length-map p.params length) ∙ step_had p list' spans (located) b.steps n h

    pub askable : Askable heads counts types ask.seat.numbers.count
    unfolding begin
    askable = record {
      tables = admitted_tables u.admits;
      long = let a = stands.heads_long in let b = stands.few in omega (arith, a, b);
      known = λ l h.
          let (i, g) = at_place (first_instances p rs) l (omega (arith, h, many)) in
          let k = known l i g in
          let e = (stands.each l i g).struct in
          let n : length counts ≡ structs p = ap length counts_are ∙ length-map p.params length in
          omega (arith, k, e, n);
    }

    -- the parameters of a struct
    params_are : (k : ℕ) → params_of p k ≡ types_from types (max_params * k) (get_or counts k 0)
    params_are k =
        ap (λ l. get_or l k []) (sym (params_back p.params (few_all p (admitted_counts u.admits.admitted)))) ∙ list_is (map length p.params) _ k
        ∙ rw (u.admits.typed, counts_are)

    -- 21, 8 or 0 is what the program and the table say
    pub place_is : (l v : ℕ) → place_number heads counts types ask.seat.numbers.count l v ≡ place_told (type_at p rs l v)
    unfolding place_number place_told type_in begin
    place_is l v = go (leb ask.seat.numbers.count l) refl
      where
        go : (b : Bool) → leb ask.seat.numbers.count l ≡ b → place_number heads counts types ask.seat.numbers.count l v ≡ place_told (type_at p rs l v)
        go true e =
            let h = leb-true ask.seat.numbers.count l e in
            rw (place_number, e) (sym (ap (λ o. place_told (type_in p v o)) (struct_absent p rs l (omega (arith, h, many)))))
        go false e =
            let h = leb-false ask.seat.numbers.count l e in
            let (i, g) = at_place (first_instances p rs) l (omega (arith, h, many)) in
            let k = (stands.each l i g).struct in
            rw (place_number, e)
            (ap (λ x. param_number counts types x v) k ∙ param_told counts types i.struct v ∙ ap (λ ts. place_told (get_elem? ts v)) (sym (params_are i.struct))
            ∙ sym (ap (λ o. place_told (type_in p v o)) (struct_there p rs l g)))

    pub few_instances : ask.seat.numbers.count ≤ max_instances
    few_instances = stands.few

    pub rows : Rows heads ask.seat.numbers.count
    rows = record {
      long = askable.long;
      known = λ l h. let k = askable.known l h in let n = askable.tables.few in omega (arith, k, n);
    }

    -- The started step -----------------------------------------------------------------------

    module _ (n : ℕ) (low : n < step_names) (had : Had n p.steps) where
      -- a schedule with that call alone, at the machine's place
      items : List ℕ
      items = replicate ask.seat.numbers.place 0 ++ n ∷ end_code ∷ []

      item_at : (k : ℕ) → get_or items (ask.seat.numbers.place + k) 0 ≡ get_or (n ∷ end_code ∷ []) k 0
      unfolding items
      item_at k =
          let zeros : List ℕ = replicate ask.seat.numbers.place 0 in
          let e : length zeros + k ≡ ask.seat.numbers.place + k = ap (λ x. x + k) (length-replicate ask.seat.numbers.place 0) in
          ap (λ x. get_or (zeros ++ n ∷ end_code ∷ []) x 0) (sym e) ∙ get_or-append-add zeros (n ∷ end_code ∷ []) k 0

      placed : At items ask.seat.numbers.place (start (global n) done)
      placed =
          let a : ask.seat.numbers.place + 0 ≡ ask.seat.numbers.place = omega arith in
          let b : ask.seat.numbers.place + 1 ≡ suc ask.seat.numbers.place = omega arith in
          at_start low (ap (λ x. get_or items x 0) (sym a) ∙ item_at 0) (at_end (ap (λ x. get_or items x 0) (sym b) ∙ item_at 1))

      first : Stands list' (At items) (begin (alone p n) rs) memory
      unfolding begin of_item of_items first_instances
      first = record {
        heads_long = stands.heads_long;
        cells_long = stands.cells_long;
        counted = stands.counted;
        few = stands.few;
        each = stands.each;
        opened = stands.opened;
        entries = stands.entries;
        scheduled = placed;
        clear = stands.clear;
      }

      moved : Stands list' (At items) (count_machine p rs n) (do_start spans n memory)
      unfolding begin of_item of_items first_instances
      moved =
          let f =
          moves (alone p n) list' items spans (located) memory (begin (alone p n) rs) known first (open_start open_done)
          (λ e. let z : ◌≡◌ {A = ℕ} 0 1 = cc in omega arith) in
          let g = subst (Follows list' items (move_on items spans memory)) (begin_moves p rs n) f in
          subst (Stands list' (At items) (count_machine p rs n))
          (move_start items spans memory (let a : ask.seat.numbers.place + 0 ≡ ask.seat.numbers.place = omega arith in ap (λ x. get_or items x 0) (sym a) ∙ item_at 0) (omega (arith, low)))
          g

      -- memory after the start
      abbrev pub begun_heads : List ℕ
      begun_heads = begin_all spans n heads 0 ask.seat.numbers.count

      abbrev pub begun : State
      begun = state_of (set_holding ask.seat.numbers (holding begun_heads 0 ask.seat.numbers.count)) begun_heads cells

      begun_stands : Stands list' AnyPlace (count_machine p rs n) begun
      unfolding do_start
      begun_stands = record {
        heads_long = moved.heads_long;
        cells_long = moved.cells_long;
        counted = moved.counted;
        few = moved.few;
        each = λ l i g.
            let h = moved.each l i g in
            record { struct = h.struct; height = h.height; within = h.within; code = h.code; stack = h.stack; vars = h.vars };
        opened = moved.opened;
        entries = moved.entries;
        scheduled = tt;
        clear = moved.clear;
      }

      -- it holds as many commands as the step has
      pub begun_commands : commands_in begun_heads 0 ask.seat.numbers.count ≡ started_commands p rs n
      begun_commands = commands_same (count_machine p rs n) begun_stands ∙ started_codes p rs n

      module _ (a : Asked) (typed : type_at p rs a.label a.parameter ≡ some bool) where
        truth : Truth (alone p n) (count_machine p rs n).instances a.label a.parameter
        unfolding type_in step_machine first_instances
        truth = go (leb ask.seat.numbers.count a.label) refl
          where
            go : (b : Bool) → leb ask.seat.numbers.count a.label ≡ b → Truth (alone p n) (count_machine p rs n).instances a.label a.parameter
            go true e =
                let h = leb-true ask.seat.numbers.count a.label e in
                let w = sym (ap (type_in p a.parameter) (struct_absent p rs a.label (omega (arith, h, many)))) ∙ typed in
                let z : ◌≡◌ {A = ℕ} 0 1 = cc in
                absurd (omega arith)
            go false e =
                let h = leb-false ask.seat.numbers.count a.label e in
                let (i, g) = at_place (first_instances p rs) a.label (omega (arith, h, many)) in
                record {
                  instance = started (alone p n) (global n) i;
                  there = at_map (started (alone p n) (global n)) (first_instances p rs) a.label i g;
                  typed =
                      ap (λ k. get_elem? (params_of p k) a.parameter) (started_struct (alone p n) n i)
                      ∙ sym (ap (type_in p a.parameter) (struct_there p rs a.label g)) ∙ typed;
                }

        pub begun_stood : Stood (alone p n) counts list' a (count_machine p rs n) begun
        begun_stood = record {
          firm = alone_firm p rs n accepted u.right had;
          bounded = rw counts_are (accepted_bounded (alone_accepted p n accepted had));
          good = step_good p rs n accepted u.right had;
          stands = begun_stands;
          kept = refl;
          truth = truth;
        }

      -- heads h and holders r, as the code has them
      module _ (h : List ℕ) (e : h ≡ begun_heads) where
        pub started_total : commands_in h 0 ask.seat.numbers.count ≡ started_commands p rs n
        started_total = ap (λ x. commands_in x 0 ask.seat.numbers.count) e ∙ begun_commands

        pub started_stood : (r : ℕ) → r ≡ holding h 0 ask.seat.numbers.count → (a : Asked) → type_at p rs a.label a.parameter ≡ some bool
            → Stood (alone p n) counts list' a (count_machine p rs n) (state_of (set_holding ask.seat.numbers r) h cells)
        started_stood r f a typed = rw (f, e) (begun_stood a typed)

        pub started_countable : (r : ℕ) → r ≡ holding h 0 ask.seat.numbers.count → (a : Asked) → type_at p rs a.label a.parameter ≡ some bool
            → commands_in h 0 ask.seat.numbers.count ≤ most_counted → Countable counts list' a (state_of (set_holding ask.seat.numbers r) h cells)
        started_countable r f a typed w =
            record { program = alone p n; machine = count_machine p rs n; stood = started_stood r f a typed; few = w }
