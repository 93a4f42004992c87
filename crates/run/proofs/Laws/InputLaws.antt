-- The numbers from the input are exact (01, 'Numbers from the input'): a run is refused with a number exactly where that number's
-- condition is foremost, and begins exactly where none holds. Each stage tells its part of the order, and the entry is the stages in a row.
use Rattle.std.specs.Prelude.{ℕ, ◌*◌, ◌≡◌, ◌↔◌, ◌⊎◌, List, [], ◌∷◌, ◌++◌, length, Option, Some, None}
use native.Mathlib.Omega.{arith}
use Rattle.std.proofs.Math.Path.{refl, ap}
use Rattle.std.proofs.Common.{ap₂, inl, inr}
use Rattle.types.specs.Limits.{table_blocks, max_commands, max_turns}
use Rattle.types.specs.Numbers.{no_room, many_turns}
use Rattle.types.specs.Reflects.{lt_reflects}
use Rattle.types.specs.Orders.{Order, NoneOf, Foremost, Tells.passes}
use Rattle.types.proofs.Laws.OrderLaws.{none_joined, here, past}
use Rattle.types.specs.Stages.{Stage.went as table, Stage.stopped as no_table, Stages}
use Rattle.types.proofs.Laws.StageLaws.{stage_asked, stage_on, stage_number, stage_none, stage_went, stage_refused}
use Rattle.block.specs.Block.{block_size}
use Rattle.blocks.specs.Images.{stream, fault}
use Rattle.blocks.specs.Faults.{Says}
use Rattle.blocks.proofs.FaultLaws.{fault_says}
use Rattle.block.specs.declared.Fault.TheVariants.{Length, Sum, Layout}
use Rattle.program.specs.Tree.{Program}
use Rattle.table.specs.Table.{Record}
use Rattle.table.specs.TableReader.{TableAnswer, table_of_stream, table_end, table_value}
use Rattle.table.proofs.Laws.TableLaws.{table_answer_exact, table_numbers}
use Rattle.table.proofs.Laws.TableFaultLaws.{table_ends_exactly, table_offends_exactly, ends_or_offends, right_not_ends, right_not_offends}
use Rattle.run.specs.Run.{run}
use Rattle.run.specs.Begin.{begin}
use Rattle.verdict.specs.Verdict.{listed}
use Rattle.run.specs.Entry.{of_table_image, tabled, begun, not_begun, with_table, images, with_room, begins, report, report_of}
use Rattle.run.specs.Entry.{Begun, output_of, run_report_by, run_output_by, run_list_by, run_report, run_output, run_list}
use Rattle.verdict.specs.ProgramInput.{ImageRight, Reads, AcceptedImage, reads_of, program_order}
use Rattle.run.specs.Input.{TableAccepted, Runnable, Began, TableWrongEnd, TableWrongValue, table_order, room_order, run_order}
use Rattle.verdict.proofs.ProgramInputLaws.{one_program, no_fault, tell_checked, accepted_none}
use Rattle.block.specs.declared.Fault.{Fault}

-- Program and table --------------------------------------------------------------------------

module _ (x y : List ℕ) where
  -- 11 and 12
  no_11 : {p : Program} {rs : List Record} → Reads x p → TableAccepted p y rs → TableWrongEnd x y → ⊥
  no_11 {p} {rs} r t c = right_not_ends p.params (stream y) rs t.right t.bytes (rw (one_program r c.1) c.2)

  no_12 : {p : Program} {rs : List Record} → Reads x p → TableAccepted p y rs → TableWrongValue x y → ⊥
  no_12 {p} {rs} r t c = right_not_offends p.params (stream y) rs t.right t.bytes (rw (one_program r c.1) c.2)

  abbrev from_11 : Order
  from_11 = (11, TableWrongEnd x y) ∷ (12, TableWrongValue x y) ∷ []

  tell_table : (p : Program) → AcceptedImage x p → ImageRight table_blocks y → Stages (TableAccepted p y) from_11 (table_of_stream p.params (stream y))
  tell_table p a i = go (table_of_stream p.params (stream y)) refl
    where
      numbered : (n : ℕ) → table_of_stream p.params (stream y) ≡ no_table n → (n ≡ table_end) ⊎ (n ≡ table_value)
          → Stages (TableAccepted p y) from_11 (no_table n)
      numbered n e (inl q) = rw q (here refl (p, reads_of a, (table_ends_exactly p.params (stream y)).0 (rw q at e)))
      numbered n e (inr q) =
          let offends = (table_offends_exactly p.params (stream y)).0 (rw q at e) in
          rw q
          (past (λ c. ends_or_offends p.params (stream y) (rw (one_program (reads_of a) c.1) c.2) offends)
          (here refl (p, reads_of a, offends)))

      go : (t : TableAnswer) → table_of_stream p.params (stream y) ≡ t → Stages (TableAccepted p y) from_11 t
      go (table rs) e =
          let q = (table_answer_exact p.params (stream y) rs).0 e in
          let t : TableAccepted p y rs = record { image = i; right = q.0; bytes = q.1 } in
          passes (no_11 (reads_of a) t, (no_12 (reads_of a) t, tt)) (rs, refl, t)
      go (no_table n) e = numbered n e (table_numbers p.params (stream y) n e)

  -- 9 to 12
  pub tell_tabled : (p : Program) → AcceptedImage x p → Stages (TableAccepted p y) (table_order x y) (tabled p.params y)
  unfolding of_table_image
  tell_tabled p a = go (fault table_blocks y) (fault_says table_blocks y)
    where
      go : (f : Option Fault) → Says table_blocks y f → Stages (TableAccepted p y) (table_order x y) (of_table_image p.params f y)
      go (Some Length) s = here refl s
      go (Some Sum) s = past (λ f. f s.0) (here refl (Sum, s.1))
      go (Some Layout) s = past (λ f. f s.0) (here refl (Layout, s.1))
      go None s =
          past (λ f. f s.0)
          (past (λ b. no_fault y b.0 s.1 b.1) (tell_table p a (record { length_right = s.0; blocks_right = s.1 })))

  -- 1 to 12
  abbrev Tabled : Program × List Record → Type 0
  Tabled q = (AcceptedImage x q.0) × (TableAccepted q.0 y q.1)

  pub tell_images : Stages Tabled (program_order x ++ table_order x y) (images x y)
  unfolding images with_table
  tell_images = stage_on (tell_checked x) λ p a. stage_on (tell_tabled p a) λ rs t. passes tt ((p, rs), refl, (a, t))

  -- an accepted table meets no condition
  tabled_none : {p : Program} {rs : List Record} → AcceptedImage x p → TableAccepted p y rs → NoneOf (table_order x y)
  tabled_none a t = (
    λ f. f t.image.length_right,
    (λ b. no_fault y b.0 t.image.blocks_right b.1, (no_11 (reads_of a) t, (no_12 (reads_of a) t, tt))),
  )

  -- two images hold one program and one table
  one_table : (q r : Program × List Record) → Tabled q → Tabled r → q ≡ r
  one_table q r a b =
      let e : q.0 ≡ r.0 = one_program (reads_of a.0) (reads_of b.0) in
      let t = (table_answer_exact q.0.params (stream y) q.1).1 (a.1.right, a.1.bytes) in
      let u = (table_answer_exact r.0.params (stream y) r.1).1 (b.1.right, b.1.bytes) in
      let v : table_of_stream q.0.params (stream y) ≡ table r.1 = rw e u in
      let f : q.1 ≡ r.1 = cc in ap₂ (λ p rs. (p, rs)) e f

-- The run ------------------------------------------------------------------------------------

module _ (x y es out list : List ℕ) where
  abbrev Runs : Program × List Record → Type 0
  Runs q = Runnable x y es out list q.0 q.1

  pub tell : Stages Runs (run_order x y es out list) (begins x y es out list)
  unfolding begins with_room
  tell =
      stage_on (tell_images x y) λ q a. stage_asked no_room (lt_reflects (length out) (block_size * table_blocks)) λ f.
      stage_asked no_room (lt_reflects (length list) max_commands) λ g. stage_asked many_turns (lt_reflects max_turns (length es)) λ h.
      passes tt (q, refl, record { program = a.0; table = a.1; output_room = omega arith; list_room = omega arith; turns_few = omega arith })

  -- a run is refused with a number exactly where that number is foremost of those whose condition holds
  pub begins_number : (n : ℕ) → (begins x y es out list ≡ not_begun n) ↔ Foremost (run_order x y es out list) n
  begins_number = stage_number tell

  -- what is ready meets no condition
  pub ready_none : {p : Program} {rs : List Record} → Runnable x y es out list p rs → NoneOf (run_order x y es out list)
  ready_none r =
      none_joined (program_order x) (table_order x y ++ room_order es out list) (accepted_none x r.program)
      (none_joined (table_order x y) (room_order es out list) (tabled_none x y r.program r.table)
      (λ h. omega (arith, r.output_room), (λ h. omega (arith, r.list_room), (λ h. omega (arith, r.turns_few), tt))))

  -- a run begins with a program and a table exactly where both are accepted and there is room
  pub begins_ready : (p : Program) (rs : List Record) → (begins x y es out list ≡ begun p rs) ↔ Runnable x y es out list p rs
  begins_ready p rs =
      stage_went tell (λ q r. ready_none r) (λ q r a b. one_table x y q r (a.program, a.table) (b.program, b.table)) (p, rs)

  -- it begins exactly where no condition holds
  pub begins_none : Began x y es out list (begins x y es out list) ↔ NoneOf (run_order x y es out list)
  begins_none = (
    λ (p, rs, e, r). (stage_none tell).0 ((p, rs), e, r),
    λ f. let (q, e, r) = (stage_none tell).1 f in (q.0, q.1, e, r),
  )

  -- Where it is refused ----------------------------------------------------------------------

  -- an input refusal returns its number, 0 turns, 0 blocks, depth 0 and 0 holders, and leaves output and list as they were
  pub refusal_untouched : (n : ℕ) → Foremost (run_order x y es out list) n
      → (run_report x y es out list ≡ report n 0 0 0 0) × (run_output x y es out list ≡ out) × (run_list x y es out list ≡ list)
  unfolding run_report run_output run_list run_report_by run_output_by run_list_by
  refusal_untouched n q = (
    stage_refused tell (λ b. run_report_by b es) n q,
    stage_refused tell (λ b. run_output_by b es out) n q,
    stage_refused tell (λ b. run_list_by b list) n q,
  )

  -- a ready run answers what `run` comes to
  pub ready_runs : (p : Program) (rs : List Record) → Runnable x y es out list p rs
      → (run_report x y es out list ≡ report_of p (run p (begin p rs) es))
      × (run_output x y es out list ≡ output_of p (run p (begin p rs) es) out)
      × (run_list x y es out list ≡ listed p list)
  unfolding run_report run_output run_list run_report_by run_output_by run_list_by
  ready_runs p rs r =
      let e = (begins_ready p rs).1 r in (
        ap (λ (b : Begun). run_report_by b es) e,
        ap (λ (b : Begun). run_output_by b es out) e,
        ap (λ (b : Begun). run_list_by b list) e,
      )
