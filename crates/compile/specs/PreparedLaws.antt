-- An accepted program may be prepared (01, 'Table and turns'): its rows may be noted and its schedule laid flat, and together they prepare a run.
use Rattle.std.specs.Prelude.{ℕ, ◌+◌, ◌≤◌, ◌≡◌, refl, List, ◌++◌}
use Rattle.std.proofs.Common.{sym, ◌∙◌}
use Rattle.types.specs.Limits.{max_structs, max_commands}
use Rattle.program.specs.Counts.{All, Counts}
use Rattle.program.specs.Reader.{Result.ok}
use Rattle.program.proofs.Laws.ProgramLaws.{program_law}
use Rattle.commands.specs.Bounds.{Within}
use Rattle.commands.specs.ProgramWords.{program_words}
use Rattle.directory.specs.declared.Row.{Row}
use Rattle.directory.specs.Directory.{directory}
use Rattle.directory.specs.Rows.{rows_from}
use Rattle.directory.proofs.DirectoryLaws.{RowInRange, all_both, directory_ranged, directory_inside}
use Rattle.directory.proofs.FindLaws.{directory_marks}
use Rattle.emit.specs.Written.{Ready}
use Rattle.memory.specs.Plan.{Located}
use Rattle.compile.specs.Codes.{schedule_codes, schedule_at}
use Rattle.compile.specs.Spans.{RowHeld, spans_of}
use Rattle.compile.specs.SpansLaws.{spans_located}
use Rattle.compile.specs.Laid.{LaidProgram}
use Rattle.compile.specs.LaidLaws.{schedule_ready}
use Rattle.compile.specs.Prepared.{Preparable, PreparedProgram}

module _ {s : List ℕ} {at structs : ℕ} {rows : List ℕ} {n : ℕ} {spans codes : List ℕ} (h : Preparable s at structs rows n spans codes) where
  counts : Counts h.program
  counts = ((program_law s h.program h.end).0 h.reads).0

  -- the structs are few
  pub structs_few : structs ≤ max_structs
  unfolding Counts
  structs_few = rw h.counted counts.0.1

  -- the rows are in range and within the list
  pub rows_held : All RowHeld (rows_from rows 0 n)
  unfolding Within
  rows_held =
      let p = h.program in
      rw h.listed
      (all_both RowInRange (λ (r : Row). r.start + r.size ≤ max_commands) (directory p) (directory_ranged p counts)
      (directory_inside p max_commands h.within.1))

  -- the schedule may be laid flat
  pub codes_ready : Ready schedule_codes (schedule_at s at) codes 0
  codes_ready = schedule_ready s h.program h.end at h.reads h.behind h.within codes h.codes_long

  -- the steps are located wherever the list begins with their words
  located : {spans' : List ℕ} → spans' ≡ spans_of (rows_from rows 0 n) structs spans → (back : List ℕ)
      → Located h.program (program_words h.program ++ back) spans'
  located e back k m i j =
      let p = h.program in let list = program_words p ++ back in
      rw (e, h.listed)
      (spans_located (directory p) structs list spans p (directory_ranged p counts) h.spans_long structs_few (directory_marks p list back refl) k m
      (rw h.counted i) j)

  -- all is prepared
  pub prepared : {spans' codes' : List ℕ} → spans' ≡ spans_of (rows_from rows 0 n) structs spans → LaidProgram s at codes codes'
      → PreparedProgram s spans' codes codes'
  prepared b c p m e =
      let z : ok p m ≡ ok h.program h.end = sym e ∙ h.reads in
      let x : p ≡ h.program = cc in
      rw x (record { located = located b; laid = c h.program h.end h.reads h.behind })
