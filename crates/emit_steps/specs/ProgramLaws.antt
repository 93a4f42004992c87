-- A program that is read within the limits may be written, and what is written are its words (01, 'Names, types, commands').
use Rattle.std.specs.Prelude.{ℕ, ◌≤◌, ◌≡◌, List, length}
use native.Mathlib.Omega.{arith}
use Rattle.std.proofs.Common.{zero-add, sym, ◌∙◌}
use Rattle.std.proofs.lemmas.List.Edits.{sets-eq}
use Rattle.types.specs.Limits.{max_commands}
use Rattle.program.specs.Tree.{Program}
use Rattle.program.specs.Reader.{Result.ok, read_params, read}
use Rattle.commands.specs.Bounds.{arities, program_size}
use Rattle.commands.specs.ProgramWords.{structs_words, program_words}
use Rattle.commands.proofs.ProgramWordsLaws.{program_length}
use Rattle.emit.specs.declared.Put.{Put}
use Rattle.emit.specs.Written.{code_of, Ready, Wrote, structs_at}
use Rattle.emit.specs.Laws.ProgramLaws.{program_steps, whole_program}
use Rattle.emit_steps.specs.Emitted.{EmittedProgram}

-- behind the parameter lists of a program stand the steps of its structs
module _ (ar s : List ℕ) (at : ℕ) (p : Program) (m : ℕ) (reads : read s ≡ ok p m) (counts : ar ≡ arities p)
    (params : read_params s 0 ≡ ok p.params at) where
  standing : (last : ℕ) × (structs_at ar s (length ar) at ≡ ok p.steps last)
  standing =
      let t = program_steps s 0 p m (whole_program s p m reads) in
      let x : ok p.params at ≡ ok p.params t.behind = sym params ∙ t.params in
      let y : at ≡ t.behind = cc in
      (t.last, rw (counts, y) t.steps)

  -- there is room for them
  pub program_ready : (list : List ℕ) → program_size p ≤ max_commands → program_size p ≤ length list
      → Ready structs_words (structs_at ar s (length ar) at) list 0
  unfolding code_of program_words
  program_ready list few room =
      let n = program_length p in
      rw standing.1 (record { good = tt; room = omega arith; few = omega arith })

-- what is written is the program's
pub program_emitted : (ar s : List ℕ) (at : ℕ) (list : List ℕ) → Ready structs_words (structs_at ar s (length ar) at) list 0 → {r : Put} {list' : List ℕ}
    → Wrote structs_words (structs_at ar s (length ar) at) list 0 r list' → EmittedProgram ar s at list list'
unfolding code_of program_words
program_emitted ar s at list fits w p m reads counts params =
    let e = (standing ar s at p m reads counts params).1 in
    let h = rw e at fits.room in
    (rw e at w.list) ∙ rw zero-add at (sets-eq (program_words p) list 0 h)
