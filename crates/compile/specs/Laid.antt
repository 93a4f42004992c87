-- What it is to lay the schedule of a program flat in a lent list (01, 'Table and turns').
use Rattle.std.specs.Prelude.{ℕ, ◌≡◌, List, length}
use Rattle.std.proofs.lemmas.List.Edits.{sets}
use Rattle.program.specs.Tree.{Program}
use Rattle.program.specs.Reader.{Result.ok, read_params, read}
use Rattle.commands.specs.Bounds.{arities}
use Rattle.emit.specs.Written.{structs_at}
use Rattle.machine.specs.Published.{of_items}
use Rattle.memory.specs.Plan.{laid_out, At}

-- the place behind the parameters and the steps of a program
pub record Behind (s : List ℕ) (p : Program) (at : ℕ) : Type 0 where
  pub first : ℕ
  pub params : read_params s 0 ≡ ok p.params first
  pub steps : structs_at (arities p) s (length (arities p)) first ≡ ok p.steps at

-- the codes of its schedule stand from place 0 on, nothing else changed, and place 0 stands for the whole schedule
pub record Laid (p : Program) (out out' : List ℕ) : Type 0 where
  pub codes : out' ≡ sets out 0 (laid_out (of_items p.schedule))
  pub start : At out' 0 (of_items p.schedule)

-- where the stream is a program whose schedule begins at `at`
abbrev pub LaidProgram : List ℕ → ℕ → List ℕ → List ℕ → Type 0
LaidProgram s at out out' = (p : Program) (m : ℕ) → read s ≡ ok p m → Behind s p at → Laid p out out'
