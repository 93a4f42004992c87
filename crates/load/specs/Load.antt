-- What a program image is loaded as (01, 'Program stream', and 1 to 8 of 'Numbers from the input'): the answer, what stands in the lent memory
-- then, and what a caller goes on with.
use Rattle.std.specs.Prelude.{Result as Answered, Ok, Err, ℕ, ◌*◌, ◌≡◌, List, ◌++◌, length, drop}
use Rattle.types.specs.Limits.{max_params}
use Rattle.types.specs.Stages.{Stage.went as accepted, Stage.stopped as refused}
use Rattle.program.specs.Tree.{Program}
use Rattle.program.specs.Reader.{Result.ok, read_params, read}
use Rattle.commands.specs.Bounds.{total, arities, program_size, program_depth}
use Rattle.commands.specs.Numbers.{breach_number}
use Rattle.verdict.specs.Verdict.{Checked}
use Rattle.judge.specs.ProgramFacts.{types_table}
use Rattle.directory.specs.Rows.{Listed}
use Rattle.read_program.specs.Whole.{steps_place, schedule_place}
use Rattle.read_program.specs.declared.Summary.{Summary}
use Rattle.load.specs.declared.Loaded.{Loaded}

-- by its numbers
abbrev pub loaded_of : ℕ → ℕ → ℕ → ℕ → ℕ → ℕ → ℕ → Loaded
loaded_of n at plan a b c d = record { length = n; at = at; plan = plan; structs = a; steps = b; commands = c; depth = d }

-- what the reader of a stream of n bytes found
abbrev pub loaded_by : ℕ → ℕ → Summary → Loaded
loaded_by n at z = loaded_of n at z.plan z.structs z.steps z.commands z.depth

-- a program whose stream is s; its steps begin behind the parameters, its schedule behind the steps
abbrev pub loaded : Program → List ℕ → Loaded
loaded p s =
    loaded_of (length s) (steps_place s) (schedule_place s p) (length p.params) (total length p.steps) (program_size p) (program_depth p)

abbrev pub load_told : Checked → List ℕ → Answered Loaded ℕ
load_told (accepted p) s = Ok (loaded p s)
load_told (refused n) s = Err n

-- Lent memory, by what it held before and after ----------------------------------------------

-- in front of the tables stand the parameter counts, and eight places of types for each struct
abbrev pub TablesHeld : Checked → List ℕ → List ℕ → List ℕ → List ℕ → Type 0
TablesHeld (accepted p) cs cs' ts ts' =
    (cs' ≡ arities p ++ drop (length p.params) cs) × (ts' ≡ types_table p.params ++ drop (max_params * length p.params) ts)
TablesHeld (refused n) cs cs' ts ts' = Unit {0}

-- and in front of the buffer the stream
abbrev pub Held : Checked → List ℕ → List ℕ → List ℕ → List ℕ → List ℕ → List ℕ → List ℕ → Type 0
Held (accepted p) s b b' cs cs' ts ts' = (b' ≡ s ++ drop (length s) b) × TablesHeld (accepted p) cs cs' ts ts'
Held (refused n) s b b' cs cs' ts ts' = Unit {0}

-- in front of the rows the step directory
abbrev pub RowsHeld : Checked → List ℕ → Type 0
RowsHeld (accepted p) h = Listed h p
RowsHeld (refused n) h = Unit {0}

-- What a caller goes on with -------------------------------------------------------------------

-- the stream s is p, which is accepted; `counts` has how many parameters each struct has, and the parameter lists end at a place
pub record Admitted (s counts : List ℕ) (at : ℕ) (p : Program) : Type 0 where
  pub end : ℕ
  pub reads : read s ≡ ok p end
  pub numbered : breach_number p ≡ 0
  pub counted : counts ≡ arities p
  pub place : read_params s 0 ≡ ok p.params at
