-- The conditions of the numbers of a count, and their order (02 §14): "After 13, an absent step gives 7, an absent label or parameter 21, a parameter that
-- isn't Bool 8, in that order. (24: the step's commands over all its instances, null ones included, exceed 12; after these.)" Nothing here speaks of
-- the tests that decide them. Each speaks of the program and the table that are read.
use Rattle.std.specs.Prelude.{ℕ, ◌<◌, ◌≤◌, ◌≡◌, List, [], ◌∷◌, ◌++◌, length}
use Rattle.std.proofs.Math.Option.{some}
use Rattle.std.proofs.Math.ListN.{get_elem?}
use Rattle.types.specs.Limits.{max_commands}
use Rattle.types.specs.Orders.{Order}
use Rattle.types.specs.Types.{Ty, Ty.bool}
use Rattle.program.specs.Tree.{Program}
use Rattle.commands.specs.Context.{params_of}
use Rattle.commands.specs.Names.{Had}
use Rattle.verdict.specs.ProgramInput.{Reads, ShortList, program_order, AcceptedImage}
use Rattle.table.specs.Table.{Record, struct_at}
use Rattle.run.specs.Input.{TableAccepted, table_order}
use Rattle.counts.specs.CountEntry.{most_counted, started_commands}

-- label l is there, of a struct whose parameter v has the type t
pub record Declares (p : Program) (rs : List Record) (l v : ℕ) (t : Ty) : Type 0 where
  pub struct : ℕ
  pub of : struct_at p.params rs l ≡ some struct
  pub typed : get_elem? (params_of p struct) v ≡ some t

-- a program and a table that are read
pub record ReadsBoth (x y : List ℕ) (p : Program) (rs : List Record) : Type 0 where
  pub program : Reads x p
  pub table : TableAccepted p y rs

-- The conditions ---------------------------------------------------------------------

-- no struct of the program has the step
abbrev pub NoStep : List ℕ → ℕ → Type 0
NoStep x n = (p : Program) × (Reads x p) × (Had n p.steps → ⊥)

-- the label, or that parameter of it, is not there
abbrev pub NoPlace : List ℕ → List ℕ → ℕ → ℕ → Type 0
NoPlace x y l v = (p : Program) × (rs : List Record) × (ReadsBoth x y p rs) × ((t : Ty) → Declares p rs l v t → ⊥)

-- it is there, and is no Bool
abbrev pub NotBool : List ℕ → List ℕ → ℕ → ℕ → Type 0
NotBool x y l v = (p : Program) × (rs : List Record) × (ReadsBoth x y p rs) × (t : Ty) × (Declares p rs l v t) × (t ≡ bool → ⊥)

-- the step has more commands over all its instances
abbrev pub ManyCommands : List ℕ → List ℕ → ℕ → Type 0
ManyCommands x y n = (p : Program) × (rs : List Record) × (ReadsBoth x y p rs) × (most_counted < started_commands p rs n)

-- Their order ------------------------------------------------------------------------

-- of list, step, label and parameter
abbrev pub question_order : List ℕ → List ℕ → ℕ → ℕ → ℕ → List ℕ → Order
question_order x y n l v list =
    (13, ShortList list) ∷ (7, NoStep x n) ∷ (21, NoPlace x y l v) ∷ (8, NotBool x y l v) ∷ (24, ManyCommands x y n) ∷ []

abbrev pub count_order : List ℕ → List ℕ → ℕ → ℕ → ℕ → List ℕ → Order
count_order x y n l v list = (program_order x ++ table_order x y) ++ question_order x y n l v list

-- What is accepted -----------------------------------------------------------------------

-- a count that is answered
pub record Countable (x y : List ℕ) (n l v : ℕ) (list : List ℕ) (p : Program) (rs : List Record) : Type 0 where
  pub program : AcceptedImage x p
  pub table : TableAccepted p y rs
  pub list_room : max_commands ≤ length list
  pub step : Had n p.steps
  pub place : Declares p rs l v bool
  pub few : started_commands p rs n ≤ most_counted
