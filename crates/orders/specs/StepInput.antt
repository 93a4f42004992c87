-- The conditions of a step name that is given beside two images (02 §11 and §14): a step that no struct has gives 7. They speak of the program and the table
-- that are read; nothing here speaks of the tests that decide them.
use Rattle.std.specs.Prelude.{ℕ, List, [], ◌∷◌, ◌++◌}
use Rattle.types.specs.Orders.{Order}
use Rattle.program.specs.Tree.{Program}
use Rattle.commands.specs.Names.{Had}
use Rattle.verdict.specs.ProgramInput.{Reads, program_order, AcceptedImage}
use Rattle.table.specs.Table.{Record}
use Rattle.run.specs.Input.{TableAccepted, table_order}

-- a program and a table that are read
pub record ReadsBoth (x y : List ℕ) (p : Program) (rs : List Record) : Type 0 where
  pub program : Reads x p
  pub table : TableAccepted p y rs

-- no struct of the program has the step
abbrev pub NoStep : List ℕ → ℕ → Type 0
NoStep x n = (p : Program) × (Reads x p) × (Had n p.steps → ⊥)

-- of program image, table image and step name
abbrev pub apart_order : List ℕ → List ℕ → ℕ → Order
apart_order x y n = (program_order x ++ table_order x y) ++ (7, NoStep x n) ∷ []

-- a step that may be followed
pub record Followable (x y : List ℕ) (n : ℕ) (p : Program) (rs : List Record) : Type 0 where
  pub program : AcceptedImage x p
  pub table : TableAccepted p y rs
  pub step : Had n p.steps
