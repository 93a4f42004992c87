-- The place at which the pass over names stops (02 §1, 17; 02 asks for no place): how many places are passed before the first token at which nothing is used.
use Rattle.std.specs.Prelude.{ℕ, suc, Bool, true, false, eqb, Ok, Err, Result}
use mathlib.Core.List.{List, [], ◌∷◌}
use Rattle.std.proofs.Math.Option.{Option, none, some}
use Rattle.resolve.specs.WellDeclared.{tables_ok}
use Rattle.resolve.specs.Using.{Book, Use, chosen, use_start}
use Rattle.resolve.specs.UsingAt.{use_at}
use Rattle.resolve.specs.Resolved.{book_at}
use Rattle.uses.specs.declared.NoProgram.{NoProgram}

unfoldable pub counts_on : Option Use → (Use → ℕ) → ℕ
counts_on none f = 0
counts_on (some u) f = suc (f u)

-- as `uses_at`: 0 stands where no token begins
module _ (b : Book) where
  unfoldable pub stops_at : List ℕ → List ℕ → Use → ℕ
  unfolding counts_on chosen use_at
  stops_at [] cs u = 0
  stops_at (t ∷ s) [] u = 0
  stops_at (t ∷ s) (c ∷ cs) u = counts_on (chosen (eqb c 0) (some u) (use_at b c (t ∷ s) u)) (stops_at s cs)

-- of a text by its roles: its first place where the tables of its declarations fail, its end where its names are all right
unfoldable pub of_tables : Bool → ℕ → ℕ
of_tables true n = n
of_tables false n = 0

unfoldable pub stops : List ℕ → List ℕ → ℕ
unfolding of_tables tables_ok stops_at book_at
stops text roles = of_tables (tables_ok text roles) (stops_at (book_at text roles) text roles use_start)

-- of what a function answers, with the end
unfoldable pub stop_in : Result ℕ NoProgram → ℕ → ℕ
stop_in (Ok n) l = l
stop_in (Err p) l = p.at
