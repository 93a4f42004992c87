-- The step directory of a program (01, 'Names, types, commands': "The list holds the steps from its first place, structs in order, each
-- struct's steps in stream order"): for each step its struct, its name, the place of its first command and how many it has.
use Rattle.std.specs.Prelude.{ℕ, suc, ◌+◌, Bool, true, false, List, [], ◌∷◌, ◌++◌, eqb}
use Rattle.std.proofs.Math.Option.{Option, none, some}
use Rattle.program.specs.Tree.{Step, Program}
use Rattle.commands.specs.Bounds.{total, step_size}
use Rattle.directory.specs.declared.Row.{Row}

abbrev pub row : ℕ → ℕ → ℕ → ℕ → Row
row k n a m = record { structure = k; name = n; start = a; size = m }

-- the steps of struct k, whose commands stand from a on
unfoldable pub steps_rows : ℕ → ℕ → List Step → List Row
steps_rows k a [] = []
steps_rows k a (t ∷ ts) = row k t.name a (step_size t) ∷ steps_rows k (a + step_size t) ts

-- those of the structs from k on
unfoldable pub structs_rows : ℕ → ℕ → List (List Step) → List Row
structs_rows k a [] = []
structs_rows k a (ts ∷ tss) = steps_rows k a ts ++ structs_rows (suc k) (a + total step_size ts) tss

unfoldable pub directory : Program → List Row
directory p = structs_rows 0 0 p.steps

-- the first row of a struct and a name
unfoldable pub is_row : ℕ → ℕ → Row → Bool
is_row k n r = elim (eqb r.structure k) [ true ↦ eqb r.name n | false ↦ false ]

unfoldable pub find_row : List Row → ℕ → ℕ → Option Row
find_row [] k n = none
find_row (r ∷ rs) k n = elim (is_row k n r) [ true ↦ some r | false ↦ find_row rs k n ]

-- whether there is one
abbrev pub found : Option Row → Bool
found none = false
found (some r) = true

unfoldable pub there : List Row → ℕ → ℕ → Bool
there rs k n = found (find_row rs k n)
