-- How the pass over uses stands in lent memory (02 §1). Declarations are one table: places of structs, offsets of rows, places of parameters, bytes of their
-- types, places of step names, how many structs and names there are. A step's locals are another: those declared, those alive, their numbers, the bytes of
-- their types, each region filled from its end. Arguments due stand at the front of a stack, how many locals were alive before each open if at its end.
use Rattle.std.specs.Prelude.{ℕ, ◌+◌, ◌≤◌, ◌<◌, ◌≡◌, List, ◌∷◌, length, get_or, Some, None, Ok, Err, Result}
use Rattle.std.proofs.Math.Option.{Option, none, some}
use Rattle.meaning.specs.Meant.{then}
use Rattle.derive.specs.Held.{held}
use Rattle.resolve.specs.Named.{names_at}
use Rattle.resolve.specs.Checks.{part_of}
use Rattle.resolve.specs.Using.{Book, Use}
use Rattle.resolve.specs.Resolved.{cuts}
use Rattle.uses.specs.Laws.PartLaws.{up_to}
use Rattle.uses.specs.declared.Scope.{Scope}
use Rattle.types.specs.Limits.{max_structs, max_params, step_names, max_locals}
use Rattle.uses.specs.Layout.{rows_room, offsets_place, pars_place, types_place, names_place, struct_count_place, name_count_place, table_size}
use Rattle.uses.specs.Layout.{declared_end, living_end, numbers_end, bytes_end}
use Rattle.uses.specs.Passed.{Passed}
use Rattle.uses.specs.declared.NoProgram.{NoProgram}

abbrev pub structs_of_table : List ℕ → ℕ
structs_of_table t = get_or t struct_count_place 0

abbrev pub names_of_table : List ℕ → ℕ
names_of_table t = get_or t name_count_place 0

-- where the row of struct k begins and ends
abbrev pub row_start : List ℕ → ℕ → ℕ
row_start t k = get_or t (offsets_place + k) 0

abbrev pub row_end : List ℕ → ℕ → ℕ
row_end t k = get_or t (offsets_place + k + 1) 0

unfoldable pub book_in : List ℕ → List ℕ → Book
unfolding cuts
book_in x t =
    record {
      structs = names_at x (part_of t 0 (structs_of_table t));
      rows = cuts (names_at x (part_of t pars_place types_place)) (part_of t offsets_place (offsets_place + 1 + structs_of_table t));
      types = cuts (part_of t types_place names_place) (part_of t offsets_place (offsets_place + 1 + structs_of_table t));
      steps = names_at x (part_of t names_place (names_place + names_of_table t));
    }

-- the row of struct k: few parameters, and places for them
pub record Rowed (t : List ℕ) (k : ℕ) : Type 0 where
  pub up : row_start t k ≤ row_end t k
  pub few : row_end t k ≤ row_start t k + max_params
  pub inner : row_end t k ≤ rows_room

-- a table of which a book can be read
pub record Booked (t : List ℕ) : Type 0 where
  pub long : length t ≡ table_size
  pub structs : structs_of_table t ≤ max_structs
  pub names : names_of_table t ≤ step_names
  pub rows : (k : ℕ) → k < structs_of_table t → Rowed t k

unfoldable pub use_in : List ℕ → List ℕ → List ℕ → Scope → List ℕ → Use
unfolding held
use_in x l k c o =
    record {
      begun = c.begun;
      met = names_at x (up_to l declared_end c.met);
      living = names_at x (up_to l living_end c.living);
      numbers = up_to l numbers_end c.living;
      bytes = up_to l bytes_end c.living;
      fresh = c.fresh;
      type = c.typ;
      dues = held k c.dues;
      heights = up_to k (length k) c.bodies;
      out = o;
    }

-- the numbers of n living locals are below 8
abbrev pub Small : List ℕ → ℕ → Type 0
Small l n = (i : ℕ) → numbers_end ≤ i + n → i < numbers_end → get_or l i 0 < max_locals

-- counts that memory has room for
pub record Roomy (t l : List ℕ) (c : Scope) : Type 0 where
  pub long : length l ≡ bytes_end
  pub begun : c.begun ≤ structs_of_table t
  pub met : c.met ≤ max_locals
  pub living : c.living ≤ c.met
  pub fresh : c.fresh ≤ c.living
  pub small : Small l c.living

-- what a function answers
unfoldable pub passed_in : List ℕ → List ℕ → List ℕ → Passed → List ℕ → Option Use
unfolding use_in
passed_in x l k None o = none
passed_in x l k (Some (c, None)) o = some (use_in x l k c o)
passed_in x l k (Some (c, Some n)) o = some (use_in x l k c (n ∷ o))

-- there is room for it, and one more stands on the stack at most
abbrev pub Grown : Scope → Scope → Type 0
Grown c d = d.dues + d.bodies ≤ c.dues + c.bodies + 1

unfoldable pub Next : List ℕ → List ℕ → Scope → Passed → Type 0
Next t l c None = Unit {0}
Next t l c (Some (d, None)) = Roomy t l d × Grown c d
Next t l c (Some (d, Some n)) = Roomy t l d × Grown c d

-- the numbers that stand in memory, the last one first
unfoldable pub numbered_in : List ℕ → Result ℕ NoProgram → Option (List ℕ)
unfolding held
numbered_in m (Ok n) = some (held m n)
numbered_in m (Err p) = none

unfoldable pub Counted : List ℕ → Result ℕ NoProgram → Type 0 → Type 0
Counted m (Ok n) A = (n ≤ length m) × A
Counted m (Err p) A = Unit {0}

unfoldable pub used_out : Option Use → Option (List ℕ)
unfolding then
used_out o = then o (λ u. some u.out)
