-- The numbers of a text's names (02 §1): its tables of declarations, tested, and the pass over its places by them; nothing where 17 holds for one of them.
use Rattle.std.specs.Prelude.{ℕ, List, [], ◌∷◌, ◌++◌}
use Rattle.std.proofs.Math.Option.{Option, some}
use Rattle.program.specs.Tree.{Program}
use Rattle.program.specs.Encoding.{flat}
use Rattle.meaning.specs.Meant.{then, provided}
use Rattle.resolve.specs.Named.{names_at}
use Rattle.resolve.specs.Numbers.{steps_numbers, items_numbers}
use Rattle.resolve.specs.Tables.{places, offsets}
use Rattle.resolve.specs.Checks.{part_of, types_at, firsts}
use Rattle.resolve.specs.WellDeclared.{tables_ok}
use Rattle.resolve.specs.Using.{Book, use_start}
use Rattle.resolve.specs.UsingAt.{uses_at}
use Rattle.text_shape.specs.RoleNames.{new_struct_role, new_par_role, new_step_role, first_type_role, last_par_type_role}

-- the parts of a list between each of some numbers and the next
unfoldable pub cuts : {A : Type 0} → List A → List ℕ → List (List A)
cuts l [] = []
cuts l (a ∷ []) = []
cuts l (a ∷ b ∷ k) = part_of l a b ∷ cuts l (b ∷ k)

-- the tables of a text by its roles
unfoldable pub book_at : List ℕ → List ℕ → Book
unfolding cuts types_at firsts
book_at text roles =
    record {
      structs = names_at text (places new_struct_role new_struct_role roles);
      rows = cuts (names_at text (places new_par_role new_par_role roles)) (offsets new_par_role roles);
      types = cuts (types_at text roles (names_at text (places new_struct_role new_struct_role roles)) (places first_type_role last_par_type_role roles))
          (offsets new_par_role roles);
      steps = names_at text (firsts text [] (places new_step_role new_step_role roles));
    }

-- the numbers of its uses, the last one first
unfoldable pub resolved : List ℕ → List ℕ → Option (List ℕ)
unfolding provided then tables_ok uses_at book_at
resolved text roles = provided (tables_ok text roles) (then (uses_at (book_at text roles) text roles use_start) (λ u. some u.out))

-- those of a program, in the order of its text
unfoldable pub program_numbers : Program → List ℕ
unfolding flat
program_numbers p = flat steps_numbers p.steps ++ items_numbers p.schedule
