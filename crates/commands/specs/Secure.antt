-- When commands are safe on every way where the living locals alone count as written (01, 'The words of demand 3'), so that a run may
-- begin in the middle of a step.
use Rattle.std.specs.Prelude.{ℕ, ◌≤◌, List, [], ◌∷◌, Bool, length, drop}
use Rattle.types.specs.Types.{Ty}
use Rattle.commands.specs.Context.{Ctx}
use Rattle.commands.specs.Noted.{Note, now_written}
use Rattle.commands.specs.Tags.{tags, stack_after, is_this, Asks, jump}
use Rattle.commands.specs.Living.{alive, Among}

-- every command on every way from here finds what it asks for, and no more lives behind it than was written
pub data Secure (G : Ctx) : List Note → List (List ℕ) → List Ty → Bool → Type 0 where
  stop : {χ : List Ty} {f : Bool} → Secure G [] [] χ f
  act : (n : Note) {c : List Note} {l : List ℕ} {ls : List (List ℕ)} {χ : List Ty} {f : Bool} → Asks G n (tags χ l f) → jump n ≤ length c
      → Among (alive ls) (now_written n l) → Secure G c ls (stack_after G n χ) (is_this n)
      → Among (alive (drop (jump n) ls)) (now_written n l) → Secure G (drop (jump n) c) (drop (jump n) ls) (stack_after G n χ) (is_this n)
      → Secure G (n ∷ c) (l ∷ ls) χ f
