-- The number of a program that is read (01, 'Numbers from the input'): that of the first of its tests that is true, 6, 7 or 8.
use Rattle.std.specs.Prelude.{ℕ, Bool, true, false, not, List, [], ◌∷◌}
pub use Rattle.types.specs.Numbers.{over_limits, wrong_names, wrong_types}
use Rattle.program.specs.Tree.{Program}
use Rattle.commands.specs.Decide.BoundsDecide.{within}
use Rattle.commands.specs.Decide.NamesDecide.{names_right}
use Rattle.commands.specs.Decide.TypingDecide.{types_right}

abbrev pub no_breach : ℕ
no_breach = 0

-- the number of the first test that is true, or 0
unfoldable pub first : List (ℕ × Bool) → ℕ
first [] = no_breach
first (t ∷ ts) = elim t.1 [ true ↦ t.0 | false ↦ first ts ]

unfoldable pub breach_tests : Program → List (ℕ × Bool)
breach_tests p = (over_limits, not (within p)) ∷ (wrong_names, not (names_right p)) ∷ (wrong_types, not (types_right p)) ∷ []

unfoldable pub breach_number : Program → ℕ
breach_number p = first (breach_tests p)
