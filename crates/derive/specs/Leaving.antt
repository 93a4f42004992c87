-- The loop that leaves roles where the kinds stood, place by place: a token's role in its place, and in the place of the name before it the other role that
-- the token gives it.
use Rattle.std.specs.Prelude.{ℕ, ◌+◌, true, false, List, [], ◌∷◌, set, eqb}
use Rattle.text_shape.specs.Shape.{Shape, Shape.shape, sample, move}
use Rattle.text_shape.specs.RoleMarks.{role, renamed}

-- the name at a place gets another role, or keeps its own
unfoldable pub amended : List ℕ → ℕ → ℕ → List ℕ
amended m last w = elim (eqb w 0) [ true ↦ m | false ↦ set m last w ]

unfoldable pub left : List ℕ → ℕ → ℕ → ℕ → ℕ → List ℕ
left m i last r w = set (amended m last w) i r

unfoldable pub renames : Shape → ℕ → ℕ
renames (shape q st) k = renamed q k

-- from place i on, where the last token stood at a place before it, over the kinds that are left
unfoldable pub leaves : Shape → ℕ → ℕ → List ℕ → List ℕ → List ℕ
leaves s last i [] m = m
leaves s last i (k ∷ ks) m =
    elim (eqb k 0) [
      | true ↦ leaves s last (i + 1) ks m
      | false ↦ leaves (move s (sample k)) i (i + 1) ks (left m i last (role s k) (renames s k))
    ]
