-- The place at which reading a program text stops (02 §1 asks for none): the first at which no token begins; the first token with which no derivation goes on;
-- behind a derivation, the place at which the pass over names stops, the text's end where it does not.
use Rattle.std.specs.Prelude.{ℕ, suc, Bool, true, false, List, [], ◌∷◌, length, eqb, ltb}
use Rattle.source.specs.Source.{max_text}
use Rattle.tokens.specs.Marking.{marks, parts, kinds_in}
use Rattle.text_shape.specs.Shape.{Shape, Shape.shape, sample, move, derived}
use Rattle.text_shape.specs.RoleMarks.{role_codes, placed}
use Rattle.uses.specs.Stopping.{stops}
use Rattle.text_shape.specs.CodeNames.{first_defs_code}
use Rattle.text_shape.specs.CodeNames.{dead_code}

-- no derivation goes on
unfoldable pub dead : Shape → Bool
dead (shape q st) = eqb q dead_code

-- of kinds in their places, 0 where no token begins: the first token behind which that is so, the end where there is none
unfoldable pub stuck_from : Shape → List ℕ → ℕ
unfolding dead
stuck_from s [] = 0
stuck_from s (k ∷ ks) =
    elim (eqb k 0) [
      | true ↦ suc (stuck_from s ks)
      | false ↦ elim (dead (move s (sample k))) [ true ↦ 0 | false ↦ suc (stuck_from (move s (sample k)) ks) ]
    ]

-- the roles of a text's tokens in their places
unfoldable pub roles_in : List ℕ → List ℕ
unfolding placed role_codes
roles_in ks = placed ks (role_codes (shape first_defs_code []) (kinds_in ks))

unfoldable pub of_derived : Bool → List ℕ → ℕ
unfolding stuck_from roles_in stops
of_derived false x = stuck_from (shape first_defs_code []) (marks x)
of_derived true x = stops x (roles_in (marks x))

unfoldable pub of_parts : Bool → List ℕ → ℕ
unfolding of_derived
of_parts false x = length (marks x)
of_parts true x = of_derived (derived (kinds_in (marks x))) x

unfoldable pub of_length : Bool → List ℕ → ℕ
unfolding of_parts
of_length true x = max_text
of_length false x = of_parts (parts x) x

unfoldable pub place : List ℕ → ℕ
unfolding of_length
place x = of_length (ltb max_text (length x)) x
