-- What is tested of tables of declarations: rows of few parameters with different names, few steps, types whose structs there are; and the places where step
-- names are first declared.
use Rattle.std.specs.Prelude.{ℕ, zero, suc, ◌+◌, ◌-◌, Bool, true, false, ◌&&◌, List, [], ◌∷◌, ◌++◌, map, length, get_or, take, drop, leb, ltb}
use Rattle.types.specs.Limits.{max_params, max_steps}
use Rattle.types.specs.Types.{struct_code}
use Rattle.syntax.specs.Syntax.{Id, TypeName, TypeName.int_type, TypeName.nat_type, TypeName.bool_type, TypeName.id_type}
use Rattle.meaning.specs.Finding.{distinct}
use Rattle.meaning.specs.HoldsDecide.{all}
use Rattle.resolve.specs.Named.{name_of, name_at, names_at, sought}
use Rattle.text_shape.specs.RoleNames.{first_type_role}

-- Rows ----------------------------------------------------------------------------------------

-- the part of a table from a to b
abbrev pub part_of : {A : Type 0} → List A → ℕ → ℕ → List A
part_of table a b = take (b - a) (drop a table)

-- of parameters, from a to b
unfoldable pub row_ok : List ℕ → List ℕ → ℕ → ℕ → Bool
row_ok text pars a b = leb a b && (leb b (length pars) && (leb (b - a) max_params && distinct (names_at text (part_of pars a b))))

-- each between a number and the next
unfoldable pub between_all : (ℕ → ℕ → Bool) → List ℕ → Bool
between_all t [] = true
between_all t (a ∷ []) = true
between_all t (a ∷ b ∷ l) = t a b && between_all t (b ∷ l)

unfoldable pub rows_ok : List ℕ → List ℕ → List ℕ → Bool
unfolding between_all row_ok
rows_ok text pars l = between_all (row_ok text pars) l

-- of steps
unfoldable pub narrow : List ℕ → Bool
unfolding between_all
narrow l = between_all (λ a b. leb (b - a) max_steps) l

-- Types ------------------------------------------------------------------------------------------

-- a type by its number among the four kinds, and the bytes from its token on
unfoldable pub type_here : ℕ → List ℕ → TypeName
type_here zero s = int_type
type_here (suc zero) s = nat_type
type_here (suc (suc zero)) s = bool_type
type_here (suc (suc (suc n))) s = id_type (name_of s)

-- its byte in a stream; one that no struct has where its struct is not there
unfoldable pub byte_of : List Id → TypeName → ℕ
unfolding sought
byte_of names int_type = 0
byte_of names nat_type = 1
byte_of names bool_type = 2
byte_of names (id_type x) = struct_code + sought x names

unfoldable pub types_at : List ℕ → List ℕ → List Id → List ℕ → List ℕ
unfolding byte_of type_here
types_at text roles names places = map (λ i. byte_of names (type_here (get_or roles i 0 - first_type_role) (drop i text))) places

-- every type is one
unfoldable pub known : ℕ → List ℕ → Bool
unfolding all
known structs l = all (λ b. ltb b (struct_code + structs)) l

-- Step names -----------------------------------------------------------------------------------------

-- the places of names that are none of those before
unfoldable pub firsts : List ℕ → List ℕ → List ℕ → List ℕ
unfolding sought
firsts text met [] = []
firsts text met (p ∷ l) =
    elim (ltb (sought (name_at text p) (names_at text met)) (length met)) [ true ↦ firsts text met l | false ↦ p ∷ firsts text (met ++ (p ∷ [])) l ]
