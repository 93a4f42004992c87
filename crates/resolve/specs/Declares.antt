-- What a derivation declares, by its roles: the names that stand in one way, by the byte of it, and the types of parameters, in order.
use Rattle.std.specs.Prelude.{ℕ, ◌+◌, Bool, true, false, List, [], ◌∷◌, ◌++◌, eqb, ltb}
use Rattle.syntax.specs.Syntax.{Id, TypeName, Par, Struct}
use Rattle.meaning.specs.Scope.{pars_of}
use Rattle.text_shape.specs.Roles.{Typed, Typed.of_par, Typed.of_local, Typed.of_null, Naming, Role, Role.plain, Role.naming, Role.typed, Role.part}
use Rattle.text_shape.specs.Roles.{naming_number}
use Rattle.text_shape.specs.Roles.{naming_code}

unfoldable pub named : ℕ → List Role → List Id
named n [] = []
named n (plain t ∷ k) = named n k
named n (naming m x ∷ k) = elim (eqb (naming_code m) n) [ true ↦ x ∷ named n k | false ↦ named n k ]
named n (typed u t ∷ k) = named n k
named n (part g ∷ k) = named n k

-- what declares no struct, no parameter and no step: all namings but the first three
unfoldable pub inner_name : Naming → Bool
unfolding naming_number
inner_name n = ltb 2 (naming_number n)

-- the types of parameters are not among it
unfoldable pub inner_type : Typed → Bool
inner_type of_par = false
inner_type of_local = true
inner_type of_null = true

unfoldable pub inner : Role → Bool
inner (plain t) = true
inner (naming n x) = inner_name n
inner (typed u t) = inner_type u
inner (part g) = true

-- the types of parameters, in order
unfoldable pub par_types : List Role → List TypeName
par_types [] = []
par_types (plain t ∷ k) = par_types k
par_types (naming m x ∷ k) = par_types k
par_types (typed of_par t ∷ k) = t ∷ par_types k
par_types (typed of_local t ∷ k) = par_types k
par_types (typed of_null t ∷ k) = par_types k
par_types (part g ∷ k) = par_types k

-- the parameters of all structs, in order; and how many stand before each, and in all
unfoldable pub all_pars : List Struct → List Par
all_pars [] = []
all_pars (d ∷ ds) = pars_of d ++ all_pars ds

unfoldable pub sums : ℕ → List ℕ → List ℕ
sums n [] = n ∷ []
sums n (a ∷ l) = n ∷ sums (n + a) l
