-- A derivation declares its structs, and in each its parameters and its steps, in order; bodies and the schedule declare none of these, whatever is asked of
-- the roles.
use Rattle.std.specs.Prelude.{ℕ, ◌<◌, ◌≡◌, true}
use Rattle.std.proofs.Common.{arith, ◌∙◌, ne_eqb, ltb-true}
use Rattle.std.proofs.Math.Path.{refl, sym, ap}
use Rattle.std.proofs.lemmas.Bool.{false≢true}
use mathlib.Core.List.{List, [], ◌∷◌, ◌++◌, map, append_assoc, append-nil}
use Rattle.syntax.specs.Syntax.{TypeName}
use Rattle.syntax.specs.Syntax.{Par, Par.par, Struct, Struct.struct, Defs, Defs.last_struct, Defs.defs, Sched, Program.program}
use Rattle.meaning.specs.Scope.{par_id, par_type, step_id, struct_id, pars_of, steps_of, structs_of}
use Rattle.meaning.specs.StepNames.{all_steps}
use Rattle.text_shape.specs.Roles.{Naming, Naming.new_struct, Naming.new_par, Naming.new_step}
use Rattle.text_shape.specs.Roles.{Part.pars_close, Part.steps_open, Part.steps_close, Role, Role.plain, Role.naming, Role.typed, Role.part, Typed.of_par}
use Rattle.text_shape.specs.Roles.{Typed.of_local, Typed.of_null, naming_number, naming_code}
use Rattle.text_shape.specs.Roles.{roles_par, roles_steps, roles_struct, roles_defs, roles_sched, roles}
use Rattle.resolve.specs.Declares.{named, inner, inner_name, inner_type, par_types, all_pars}
use Rattle.resolve.specs.Laws.QuietLaws.{pars_quiet, steps_quiet, pars_each, steps_each, sched_quiet}
use Rattle.text_shape.specs.RoleNames.{new_step_role, new_local_role}

-- Names ------------------------------------------------------------------------------------------

pub inner_code : (m : Naming) → inner_name m ≡ true → new_step_role < naming_code m
unfolding inner_name naming_code
inner_code m e = let h = ltb-true 2 (naming_number m) e in omega (arith, h)

passed : (n : ℕ) (m : Naming) (x : List ℕ) (k : List Role) → (naming_code m ≡ n → ⊥) → named n (naming m x ∷ k) ≡ named n k
unfolding named
passed n m x k e = rw (named, ne_eqb (naming_code m) n e) refl

named_quiet : (n : ℕ) → n < new_local_role → (r : Role) (k : List Role) → inner r ≡ true → named n (r ∷ k) ≡ named n k
unfolding named inner
named_quiet n l (plain t) k e = refl
named_quiet n l (naming m x) k e = passed n m x k (λ f. omega (arith, inner_code m e))
named_quiet n l (typed u t) k e = refl
named_quiet n l (part g) k e = refl

abbrev structs_in : List Role → List (List ℕ)
structs_in k = named (naming_code new_struct) k

abbrev pars_in : List Role → List (List ℕ)
pars_in k = named (naming_code new_par) k

abbrev steps_in : List Role → List (List ℕ)
steps_in k = named (naming_code new_step) k

structs_quiet : (r : Role) (k : List Role) → inner r ≡ true → structs_in (r ∷ k) ≡ structs_in k
unfolding naming_code
structs_quiet = named_quiet (naming_code new_struct) (omega arith)

pars_in_quiet : (r : Role) (k : List Role) → inner r ≡ true → pars_in (r ∷ k) ≡ pars_in k
unfolding naming_code
pars_in_quiet = named_quiet (naming_code new_par) (omega arith)

steps_in_quiet : (r : Role) (k : List Role) → inner r ≡ true → steps_in (r ∷ k) ≡ steps_in k
unfolding naming_code
steps_in_quiet = named_quiet (naming_code new_step) (omega arith)

types_quiet : (r : Role) (k : List Role) → inner r ≡ true → par_types (r ∷ k) ≡ par_types k
unfolding par_types inner inner_type
types_quiet (plain t) k e = refl
types_quiet (naming m x) k e = refl
types_quiet (typed of_par t) k e = absurd (false≢true e)
types_quiet (typed of_local t) k e = refl
types_quiet (typed of_null t) k e = refl
types_quiet (part g) k e = refl

-- a struct declares itself, its parameters with their types and its steps
module _ (k : List Role) where
  struct_named : (d : Struct) → structs_in (roles_struct d k) ≡ struct_id d ∷ structs_in k
  unfolding roles_struct roles_par named naming_code struct_id
  struct_named (struct x ps ts) =
      ap (λ l. x ∷ l)
      (pars_quiet structs_in structs_quiet (λ p j. par_past p j) ps (part pars_close ∷ part steps_open ∷ roles_steps ts (part steps_close ∷ k))
      ∙ steps_quiet structs_in structs_quiet (λ y j. refl) ts (part steps_close ∷ k))
    where
      par_past : (p : Par) (j : List Role) → structs_in (roles_par p j) ≡ structs_in j
      par_past (par y t) j = refl

  struct_pars_named : (d : Struct) → pars_in (roles_struct d k) ≡ map par_id (pars_of d) ++ pars_in k
  unfolding roles_struct roles_par named naming_code pars_of par_id
  struct_pars_named (struct x ps ts) =
      pars_each pars_in pars_in_quiet par_id (λ p j. par_adds p j) ps (part pars_close ∷ part steps_open ∷ roles_steps ts (part steps_close ∷ k))
      ∙ ap (λ l. map par_id ps ++ l) (steps_quiet pars_in pars_in_quiet (λ y j. refl) ts (part steps_close ∷ k))
    where
      par_adds : (p : Par) (j : List Role) → pars_in (roles_par p j) ≡ par_id p ∷ pars_in j
      par_adds (par y t) j = refl

  struct_types : (d : Struct) → par_types (roles_struct d k) ≡ map par_type (pars_of d) ++ par_types k
  unfolding roles_struct roles_par par_types pars_of par_type
  struct_types (struct x ps ts) =
      pars_each par_types types_quiet par_type (λ p j. par_adds p j) ps (part pars_close ∷ part steps_open ∷ roles_steps ts (part steps_close ∷ k))
      ∙ ap (λ l. map par_type ps ++ l) (steps_quiet par_types types_quiet (λ y j. refl) ts (part steps_close ∷ k))
    where
      par_adds : (p : Par) (j : List Role) → par_types (roles_par p j) ≡ par_type p ∷ par_types j
      par_adds (par y t) j = refl

  struct_steps_named : (d : Struct) → steps_in (roles_struct d k) ≡ map step_id (steps_of d) ++ steps_in k
  unfolding roles_struct roles_par named naming_code steps_of
  struct_steps_named (struct x ps ts) =
      pars_quiet steps_in steps_in_quiet (λ p j. par_past p j) ps (part pars_close ∷ part steps_open ∷ roles_steps ts (part steps_close ∷ k))
      ∙ steps_each steps_in steps_in_quiet (λ y. y) (λ y j. refl) ts (part steps_close ∷ k)
    where
      par_past : (p : Par) (j : List Role) → steps_in (roles_par p j) ≡ steps_in j
      par_past (par y t) j = refl

-- the structs, their parameters with their types and the steps of a whole derivation
module _ {B : Type 0} (f : List Role → List B) (quiet : (r : Role) (k : List Role) → inner r ≡ true → f (r ∷ k) ≡ f k) (nothing : f [] ≡ [])
    (of : Struct → List B) (row : List Struct → List B) (adds : (k : List Role) (d : Struct) → f (roles_struct d k) ≡ of d ++ f k)
    (none : row [] ≡ []) (more : (d : Struct) (ds : List Struct) → row (d ∷ ds) ≡ of d ++ row ds) where
  defs_declared : (d : Defs) (k : List Role) → f (roles_defs d k) ≡ row (structs_of d) ++ f k
  unfolding roles_defs structs_of
  defs_declared (last_struct d) k = adds k d ∙ ap (λ l. l ++ f k) (sym (append-nil (of d)) ∙ ap (λ l. of d ++ l) (sym none) ∙ sym (more d []))
  defs_declared (defs d e) k =
      adds (roles_defs e k) d ∙ ap (λ l. of d ++ l) (defs_declared e k) ∙ sym (append_assoc (of d) (row (structs_of e)) (f k))
      ∙ ap (λ l. l ++ f k) (sym (more d (structs_of e)))

  declared : (d : Defs) (s : Sched) → f (roles (program d s)) ≡ row (structs_of d)
  unfolding roles
  declared d s =
      defs_declared d (roles_sched s []) ∙ ap (λ l. row (structs_of d) ++ l) (sched_quiet f quiet s [] ∙ nothing) ∙ append-nil (row (structs_of d))

pub map_pars : (B : Type 0) (h : Par → B) (d : Struct) (ds : List Struct) → map h (all_pars (d ∷ ds)) ≡ map h (pars_of d) ++ map h (all_pars ds)
unfolding all_pars
map_pars B h d ds = go (pars_of d)
  where
    go : (l : List Par) → map h (l ++ all_pars ds) ≡ map h l ++ map h (all_pars ds)
    go [] = refl
    go (p ∷ l) = ap (λ m. h p ∷ m) (go l)

pub structs_declared : (d : Defs) (s : Sched) → structs_in (roles (program d s)) ≡ map struct_id (structs_of d)
unfolding named
structs_declared =
    declared structs_in structs_quiet refl (λ d. struct_id d ∷ []) (map struct_id) (λ k d. struct_named k d) refl (λ d ds. refl)

pub steps_declared : (d : Defs) (s : Sched) → steps_in (roles (program d s)) ≡ all_steps (structs_of d)
unfolding named all_steps
steps_declared =
    declared steps_in steps_in_quiet refl (λ d. map step_id (steps_of d)) all_steps (λ k d. struct_steps_named k d) refl (λ d ds. refl)

pub pars_declared : (d : Defs) (s : Sched) → pars_in (roles (program d s)) ≡ map par_id (all_pars (structs_of d))
unfolding named all_pars
pars_declared =
    declared pars_in pars_in_quiet refl (λ d. map par_id (pars_of d)) (λ ds. map par_id (all_pars ds)) (λ k d. struct_pars_named k d) refl
    (map_pars (List ℕ) par_id)

pub types_declared : (d : Defs) (s : Sched) → par_types (roles (program d s)) ≡ map par_type (all_pars (structs_of d))
unfolding par_types all_pars
types_declared =
    declared par_types types_quiet refl (λ d. map par_type (pars_of d)) (λ ds. map par_type (all_pars ds)) (λ k d. struct_types k d) refl
    (map_pars TypeName par_type)
