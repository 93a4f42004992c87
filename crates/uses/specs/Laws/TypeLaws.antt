-- Types behind declarations and null, in lent memory (02 §1): one law for each way through the code.
use Prim.Native.Nat.{ℕ, zero, suc, ◌+◌, ◌-◌, ◌≤◌, ◌<◌}
use Rattle.std.proofs.Common.{arith, ◌∙◌, lt-ltb, le-ltb}
use Rattle.std.specs.Prelude.{◌≡◌, List, [], ◌∷◌, get_or, ltb, Some, None}
use Rattle.std.proofs.Math.Path.{refl, ap}
use Rattle.std.proofs.Math.Option.{Option, some}
use Rattle.std.proofs.Math.ListN.{length}
use Rattle.types.specs.Types.{struct_code}
use Rattle.syntax.specs.Syntax.{TypeName}
use Rattle.text_shape.specs.Roles.{Typed, Typed.of_par, Typed.of_local, Typed.of_null}
use Rattle.meaning.specs.Meant.{provided}
use Rattle.resolve.specs.Named.{names_at}
use Rattle.resolve.specs.Checks.{part_of, byte_of, type_here}
use Rattle.resolve.specs.Using.{Book, Use, leave, use_type}
use Rattle.resolve.specs.UsingAt.{typed_at, number_at}
use Rattle.uses.specs.Lent.{structs_of_table, book_in, Booked, use_in, passed_in}
use Rattle.uses.specs.Seeing.{seen_left, seen_passed}
use Rattle.uses.specs.Laws.SeeingLaws.{structs_long}
use Rattle.uses.specs.Laws.ChangeLaws.{seen_pass}
use Rattle.uses.specs.declared.Scope.{Scope}
use Rattle.text_shape.specs.RoleNames.{local_int_role, null_int_role, first_type_role, first_part_role}
use Rattle.uses.specs.Passed.{Passed}

abbrev numbers : List ℕ
numbers = 0 ∷ 1 ∷ 2 ∷ 3 ∷ 0 ∷ 1 ∷ 2 ∷ 3 ∷ 0 ∷ 1 ∷ 2 ∷ 3 ∷ []

-- each four of them are the numbers of the types
four : (n : ℕ) → n < 4 → (n ≡ get_or numbers (4 + n) 0) × (n ≡ get_or numbers (8 + n) 0)
four zero h = (refl, refl)
four (suc zero) h = (refl, refl)
four (suc (suc zero)) h = (refl, refl)
four (suc (suc (suc zero))) h = (refl, refl)
four (suc (suc (suc (suc n)))) h = absurd (omega arith)

pub number_local : (c : ℕ) → local_int_role ≤ c → c < null_int_role → c - local_int_role ≡ number_at c
unfolding number_at
number_local c g h = let e : 4 + (c - local_int_role) ≡ c - first_type_role = omega (arith, g) in (four (c - local_int_role) (omega (arith, h))).0
    ∙ ap (λ z. get_or numbers z 0) e

pub number_null : (c : ℕ) → null_int_role ≤ c → c < first_part_role → c - null_int_role ≡ number_at c
unfolding number_at
number_null c g h = let e : 8 + (c - null_int_role) ≡ c - first_type_role = omega (arith, g) in (four (c - null_int_role) (omega (arith, h))).1
    ∙ ap (λ z. get_or numbers z 0) e

module _ (b : Book) (v : TypeName) (u : Use) where
  abbrev typeds : List Typed
  typeds =
      of_par ∷ of_par ∷ of_par ∷ of_par ∷ of_local ∷ of_local ∷ of_local ∷ of_local ∷ of_null ∷ of_null ∷ of_null ∷ of_null ∷ []

  par_quiet : (n : ℕ) → n < 4 → some u ≡ use_type b (get_or typeds n of_par) v u
  unfolding use_type
  par_quiet zero h = refl
  par_quiet (suc zero) h = refl
  par_quiet (suc (suc zero)) h = refl
  par_quiet (suc (suc (suc zero))) h = refl
  par_quiet (suc (suc (suc (suc n)))) h = absurd (omega arith)

  pub type_par : (c : ℕ) → c < local_int_role → some u ≡ use_type b (typed_at c) v u
  unfolding typed_at
  type_par c h = par_quiet (c - first_type_role) (omega (arith, h))

  abbrev typed : Option Use
  typed = provided (ltb (byte_of b.structs v) (struct_code + length b.structs)) (some (leave u (byte_of b.structs v) (byte_of b.structs v)))

  others : (n : ℕ) → n < 8 → typed ≡ use_type b (get_or typeds (4 + n) of_par) v u
  unfolding use_type
  others zero h = refl
  others (suc zero) h = refl
  others (suc (suc zero)) h = refl
  others (suc (suc (suc zero))) h = refl
  others (suc (suc (suc (suc zero)))) h = refl
  others (suc (suc (suc (suc (suc zero))))) h = refl
  others (suc (suc (suc (suc (suc (suc zero)))))) h = refl
  others (suc (suc (suc (suc (suc (suc (suc zero))))))) h = refl
  others (suc (suc (suc (suc (suc (suc (suc (suc n)))))))) h = absurd (omega arith)

  typed_is : (c : ℕ) → local_int_role ≤ c → c < first_part_role → typed ≡ use_type b (typed_at c) v u
  unfolding typed_at
  typed_is c g h = others (c - local_int_role) (omega (arith, g, h)) ∙ ap (λ z. use_type b (get_or typeds z of_par) v u) (away c g)
    where
      away : (c : ℕ) → local_int_role ≤ c → 4 + (c - local_int_role) ≡ c - first_type_role
      away c g = omega (arith, g)

-- a type behind a declaration or null
module _ (x t : List ℕ) (b : Booked t) (c : Scope) (role : ℕ) (low : local_int_role ≤ role) (high : role < first_part_role) (s : List ℕ) {n w : ℕ}
    (e : n ≡ byte_of (names_at x (part_of t 0 (structs_of_table t))) (type_here w s)) (f : w ≡ number_at role) where
  there : n ≡ byte_of (book_in x t).structs (type_here (number_at role) s)
  unfolding book_in
  there = e ∙ ap (λ z. byte_of (names_at x (part_of t 0 (structs_of_table t))) (type_here z s)) f

  module _ (l k o : List ℕ) where
    abbrev now : Use
    now = use_in x l k c o

    pub type_none : struct_code + structs_of_table t ≤ n
        → passed_in x l k None o ≡ use_type (book_in x t) (typed_at role) (type_here (number_at role) s) now
    unfolding passed_in provided
    type_none h =
        let m = structs_long x t b in
        let g = there in
        rw (le-ltb (byte_of (book_in x t).structs (type_here (number_at role) s)) (struct_code + length (book_in x t).structs) (omega (arith, g, m, h))) at
        (typed_is (book_in x t) (type_here (number_at role) s) now role low high)

    pub type_one : {r : Passed} → n < struct_code + structs_of_table t → r ≡ seen_passed c (Some (n, n))
        → passed_in x l k r o ≡ use_type (book_in x t) (typed_at role) (type_here (number_at role) s) now
    unfolding seen_left provided
    type_one {r} h i =
        let m = structs_long x t b in
        let g = there in
        ap (λ z. passed_in x l k z o) i ∙ seen_pass x l k o c (Some (n, n)) ∙ ap (λ z. some (leave now z z)) g
        ∙ (rw
        (lt-ltb (byte_of (book_in x t).structs (type_here (number_at role) s)) (struct_code + length (book_in x t).structs) (omega (arith, g, m, h))) at
        (typed_is (book_in x t) (type_here (number_at role) s) now role low high))
