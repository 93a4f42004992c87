-- How many parameters, and how many steps, a derivation declares before each of its structs.
use Prim.Native.Nat.{ℕ, suc, ◌+◌, ◌<◌}
use Rattle.std.proofs.Common.{arith, add-one, sym, ◌∙◌, inl, inr}
use Rattle.std.specs.Prelude.{◌≡◌, ◌⊎◌, true}
use Rattle.std.proofs.Math.Path.{refl, ap}
use Rattle.std.proofs.Math.Logic.{⊎_elim}
use mathlib.Core.List.{List, [], ◌∷◌, map}
use Rattle.std.proofs.Math.ListN.{length}
use borrow.Author.Tests.{eq-eqb, ne_eqb}
use Rattle.tokens.specs.Tokens.{Sign.colon, Word.w_struct, Token.sign, Token.word}
use Rattle.syntax.specs.Syntax.{Par, Par.par, Struct, Struct.struct, Defs, Defs.last_struct, Defs.defs, Sched, Program.program}
use Rattle.meaning.specs.Scope.{pars_of, steps_of, structs_of}
use Rattle.tokens.proofs.Laws.KindLaws.{kind_within}
use Rattle.text_shape.specs.Roles.{Naming.new_struct, Naming.new_par, Naming.new_step, Typed, Typed.of_par, Typed.of_local, Typed.of_null, Part, Part.pars_open}
use Rattle.text_shape.specs.Roles.{Part.pars_close, Part.steps_open, Part.steps_close, Role, Role.plain, Role.naming, Role.typed, Role.part, naming_code}
use Rattle.text_shape.specs.Roles.{typed_code, part_code, code}
use Rattle.text_shape.specs.Roles.{roles_par, roles_pars, roles_steps, roles_struct, roles_defs, roles_sched, roles}
use Rattle.resolve.specs.Declares.{inner, sums}
use Rattle.resolve.specs.Laws.DeclaresLaws.{inner_code}
use Rattle.resolve.specs.Laws.QuietLaws.{pars_quiet, steps_quiet, pars_counted, steps_counted, sched_quiet}
use Rattle.resolve.specs.Tables.{with_one, offsets_from}
use Rattle.text_shape.specs.RoleNames.{new_struct_role, new_par_role, new_step_role, new_local_role, called_step_role, null_struct_role}

-- the bytes of roles that declare no struct, no parameter and no step
pub typed_far : (u : Typed) → called_step_role < typed_code u
unfolding typed_code
typed_far of_par = omega arith
typed_far of_local = omega arith
typed_far of_null = omega arith

pub part_far : (g : Part) → null_struct_role < part_code g
unfolding part_code
part_far g = omega arith

inner_byte : (r : Role) → inner r ≡ true → (code r < new_struct_role) ⊎ (new_step_role < code r)
unfolding code inner
inner_byte (plain t) e = inl (kind_within t).1
inner_byte (naming m x) e = inr (inner_code m e)
inner_byte (typed u t) e = inr (omega (arith, typed_far u))
inner_byte (part g) e = inr (omega (arith, part_far g))

-- of parameters by 40, of steps by 41
module _ (q : ℕ) (low : new_struct_role < q) (high : q < new_local_role) where
  abbrev rows_in : ℕ → List Role → List ℕ
  rows_in n k = offsets_from q n (map code k)

  far_past : (n : ℕ) (r : Role) (k : List Role) → (code r < new_struct_role) ⊎ (new_step_role < code r) → rows_in n (r ∷ k) ≡ rows_in n k
  unfolding offsets_from with_one
  far_past n r k h =
      rw (
        offsets_from,
        ne_eqb (code r) new_struct_role (λ e. ⊎_elim (λ l. omega arith) (λ l. omega arith) h),
        ne_eqb (code r) q
            (λ e. ⊎_elim (λ l. omega arith) (λ l. omega arith) h),
      ) refl

  rows_quiet : (n : ℕ) (r : Role) (k : List Role) → inner r ≡ true → rows_in n (r ∷ k) ≡ rows_in n k
  rows_quiet n r k e = far_past n r k (inner_byte r e)

  -- one that is counted, and one that is not
  counted_in : (n : ℕ) (r : Role) (k : List Role) → code r ≡ q → rows_in n (r ∷ k) ≡ rows_in (suc n) k
  unfolding offsets_from with_one
  counted_in n r k e =
      rw (offsets_from, ne_eqb (code r) new_struct_role (λ f. omega arith), eq-eqb (code r) q e) (ap (λ m. rows_in m k) (add-one n))

  passed_in : (n : ℕ) (r : Role) (k : List Role) → new_struct_role < code r → (code r ≡ q → ⊥) → rows_in n (r ∷ k) ≡ rows_in n k
  unfolding offsets_from with_one
  passed_in n r k l e = rw (offsets_from, ne_eqb (code r) new_struct_role (λ f. omega arith), ne_eqb (code r) q e) refl

  -- a parameter, by what its name does
  par_rows : (n m : ℕ) → ((y : List ℕ) (j : List Role) → rows_in n (naming new_par y ∷ j) ≡ rows_in m j) → (p : Par) (k : List Role)
      → rows_in n (roles_par p k) ≡ rows_in m k
  unfolding roles_par code inner
  par_rows n m h (par y t) k =
      h y (plain (sign colon) ∷ typed of_par t ∷ k) ∙ rows_quiet m (plain (sign colon)) (typed of_par t ∷ k) refl
      ∙ far_past m (typed of_par t) k (inr (omega (arith, typed_far of_par)))

  begun : (n : ℕ) (x : List ℕ) (k : List Role) → rows_in n (naming new_struct x ∷ k) ≡ n ∷ rows_in n k
  unfolding offsets_from with_one code naming_code
  begun n x k = rw (ne_eqb new_struct_role q (λ e. omega arith), offsets_from) refl

  -- a struct that adds so many
  module _ (count : Struct → ℕ)
      (inside : (d : Struct) (n : ℕ) (k : List Role) → rows_in n (roles_pars (pars_of d) (part pars_close ∷ part steps_open ∷ roles_steps (steps_of d) k))
      ≡ rows_in (n + count d) k) where
    struct_rows : (d : Struct) (n : ℕ) (k : List Role) → rows_in n (roles_struct d k) ≡ n ∷ rows_in (n + count d) k
    unfolding roles_struct inner pars_of steps_of
    struct_rows (struct x ps ts) n k =
        rows_quiet n (plain (word w_struct)) (naming new_struct x ∷ part pars_open ∷ inner_part) refl ∙ begun n x (part pars_open ∷ inner_part)
        ∙ ap (λ l. n ∷ l)
        (rows_quiet n (part pars_open) inner_part refl ∙ inside (struct x ps ts) n (part steps_close ∷ k)
        ∙ rows_quiet (n + count (struct x ps ts)) (part steps_close) k refl)
      where
        inner_part : List Role
        inner_part = roles_pars ps (part pars_close ∷ part steps_open ∷ roles_steps ts (part steps_close ∷ k))

    defs_rows : (d : Defs) (n : ℕ) (k : List Role) → ((m : ℕ) → rows_in m k ≡ m ∷ []) → rows_in n (roles_defs d k) ≡ sums n (map count (structs_of d))
    unfolding roles_defs structs_of sums
    defs_rows (last_struct d) n k h = struct_rows d n k ∙ ap (λ l. n ∷ l) (h (n + count d))
    defs_rows (defs d e) n k h = struct_rows d n (roles_defs e k) ∙ ap (λ l. n ∷ l) (defs_rows e (n + count d) k h)

    rows_declared : (d : Defs) (s : Sched) → rows_in 0 (roles (program d s)) ≡ sums 0 (map count (structs_of d))
    unfolding roles offsets_from
    rows_declared d s = defs_rows d 0 (roles_sched s []) (λ m. sched_quiet (rows_in m) (rows_quiet m) s [])

  -- by the parameters of a struct; by its steps
  pars_inside : q ≡ new_par_role → (d : Struct) (n : ℕ) (k : List Role)
      → rows_in n (roles_pars (pars_of d) (part pars_close ∷ part steps_open ∷ roles_steps (steps_of d) k)) ≡ rows_in (n + length (pars_of d)) k
  unfolding code naming_code inner
  pars_inside e d n k =
      pars_counted rows_in rows_quiet (λ m p j. par_rows m (suc m) (λ y i. counted_in m (naming new_par y) i (sym e)) p j) (pars_of d) n
      (part pars_close ∷ part steps_open ∷ roles_steps (steps_of d) k)
      ∙ rows_quiet after (part pars_close) (part steps_open ∷ roles_steps (steps_of d) k) refl
      ∙ rows_quiet after (part steps_open) (roles_steps (steps_of d) k) refl
      ∙ steps_quiet (rows_in after) (rows_quiet after) (λ y i. passed_in after (naming new_step y) i (omega arith) (λ f. omega arith)) (steps_of d) k
    where
      after : ℕ
      after = n + length (pars_of d)

  steps_inside : q ≡ new_step_role → (d : Struct) (n : ℕ) (k : List Role)
      → rows_in n (roles_pars (pars_of d) (part pars_close ∷ part steps_open ∷ roles_steps (steps_of d) k)) ≡ rows_in (n + length (steps_of d)) k
  unfolding code naming_code inner
  steps_inside e d n k =
      pars_quiet (rows_in n) (rows_quiet n) (λ p j. par_rows n n (λ y i. passed_in n (naming new_par y) i (omega arith) (λ f. omega arith)) p j) (pars_of d)
      (part pars_close ∷ part steps_open ∷ roles_steps (steps_of d) k)
      ∙ rows_quiet n (part pars_close) (part steps_open ∷ roles_steps (steps_of d) k) refl ∙ rows_quiet n (part steps_open) (roles_steps (steps_of d) k) refl
      ∙ steps_counted rows_in rows_quiet (λ m y i. counted_in m (naming new_step y) i (sym e)) (steps_of d) n k

pub par_rows_declared : (d : Defs) (s : Sched) → offsets_from new_par_role 0 (map code (roles (program d s)))
    ≡ sums 0 (map (λ e. length (pars_of e)) (structs_of d))
par_rows_declared =
    rows_declared new_par_role (omega arith) (omega arith) (λ e. length (pars_of e)) (pars_inside new_par_role (omega arith) (omega arith) refl)

pub step_rows_declared : (d : Defs) (s : Sched) → offsets_from new_step_role 0 (map code (roles (program d s)))
    ≡ sums 0 (map (λ e. length (steps_of e)) (structs_of d))
step_rows_declared =
    rows_declared new_step_role (omega arith) (omega arith) (λ e. length (steps_of e)) (steps_inside new_step_role (omega arith) (omega arith) refl)
