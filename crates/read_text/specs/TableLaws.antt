-- What a derivation says of the tables of its text (02 §1): the last offset is the count of types.
use Rattle.std.specs.Prelude.{ℕ, suc, ◌+◌, ◌≡◌, refl, List, [], ◌∷◌, map, length, get_or}
use Rattle.std.proofs.Common.{arith, add-zero, add_assoc, sym, ap, ◌∙◌, length-append}
use Rattle.std.proofs.lemmas.List.{length-map}
use Rattle.syntax.specs.Syntax.{Struct, Defs, Sched, Program as Derivation, Program.program}
use Rattle.meaning.specs.Scope.{par_id, pars_of, structs_of}
use Rattle.text_shape.specs.Roles.{roles}
use Rattle.resolve.specs.Tables.{places, offsets}
use Rattle.resolve.specs.Declares.{all_pars, sums}
use Rattle.resolve.specs.Laws.RowLaws.{par_rows_declared}
use Rattle.resolve.specs.Laws.PlacesLaws.{rows_stand}
use Rattle.resolve.specs.Standing.{Stood}
use Rattle.resolve.specs.Laws.WellDeclaredLaws.{par_names}
use Rattle.uses.specs.Laws.DeclaringLaws.{roles_fronted}
use Rattle.text_shape.specs.RoleNames.{new_par_role, first_type_role, last_par_type_role}

-- Sums ------------------------------------------------------------------------------------------------

total : List ℕ → ℕ
total [] = 0
total (a ∷ l) = a + total l

sums_last : (l : List ℕ) (n : ℕ) → (get_or (sums n l) (length l) 0 ≡ n + total l) × (length (sums n l) ≡ suc (length l))
unfolding sums total
sums_last [] n = (sym (add-zero n), refl)
sums_last (a ∷ l) n = let h = sums_last l (n + a) in (h.0 ∙ add_assoc n a (total l), ap suc h.1)

counted_pars : (ds : List Struct) → total (map (λ e. length (pars_of e)) ds) ≡ length (all_pars ds)
unfolding all_pars total
counted_pars [] = refl
counted_pars (d ∷ ds) = ap (λ n. length (pars_of d) + n) (counted_pars ds) ∙ sym (length-append (pars_of d) (all_pars ds))

-- Of a text -------------------------------------------------------------------------------------------

module _ (x cs : List ℕ) (d : Defs) (s : Sched) (st : Stood x cs (roles (program d s))) where
  abbrev ds : List Struct
  ds = structs_of d

  abbrev counts : List ℕ
  counts = map (λ e. length (pars_of e)) ds

  offsets_are : offsets new_par_role cs ≡ sums 0 counts
  offsets_are = rows_stand new_par_role 0 (omega arith) st ∙ par_rows_declared d s

  pars_counted : length (places new_par_role new_par_role cs) ≡ length (all_pars ds)
  pars_counted = sym (length-map (places new_par_role new_par_role cs) _) ∙ ap length (par_names x cs d s st) ∙ length-map (all_pars ds) par_id

  types_counted : length (places first_type_role last_par_type_role cs) ≡ length (all_pars ds)
  types_counted = (roles_fronted (program d s) st).types ∙ pars_counted

  last_there : (n : ℕ) → length (offsets new_par_role cs) ≡ suc n → get_or (offsets new_par_role cs) n 0 ≡ length (places first_type_role last_par_type_role cs)
  last_there n e =
      let h = sums_last counts 0 in
      let m : n ≡ length counts = omega (arith, ap length offsets_are, h.1) in
      ap (λ l. get_or l n 0) offsets_are ∙ ap (λ k. get_or (sums 0 counts) k 0) m ∙ h.0 ∙ omega (arith, counted_pars ds, types_counted)

pub last_offset : (x cs : List ℕ) (c : Derivation) → Stood x cs (roles c) → (n : ℕ) → length (offsets new_par_role cs) ≡ suc n
    → get_or (offsets new_par_role cs) n 0 ≡ length (places first_type_role last_par_type_role cs)
last_offset x cs (program d s) st n e = last_there x cs d s st n e
