-- 17 for names (02 §1): the numbers of a text are those of the program that its derivation means; without them it means no program that a stream holds.
use Rattle.std.specs.Prelude.{ℕ, ◌+◌, ◌-◌, Bool}
use native.Mathlib.Omega.{arith}
use Rattle.std.proofs.Math.Path.{◌≡◌, refl, sym, ap}
use Rattle.std.proofs.Common.{◌∙◌, drop-drop}
use Rattle.std.proofs.Math.Bool.{true, false}
use mathlib.Core.List.{List, [], ◌∷◌, ◌++◌, map}
use Rattle.std.proofs.Math.Option.{Option, none, some}
use Rattle.std.proofs.Math.ListN.{length, take, drop}
use Rattle.std.proofs.lemmas.List.{length-map}
use Rattle.std.proofs.Math.Seq.{take_at, drop_at}
use Rattle.types.proofs.Laws.ListLaws.{cons_eq, map_twice}
use Rattle.types.specs.Types.{Ty, code as type_code}
use Rattle.program.specs.Tree.{Program}
use Rattle.syntax.specs.Syntax.{Id, Par, Struct, Defs, Sched, Program.program}
use Rattle.meaning.specs.Scope.{par_id, par_type, struct_id, pars_of, structs_of}
use Rattle.meaning.specs.StepNames.{once, step_names}
use Rattle.meaning.specs.Finding.{distinct}
use Rattle.meaning.specs.HoldsDecide.{all, holds}
use Rattle.meaning.proofs.Laws.HoldsDecideLaws.{decides_holds}
use Rattle.meaning.specs.Holds.{Holds}
use Rattle.meaning.specs.Meant.{then, provided, each, pars_meaning, meant}
use Rattle.meaning.specs.Means.{Means}
use Rattle.meaning.proofs.Laws.MeantLaws.{meant_means}
use Rattle.meaning.proofs.Laws.MeantComplete.{means_meant}
use Rattle.text_shape.specs.Roles.{naming_code, roles}
use Rattle.resolve.specs.Named.{names_at}
use Rattle.resolve.specs.Numbers.{few_steps}
use Rattle.resolve.specs.Outcomes.{onto}
use Rattle.resolve.specs.Passing.{Pass, passes}
use Rattle.resolve.specs.Uses.{pass_start, used, Uses, uses_meaning, uses_numbers, few_uses}
use Rattle.resolve.specs.Laws.UsesLaws.{used_exactly, meant_by_uses, held_few}
use Rattle.resolve.specs.Tables.{places, offsets}
use Rattle.resolve.specs.Declares.{named, all_pars, sums}
use Rattle.resolve.specs.Laws.DeclaresLaws.{map_pars, types_declared, steps_declared}
use Rattle.resolve.specs.Laws.RowLaws.{par_rows_declared}
use Rattle.resolve.specs.Checks.{part_of, byte_of, types_at, firsts}
use Rattle.resolve.specs.Standing.{Stood}
use Rattle.resolve.specs.Laws.PlacesLaws.{names_stand, rows_stand, types_stand}
use Rattle.resolve.specs.Laws.DeclarationLaws.{row_bytes, firsts_once}
use Rattle.resolve.specs.WellDeclared.{well_declared}
use Rattle.resolve.specs.Laws.WellDeclaredLaws.{Declared, struct_names, par_names, tables_tested, held_declared, declared_few, params_meant}
use Rattle.resolve.specs.Using.{Book, book_of, use_start}
use Rattle.resolve.specs.Laws.UsingTextLaws.{used_by_tables}
use Rattle.resolve.specs.UsingAt.{uses_at}
use Rattle.resolve.specs.Laws.UsingAtLaws.{uses_stand}
use Rattle.resolve.specs.Resolved.{cuts, book_at, resolved, program_numbers}
use Rattle.text_shape.specs.RoleNames.{new_struct_role, new_par_role, new_step_role, first_type_role, last_par_type_role}

-- Tables -------------------------------------------------------------------------------------------

cuts_front : {A : Type 0} (l : List A) (n m : ℕ) (k : List ℕ) → cuts l (n ∷ sums m k) ≡ part_of l n m ∷ cuts l (sums m k)
unfolding cuts sums
cuts_front l n m [] = refl
cuts_front l n m (a ∷ k) = refl

-- what is said of each parameter, cut into the rows of structs
module _ {B : Type 0} (h : Par → B) (l : List B) where
  cuts_of : (ds : List Struct) (n : ℕ) → drop n l ≡ map h (all_pars ds)
      → cuts l (sums n (map (λ d. length (pars_of d)) ds)) ≡ map (λ d. map h (pars_of d)) ds
  unfolding cuts sums
  cuts_of [] n e = refl
  cuts_of (d ∷ ds) n e =
      let f : drop n l ≡ map h (pars_of d) ++ map h (all_pars ds) = e ∙ map_pars B h d ds in
      let i : (n + length (pars_of d)) - n ≡ length (pars_of d) = omega arith in
      let a : part_of l n (n + length (pars_of d)) ≡ map h (pars_of d) =
      ap (λ m. take m (drop n l)) i ∙ ap (take (length (pars_of d))) f
      ∙ take_at (map h (pars_of d)) (map h (all_pars ds)) (length (pars_of d)) (length-map (pars_of d) h) in
      let b : drop (n + length (pars_of d)) l ≡ map h (all_pars ds) =
      sym (drop-drop (length (pars_of d)) n l) ∙ ap (drop (length (pars_of d))) f
      ∙ drop_at (map h (pars_of d)) (map h (all_pars ds)) (length (pars_of d)) (length-map (pars_of d) h) in
      cuts_front l n (n + length (pars_of d)) (map (λ e. length (pars_of e)) ds) ∙ cons_eq a (cuts_of ds (n + length (pars_of d)) b)

same_book : {a b : List Id} {c d : List (List Id)} {e f : List (List ℕ)} {g h : List Id} → a ≡ b → c ≡ d → e ≡ f → g ≡ h
    → ◌≡◌ {A = Book} (record { structs = a; rows = c; types = e; steps = g }) (record { structs = b; rows = d; types = f; steps = h })
same_book i j k l = rw (i, j, k, l) refl

module _ (x cs : List ℕ) (d : Defs) (s : Sched) (st : Stood x cs (roles (program d s))) where
  abbrev ds : List Struct
  ds = structs_of d

  par_rows : offsets new_par_role cs ≡ sums 0 (map (λ e. length (pars_of e)) ds)
  par_rows = rows_stand new_par_role 0 (omega arith) st ∙ par_rows_declared d s

  step_names_told : names_at x (firsts x [] (places new_step_role new_step_role cs)) ≡ step_names ds
  unfolding step_names named naming_code
  step_names_told =
      firsts_once x (places new_step_role new_step_role cs)
      ∙ ap (once []) (names_stand x new_step_role (omega arith) (omega arith) 0 refl st ∙ steps_declared d s)

  types_told : types_at x cs (map struct_id ds) (places first_type_role last_par_type_role cs)
      ≡ map (λ q. byte_of (map struct_id ds) (par_type q)) (all_pars ds)
  types_told =
      types_stand x cs (map struct_id ds) 0 refl refl st ∙ ap (map (byte_of (map struct_id ds))) (types_declared d s)
      ∙ map_twice (byte_of (map struct_id ds)) par_type (all_pars ds)

  rows_told : cuts (names_at x (places new_par_role new_par_role cs)) (offsets new_par_role cs) ≡ map (λ e. map par_id (pars_of e)) ds
  rows_told =
      ap (cuts (names_at x (places new_par_role new_par_role cs))) par_rows
      ∙ cuts_of par_id (names_at x (places new_par_role new_par_role cs)) ds 0 (par_names x cs d s st)

  type_rows_told : cuts (types_at x cs (names_at x (places new_struct_role new_struct_role cs)) (places first_type_role last_par_type_role cs))
      (offsets new_par_role cs)
      ≡ map (λ e. map (λ q. byte_of (map struct_id ds) (par_type q)) (pars_of e)) ds
  type_rows_told =
      ap (λ l. cuts (types_at x cs l (places first_type_role last_par_type_role cs)) (offsets new_par_role cs)) (struct_names x cs d s st)
      ∙ ap (cuts (types_at x cs (map struct_id ds) (places first_type_role last_par_type_role cs))) par_rows
      ∙ cuts_of (λ q. byte_of (map struct_id ds) (par_type q)) (types_at x cs (map struct_id ds) (places first_type_role last_par_type_role cs)) ds 0 types_told

  -- the tables of a text are those of its derivation
  pub book_told : book_at x cs ≡ book_of ds (step_names ds)
  unfolding book_at
  book_told = same_book (struct_names x cs d s st) rows_told type_rows_told step_names_told

  -- the numbers of a text, by its derivation
  pub resolved_used : resolved x cs ≡ provided (well_declared ds) (used (program d s))
  unfolding resolved
  resolved_used =
      ap (λ t. provided t (then (uses_at (book_at x cs) x cs use_start) (λ u. some u.out))) (tables_tested x cs d s st)
      ∙ ap (provided (well_declared ds))
      (ap (λ o. then o (λ u. some u.out))
      (ap (λ b. uses_at b x cs use_start) book_told ∙ uses_stand (book_of ds (step_names ds)) use_start st)
      ∙ sym (used_by_tables d s))

-- Meaning ------------------------------------------------------------------------------------------

-- where a text has numbers: the program that its derivation means has them, and the types of its parameters by their bytes; its declarations and the locals of
-- its steps are few; the pass over its uses came to the end
pub record Resolves (d : Defs) (s : Sched) (ns : List ℕ) (p : Program) : Type 0 where
  pub means : Means (program d s) p
  pub numbers : onto (program_numbers p) [] ≡ ns
  pub types : map (λ u. map type_code u) p.params ≡ map (row_bytes (structs_of d)) (structs_of d)
  pub declared : Declared (structs_of d)
  pub locals : all few_steps p.steps ≡ true
  pub behind : Pass
  pub passed : passes (structs_of d) (step_names (structs_of d)) (roles (program d s)) (pass_start (structs_of d)) ≡ some behind

abbrev of : List (List Ty) → Uses → Program
of us u = record { params = us; steps = u.steps; schedule = u.schedule }

-- what a program means is what its uses mean
meant_parts : (t : Bool) (o : Option (List (List Ty))) (v : Option Uses) (p : Program)
    → provided t (then o (λ us. then v (λ u. some (of us u)))) ≡ some p → (u : Uses) × (v ≡ some u) × (u.steps ≡ p.steps)
unfolding provided then
meant_parts false o v p e = absurd (let z : ◌≡◌ {A = ℕ} 0 1 = cc in omega arith)
meant_parts true none v p e = absurd (let z : ◌≡◌ {A = ℕ} 0 1 = cc in omega arith)
meant_parts true (some us) none p e = absurd (let z : ◌≡◌ {A = ℕ} 0 1 = cc in omega arith)
meant_parts true (some us) (some u) p e = (u, refl, (let f : of us u ≡ p = cc in ap (λ q. q.steps) f))

meant_from : (t : Bool) (o : Option (List (List Ty))) (v : Option Uses) (us : List (List Ty)) (u : Uses) → t ≡ true → o ≡ some us → v ≡ some u
    → provided t (then o (λ us. then v (λ u. some (of us u)))) ≡ some (of us u)
unfolding provided then
meant_from t o v us u e f g = rw (e, f, g) refl

module _ (d : Defs) (s : Sched) where
  abbrev structs : List Struct
  structs = structs_of d

  abbrev told : Option Uses
  told = uses_meaning structs (step_names structs) structs s

  -- uses leave numbers where a program is meant and held
  used_held : (p : Program) → Means (program d s) p → Holds p → used (program d s) ≡ none → ⊥
  unfolding then provided
  used_held p m h e =
      let q = meant_parts (distinct (map struct_id structs)) (each (pars_meaning structs) structs) told p (sym (meant_by_uses d s) ∙ means_meant m) in
      let few : all few_steps q.0.steps ≡ true = ap (all few_steps) q.2 ∙ held_few p h in
      let f : provided (all few_steps q.0.steps) (some (onto (uses_numbers q.0) [])) ≡ none =
      sym (ap (λ o. then o (λ u. provided (few_uses u) (some (onto (uses_numbers u) [])))) q.1) ∙ sym (used_exactly d s) ∙ e in
      nothing (all few_steps q.0.steps) (onto (uses_numbers q.0) []) few f
    where
      nothing : (t : Bool) (l : List ℕ) → t ≡ true → provided t (some l) ≡ none → ⊥
      nothing true l f g = let z : ◌≡◌ {A = ℕ} 0 1 = cc in omega arith
      nothing false l f g = let z : ◌≡◌ {A = ℕ} 0 1 = cc in omega arith

  -- and what leaves numbers is meant
  numbers_of : (o : Option Uses) (l : List ℕ) → then o (λ u. provided (few_uses u) (some (onto (uses_numbers u) []))) ≡ some l
      → (u : Uses) × (o ≡ some u) × (onto (uses_numbers u) [] ≡ l) × (few_uses u ≡ true)
  unfolding then provided
  numbers_of none l e = absurd (let z : ◌≡◌ {A = ℕ} 0 1 = cc in omega arith)
  numbers_of (some u) l e = let k = go (few_uses u) e in (u, refl, k.0, k.1)
    where
      go : (t : Bool) → provided t (some (onto (uses_numbers u) [])) ≡ some l → (onto (uses_numbers u) [] ≡ l) × (t ≡ true)
      go true f = ((cc), refl)
      go false f = absurd (let z : ◌≡◌ {A = ℕ} 0 1 = cc in omega arith)

  rows_of : (o : Option (List (List Ty))) (k : List (List ℕ)) → then o (λ us. some (map (λ u. map type_code u) us)) ≡ some k
      → (us : List (List Ty)) × (o ≡ some us) × (map (λ u. map type_code u) us ≡ k)
  unfolding then
  rows_of none k e = absurd (let z : ◌≡◌ {A = ℕ} 0 1 = cc in omega arith)
  rows_of (some us) k e = (us, refl, cc)

  -- the pass that leaves numbers came to the end
  passed_of : (o : Option Pass) (l : List ℕ) → then o (λ q. some q.out) ≡ some l → (q : Pass) × (o ≡ some q)
  unfolding then
  passed_of none l e = absurd (let z : ◌≡◌ {A = ℕ} 0 1 = cc in omega arith)
  passed_of (some q) l e = (q, refl)

  used_meant : (l : List ℕ) → well_declared structs ≡ true → used (program d s) ≡ some l → (p : Program) × (Resolves d s l p)
  unfolding program_numbers uses_numbers used then provided
  used_meant l w e =
      let n = numbers_of told l (sym (used_exactly d s) ∙ e) in
      let r = rows_of (each (pars_meaning structs) structs) (map (row_bytes structs) structs) (params_meant structs w) in
      let g = passed_of (passes structs (step_names structs) (roles (program d s)) (pass_start structs)) l e in
      let f = declared_few structs w in
      let m : meant (program d s) ≡ some (of r.0 n.0) =
      meant_by_uses d s
      ∙ meant_from (distinct (map struct_id structs)) (each (pars_meaning structs) structs) told r.0 n.0 f.different r.1 n.1 in (
        of r.0 n.0,
        record {
          means = meant_means (program d s) (of r.0 n.0) m;
          numbers = n.2;
          types = r.2;
          declared = f;
          locals = n.3;
          behind = g.0;
          passed = g.1;
        },
      )

-- Texts ----------------------------------------------------------------------------------------------

module _ (x cs : List ℕ) (d : Defs) (s : Sched) (st : Stood x cs (roles (program d s))) where
  -- a text without numbers: no program that a stream holds is meant (17)
  pub resolved_refuses : {p : Program} → resolved x cs ≡ none → Means (program d s) p → Holds p → ⊥
  unfolding provided
  resolved_refuses {p} e m h =
      used_held d s p m h (sym (ap (λ t. provided t (used (program d s))) (held_declared m h)) ∙ sym (resolved_used x cs d s st) ∙ e)

  -- in terms of what is meant
  pub resolved_none : {A : Type 0} (f : Program → Option A) → resolved x cs ≡ none → then (meant (program d s)) (λ p. provided (holds p) (f p)) ≡ none
  unfolding then provided
  resolved_none f e = go (meant (program d s)) refl
    where
      held : (p : Program) (t : Bool) → Means (program d s) p → holds p ≡ t → provided t (f p) ≡ none
      held p true m h = absurd (resolved_refuses e m ((decides_holds p).holds h))
      held p false m h = refl

      go : (o : Option Program) → meant (program d s) ≡ o → then o (λ p. provided (holds p) (f p)) ≡ none
      go none g = refl
      go (some p) g = held p (holds p) (meant_means (program d s) p g) refl

  -- a text with numbers means the program that has them
  pub resolved_means : (ns : List ℕ) → resolved x cs ≡ some ns → (p : Program) × (Resolves d s ns p)
  unfolding provided
  resolved_means ns e =
      let g = so (well_declared (structs_of d)) (used (program d s)) (sym (resolved_used x cs d s st) ∙ e) in
      used_meant d s ns g.0 g.1
    where
      so : (t : Bool) (o : Option (List ℕ)) → provided t o ≡ some ns → (t ≡ true) × (o ≡ some ns)
      so true o g = (refl, g)
      so false o g = absurd (let z : ◌≡◌ {A = ℕ} 0 1 = cc in omega arith)
