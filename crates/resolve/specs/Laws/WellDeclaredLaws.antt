-- 17 for declarations (02 §1): the tables of a text are tested as its derivation's structs are; where a test fails, no program that a stream holds is meant.
use Rattle.std.specs.Prelude.{ℕ, suc, ◌+◌, ◌<◌, ◌≤◌, ◌≡◌, Bool, ◌&&◌, ltb}
use native.Mathlib.Omega.{arith}
use Rattle.std.proofs.Math.Path.{refl, sym, ap}
use Rattle.std.proofs.Common.{◌∙◌}
use Rattle.std.proofs.Math.Bool.{true, false}
use Rattle.std.proofs.lemmas.Bool.{false≢true}
use mathlib.Core.List.{List, [], ◌∷◌, ◌++◌, map}
use Rattle.std.proofs.Math.Option.{some}
use Rattle.std.proofs.Math.ListN.{length}
use Rattle.std.proofs.lemmas.List.{length-map}
use Rattle.std.proofs.Math.Dec.{leb}
use borrow.Author.Tests.{le-leb, lt-ltb}
use Rattle.types.specs.Decides.{decides_leb, is_true}
use Rattle.types.specs.Limits.{max_structs, max_params, max_steps, step_names as max_names}
use Rattle.types.specs.Types.{Ty, struct_code, code as type_code}
use Rattle.program.specs.Tree.{Step as Named, Program}
use Rattle.program.specs.Counts.{All, Few}
use Rattle.syntax.specs.Syntax.{Id, TypeName, TypeName.id_type, Par, Step, Struct, Defs, Sched, Program.program}
use Rattle.meaning.specs.Scope.{Each, Each.no_more, Each.and_then, par_id, par_type, step_id, struct_id, pars_of, steps_of, structs_of}
use Rattle.meaning.specs.StepNames.{once, all_steps, step_names}
use Rattle.meaning.specs.Finding.{distinct, decides_distinct, find_complete}
use Rattle.meaning.specs.HoldsDecide.{all}
use Rattle.meaning.specs.Holds.{HoldsStep, Counted, Holds}
use Rattle.meaning.specs.Meant.{then, provided, each, pars_meaning}
use Rattle.meaning.specs.Means.{TypeMeans, TypeMeans.int_is, TypeMeans.nat_is, TypeMeans.bool_is, TypeMeans.struct_is, ParMeans, ParMeans.par_means, ParsMean}
use Rattle.meaning.specs.Means.{ParsMean.pars_mean, StepMeans, StepMeans.step_means, StepsMean, StepsMean.steps_mean, Means, Means.means}
use Rattle.text_shape.specs.Roles.{naming_code, roles}
use Rattle.resolve.specs.Named.{names_at, sought}
use Rattle.resolve.specs.Laws.NamedLaws.{found_where_sought, same_names}
use Rattle.resolve.specs.Tables.{places, offsets}
use Rattle.resolve.specs.Declares.{named, all_pars}
use Rattle.resolve.specs.Laws.DeclaresLaws.{structs_declared, pars_declared, types_declared, steps_declared}
use Rattle.resolve.specs.Laws.RowLaws.{par_rows_declared, step_rows_declared}
use Rattle.resolve.specs.Checks.{rows_ok, narrow, byte_of, types_at, known, firsts}
use Rattle.resolve.specs.WellDeclared.{few_named, few_stepped, well_declared, tables_ok}
use Rattle.resolve.specs.Standing.{Stood}
use Rattle.resolve.specs.Laws.StandingLaws.{both_parts}
use Rattle.resolve.specs.Laws.PlacesLaws.{names_stand, rows_stand, types_stand}
use Rattle.resolve.specs.Laws.DeclarationLaws.{row_bytes, sound, pars_known, rows_exact, narrow_exact, firsts_once}
use Rattle.resolve.specs.Laws.OnceLaws.{once_distinct, once_all, few_found, all_append}
use Rattle.text_shape.specs.RoleNames.{new_struct_role, new_par_role, new_step_role, first_type_role, last_par_type_role}

-- Tables are tested as structs are -------------------------------------------------------------

all_true : {r s t u v w a b c d e f : Bool} → r ≡ a → s ≡ b → t ≡ c → u ≡ d → v ≡ e → w ≡ f
    → (r && (s && (t && (u && (v && w))))) ≡ (a && (b && (c && (d && (e && f)))))
all_true g h i j k l = rw (g, h, i, j, k, l) refl

module _ (x cs : List ℕ) (d : Defs) (s : Sched) (st : Stood x cs (roles (program d s))) where
  abbrev ds : List Struct
  ds = structs_of d

  pub struct_names : names_at x (places new_struct_role new_struct_role cs) ≡ map struct_id ds
  unfolding named naming_code
  struct_names = names_stand x new_struct_role (omega arith) (omega arith) 0 refl st ∙ structs_declared d s

  struct_count : length (places new_struct_role new_struct_role cs) ≡ length ds
  struct_count = sym (length-map (places new_struct_role new_struct_role cs) _) ∙ ap length struct_names ∙ length-map ds struct_id

  pub par_names : names_at x (places new_par_role new_par_role cs) ≡ map par_id (all_pars ds)
  unfolding named naming_code
  par_names = names_stand x new_par_role (omega arith) (omega arith) 0 refl st ∙ pars_declared d s

  rows_tested : rows_ok x (places new_par_role new_par_role cs) (offsets new_par_role cs) ≡ all few_named ds
  rows_tested =
      ap (rows_ok x (places new_par_role new_par_role cs)) (rows_stand new_par_role 0 (omega arith) st ∙ par_rows_declared d s)
      ∙ rows_exact x (places new_par_role new_par_role cs) ds par_names

  types_tested : known (length (places new_struct_role new_struct_role cs))
      (types_at x cs (names_at x (places new_struct_role new_struct_role cs)) (places first_type_role last_par_type_role cs))
      ≡ known (length ds) (map (byte_of (map struct_id ds)) (map par_type (all_pars ds)))
  types_tested =
      ap (λ n. known n (types_at x cs (names_at x (places new_struct_role new_struct_role cs)) (places first_type_role last_par_type_role cs))) struct_count
      ∙ ap (λ l. known (length ds) (types_at x cs l (places first_type_role last_par_type_role cs))) struct_names
      ∙ ap (known (length ds)) (types_stand x cs (map struct_id ds) 0 refl refl st ∙ ap (map (byte_of (map struct_id ds))) (types_declared d s))

  steps_tested : narrow (offsets new_step_role cs) ≡ all few_stepped ds
  unfolding few_stepped
  steps_tested = ap narrow (rows_stand new_step_role 0 (omega arith) st ∙ step_rows_declared d s) ∙ narrow_exact (λ e. length (steps_of e)) ds 0

  names_counted : length (firsts x [] (places new_step_role new_step_role cs)) ≡ length (step_names ds)
  unfolding step_names named naming_code
  names_counted =
      sym (length-map (firsts x [] (places new_step_role new_step_role cs)) _)
      ∙ ap length (firsts_once x (places new_step_role new_step_role cs))
      ∙ ap (λ l. length (once [] l)) (names_stand x new_step_role (omega arith) (omega arith) 0 refl st ∙ steps_declared d s)

  pub tables_tested : tables_ok x cs ≡ well_declared ds
  unfolding tables_ok well_declared
  tables_tested =
      all_true (ap (λ n. leb n max_structs) struct_count) (ap distinct struct_names) rows_tested types_tested steps_tested
      (ap (λ n. leb n max_names) names_counted)

-- What is meant and held is well declared --------------------------------------------------------

each_long : {A B : Type 0} {R : A → B → Type 0} {l : List A} {m : List B} → Each R l m → length l ≡ length m
each_long no_more = refl
each_long (and_then r e) = ap suc (each_long e)

module _ (ds : List Struct) where
  abbrev byte : TypeName → ℕ
  byte t = byte_of (map struct_id ds) t

  abbrev one_known : ℕ → Bool
  one_known b = ltb b (struct_code + length ds)

  meant_known : {t : TypeName} {u : Ty} → TypeMeans ds t u → one_known (byte t) ≡ true
  unfolding byte_of
  meant_known int_is = lt-ltb 0 (struct_code + length ds) (omega arith)
  meant_known nat_is = lt-ltb 1 (struct_code + length ds) (omega arith)
  meant_known bool_is = lt-ltb 2 (struct_code + length ds) (omega arith)
  meant_known (struct_is {x = x} {k = k} f) =
      let h = found_where_sought struct_id x ds _ (find_complete struct_id x f) in
      lt-ltb (byte (id_type x)) (struct_code + length ds) (omega (arith, h.0, h.1))

  -- a row of parameters
  row_known : {ps : List Par} {us : List Ty} → Each (ParMeans ds) ps us → all one_known (map byte (map par_type ps)) ≡ true
  unfolding all
  row_known no_more = refl
  row_known (and_then (par_means m) e) = rw (meant_known m) (row_known e)

  all_both : (l m : List Par) → all one_known (map byte (map par_type l)) ≡ true → all one_known (map byte (map par_type m)) ≡ true
      → all one_known (map byte (map par_type (l ++ m))) ≡ true
  unfolding all
  all_both [] m h k = k
  all_both (p ∷ l) m h k = go (one_known (byte (par_type p))) refl h (λ g. all_both l m g k)
    where
      go : (t : Bool) → one_known (byte (par_type p)) ≡ t → (t && all one_known (map byte (map par_type l))) ≡ true
          → (all one_known (map byte (map par_type l)) ≡ true → all one_known (map byte (map par_type (l ++ m))) ≡ true)
          → (one_known (byte (par_type p)) && all one_known (map byte (map par_type (l ++ m)))) ≡ true
      go true e g rec = rw e (rec g)
      go false e g rec = absurd (false≢true g)

  rows_known : {l : List Struct} {us : List (List Ty)} → Each (ParsMean ds) l us → all one_known (map byte (map par_type (all_pars l))) ≡ true
  unfolding all_pars all
  rows_known no_more = refl
  rows_known (and_then {a = d} {l = l} (pars_mean n e) es) = all_both (pars_of d) (all_pars l) (row_known e) (rows_known es)

  rows_few : (C : Ty → Type 0) {l : List Struct} {us : List (List Ty)} → Each (ParsMean ds) l us → All (Few 0 max_params C) us → all few_named l ≡ true
  unfolding all few_named
  rows_few C no_more h = refl
  rows_few C (and_then {a = d} (pars_mean n e) es) h =
      rw (le-leb (length (pars_of d)) max_params (let k = h.0.1 in omega (arith, each_long e, k)), is_true (decides_distinct (map par_id (pars_of d))) n)
      (rows_few C es h.1)

  -- steps
  module _ (names : List Id) where
    steps_few : (C : Named → Type 0) {l : List Struct} {ts : List (List Named)} → Each (StepsMean ds names) l ts → All (Few 0 max_steps C) ts
        → all few_stepped l ≡ true
    unfolding all few_stepped
    steps_few C no_more h = refl
    steps_few C (and_then {a = d} (steps_mean e) es) h =
        rw (le-leb (length (steps_of d)) max_steps (let k = h.0.1 in omega (arith, each_long e, k))) (steps_few C es h.1)

    -- a name with a number of the stream
    abbrev Low : Id → Type 0
    Low x = sought x names < max_names

    module _ (ar : List ℕ) where
      row_low : {own : List Par} {l : List Step} {ts : List Named} → Each (StepMeans ds names own) l ts → All (HoldsStep ar) ts → All Low (map step_id l)
      unfolding HoldsStep step_id
      row_low no_more h = tt
      row_low (and_then (step_means {x = x} {n = n} f b) es) h =
          let k = found_where_sought (λ z. z) x names _ (find_complete (λ z. z) x f) in
          (low (ap (sought x) (sym (same_names names)) ∙ k.0) h.0.0, row_low es h.1)
        where
          low : {a b : ℕ} → a ≡ b → b < max_names → a < max_names
          low e l = omega arith

      all_low : {l : List Struct} {ts : List (List Named)} → Each (StepsMean ds names) l ts → All (Few 0 max_steps (HoldsStep ar)) ts → All Low (all_steps l)
      unfolding all_steps
      all_low no_more h = tt
      all_low (and_then {a = d} {l = l} (steps_mean e) es) h =
          all_append Low (map step_id (steps_of d)) (all_steps l) (row_low e h.0.2) (all_low es h.1)

-- what is meant and held is well declared
pub held_declared : {d : Defs} {s : Sched} {p : Program} → Means (program d s) p → Holds p → well_declared (structs_of d) ≡ true
unfolding Counted well_declared step_names known
held_declared (means {d = d} n us ts is) h =
    all_true (le-leb (length ds) max_structs (let k = h.counted.0.1 in omega (arith, each_long us, k)))
    (is_true (decides_distinct (map struct_id ds)) n) (rows_few ds _ us h.counted.0.2) (rows_known ds us) (steps_few ds names _ ts h.counted.2)
    (le-leb (length names) max_names
    (few_found names max_names (once_distinct (all_steps ds) []) (once_all (Low ds names) (all_steps ds) [] (all_low ds names _ ts h.counted.2))))
  where
    ds : List Struct
    ds = structs_of d

    names : List Id
    names = step_names (structs_of d)

-- What is well declared is few ----------------------------------------------------------------------

pub record Declared (ds : List Struct) : Type 0 where
  pub structs : length ds ≤ max_structs
  pub different : distinct (map struct_id ds) ≡ true
  pub params : All (λ d. length (pars_of d) ≤ max_params) ds
  pub steps : All (λ d. length (steps_of d) ≤ max_steps) ds
  pub names : length (step_names ds) ≤ max_names

few_params : (l : List Struct) → all few_named l ≡ true → All (λ d. length (pars_of d) ≤ max_params) l
unfolding all few_named
few_params [] e = tt
few_params (d ∷ l) e =
    let h = both_parts (few_named d) (all few_named l) e in
    let g = both_parts (leb (length (pars_of d)) max_params) (distinct (map par_id (pars_of d))) h.0 in
    ((decides_leb (length (pars_of d)) max_params).holds g.0, few_params l h.1)

few_rows : (l : List Struct) → all few_stepped l ≡ true → All (λ d. length (steps_of d) ≤ max_steps) l
unfolding all few_stepped
few_rows [] e = tt
few_rows (d ∷ l) e =
    let h = both_parts (few_stepped d) (all few_stepped l) e in ((decides_leb (length (steps_of d)) max_steps).holds h.0, few_rows l h.1)

-- the parts of the test
module _ (ds : List Struct) where
  abbrev TypesKnown : Type 0
  TypesKnown = known (length ds) (map (byte_of (map struct_id ds)) (map par_type (all_pars ds))) ≡ true

  parts_declared : well_declared ds ≡ true
      → (leb (length ds) max_structs ≡ true) × (distinct (map struct_id ds) ≡ true) × (all few_named ds ≡ true) × TypesKnown × (all few_stepped ds ≡ true)
      × (leb (length (step_names ds)) max_names ≡ true)
  unfolding well_declared
  parts_declared e =
      let a = both_parts (leb (length ds) max_structs) _ e in
      let b = both_parts (distinct (map struct_id ds)) _ a.1 in
      let c = both_parts (all few_named ds) _ b.1 in
      let f = both_parts (known (length ds) (map (byte_of (map struct_id ds)) (map par_type (all_pars ds)))) _ c.1 in
      let g = both_parts (all few_stepped ds) _ f.1 in
      (a.0, b.0, c.0, f.0, g.0, g.1)

  pub declared_few : well_declared ds ≡ true → Declared ds
  declared_few e =
      let h = parts_declared e in
      record {
        structs = (decides_leb (length ds) max_structs).holds h.0;
        different = h.1;
        params = few_params ds h.2;
        steps = few_rows ds h.4;
        names = (decides_leb (length (step_names ds)) max_names).holds h.5;
      }

-- What is well declared means its parameters -----------------------------------------------------

module _ (ds : List Struct) where
  known_parts : (l : List Par) (k : List ℕ) → all (one_known ds) (map (byte ds) (map par_type l) ++ k) ≡ true
      → (all (λ q. one_known ds (byte ds (par_type q))) l ≡ true) × (all (one_known ds) k ≡ true)
  unfolding all
  known_parts [] k e = (refl, e)
  known_parts (p ∷ l) k e =
      let h = both_parts (one_known ds (byte ds (par_type p))) (all (one_known ds) (map (byte ds) (map par_type l) ++ k)) e in
      let r = known_parts l k h.1 in
      (rw h.0 r.0, r.1)

  bytes_both : (l m : List Par) → map (byte ds) (map par_type (l ++ m)) ≡ map (byte ds) (map par_type l) ++ map (byte ds) (map par_type m)
  bytes_both [] m = refl
  bytes_both (p ∷ l) m = ap (λ k. byte ds (par_type p) ∷ k) (bytes_both l m)

  all_sound : (l : List Struct) → all few_named l ≡ true → all (one_known ds) (map (byte ds) (map par_type (all_pars l))) ≡ true → all (sound ds) l ≡ true
  unfolding all all_pars few_named sound
  all_sound [] e f = refl
  all_sound (d ∷ l) e f =
      let h = both_parts (few_named d) (all few_named l) e in
      let g = both_parts (leb (length (pars_of d)) max_params) (distinct (map par_id (pars_of d))) h.0 in
      let k = known_parts (pars_of d) (map (byte ds) (map par_type (all_pars l))) (ap (all (one_known ds)) (sym (bytes_both (pars_of d) (all_pars l))) ∙ f) in
      rw (g.1, k.0) (all_sound l h.1 k.1)

  pub params_meant : well_declared ds ≡ true
      → then (each (pars_meaning ds) ds) (λ us. some (map (λ u. map type_code u) us)) ≡ some (map (row_bytes ds) ds)
  unfolding known provided
  params_meant e =
      let h = parts_declared ds e in
      pars_known ds ds ∙ ap (λ t. provided t (some (map (row_bytes ds) ds))) (all_sound ds h.2 h.3)
