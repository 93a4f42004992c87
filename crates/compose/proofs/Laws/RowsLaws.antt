-- The tables of a text's parameters (02 §1): where its declarations are well made they are rows of bytes, and the header that is written by them is the
-- encoding of the types that its parameters mean (01, 'Program stream').
use Prim.Native.Nat.{ℕ, zero, suc, ◌+◌, ◌<◌, ◌≤◌}
use Rattle.std.proofs.Common.{arith, zero-add, suc-add, add-one, ◌∙◌, length-append, drop-drop, ltb-true}
use Rattle.std.specs.Prelude.{◌≡◌, true, length, get_or, take, leb, ltb}
use Rattle.std.proofs.Math.Path.{refl, sym, ap}
use mathlib.Core.List.{List, [], ◌∷◌, ◌++◌, map}
use Rattle.std.proofs.Math.ListN.{drop}
use Rattle.std.proofs.lemmas.List.{length-map}
use Rattle.std.proofs.Math.Seq.{slice, take-nil, take_at, drop_at}
use Rattle.types.proofs.Laws.ListLaws.{cons_eq, map_twice}
use Rattle.types.specs.Limits.{max_structs, max_params}
use Rattle.types.specs.Types.{Ty, code, struct_code}
use Rattle.program.specs.Counts.{All}
use Rattle.program.specs.Encoding.{flat, enc_list}
use Rattle.tokens.proofs.Laws.ByteLaws.{both_true}
use Rattle.syntax.specs.Syntax.{Par, Struct, Defs, Sched, Program.program}
use Rattle.meaning.specs.Scope.{par_type, struct_id, pars_of, structs_of}
use Rattle.meaning.specs.Finding.{distinct}
use Rattle.meaning.specs.HoldsDecide.{all}
use Rattle.text_shape.specs.Roles.{roles}
use Rattle.resolve.specs.Tables.{places, offsets}
use Rattle.resolve.specs.Declares.{all_pars, sums}
use Rattle.resolve.specs.Laws.DeclaresLaws.{map_pars, types_declared}
use Rattle.resolve.specs.Laws.RowLaws.{par_rows_declared}
use Rattle.resolve.specs.Checks.{byte_of, types_at, known}
use Rattle.resolve.specs.Standing.{Stood}
use Rattle.resolve.specs.Laws.PlacesLaws.{rows_stand, types_stand}
use Rattle.resolve.specs.Laws.DeclarationLaws.{row_bytes}
use Rattle.resolve.specs.WellDeclared.{few_named, well_declared, tables_ok}
use Rattle.resolve.specs.Laws.WellDeclaredLaws.{struct_names, tables_tested, declared_few}
use Rattle.compose.specs.Header.{parts, row_of, header, Rows}
use Rattle.compose.specs.Composed.{type_bytes}
use Rattle.text_shape.specs.RoleNames.{new_par_role, first_type_role, last_par_type_role}

-- Sums ---------------------------------------------------------------------------------------------------

sums_long : (l : List ℕ) (n : ℕ) → length (sums n l) ≡ suc (length l)
unfolding sums
sums_long [] n = refl
sums_long (a ∷ l) n = ap suc (sums_long l (n + a))

sums_first : (l : List ℕ) (n : ℕ) → get_or (sums n l) 0 0 ≡ n
unfolding sums
sums_first [] n = refl
sums_first (a ∷ l) n = refl

-- from each to the next by the number between
sums_next : (l : List ℕ) (n k : ℕ) → k < length l → get_or (sums n l) (suc k) 0 ≡ get_or (sums n l) k 0 + get_or l k 0
unfolding sums
sums_next [] n k h = absurd (omega arith)
sums_next (a ∷ l) n zero h = sums_first l (n + a)
sums_next (a ∷ l) n (suc k) h = sums_next l (n + a) k (omega arith)

total : List ℕ → ℕ
total [] = 0
total (a ∷ l) = a + total l

sums_within : (l : List ℕ) (n k : ℕ) → k ≤ length l → get_or (sums n l) k 0 ≤ n + total l
unfolding sums total
sums_within [] n zero h = omega arith
sums_within [] n (suc k) h = absurd (omega arith)
sums_within (a ∷ l) n zero h = omega arith
sums_within (a ∷ l) n (suc k) h = let r = sums_within l (n + a) k (omega arith) in omega (arith, r)

-- What is well declared ------------------------------------------------------------------------------------

abbrev count : Struct → ℕ
count d = length (pars_of d)

abbrev counts : List Struct → List ℕ
counts ds = map count ds

types_known : (ds : List Struct) → well_declared ds ≡ true → known (length ds) (map (byte_of (map struct_id ds)) (map par_type (all_pars ds))) ≡ true
unfolding well_declared
types_known ds e =
    let a = both_true (leb (length ds) max_structs) _ e in
    let b = both_true (distinct (map struct_id ds)) _ a.1 in
    let c = both_true (all few_named ds) _ b.1 in
    (both_true (known (length ds) (map (byte_of (map struct_id ds)) (map par_type (all_pars ds)))) _ c.1).0

-- Rows -------------------------------------------------------------------------------------------------------

counted_pars : (ds : List Struct) → total (counts ds) ≡ length (all_pars ds)
unfolding all_pars total
counted_pars [] = refl
counted_pars (d ∷ ds) = ap (λ n. count d + n) (counted_pars ds) ∙ sym (length-append (pars_of d) (all_pars ds))

few_counted : (ds : List Struct) (k : ℕ) → All (λ d. length (pars_of d) ≤ max_params) ds → k < length (counts ds) → get_or (counts ds) k 0 ≤ max_params
few_counted [] k h l = absurd (omega arith)
few_counted (d ∷ ds) zero h l = h.0
few_counted (d ∷ ds) (suc k) h l = few_counted ds k h.1 (omega arith)

known_below : (n : ℕ) (l : List ℕ) → known n l ≡ true → (i : ℕ) → i < length l → get_or l i 0 < struct_code + n
unfolding known all
known_below n [] e i h = absurd (omega arith)
known_below n (b ∷ l) e zero h = ltb-true b (struct_code + n) (both_true (ltb b (struct_code + n)) _ e).0
known_below n (b ∷ l) e (suc i) h = known_below n l (both_true (ltb b (struct_code + n)) _ e).1 i (omega arith)

module _ (ds : List Struct) (declared : well_declared ds ≡ true) where
  abbrev here : List ℕ
  here = map (byte_of (map struct_id ds)) (map par_type (all_pars ds))

  long : length (sums 0 (counts ds)) ≡ suc (length ds)
  long = sums_long (counts ds) 0 ∙ ap suc (length-map ds count)

  bytes_long : length here ≡ total (counts ds)
  bytes_long =
      length-map (map par_type (all_pars ds)) (byte_of (map struct_id ds)) ∙ length-map (all_pars ds) par_type ∙ sym (counted_pars ds)

  next : (k : ℕ) → k + 1 < length (sums 0 (counts ds)) → get_or (sums 0 (counts ds)) (k + 1) 0 ≡ get_or (sums 0 (counts ds)) k 0 + get_or (counts ds) k 0
  next k h = ap (λ n. get_or (sums 0 (counts ds)) n 0) (add-one k) ∙ sums_next (counts ds) 0 k (omega (arith, h, long, length-map ds count))

  pub rows_declared : Rows (sums 0 (counts ds)) here
  rows_declared =
      let few = declared_few ds declared in
      record {
        some = omega (arith, long);
        few = omega (arith, long, few.structs);
        up = λ k h. omega (arith, next k h);
        narrow = λ k h. omega (arith, next k h, few_counted ds k few.params (omega (arith, h, long, length-map ds count)));
        inside = λ k h. omega (arith, sums_within (counts ds) 0 (k + 1) (omega (arith, h, long, length-map ds count)), bytes_long);
        bytes = λ i h. omega (arith, known_below (length ds) here (types_known ds declared) i h, few.structs);
      }

-- The header --------------------------------------------------------------------------------------------------

slice_is : (n m : ℕ) (l : List ℕ) → slice n (n + m) l ≡ take m (drop n l)
slice_is zero m l = ap (λ k. take k l) (zero-add m)
slice_is (suc n) m [] = ap (drop (suc n)) (take-nil (suc n + m)) ∙ sym (take-nil m)
slice_is (suc n) m (a ∷ l) = ap (λ k. drop (suc n) (take k (a ∷ l))) (suc-add n m) ∙ slice_is n m l

parts_front : (l : List ℕ) (n m : ℕ) (k : List ℕ) → parts (n ∷ sums m k) l ≡ slice n m l ∷ parts (sums m k) l
unfolding parts sums
parts_front l n m [] = refl
parts_front l n m (a ∷ k) = refl

-- what is said of each parameter, by the rows of structs
module _ (h : Par → ℕ) (l : List ℕ) where
  parts_of : (ds : List Struct) (n : ℕ) → drop n l ≡ map h (all_pars ds) → parts (sums n (counts ds)) l ≡ map (λ d. map h (pars_of d)) ds
  unfolding parts sums
  parts_of [] n e = refl
  parts_of (d ∷ ds) n e =
      let f : drop n l ≡ map h (pars_of d) ++ map h (all_pars ds) = e ∙ map_pars ℕ h d ds in
      let a : slice n (n + count d) l ≡ map h (pars_of d) =
      slice_is n (count d) l ∙ ap (take (count d)) f ∙ take_at (map h (pars_of d)) (map h (all_pars ds)) (count d) (length-map (pars_of d) h) in
      let b : drop (n + count d) l ≡ map h (all_pars ds) =
      sym (drop-drop (count d) n l) ∙ ap (drop (count d)) f
      ∙ drop_at (map h (pars_of d)) (map h (all_pars ds)) (count d) (length-map (pars_of d) h) in
      parts_front l n (n + count d) (counts ds) ∙ cons_eq a (parts_of ds (n + count d) b)

flat_map : {A B : Type 0} (E : B → List ℕ) (h : A → B) (F : A → List ℕ) → ((a : A) → E (h a) ≡ F a) → (l : List A) → flat E (map h l) ≡ flat F l
unfolding flat
flat_map E h F e [] = refl
flat_map E h F e (a ∷ l) = joined (e a) (flat_map E h F e l)
  where
    joined : {p q s t : List ℕ} → p ≡ q → s ≡ t → p ++ s ≡ q ++ t
    joined f g = cc

list_map : {A B : Type 0} (E : B → List ℕ) (h : A → B) (F : A → List ℕ) → ((a : A) → E (h a) ≡ F a) → (l : List A)
    → enc_list E (map h l) ≡ enc_list F l
list_map E h F e l = cons_eq (length-map l h) (flat_map E h F e l)

-- rows of types by their bytes
rows_coded : (us : List (List Ty)) → enc_list row_of (map (λ u. map code u) us) ≡ enc_list (enc_list (λ t. code t ∷ [])) us
rows_coded us =
    list_map row_of (λ u. map code u) (enc_list (λ t. code t ∷ [])) (λ u. list_map (λ t. t ∷ []) code (λ t. code t ∷ []) (λ t. refl) u) us

-- Of a text ------------------------------------------------------------------------------------------------------

module _ (x cs : List ℕ) (d : Defs) (s : Sched) (st : Stood x cs (roles (program d s))) where
  abbrev ds : List Struct
  ds = structs_of d

  offsets_are : offsets new_par_role cs ≡ sums 0 (counts ds)
  offsets_are = rows_stand new_par_role 0 (omega arith) st ∙ par_rows_declared d s

  types_are : type_bytes x cs ≡ map (byte_of (map struct_id ds)) (map par_type (all_pars ds))
  types_are =
      ap (λ l. types_at x cs l (places first_type_role last_par_type_role cs)) (struct_names x cs d s st)
      ∙ types_stand x cs (map struct_id ds) 0 refl refl st
      ∙ ap (map (byte_of (map struct_id ds))) (types_declared d s)

  -- the tables of a text whose declarations are well made are rows
  pub text_rows : tables_ok x cs ≡ true → Rows (offsets new_par_role cs) (type_bytes x cs)
  text_rows e = rw (offsets_are, types_are) (rows_declared ds (sym (tables_tested x cs d s st) ∙ e))

  header_told : header (offsets new_par_role cs) (type_bytes x cs) ≡ enc_list row_of (map (row_bytes ds) ds)
  header_told =
      ap (λ o. header o (type_bytes x cs)) offsets_are
      ∙ ap (λ l. enc_list row_of l)
      (parts_of (λ q. byte_of (map struct_id ds) (par_type q)) (type_bytes x cs) ds 0
      (types_are ∙ map_twice (byte_of (map struct_id ds)) par_type (all_pars ds)))

  -- the header is the encoding of the parameters' types
  pub header_meant : (us : List (List Ty)) → map (λ u. map code u) us ≡ map (row_bytes ds) ds
      → header (offsets new_par_role cs) (type_bytes x cs) ≡ enc_list (enc_list (λ t. code t ∷ [])) us
  header_meant us e = header_told ∙ ap (λ l. enc_list row_of l) (sym e) ∙ rows_coded us
