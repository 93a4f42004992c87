-- The tables of declarations say what a derivation's declarations mean: types by their bytes, rows of parameters, rows of steps, step names each once.
use Prim.Native.Nat.{ℕ, suc, ◌+◌, ◌-◌, ◌≤◌}
use native.Mathlib.Omega.{arith}
use Rattle.std.proofs.Common.{add-one, ◌∙◌, length-append, drop-drop}
use Rattle.std.specs.Prelude.{◌≡◌, Bool, ◌&&◌, ◌||◌, drop}
use Rattle.std.proofs.Math.Path.{refl, sym, ap}
use Rattle.std.proofs.Math.Bool.{true, false}
use mathlib.Core.List.{List, [], ◌∷◌, ◌++◌, map}
use Rattle.std.proofs.Math.Option.{Option, none, some}
use Rattle.std.proofs.Math.ListN.{length, take, length-drop}
use Rattle.std.proofs.Math.Dec.{leb, ltb}
use borrow.Author.Tests.{lt-ltb, le-ltb, le-leb, ltb-true, ltb-false}
use Rattle.types.proofs.Laws.ListLaws.{cons_eq}
use Rattle.types.specs.Limits.{max_params, max_steps}
use Rattle.types.specs.Types.{struct_code, code}
use Rattle.syntax.specs.Syntax.{Id, TypeName, TypeName.int_type, TypeName.nat_type, TypeName.bool_type, TypeName.id_type, Par, Struct}
use Rattle.tokens.specs.Tokens.{same}
use Rattle.meaning.specs.Scope.{par_id, par_type, struct_id, pars_of}
use Rattle.meaning.specs.StepNames.{among, once}
use Rattle.meaning.specs.Finding.{Place, find, distinct}
use Rattle.meaning.specs.HoldsDecide.{all}
use Rattle.meaning.specs.Meant.{then, provided, each, type_meaning, pars_meaning}
use Rattle.resolve.specs.Named.{name_at, names_at, sought}
use Rattle.resolve.specs.Laws.NamedLaws.{found_where_sought, none_where_sought}
use Rattle.resolve.specs.Declares.{all_pars, sums}
use Rattle.resolve.specs.WellDeclared.{few_named}
use Rattle.resolve.specs.Checks.{part_of, row_ok, between_all, rows_ok, narrow, byte_of, firsts}

-- a row of things that mean something by a test, and then what the test says of them
each_known : {A B C : Type 0} (f : A → Option B) (c : B → C) (t : A → Bool) (w : A → C) → ((a : A) → then (f a) (λ b. some (c b)) ≡ provided (t a) (some (w a)))
    → (l : List A) → then (each f l) (λ m. some (map c m)) ≡ provided (all t l) (some (map w l))
unfolding each then provided all
each_known f c t w h [] = refl
each_known {B = B} {C = C} f c t w h (a ∷ l) = go (f a) (t a) (h a) (each f l) (all t l) (each_known f c t w h l)
  where
    go : (o : Option B) (u : Bool) → then o (λ b. some (c b)) ≡ provided u (some (w a)) → (m : Option (List B)) (v : Bool)
        → then m (λ bs. some (map c bs)) ≡ provided v (some (map w l))
        → then (then o (λ b. then m (λ bs. some (b ∷ bs)))) (λ bs. some (map c bs)) ≡ provided (u && v) (some (w a ∷ map w l))
    go none false e m v g = refl
    go none true e m v g = absurd (let z : ◌≡◌ {A = ℕ} 0 1 = cc in omega arith)
    go (some b) false e m v g = absurd (let z : ◌≡◌ {A = ℕ} 0 1 = cc in omega arith)
    go (some b) true e none false g = refl
    go (some b) true e none true g = absurd (let z : ◌≡◌ {A = ℕ} 0 1 = cc in omega arith)
    go (some b) true e (some bs) false g = absurd (let z : ◌≡◌ {A = ℕ} 0 1 = cc in omega arith)
    go (some b) true e (some bs) true g =
        let x : c b ≡ w a = cc in
        let y : map c bs ≡ map w l = cc in
        rw (x, y) refl

-- Types ------------------------------------------------------------------------------------------

module _ (ds : List Struct) where
  abbrev names : List Id
  names = map struct_id ds

  abbrev byte : TypeName → ℕ
  byte t = byte_of names t

  abbrev one_known : ℕ → Bool
  one_known b = ltb b (struct_code + length ds)

  names_long : length names ≡ length ds
  names_long = go ds
    where
      go : (l : List Struct) → length (map struct_id l) ≡ length l
      go [] = refl
      go (d ∷ l) = ap suc (go l)

  -- a type means the type of its byte, where it means one
  pub type_known : (t : TypeName) → then (type_meaning ds t) (λ u. some (code u)) ≡ provided (one_known (byte t)) (some (byte t))
  unfolding type_meaning then provided byte_of code
  type_known int_type = rw (lt-ltb 0 (struct_code + length ds) (omega arith)) refl
  type_known nat_type = rw (lt-ltb 1 (struct_code + length ds) (omega arith)) refl
  type_known bool_type = rw (lt-ltb 2 (struct_code + length ds) (omega arith)) refl
  type_known (id_type x) = go (find struct_id x ds) refl
    where
      go : (o : Option (Place Struct)) → find struct_id x ds ≡ o
          → then (type_meaning ds (id_type x)) (λ u. some (code u)) ≡ provided (one_known (byte (id_type x))) (some (byte (id_type x)))
      go none e =
          let h = none_where_sought struct_id x ds e in
          rw (e, le-ltb (struct_code + sought x names) (struct_code + length ds) (omega (arith, h))) refl
      go (some p) e =
          let h = found_where_sought struct_id x ds p e in
          rw (e, h.0, lt-ltb (struct_code + p.at) (struct_code + length ds) (omega (arith, h.1))) refl

  -- the types of a row; rows of different names and of types that there are
  abbrev pub row_bytes : Struct → List ℕ
  row_bytes d = map (λ q. byte (par_type q)) (pars_of d)

  unfoldable pub sound : Struct → Bool
  sound d = distinct (map par_id (pars_of d)) && all (λ q. one_known (byte (par_type q))) (pars_of d)

  struct_known : (d : Struct) → then (pars_meaning ds d) (λ us. some (map code us)) ≡ provided (sound d) (some (row_bytes d))
  unfolding pars_meaning sound then provided
  struct_known d = go (distinct (map par_id (pars_of d))) refl
    where
      go : (t : Bool) → distinct (map par_id (pars_of d)) ≡ t
          → then (pars_meaning ds d) (λ us. some (map code us)) ≡ provided (sound d) (some (row_bytes d))
      go true e =
          rw (e, sound)
          (each_known (λ q. type_meaning ds (par_type q)) code (λ q. one_known (byte (par_type q))) (λ q. byte (par_type q)) (λ q. type_known (par_type q))
          (pars_of d))
      go false e = rw (e, sound) refl

  -- what all parameters mean
  pub pars_known : (l : List Struct)
      → then (each (pars_meaning ds) l) (λ us. some (map (λ u. map code u) us)) ≡ provided (all sound l) (some (map row_bytes l))
  pars_known l = each_known (pars_meaning ds) (λ u. map code u) sound row_bytes struct_known l

-- Rows -----------------------------------------------------------------------------------------------

module _ (x : List ℕ) where
  front_names : (table : List ℕ) (ps : List Par) (rest : List Id) → names_at x table ≡ map par_id ps ++ rest
      → names_at x (take (length ps) table) ≡ map par_id ps
  front_names table [] rest e = refl
  front_names [] (p ∷ ps) rest e = absurd (let z : ◌≡◌ {A = ℕ} 0 1 = cc in omega arith)
  front_names (i ∷ table) (p ∷ ps) rest e =
      let f : name_at x i ≡ par_id p = cc in
      let g : names_at x table ≡ map par_id ps ++ rest = cc in
      cons_eq f (front_names table ps rest g)

  behind_names : (table : List ℕ) (ps : List Par) (rest : List Id) → names_at x table ≡ map par_id ps ++ rest → names_at x (drop (length ps) table) ≡ rest
  behind_names table [] rest e = e
  behind_names [] (p ∷ ps) rest e = absurd (let z : ◌≡◌ {A = ℕ} 0 1 = cc in omega arith)
  behind_names (i ∷ table) (p ∷ ps) rest e = behind_names table ps rest (let g : names_at x table ≡ map par_id ps ++ rest = cc in g)

  enough_names : (table : List ℕ) (ps : List Par) (rest : List Id) → names_at x table ≡ map par_id ps ++ rest → length ps ≤ length table
  enough_names table [] rest e = omega arith
  enough_names [] (p ∷ ps) rest e = absurd (let z : ◌≡◌ {A = ℕ} 0 1 = cc in omega arith)
  enough_names (i ∷ table) (p ∷ ps) rest e =
      let g : names_at x table ≡ map par_id ps ++ rest = cc in
      let h = enough_names table ps rest g in
      omega (arith, h)

-- the first number of a row of sums
sums_front : (t : ℕ → ℕ → Bool) (n m : ℕ) (l : List ℕ) → between_all t (n ∷ sums m l) ≡ (t n m && between_all t (sums m l))
unfolding between_all sums
sums_front t n m [] = refl
sums_front t n m (a ∷ l) = refl

map_both : (d : Struct) (ds : List Struct) → map par_id (all_pars (d ∷ ds)) ≡ map par_id (pars_of d) ++ map par_id (all_pars ds)
unfolding all_pars
map_both d ds = go (pars_of d)
  where
    go : (l : List Par) → map par_id (l ++ all_pars ds) ≡ map par_id l ++ map par_id (all_pars ds)
    go [] = refl
    go (p ∷ l) = cons_eq refl (go l)

module _ (x pars : List ℕ) where
  row_exact : (d : Struct) (n : ℕ) (rest : List Id) → n ≤ length pars → names_at x (drop n pars) ≡ map par_id (pars_of d) ++ rest
      → row_ok x pars n (n + length (pars_of d)) ≡ few_named d
  unfolding row_ok few_named
  row_exact d n rest l e =
      let a = enough_names x (drop n pars) (pars_of d) rest e in
      let b = length-drop n pars in
      let f : (n + length (pars_of d)) - n ≡ length (pars_of d) = omega arith in
      let g : part_of pars n (n + length (pars_of d)) ≡ take (length (pars_of d)) (drop n pars) = ap (λ k. take k (drop n pars)) f in
      rw (row_ok, le-leb n (n + length (pars_of d)) (omega arith), le-leb (n + length (pars_of d)) (length pars) (omega (arith, a, b, l)), f)
      (ap (λ v. leb (length (pars_of d)) max_params && distinct v) (front_names x (drop n pars) (pars_of d) rest e))

  rows_from : (ds : List Struct) (n : ℕ) → n ≤ length pars → names_at x (drop n pars) ≡ map par_id (all_pars ds)
      → between_all (row_ok x pars) (sums n (map (λ d. length (pars_of d)) ds)) ≡ all few_named ds
  unfolding between_all sums all
  rows_from [] n l e = refl
  rows_from (d ∷ ds) n l e =
      let f : names_at x (drop n pars) ≡ map par_id (pars_of d) ++ map par_id (all_pars ds) = e ∙ map_both d ds in
      let a = enough_names x (drop n pars) (pars_of d) (map par_id (all_pars ds)) f in
      let b = length-drop n pars in
      sums_front (row_ok x pars) n (n + length (pars_of d)) (map (λ e. length (pars_of e)) ds)
      ∙ pair (row_exact d n (map par_id (all_pars ds)) l f)
      (rows_from ds (n + length (pars_of d)) (omega (arith, a, b, l))
      (ap (names_at x) (sym (drop-drop (length (pars_of d)) n pars)) ∙ behind_names x (drop n pars) (pars_of d) (map par_id (all_pars ds)) f))
    where
      pair : {s t u v : Bool} → s ≡ t → u ≡ v → (s && u) ≡ (t && v)
      pair g h = rw (g, h) refl

  -- rows of parameters that a stream holds, with different names
  pub rows_exact : (ds : List Struct) → names_at x pars ≡ map par_id (all_pars ds)
      → rows_ok x pars (sums 0 (map (λ d. length (pars_of d)) ds)) ≡ all few_named ds
  unfolding rows_ok
  rows_exact ds e = rows_from ds 0 (omega arith) e

-- rows of steps that a stream holds
pub narrow_exact : (count : Struct → ℕ) (ds : List Struct) (n : ℕ) → narrow (sums n (map count ds)) ≡ all (λ d. leb (count d) max_steps) ds
unfolding narrow between_all sums all
narrow_exact count [] n = refl
narrow_exact count (d ∷ ds) n =
    sums_front (λ a b. leb (b - a) max_steps) n (n + count d) (map count ds)
    ∙ (let f : (n + count d) - n ≡ count d = omega arith in rw f (ap (λ v. leb (count d) max_steps && v) (narrow_exact count ds (n + count d))))

-- Step names -------------------------------------------------------------------------------------------

ltb_suc : (a b : ℕ) → ltb (suc a) (suc b) ≡ ltb a b
ltb_suc a b = go (ltb a b) refl
  where
    go : (t : Bool) → ltb a b ≡ t → ltb (suc a) (suc b) ≡ ltb a b
    go true e = let h = ltb-true a b e in lt-ltb (suc a) (suc b) (omega (arith, h)) ∙ sym e
    go false e = let h = ltb-false a b e in le-ltb (suc a) (suc b) (omega (arith, h)) ∙ sym e

-- one of the names, or the one behind them
sought_last : (y z : Id) (l : List Id) → ltb (sought y (l ++ (z ∷ []))) (suc (length l)) ≡ (same z y || ltb (sought y l) (length l))
unfolding sought
sought_last y z [] = go (same z y) refl
  where
    go : (t : Bool) → same z y ≡ t → ltb (sought y (z ∷ [])) 1 ≡ (same z y || ltb (sought y []) 0)
    go true e = rw (e, sought) refl
    go false e = rw (e, sought) refl
sought_last y z (w ∷ l) = go (same w y) refl (sought_last y z l)
  where
    always : (t : Bool) (n : ℕ) → true ≡ (t || ltb 0 (suc n))
    always true n = refl
    always false n = sym (lt-ltb 0 (suc n) (omega arith))

    go : (t : Bool) → same w y ≡ t → ltb (sought y (l ++ (z ∷ []))) (suc (length l)) ≡ (same z y || ltb (sought y l) (length l))
        → ltb (sought y (w ∷ (l ++ (z ∷ [])))) (suc (suc (length l))) ≡ (same z y || ltb (sought y (w ∷ l)) (suc (length l)))
    go true e rec =
        let f : sought y (w ∷ (l ++ (z ∷ []))) ≡ 0 = rw (sought, e) refl in
        let g : sought y (w ∷ l) ≡ 0 = rw (sought, e) refl in
        ap (λ k. ltb k (suc (suc (length l)))) f ∙ lt-ltb 0 (suc (suc (length l))) (omega arith) ∙ always (same z y) (length l)
        ∙ ap (λ k. same z y || ltb k (suc (length l))) (sym g)
    go false e rec =
        let f : sought y (w ∷ (l ++ (z ∷ []))) ≡ suc (sought y (l ++ (z ∷ []))) = rw (sought, e) refl in
        let g : sought y (w ∷ l) ≡ suc (sought y l) = rw (sought, e) refl in
        ap (λ k. ltb k (suc (suc (length l)))) f ∙ ltb_suc (sought y (l ++ (z ∷ []))) (suc (length l)) ∙ rec
        ∙ ap (λ b. same z y || b) (sym (ap (λ k. ltb k (suc (length l))) g ∙ ltb_suc (sought y l) (length l)))

module _ (x : List ℕ) where
  names_long_at : (l : List ℕ) → length (names_at x l) ≡ length l
  names_long_at [] = refl
  names_long_at (p ∷ l) = ap suc (names_long_at l)

  names_append : (l m : List ℕ) → names_at x (l ++ m) ≡ names_at x l ++ names_at x m
  names_append [] m = refl
  names_append (p ∷ l) m = cons_eq refl (names_append l m)

  -- places and names, the last one first, say the same of what was met
  abbrev Same : List ℕ → List Id → Type 0
  Same met l = (y : Id) → among y l ≡ ltb (sought y (names_at x met)) (length met)

  same_on : (met : List ℕ) (l : List Id) (p : ℕ) → Same met l → Same (met ++ (p ∷ [])) (name_at x p ∷ l)
  unfolding among
  same_on met l p h y =
      go (same (name_at x p) y) refl
      ∙ sym (sought_last y (name_at x p) (names_at x met))
      ∙ ap (λ n. ltb (sought y (names_at x met ++ (name_at x p ∷ []))) n)
      (ap suc (names_long_at met) ∙ sym (add-one (length met)) ∙ sym (length-append met (p ∷ [])))
      ∙ ap (λ k. ltb (sought y k) (length (met ++ (p ∷ [])))) (sym (names_append met (p ∷ [])))
    where
      go : (t : Bool) → same (name_at x p) y ≡ t
          → among y (name_at x p ∷ l)
          ≡ (same (name_at x p) y || ltb (sought y (names_at x met)) (length (names_at x met)))
      go true e = rw (e, among) refl
      go false e = rw (e, among) (h y ∙ ap (ltb (sought y (names_at x met))) (sym (names_long_at met)))

  firsts_from : (places met : List ℕ) (l : List Id) → Same met l → names_at x (firsts x met places) ≡ once l (names_at x places)
  unfolding firsts once
  firsts_from [] met l h = refl
  firsts_from (p ∷ places) met l h = go (ltb (sought (name_at x p) (names_at x met)) (length met)) refl (λ m k. firsts_from places m k)
    where
      go : (t : Bool) → ltb (sought (name_at x p) (names_at x met)) (length met) ≡ t
          → ((m : List ℕ) (k : List Id) → Same m k → names_at x (firsts x m places) ≡ once k (names_at x places))
          → names_at x (firsts x met (p ∷ places)) ≡ once l (name_at x p ∷ names_at x places)
      go true e rec = rw (firsts, e, once, h (name_at x p) ∙ e) (rec met l h)
      go false e rec = rw (firsts, e, once, h (name_at x p) ∙ e) (cons_eq refl (rec (met ++ (p ∷ [])) (name_at x p ∷ l) (same_on met l p h)))

  -- the names of steps, each once
  pub firsts_once : (places : List ℕ) → names_at x (firsts x [] places) ≡ once [] (names_at x places)
  unfolding among sought
  firsts_once places = firsts_from places [] [] (λ y. refl)
