-- A table of declarations that passed every test: what stands in it, and the book that can be read of it.
use Prim.Native.Nat.{ℕ, suc, ◌+◌, ◌-◌, ◌≤◌, ◌<◌}
use Rattle.std.proofs.Math.Nat.{min-eq_left}
use native.Mathlib.Omega.{arith}
use Rattle.std.specs.Prelude.{◌≡◌, Bool, true, false, ◌&&◌, length, take, drop}
use Rattle.std.proofs.Math.Path.{refl, sym, ap}
use Rattle.std.proofs.Common.{◌∙◌, leb-true}
use mathlib.Core.List.{List, [], ◌∷◌, map}
use Rattle.std.proofs.Math.ListN.{get_or, length-map}
use Rattle.std.proofs.lemmas.List.Edits.{sets}
use Rattle.std.proofs.Math.Dec.{leb}
use Rattle.types.proofs.Laws.ListLaws.{cons_eq}
use Rattle.types.specs.Limits.{max_structs, step_names as max_names}
use Rattle.syntax.specs.Syntax.{Id}
use Rattle.meaning.specs.Finding.{distinct}
use Rattle.resolve.specs.Named.{names_at}
use Rattle.resolve.specs.Tables.{places, offsets}
use Rattle.resolve.specs.Laws.StandingLaws.{both_parts}
use Rattle.resolve.specs.Checks.{part_of, row_ok, between_all, rows_ok, narrow, known, types_at}
use Rattle.resolve.specs.WellDeclared.{tables_ok}
use Rattle.resolve.specs.Using.{Book}
use Rattle.resolve.specs.Resolved.{cuts, book_at}
use Rattle.uses.specs.Laws.PartLaws.{map_part, part_at, part_part}
use Rattle.uses.specs.Lent.{structs_of_table, names_of_table, row_end, book_in, Rowed}
use Rattle.uses.specs.Declaring.{Fronted, Tabled, type_bytes}
use Rattle.uses.specs.Tabling.{structs_at, pars_at, steps_at, names_first, Front, Laid, tested}
use Rattle.uses.specs.Among.{declared_at}
use Rattle.uses.specs.Laws.AmongLaws.{declared_count}
use Rattle.uses.specs.Laws.PutLaws.{put, put_long, put_at_behind, front_put, front_before, front_behind}
use Rattle.uses.specs.Laws.OffsetLaws.{offsets_long, pair_held}
use Rattle.uses.specs.Laws.TablingLaws.{row_held, few_pars, few_steps}
use Rattle.uses.specs.Laws.LayingLaws.{mid_long}
use Rattle.text_shape.specs.RoleNames.{new_par_role, new_step_role, first_type_role, last_par_type_role}
use Rattle.uses.specs.Layout.{rows_room, offsets_place, pars_place, types_place, names_place, struct_count_place, name_count_place, all_many}

-- Tests ------------------------------------------------------------------------------------------

last_first : (k d : Bool) → (k && d) ≡ (d && k)
last_first true true = refl
last_first true false = refl
last_first false true = refl
last_first false false = refl

fourth_last : (a b c k d : Bool) → (a && (b && (c && (k && d)))) ≡ ((a && (b && (c && d))) && k)
fourth_last true true true k d = last_first k d
fourth_last true true false k d = refl
fourth_last true false c k d = refl
fourth_last false b c k d = refl

module _ (text roles : List ℕ) where
  -- the test of types, made last
  types_last : tables_ok text roles ≡ (tested text roles && known (length (structs_at roles)) (type_bytes text roles))
  unfolding tables_ok tested
  types_last =
      fourth_last (leb (length (structs_at roles)) max_structs) (distinct (names_at text (structs_at roles)))
      (rows_ok text (pars_at roles) (offsets new_par_role roles)) (known (length (structs_at roles)) (type_bytes text roles))
      (narrow (offsets new_step_role roles) && leb (length (names_first text roles)) max_names)

  pub fill_not : {w : Bool} → w ≡ tested text roles → w ≡ false → false ≡ tables_ok text roles
  fill_not e f = sym (types_last ∙ ap (λ b. b && known (length (structs_at roles)) (type_bytes text roles)) (sym e ∙ f))

  pub fill_known : {w r : Bool} → w ≡ tested text roles → w ≡ true → r ≡ known (length (structs_at roles)) (type_bytes text roles) → r ≡ tables_ok text roles
  fill_known e f g = sym (types_last ∙ ap (λ b. b && known (length (structs_at roles)) (type_bytes text roles)) (sym e ∙ f) ∙ sym g)

-- what is few then
pub record Few (text roles : List ℕ) : Type 0 where
  pub structs : length (structs_at roles) ≤ max_structs
  pub pars : length (pars_at roles) ≤ rows_room
  pub types : length (places first_type_role last_par_type_role roles) ≤ rows_room
  pub steps : length (steps_at roles) ≤ rows_room
  pub names : length (names_first text roles) ≤ max_names
  pub rows : rows_ok text (pars_at roles) (offsets new_par_role roles) ≡ true

pub few_tested : (text roles : List ℕ) → Fronted roles → {w : Bool} → w ≡ tested text roles → w ≡ true → Few text roles
unfolding tested
few_tested text roles fr e f =
    let a = both_parts (leb (length (structs_at roles)) max_structs) _ (sym e ∙ f) in
    let b = both_parts (distinct (names_at text (structs_at roles))) _ a.1 in
    let c = both_parts (rows_ok text (pars_at roles) (offsets new_par_role roles)) _ b.1 in
    let d = both_parts (narrow (offsets new_step_role roles)) _ c.1 in
    let s = leb-true (length (structs_at roles)) max_structs a.0 in
    let p = few_pars text roles fr s c.0 in
    record {
      structs = s;
      pars = p;
      types = let g = fr.types in omega (arith, g, p);
      steps = few_steps text roles fr s d.0;
      names = leb-true (length (names_first text roles)) max_names d.1;
      rows = c.0;
    }

-- more declarations than these
pub fill_many : (text roles : List ℕ) → Fronted roles → {n : ℕ} → n ≡ length (declared_at roles) → all_many < n → false ≡ tables_ok text roles
fill_many text roles fr {n} e l = go (tested text roles) refl
  where
    go : (t : Bool) → tested text roles ≡ t → false ≡ tables_ok text roles
    go true f =
        let few = few_tested text roles fr {w = tested text roles} refl f in
        let c = declared_count roles in
        absurd (omega (arith, e, l, c, few.structs, few.pars, few.steps, few.types))
    go false f = fill_not text roles {w = tested text roles} refl f

-- Rows of a longer part ----------------------------------------------------------------------------

cuts_map : {B : Type 0} (f : ℕ → B) (l o : List ℕ) → cuts (map f l) o ≡ map (map f) (cuts l o)
unfolding cuts
cuts_map f l [] = refl
cuts_map f l (a ∷ []) = refl
cuts_map f l (a ∷ b ∷ o) = cons_eq (sym (map_part f l a b)) (cuts_map f l (b ∷ o))

module _ (t : ℕ → ℕ → Bool) (l : List ℕ) (p q n : ℕ) (within : (a b : ℕ) → t a b ≡ true → b ≤ n) (room : n ≤ q - p) where
  cuts_within : (o : List ℕ) → between_all t o ≡ true → cuts (part_of l p q) o ≡ cuts (part_of l p (p + n)) o
  unfolding cuts between_all
  cuts_within [] e = refl
  cuts_within (a ∷ []) e = refl
  cuts_within (a ∷ b ∷ o) e =
      let h = both_parts (t a b) (between_all t (b ∷ o)) e in
      let i = within a b h.0 in
      cons_eq (part_part l p q a b (omega (arith, i, room)) ∙ sym (part_part l p (p + n) a b (omega (arith, i)))) (cuts_within (b ∷ o) h.1)

same_book : {a b : List Id} {c d : List (List Id)} {e f : List (List ℕ)} {g h : List Id} → a ≡ b → c ≡ d → e ≡ f → g ≡ h
    → ◌≡◌ {A = Book} (record { structs = a; rows = c; types = e; steps = g }) (record { structs = b; rows = d; types = f; steps = h })
same_book i j k l = rw (i, j, k, l) refl

-- A whole table --------------------------------------------------------------------------------------

module _ {text roles t : List ℕ} (laid : Laid text roles t) (types : Front t types_place names_place (type_bytes text roles)) (fr : Fronted roles)
    (few : Few text roles) where
  abbrev s : ℕ
  s = structs_of_table t

  bytes_long : length (type_bytes text roles) ≡ length (places first_type_role last_par_type_role roles)
  unfolding types_at
  bytes_long = length-map (places first_type_role last_par_type_role roles) _

  structs_here : part_of t 0 s ≡ structs_at roles
  structs_here =
      let e : s ≡ 0 + length (structs_at roles) = let e = laid.count in omega (arith, e) in
      ap (part_of t 0) e ∙ laid.structs (let h = few.structs in omega (arith, h))

  rows_here : part_of t offsets_place (offsets_place + 1 + s) ≡ offsets new_par_role roles
  rows_here =
      let l = offsets_long new_par_role roles in
      let e : offsets_place + 1 + s ≡ offsets_place + length (offsets new_par_role roles) = let e = laid.count in omega (arith, e, l) in
      ap (part_of t offsets_place) e ∙ laid.rows (let h = few.structs in omega (arith, h, l))

  pars_here : part_of t pars_place (pars_place + length (pars_at roles)) ≡ pars_at roles
  pars_here = laid.pars few.pars

  types_here : part_of t types_place (types_place + length (places first_type_role last_par_type_role roles)) ≡ type_bytes text roles
  types_here =
      ap (λ n. part_of t types_place (types_place + n)) (sym bytes_long) ∙ types (let e = bytes_long in let h = few.types in omega (arith, e, h))

  names_counted : names_of_table t ≡ length (names_first text roles)
  names_counted =
      laid.names_count few.steps ∙ min-eq_left {n = length (names_first text roles)} {m = max_names + 1} (let h = few.names in omega (arith, h))

  names_here : part_of t names_place (names_place + names_of_table t) ≡ names_first text roles
  names_here = ap (λ n. part_of t names_place (names_place + n)) names_counted ∙ laid.names few.steps few.names

  abbrev row : ℕ → ℕ → Bool
  row a b = row_ok text (pars_at roles) a b

  row_within : (a b : ℕ) → row a b ≡ true → b ≤ length (pars_at roles)
  row_within a b e = (row_held text (pars_at roles) a b e).within

  -- rows of names and of types
  name_rows : cuts (names_at text (part_of t pars_place types_place)) (part_of t offsets_place (offsets_place + 1 + s))
      ≡ cuts (names_at text (pars_at roles)) (offsets new_par_role roles)
  unfolding rows_ok
  name_rows =
      ap (cuts (names_at text (part_of t pars_place types_place))) rows_here ∙ cuts_map _ (part_of t pars_place types_place) (offsets new_par_role roles)
      ∙ ap (map (λ r. names_at text r))
      (cuts_within row t pars_place types_place (length (pars_at roles)) row_within few.pars (offsets new_par_role roles) few.rows
      ∙ ap (λ l. cuts l (offsets new_par_role roles)) pars_here)
      ∙ sym (cuts_map _ (pars_at roles) (offsets new_par_role roles))

  type_rows : cuts (part_of t types_place names_place) (part_of t offsets_place (offsets_place + 1 + s))
      ≡ cuts (type_bytes text roles) (offsets new_par_role roles)
  unfolding rows_ok
  type_rows =
      ap (cuts (part_of t types_place names_place)) rows_here
      ∙ cuts_within row t types_place names_place (length (places first_type_role last_par_type_role roles))
      (λ a b e. let h = row_within a b e in let g = fr.types in omega (arith, h, g)) few.types
      (offsets new_par_role roles) few.rows
      ∙ ap (λ l. cuts l (offsets new_par_role roles)) types_here

  book_here : book_in text t ≡ book_at text roles
  unfolding book_in book_at
  book_here = same_book (ap (names_at text) structs_here) name_rows type_rows (ap (names_at text) names_here)

  -- a row's ends
  row_at : (k : ℕ) → k ≤ s → get_or t (offsets_place + k) 0 ≡ get_or (offsets new_par_role roles) k 0
  row_at k h = sym (part_at t offsets_place (offsets_place + 1 + s) k (omega (arith, h))) ∙ ap (λ l. get_or l k 0) rows_here

  row_here : (k : ℕ) → k < s → Rowed t k
  unfolding rows_ok
  row_here k h =
      let l = offsets_long new_par_role roles in
      let c = laid.count in
      let e = row_at k (omega (arith, h)) in
      let i : (offsets_place + k) + 1 ≡ offsets_place + suc k = omega arith in
      let f : row_end t k ≡ get_or (offsets new_par_role roles) (suc k) 0 = ap (λ n. get_or t n 0) i ∙ row_at (suc k) (omega (arith, h)) in
      let r =
      row_held text (pars_at roles) (get_or (offsets new_par_role roles) k 0) (get_or (offsets new_par_role roles) (suc k) 0)
      (pair_held row (offsets new_par_role roles) few.rows k (omega (arith, l, c, h))) in
      let p = few.pars in
      record { up = omega (arith, e, f, r.up); few = omega (arith, e, f, r.short); inner = omega (arith, e, f, r.within, p) }

  pub tabled_all : Tabled text roles t
  tabled_all =
      record {
        booked =
            record {
              long = laid.long;
              structs = let e = laid.count in let h = few.structs in omega (arith, e, h);
              names = let e = names_counted in let h = few.names in omega (arith, e, h);
              rows = row_here;
            };
        book = book_here;
        structs = laid.count;
        rows = rows_here;
        few = few.types;
        types = types_here;
      }

-- with the bytes of types put in
module _ {text roles t : List ℕ} (m : List ℕ) (laid : Laid text roles t) (kept : length m ≡ length (take rows_room (drop types_place t))) where
  room : types_place + rows_room ≤ length t
  room = let h = laid.long in omega (arith, h)

  many : length m ≡ rows_room
  many = kept ∙ mid_long types_place rows_room t room

  pub typed_long : length (put types_place rows_room t m) ≡ length t
  typed_long = put_long types_place rows_room t m room many

  laid_typed : Laid text roles (put types_place rows_room t m)
  laid_typed =
      record {
        long = typed_long ∙ laid.long;
        count = put_at_behind types_place rows_room t m room many struct_count_place (omega arith) ∙ laid.count;
        structs = front_before types_place rows_room t m room many 0 offsets_place (structs_at roles) (omega arith) (omega arith) laid.structs;
        rows = front_before types_place rows_room t m room many offsets_place pars_place (offsets new_par_role roles) (omega arith) (omega arith) laid.rows;
        pars = front_before types_place rows_room t m room many pars_place types_place (pars_at roles) (omega arith) (omega arith) laid.pars;
        names_count = λ h. put_at_behind types_place rows_room t m room many name_count_place (omega arith) ∙ laid.names_count h;
        names = λ h. front_behind types_place rows_room t m room many names_place struct_count_place (names_first text roles) (omega arith) (laid.names h);
      }

  pub fill_tabled : Fronted roles → {w r : Bool} → w ≡ tested text roles → w ≡ true
      → (r ≡ true → m ≡ sets (take rows_room (drop types_place t)) 0 (type_bytes text roles)) → r ≡ true → Tabled text roles (put types_place rows_room t m)
  fill_tabled fr e f g h =
      tabled_all laid_typed
      (front_put types_place rows_room t m room many (take rows_room (drop types_place t)) (type_bytes text roles) (g h)
      (mid_long types_place rows_room t room)) fr (few_tested text roles fr e f)
