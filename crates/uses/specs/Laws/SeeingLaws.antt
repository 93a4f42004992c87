-- What a name stands for, by the tables of a text (02 §1): one law for each way through the code.
use Rattle.std.specs.Prelude.{ℕ, zero, suc, ◌+◌, ◌-◌, ◌≤◌, ◌<◌, Bool, ◌&&◌, List, [], length, get_or, drop, Some, None, is_some, not}
use native.Mathlib.Omega.{arith}
use Rattle.std.proofs.Common.{sub-one, ◌∙◌}
use Rattle.std.proofs.Math.Path.{◌≡◌, refl, sym, ap}
use Rattle.std.proofs.Math.Bool.{true, false}
use Rattle.std.proofs.Math.Dec.{leb, ltb}
use borrow.Author.Tests.{ltb-true, ltb-false, lt-ltb, le-ltb, le-leb, lt-leb, eq-eqb, ne_eqb}
use Rattle.types.proofs.Laws.ListLaws.{map_drop}
use Rattle.types.specs.Limits.{first_local}
use Rattle.types.specs.Types.{struct_code}
use Rattle.syntax.specs.Syntax.{Id}
use Rattle.resolve.specs.Named.{name_at, names_at, sought}
use Rattle.resolve.specs.Checks.{part_of}
use Rattle.resolve.specs.Using.{Book, Use, chosen, own_row}
use Rattle.resolve.specs.Resolved.{cuts}
use Rattle.uses.specs.Laws.PartLaws.{up_to, map_part, cuts_at, part_at, part_long, mapped_long, part_part, drop_up_to}
use Rattle.uses.specs.Lent.{structs_of_table, row_start, row_end, book_in, Booked, use_in, Roomy}
use Rattle.uses.specs.Seeing.{called_among, seen_listed, seen_par, seen_local, seen_first, seen_behind}
use Rattle.uses.specs.declared.Scope.{Scope}
use Rattle.text_shape.specs.RoleNames.{called_struct_role}
use Rattle.types.specs.Limits.{max_locals}
use Rattle.uses.specs.Layout.{rows_room, offsets_place, pars_place, types_place, names_place, living_end, numbers_end, bytes_end}
use Rattle.uses.specs.Passed.{Seen}

-- Lists ------------------------------------------------------------------------------------------

module _ (l : List Id) (x : Id) {n m : ℕ} (e : n ≡ sought x l) (h : length l ≡ m) where
  pub listed_none : (b : ℕ) → m ≤ n → None ≡ seen_listed l x b
  unfolding seen_listed chosen
  listed_none b k = rw (le-ltb (sought x l) (length l) (omega arith)) refl

  pub listed_one : (b : ℕ) → n < m → Some (n, b) ≡ seen_listed l x b
  unfolding seen_listed chosen
  listed_one b k = rw (lt-ltb (sought x l) (length l) (omega arith), ← e) refl

  pub par_none : (ts : List ℕ) → m ≤ n → None ≡ seen_par l ts x
  unfolding seen_par chosen
  par_none ts k = rw (le-ltb (sought x l) (length l) (omega arith)) refl

  pub par_one : (ts : List ℕ) {v : ℕ} → n < m → v ≡ get_or ts n 0 → Some (n, v) ≡ seen_par l ts x
  unfolding seen_par chosen
  par_one ts k f = rw (lt-ltb (sought x l) (length l) (omega arith), ← e, f) refl

  pub local_none : (ns bs : List ℕ) → m ≤ n → None ≡ seen_local l ns bs x
  unfolding seen_local chosen
  local_none ns bs k = rw (le-ltb (sought x l) (length l) (omega arith)) refl

  pub local_one : (ns bs : List ℕ) {v w : ℕ} → n < m → v ≡ get_or ns n 0 → w ≡ get_or bs n 0 → Some (first_local + v, w) ≡ seen_local l ns bs x
  unfolding seen_local chosen
  local_one ns bs k f g = rw (lt-ltb (sought x l) (length l) (omega arith), ← e, f, g) refl

-- Rows of a book ---------------------------------------------------------------------------------

module _ (x t : List ℕ) (b : Booked t) (k : ℕ) (inside : k < structs_of_table t) where
  start_at : get_or (part_of t offsets_place (offsets_place + 1 + structs_of_table t)) k 0 ≡ row_start t k
  start_at = part_at t offsets_place (offsets_place + 1 + structs_of_table t) k (omega arith)

  end_at : get_or (part_of t offsets_place (offsets_place + 1 + structs_of_table t)) (suc k) 0 ≡ row_end t k
  end_at =
      let e : offsets_place + suc k ≡ offsets_place + k + 1 = omega arith in
      part_at t offsets_place (offsets_place + 1 + structs_of_table t) (suc k) (omega arith) ∙ ap (λ z. get_or t z 0) e

  many : suc k < length (part_of t offsets_place (offsets_place + 1 + structs_of_table t))
  many = let h = part_long t offsets_place (offsets_place + 1 + structs_of_table t) (omega (arith, b.long, b.structs)) in omega (arith, h)

  cut_at : {A : Type 0} (l : List A) → get_or (cuts l (part_of t offsets_place (offsets_place + 1 + structs_of_table t))) k []
      ≡ part_of l (row_start t k) (row_end t k)
  cut_at l =
      cuts_at l (part_of t offsets_place (offsets_place + 1 + structs_of_table t)) k many
      ∙ ap (λ z. part_of l z (get_or (part_of t offsets_place (offsets_place + 1 + structs_of_table t)) (suc k) 0)) start_at
      ∙ ap (part_of l (row_start t k)) end_at

  -- the names of struct k's parameters, and the bytes of their types
  pub row_in : names_at x (part_of t (pars_place + row_start t k) (pars_place + row_end t k)) ≡ get_or (book_in x t).rows k []
  unfolding book_in
  row_in =
      let h = b.rows k inside in
      sym
      (cut_at (names_at x (part_of t pars_place types_place)) ∙ sym (map_part (name_at x) (part_of t pars_place types_place) (row_start t k) (row_end t k))
      ∙ ap (names_at x) (part_part t pars_place types_place (row_start t k) (row_end t k) (omega (arith, h.inner))))

  pub types_in : part_of t (types_place + row_start t k) (types_place + row_end t k) ≡ get_or (book_in x t).types k []
  unfolding book_in
  types_in =
      let h = b.rows k inside in
      sym (cut_at (part_of t types_place names_place) ∙ part_part t types_place names_place (row_start t k) (row_end t k) (omega (arith, h.inner)))

  pub row_names : length (names_at x (part_of t (pars_place + row_start t k) (pars_place + row_end t k)))
      ≡ (pars_place + row_end t k) - (pars_place + row_start t k)
  row_names =
      let h = b.rows k inside in
      mapped_long (name_at x) t (pars_place + row_start t k) (pars_place + row_end t k) (omega (arith, h.inner, b.long))

  pub row_long : length (get_or (book_in x t).rows k []) ≡ row_end t k - row_start t k
  row_long =
      let h = b.rows k inside in
      let e : (pars_place + row_end t k) - (pars_place + row_start t k) ≡ row_end t k - row_start t k = omega arith in
      ap length (sym row_in) ∙ mapped_long (name_at x) t (pars_place + row_start t k) (pars_place + row_end t k) (omega (arith, h.inner, b.long)) ∙ e

  -- a parameter of struct k
  module _ (y : Id) {n : ℕ} (e : n ≡ sought y (names_at x (part_of t (pars_place + row_start t k) (pars_place + row_end t k)))) where
    found : n ≡ sought y (get_or (book_in x t).rows k [])
    found = e ∙ ap (sought y) row_in

    pub parameter_none : (pars_place + row_end t k) - (pars_place + row_start t k) ≤ n
        → None ≡ seen_par (get_or (book_in x t).rows k []) (get_or (book_in x t).types k []) y
    parameter_none h = par_none (get_or (book_in x t).rows k []) y found row_long (get_or (book_in x t).types k []) (omega (arith, h))

    pub parameter_one : n < (pars_place + row_end t k) - (pars_place + row_start t k)
        → Some (n, get_or t (pars_place + row_start t k + n + rows_room) 0) ≡ seen_par (get_or (book_in x t).rows k []) (get_or (book_in x t).types k []) y
    parameter_one h =
        let i : pars_place + row_start t k + n + rows_room ≡ types_place + row_start t k + n = omega arith in
        let v : get_or t (pars_place + row_start t k + n + rows_room) 0 ≡ get_or (get_or (book_in x t).types k []) n 0 =
        ap (λ z. get_or t z 0) i ∙ sym (part_at t (types_place + row_start t k) (types_place + row_end t k) n (omega (arith, h)))
        ∙ ap (λ l. get_or l n 0) types_in in
        par_one (get_or (book_in x t).rows k []) y found row_long (get_or (book_in x t).types k []) (omega (arith, h)) v

-- Counts of a book --------------------------------------------------------------------------------

module _ (x t : List ℕ) (b : Booked t) where
  pub struct_names : length (names_at x (part_of t 0 (structs_of_table t))) ≡ structs_of_table t
  struct_names =
      let e : structs_of_table t - 0 ≡ structs_of_table t = omega arith in
      mapped_long (name_at x) t 0 (structs_of_table t) (omega (arith, b.long, b.structs)) ∙ e

  pub structs_long : length (book_in x t).structs ≡ structs_of_table t
  unfolding book_in
  structs_long =
      let e : structs_of_table t - 0 ≡ structs_of_table t = omega arith in
      mapped_long (name_at x) t 0 (structs_of_table t) (omega (arith, b.long, b.structs)) ∙ e

-- Locals ------------------------------------------------------------------------------------------

module _ (x l : List ℕ) (n : ℕ) (long : length l ≡ bytes_end) (few : n ≤ max_locals) (y : Id) {k : ℕ}
    (e : k ≡ sought y (names_at x (part_of l (living_end - n) living_end))) where
  pub alive_long : length (names_at x (up_to l living_end n)) ≡ n
  alive_long =
      let e : living_end - (living_end - n) ≡ n = omega (arith, few) in
      mapped_long (name_at x) l (living_end - n) living_end (omega (arith, long)) ∙ e

  pub alive_none : n ≤ k → None ≡ seen_local (names_at x (up_to l living_end n)) (up_to l numbers_end n) (up_to l bytes_end n) y
  alive_none h = local_none (names_at x (up_to l living_end n)) y e alive_long (up_to l numbers_end n) (up_to l bytes_end n) h

  pub alive_one : k < n
      → Some (first_local + get_or l (living_end - n + k + max_locals) 0, get_or l (living_end - n + k + living_end) 0)
      ≡ seen_local (names_at x (up_to l living_end n)) (up_to l numbers_end n) (up_to l bytes_end n) y
  alive_one h =
      let i : living_end - n + k + max_locals ≡ numbers_end - n + k = omega (arith, few) in
      let j : living_end - n + k + living_end ≡ bytes_end - n + k = omega (arith, few) in
      local_one (names_at x (up_to l living_end n)) y e alive_long (up_to l numbers_end n) (up_to l bytes_end n) h
      (ap (λ z. get_or l z 0) i ∙ sym (part_at l (numbers_end - n) numbers_end k (omega (arith, few, h))))
      (ap (λ z. get_or l z 0) j ∙ sym (part_at l (bytes_end - n) bytes_end k (omega (arith, few, h))))

-- The first variable of a path --------------------------------------------------------------------

pub own_none : {A : Type 0} (l : List (List A)) (n : ℕ) → n ≡ 0 → own_row l n ≡ []
unfolding own_row
own_none l n e = rw e refl

pub own_some : {A : Type 0} (l : List (List A)) (n : ℕ) → (n ≡ 0 → ⊥) → get_or l (n - 1) [] ≡ own_row l n
unfolding own_row
own_some l zero h = absurd (h refl)
own_some l (suc n) h = rw sub-one refl

module _ (x t l : List ℕ) (c : Scope) (r : Roomy t l c) (y : Id) where
  abbrev alive : ℕ
  alive = c.living - c.fresh

  abbrev living_seen : Seen
  living_seen = seen_local (names_at x (up_to l living_end alive)) (up_to l numbers_end alive) (up_to l bytes_end alive) y

  abbrev used : Use
  used = use_in x l [] c []

  rest : (e : ℕ) → max_locals ≤ e → up_to l e alive ≡ drop c.fresh (up_to l e c.living)
  rest e h = sym (drop_up_to l e c.living c.fresh r.fresh (omega (arith, h, r.living, r.met)))

  -- the living locals are those behind the one that is not alive yet
  pub alive_part : living_seen ≡ seen_local (drop used.fresh used.living) (drop used.fresh used.numbers) (drop used.fresh used.bytes) y
  unfolding use_in
  alive_part =
      ap (λ m. seen_local m (up_to l numbers_end alive) (up_to l bytes_end alive) y)
      (ap (names_at x) (rest living_end (omega arith)) ∙ map_drop (name_at x) c.fresh (up_to l living_end c.living))
      ∙ ap (λ m. seen_local (drop c.fresh (names_at x (up_to l living_end c.living))) m (up_to l bytes_end alive) y) (rest numbers_end (omega arith))
      ∙ ap (λ m. seen_local (drop c.fresh (names_at x (up_to l living_end c.living))) (drop c.fresh (up_to l numbers_end c.living)) m y)
      (rest bytes_end (omega arith))

  module _ (b : Book) where
    -- no struct is begun
    pub first_none : c.begun ≡ 0 → living_seen ≡ seen_first b y used
    unfolding seen_first use_in chosen sought
    first_none e = alive_part ∙ sym (rw (own_none b.rows c.begun e) refl)

    module _ (n : c.begun ≡ 0 → ⊥) where
      abbrev own : Seen
      own = seen_par (get_or b.rows (c.begun - 1) []) (get_or b.types (c.begun - 1) []) y

      own_is : own ≡ seen_par (own_row b.rows used.begun) (own_row b.types used.begun) y
      unfolding use_in
      own_is =
          ap (λ m. seen_par m (get_or b.types (c.begun - 1) []) y) (own_some b.rows c.begun n)
          ∙ ap (λ m. seen_par (own_row b.rows c.begun) m y) (own_some b.types c.begun n)

      pub first_own : {k v : ℕ} → Some (k, v) ≡ own → Some (k, v) ≡ seen_first b y used
      unfolding seen_first seen_par chosen
      first_own {k} {v} e = go (ltb (sought y (own_row b.rows used.begun)) (length (own_row b.rows used.begun))) refl (e ∙ own_is)
        where
          go : (q : Bool) → ltb (sought y (own_row b.rows used.begun)) (length (own_row b.rows used.begun)) ≡ q
              → Some (k, v) ≡ seen_par (own_row b.rows used.begun) (own_row b.types used.begun) y → Some (k, v) ≡ seen_first b y used
          go true f g = rw f (rw f at g)
          go false f g = absurd (let h = rw f at g in let z : ◌≡◌ {A = ℕ} 0 1 = cc in omega arith)

      pub first_alive : None ≡ own → living_seen ≡ seen_first b y used
      unfolding seen_first seen_par chosen
      first_alive e = go (ltb (sought y (own_row b.rows used.begun)) (length (own_row b.rows used.begun))) refl (e ∙ own_is)
        where
          go : (q : Bool) → ltb (sought y (own_row b.rows used.begun)) (length (own_row b.rows used.begun)) ≡ q
              → None ≡ seen_par (own_row b.rows used.begun) (own_row b.types used.begun) y → living_seen ≡ seen_first b y used
          go false f g = rw f alive_part
          go true f g = absurd (let h = rw f at g in let z : ◌≡◌ {A = ℕ} 0 1 = cc in omega arith)

-- Later variables ---------------------------------------------------------------------------------

module _ (b : Book) (c : ℕ) (y : Id) where
  pub later_basic : c < struct_code → None ≡ seen_behind b c y
  unfolding seen_behind chosen
  later_basic h = rw (lt-ltb c struct_code h) refl

  module _ (h : struct_code ≤ c) {s : ℕ} (e : length b.structs ≡ s) where
    pub later_none : s ≤ c - struct_code → None ≡ seen_behind b c y
    unfolding seen_behind chosen
    later_none k = rw (le-ltb c struct_code h, le-ltb (c - struct_code) (length b.structs) (omega arith)) refl

    pub later_one : c - struct_code < s → seen_par (get_or b.rows (c - struct_code) []) (get_or b.types (c - struct_code) []) y ≡ seen_behind b c y
    unfolding seen_behind chosen
    later_one k = rw (le-ltb c struct_code h, lt-ltb (c - struct_code) (length b.structs) (omega arith)) refl

-- Names of parameters -----------------------------------------------------------------------------

module _ (b : Book) (n : ℕ) (y : Id) where
  abbrev row : List Id
  row = own_row b.rows n

  pub no_row : n ≡ 0 → true ≡ leb (length row) (sought y row)
  unfolding sought
  no_row e = sym (rw (own_none b.rows n e) refl)

  abbrev met_row : List Id
  met_row = get_or b.rows (n - 1) []

  module _ (h : n ≡ 0 → ⊥) where
    same_row : (q : Bool) → q ≡ leb (length met_row) (sought y met_row) → q ≡ leb (length row) (sought y row)
    same_row q e = e ∙ ap (λ m. leb (length m) (sought y m)) (own_some b.rows n h)

    pub in_row : {k v : ℕ} (ts : List ℕ) → Some (k, v) ≡ seen_par met_row ts y → false ≡ leb (length row) (sought y row)
    unfolding seen_par chosen
    in_row {k} {v} ts e = same_row false (go (ltb (sought y met_row) (length met_row)) refl e)
      where
        go : (q : Bool) → ltb (sought y met_row) (length met_row) ≡ q → Some (k, v) ≡ seen_par met_row ts y → false ≡ leb (length met_row) (sought y met_row)
        go true f g = sym (lt-leb (length met_row) (sought y met_row) (ltb-true (sought y met_row) (length met_row) f))
        go false f g = absurd (let h = rw f at g in let z : ◌≡◌ {A = ℕ} 0 1 = cc in omega arith)

    pub out_row : (ts : List ℕ) → None ≡ seen_par met_row ts y → true ≡ leb (length row) (sought y row)
    unfolding seen_par chosen
    out_row ts e = same_row true (go (ltb (sought y met_row) (length met_row)) refl e)
      where
        go : (q : Bool) → ltb (sought y met_row) (length met_row) ≡ q → None ≡ seen_par met_row ts y → true ≡ leb (length met_row) (sought y met_row)
        go false f g = sym (le-leb (length met_row) (sought y met_row) (ltb-false (sought y met_row) (length met_row) f))
        go true f g = absurd (let h = rw f at g in let z : ◌≡◌ {A = ℕ} 0 1 = cc in omega arith)

    pub off_row : (ts : List ℕ) (o : Seen) (q : Bool) → o ≡ seen_par met_row ts y → is_some o ≡ not q → q ≡ leb (length row) (sought y row)
    off_row ts None true e f = out_row ts e
    off_row ts None false e f = absurd (let z : ◌≡◌ {A = ℕ} 0 1 = cc in omega arith)
    off_row ts (Some (k, v)) false e f = in_row ts e
    off_row ts (Some (k, v)) true e f = absurd (let z : ◌≡◌ {A = ℕ} 0 1 = cc in omega arith)

-- a name met before, and not
pub met_one : (m k n : ℕ) (q : Bool) → n ≡ k → n < m → false ≡ (leb m k && q)
met_one m k n q e h = rw (lt-leb m k (omega arith)) refl

pub met_none : (m k n : ℕ) (q r : Bool) → n ≡ k → m ≤ n → r ≡ q → r ≡ (leb m k && q)
met_none m k n q r e h f = rw (le-leb m k (omega arith)) f

-- By roles ----------------------------------------------------------------------------------------

module _ (b : Book) (c : ℕ) where
  pub among_structs : c ≡ called_struct_role → b.structs ≡ called_among b c
  unfolding called_among chosen
  among_structs e = sym (rw (eq-eqb c called_struct_role e) refl)

  pub among_steps : (c ≡ called_struct_role → ⊥) → b.steps ≡ called_among b c
  unfolding called_among chosen
  among_steps h = sym (rw (ne_eqb c called_struct_role h) refl)
