-- Places are gathered one after the other; a row of names is distinct where each is sought in vain behind itself.
use Rattle.std.specs.Prelude.{ℕ, suc, ◌+◌, ◌-◌, ◌≤◌, ◌<◌, ◌≡◌, Bool, length, get_or, set, take, drop, eqb}
use Rattle.std.proofs.Common.{arith, add-one, ◌∙◌, length-set, length-drop, drop_of_length-le, take_all}
use Rattle.std.proofs.Math.Path.{refl, sym, ap}
use Rattle.std.proofs.Math.Bool.{true, false}
use mathlib.Core.List.{List, [], ◌∷◌}
use Rattle.std.proofs.lemmas.List.Edits.{sets}
use Rattle.types.proofs.Laws.ListLaws.{drop_next}
use Rattle.tokens.specs.Tokens.{same}
use Rattle.syntax.specs.Syntax.{Id}
use Rattle.meaning.specs.Finding.{absent, distinct}
use Rattle.resolve.specs.Named.{name_at, names_at, sought}
use Rattle.resolve.specs.Tables.{with_place, with_one, offsets_from, offsets}
use Rattle.text_shape.specs.RoleNames.{new_struct_role}

-- One place ---------------------------------------------------------------------------------

module _ {t : Bool} (n : ℕ) where
  pub one_counted : t ≡ true → n + 1 ≡ with_one t n
  unfolding with_one
  one_counted e = rw e refl

  pub none_counted : t ≡ false → n ≡ with_one t n
  unfolding with_one
  none_counted e = rw e refl

module _ {t : Bool} (table : List ℕ) (n i : ℕ) where
  pub one_placed : {table' : List ℕ} → t ≡ true → table' ≡ set table n i → table' ≡ with_place t table n i
  unfolding with_place
  one_placed e f = rw e f

  pub none_placed : t ≡ false → table ≡ with_place t table n i
  unfolding with_place
  none_placed e = rw e refl

-- Gathering ----------------------------------------------------------------------------------

-- what a loop still gathers in its turn i and behind it, stored behind the n places before, completes the table
pub record Gathers (rest : ℕ → List ℕ) (table₀ table : List ℕ) (n i : ℕ) : Type 0 where
  pub few : n ≤ i
  pub kept : length table ≡ length table₀
  pub count : n + length (rest i) ≡ length (rest 0)
  pub stored : sets table n (rest i) ≡ sets table₀ 0 (rest 0)

pub gathers_start : (rest : ℕ → List ℕ) (table : List ℕ) → Gathers rest table table 0 0
gathers_start rest table = record { few = omega arith; kept = refl; count = omega arith; stored = refl }

module _ {rest : ℕ → List ℕ} {table₀ table : List ℕ} {n i : ℕ} (r : Gathers rest table₀ table n i) where
  gathers_one : (p : ℕ) → rest i ≡ p ∷ rest (i + 1) → Gathers rest table₀ (set table n p) (n + 1) (i + 1)
  gathers_one p e =
      record {
        few = let h = r.few in omega arith;
        kept = length-set table n p ∙ r.kept;
        count = omega (arith, ap length e, r.count);
        stored = ap (λ k. sets (set table n p) k (rest (i + 1))) (add-one n) ∙ ap (sets table n) (sym e) ∙ r.stored;
      }

  gathers_none : rest i ≡ rest (i + 1) → Gathers rest table₀ table n (i + 1)
  gathers_none e =
      record {
        few = let h = r.few in omega arith;
        kept = r.kept;
        count = omega (arith, ap length e, r.count);
        stored = ap (sets table n) (sym e) ∙ r.stored;
      }

  pub gathers_on : {t : Bool} {table' : List ℕ} {m p : ℕ} → (t ≡ true → rest i ≡ p ∷ rest (i + 1)) → (t ≡ false → rest i ≡ rest (i + 1))
      → m ≡ with_one t n → table' ≡ with_place t table n p → Gathers rest table₀ table' m (i + 1)
  unfolding with_one with_place
  gathers_on {t} {table'} {m} {p} e f = go t e f
    where
      go : (u : Bool) → (u ≡ true → rest i ≡ p ∷ rest (i + 1)) → (u ≡ false → rest i ≡ rest (i + 1)) → m ≡ with_one u n → table' ≡ with_place u table n p
          → Gathers rest table₀ table' m (i + 1)
      go true a b c d = rw (c, d) (gathers_one p (a refl))
      go false a b c d = rw (c, d) (gathers_none (b refl))

  pub gathers_count : rest i ≡ [] → n ≡ length (rest 0)
  gathers_count e = omega (arith, ap length e, r.count)

  pub gathers_stored : rest i ≡ [] → table ≡ sets table₀ 0 (rest 0)
  gathers_stored e = ap (sets table n) (sym e) ∙ r.stored

-- Rows ---------------------------------------------------------------------------------------------

-- the rows from i on, stored behind the k before them, complete the table
pub record Lays (s table₀ table : List ℕ) (q n k i : ℕ) : Type 0 where
  pub inner : i ≤ length s
  pub few : k ≤ i
  pub less : n ≤ i
  pub kept : length table ≡ length table₀
  pub count : k + length (offsets_from q n (drop i s)) ≡ length (offsets q s)
  pub stored : sets table k (offsets_from q n (drop i s)) ≡ sets table₀ 0 (offsets q s)

pub lays_start : (s table : List ℕ) (q : ℕ) → Lays s table table q 0 0 0
lays_start s table q = record { inner = omega arith; few = omega arith; less = omega arith; kept = refl; count = omega arith; stored = refl }

module _ {s table₀ table : List ℕ} {q n k i : ℕ} (r : Lays s table₀ table q n k i) where
  module _ (l : i < length s) where
    pub lays_on : {table' : List ℕ} {m j : ℕ} → j ≡ with_one (eqb (get_or s i 0) new_struct_role) k
        → table' ≡ with_place (eqb (get_or s i 0) new_struct_role) table k n
        → m ≡ with_one (eqb (get_or s i 0) q) n → Lays s table₀ table' q m j (i + 1)
    unfolding with_one with_place offsets_from
    lays_on {table'} {m} {j} a b d = go (eqb (get_or s i 0) new_struct_role) refl
      where
        at_most : (t : Bool) → m ≡ with_one t n → m ≤ i + 1
        at_most true e = omega (arith, e, r.less)
        at_most false e = omega (arith, e, r.less)

        rest : List ℕ
        rest = offsets_from q m (drop (i + 1) s)

        go : (t : Bool) → eqb (get_or s i 0) new_struct_role ≡ t → Lays s table₀ table' q m j (i + 1)
        go true e =
            let f : offsets_from q n (drop i s) ≡ n ∷ rest = rw (drop_next s i l, offsets_from, e) (ap (λ v. n ∷ offsets_from q v (drop (i + 1) s)) (sym d)) in
            let g : j ≡ k + 1 = rw (e, with_one) at a in
            let h : table' ≡ set table k n = rw (e, with_place) at b in
            record {
              inner = omega arith;
              few = omega (arith, g, r.few);
              less = at_most (eqb (get_or s i 0) q) d;
              kept = ap length h ∙ length-set table k n ∙ r.kept;
              count = omega (arith, g, ap length f, r.count);
              stored = ap (λ v. sets table' v rest) (g ∙ add-one k) ∙ ap (λ v. sets v (suc k) rest) h ∙ ap (sets table k) (sym f) ∙ r.stored;
            }
        go false e =
            let f : offsets_from q n (drop i s) ≡ rest = rw (drop_next s i l, offsets_from, e) (ap (λ v. offsets_from q v (drop (i + 1) s)) (sym d)) in
            let g : j ≡ k = rw (e, with_one) at a in
            let h : table' ≡ table = rw (e, with_place) at b in
            record {
              inner = omega arith;
              few = omega (arith, g, r.few);
              less = at_most (eqb (get_or s i 0) q) d;
              kept = ap length h ∙ r.kept;
              count = omega (arith, g, ap length f, r.count);
              stored = ap (λ v. sets table' v rest) g ∙ ap (λ v. sets v k rest) h ∙ ap (sets table k) (sym f) ∙ r.stored;
            }

  pub lays_end : {table' : List ℕ} → length s ≤ i → table' ≡ set table k n → table' ≡ sets table₀ 0 (offsets q s)
  unfolding offsets_from
  lays_end l e =
      let f : offsets_from q n (drop i s) ≡ n ∷ [] = rw (drop_of_length-le s {i = i} l) refl in
      e ∙ ap (sets table k) (sym f) ∙ r.stored

  pub lays_kept : {table' : List ℕ} → table' ≡ set table k n → length table' ≡ length table₀
  lays_kept e = ap length e ∙ length-set table k n ∙ r.kept

-- Names that are all different -----------------------------------------------------------------

present : (x : Id) (l : List Id) → sought x l < length l → absent x l ≡ false
unfolding sought absent
present x [] h = absurd (omega arith)
present x (y ∷ l) h = go (same y x) refl (present x l)
  where
    go : (t : Bool) → same y x ≡ t → (sought x l < length l → absent x l ≡ false) → absent x (y ∷ l) ≡ false
    go true e rec = rw (absent, e) refl
    go false e rec = rw (absent, e) (rec (let k : suc (sought x l) < suc (length l) = rw (sought, e) at h in omega arith))

missing : (x : Id) (l : List Id) → length l ≤ sought x l → absent x l ≡ true
unfolding sought absent
missing x [] h = refl
missing x (y ∷ l) h = go (same y x) refl (missing x l)
  where
    go : (t : Bool) → same y x ≡ t → (length l ≤ sought x l → absent x l ≡ true) → absent x (y ∷ l) ≡ true
    go true e rec = absurd (let k : suc (length l) ≤ 0 = rw (sought, e) at h in omega arith)
    go false e rec = rw (absent, e) (rec (let k : suc (length l) ≤ suc (sought x l) = rw (sought, e) at h in omega arith))

-- no name before i stands again behind it
pub record Differ (s table : List ℕ) (i : ℕ) : Type 0 where
  pub inner : i ≤ length table
  pub rest : distinct (names_at s (drop i table)) ≡ distinct (names_at s table)

names_count : (s table : List ℕ) → length (names_at s table) ≡ length table
names_count s [] = refl
names_count s (p ∷ table) = ap suc (names_count s table)

module _ {s table : List ℕ} {i : ℕ} (r : Differ s table i) (l : i < length table) where
  count_behind : length (names_at s (drop (i + 1) table)) ≡ length table - (i + 1)
  count_behind = names_count s (drop (i + 1) table) ∙ length-drop (i + 1) table

  behind : take (length table - (i + 1)) (drop (i + 1) table) ≡ drop (i + 1) table
  behind = take_all (length table - (i + 1)) (drop (i + 1) table) (let h = length-drop (i + 1) table in omega (arith, h))

  module _ {k : ℕ} (d : k ≡ sought (name_at s (get_or table i 0)) (names_at s (take (length table - (i + 1)) (drop (i + 1) table)))) where
    e : k ≡ sought (name_at s (get_or table i 0)) (names_at s (drop (i + 1) table))
    e = d ∙ ap (λ u. sought (name_at s (get_or table i 0)) (names_at s u)) behind

    pub differ_not : k < length table - (i + 1) → false ≡ distinct (names_at s table)
    unfolding distinct
    differ_not h =
        let f : distinct (names_at s (drop i table)) ≡ false =
        rw (drop_next table i l, distinct, present (name_at s (get_or table i 0)) (names_at s (drop (i + 1) table)) (omega (arith, e, count_behind))) refl in
        sym f ∙ r.rest

    pub differ_on : length table - (i + 1) ≤ k → Differ s table (i + 1)
    unfolding distinct
    differ_on h =
        let f : distinct (names_at s (drop i table)) ≡ distinct (names_at s (drop (i + 1) table)) =
        rw (drop_next table i l, distinct, missing (name_at s (get_or table i 0)) (names_at s (drop (i + 1) table)) (omega (arith, e, count_behind))) refl in
        record { inner = omega arith; rest = sym f ∙ r.rest }

module _ {s table : List ℕ} {i : ℕ} (r : Differ s table i) where
  pub differ_end : length table ≤ i → true ≡ distinct (names_at s table)
  unfolding distinct
  differ_end l = sym (rw (drop_of_length-le table {i = i} l) refl) ∙ r.rest
