-- The loop that gathers the names of steps, each where it is first declared.
use Prim.Native.Nat.{ℕ, suc, ◌+◌, ◌≤◌, ◌<◌, min}
use Rattle.std.proofs.Common.{arith, add-one, sym, ◌∙◌, length-take, drop_of_length-le, take-suc-set}
use Rattle.std.specs.Prelude.{◌≡◌, Bool, not, get_or, take, drop, leb}
use Rattle.std.proofs.Math.Path.{refl, ap}
use Rattle.std.proofs.Math.Bool.{true, false}
use mathlib.Core.List.{List, [], ◌∷◌, ◌++◌}
use Rattle.std.proofs.Math.ListN.{length, set, length-set}
use Rattle.std.proofs.Math.Seq.{sets, set_out}
use Rattle.std.proofs.Math.Dec.{ltb}
use borrow.Author.Tests.{not-true, not-false, ltb-true, ltb-false, le-leb, lt-leb}
use Rattle.types.proofs.Laws.ListLaws.{drop_next}
use Rattle.resolve.specs.Named.{name_at, names_at, sought}
use Rattle.resolve.specs.Tables.{with_one, with_place}
use Rattle.resolve.specs.Checks.{firsts}

-- a place that is not below another
pub not_below : (n r k : ℕ) → r ≡ k → leb n r ≡ not (ltb k n)
not_below n r k e = go (ltb k n) refl
  where
    go : (t : Bool) → ltb k n ≡ t → leb n r ≡ not (ltb k n)
    go true f = let h = ltb-true k n f in rw (f, lt-leb n r (omega (arith, h, e))) refl
    go false f = let h = ltb-false k n f in rw (f, le-leb n r (omega (arith, h, e))) refl

pub take_long : (table : List ℕ) (n : ℕ) → n ≤ length table → n ≡ length (take n table)
take_long table n l = let h = length-take n table in omega (arith, h, l)

-- n names were gathered from the places before i: what is left completes the table
pub record Firsting (text places table₀ table : List ℕ) (n i : ℕ) : Type 0 where
  pub inner : i ≤ length places
  pub few : n ≤ i
  pub fits : n ≤ length table
  pub kept : length table ≡ length table₀
  pub count : n + length (firsts text (take n table) (drop i places)) ≡ length (firsts text [] places)
  pub stored : sets table n (firsts text (take n table) (drop i places)) ≡ sets table₀ 0 (firsts text [] places)

sets_beyond : (table l : List ℕ) (n : ℕ) → length table ≤ n → sets table n l ≡ table
sets_beyond table [] n h = refl
sets_beyond table (a ∷ l) n h = rw (set_out table n a h) (sets_beyond table l (suc n) (omega arith))

module _ (text places table₀ : List ℕ) where
  pub firsting_start : Firsting text places table₀ table₀ 0 0
  firsting_start = record { inner = omega arith; few = omega arith; fits = omega arith; kept = refl; count = omega arith; stored = refl }

  module _ (table : List ℕ) (n i : ℕ) (r : Firsting text places table₀ table n i) where
    abbrev all : List ℕ
    all = firsts text [] places

    module _ (inside : i < length places) {b : Bool}
        (e : b ≡ not (ltb (sought (name_at text (get_or places i 0)) (names_at text (take n table))) n)) where
      long : length (take n table) ≡ n
      long = length-take n table ∙ (let h = r.fits in omega (arith, h))

      old_here : b ≡ false → firsts text (take n table) (drop i places) ≡ firsts text (take n table) (drop (i + 1) places)
      unfolding firsts
      old_here f =
          let g : ltb (sought (name_at text (get_or places i 0)) (names_at text (take n table))) (length (take n table)) ≡ true =
          ap (ltb (sought (name_at text (get_or places i 0)) (names_at text (take n table)))) long ∙ not-false _ (sym e ∙ f) in
          rw (drop_next places i inside, firsts, g) refl

      new_here : b ≡ true
          → firsts text (take n table) (drop i places) ≡ get_or places i 0 ∷ firsts text (take n table ++ (get_or places i 0 ∷ [])) (drop (i + 1) places)
      unfolding firsts
      new_here f =
          let g : ltb (sought (name_at text (get_or places i 0)) (names_at text (take n table))) (length (take n table)) ≡ false =
          ap (ltb (sought (name_at text (get_or places i 0)) (names_at text (take n table)))) long ∙ not-true _ (sym e ∙ f) in
          rw (drop_next places i inside, firsts, g) refl

      pub firsting_old : b ≡ false → Firsting text places table₀ table n (i + 1)
      firsting_old f =
          record {
            inner = omega arith;
            few = let h = r.few in omega (arith, h);
            fits = r.fits;
            kept = r.kept;
            count = omega (arith, ap length (old_here f), r.count);
            stored = ap (sets table n) (sym (old_here f)) ∙ r.stored;
          }

      pub firsting_new : {table' : List ℕ} → b ≡ true → n < length table → table' ≡ set table n (get_or places i 0)
          → Firsting text places table₀ table' (n + 1) (i + 1)
      firsting_new {table'} f l g =
          let h : take (n + 1) table' ≡ take n table ++ (get_or places i 0 ∷ []) =
          ap (λ k. take k table') (add-one n) ∙ ap (take (suc n)) g ∙ take-suc-set table n (get_or places i 0) l in
          let k : firsts text (take (n + 1) table') (drop (i + 1) places) ≡ firsts text (take n table ++ (get_or places i 0 ∷ [])) (drop (i + 1) places) =
          ap (λ m. firsts text m (drop (i + 1) places)) h in
          let long' : length table' ≡ length table = ap length g ∙ length-set table n (get_or places i 0) in
          record {
            inner = omega arith;
            few = let h = r.few in omega (arith, h);
            fits = omega (arith, long');
            kept = long' ∙ r.kept;
            count = omega (arith, ap length k, ap length (new_here f), r.count);
            stored =
                ap (sets table' (n + 1)) k
                ∙ ap (λ m. sets table' m (firsts text (take n table ++ (get_or places i 0 ∷ [])) (drop (i + 1) places))) (add-one n)
                ∙ ap (λ v. sets v (suc n) (firsts text (take n table ++ (get_or places i 0 ∷ [])) (drop (i + 1) places))) g
                ∙ ap (sets table n) (sym (new_here f)) ∙ r.stored;
          }

      -- one more than the table has
      pub firsting_full : b ≡ true → length table ≤ n → (n + 1 ≡ min (length all) (1 + length table₀)) × (table ≡ sets table₀ 0 all)
      firsting_full f l = (
        (let h = r.fits in omega (arith, h, r.kept, ap length (new_here f), r.count)),
        sym (sets_beyond table (firsts text (take n table) (drop i places)) n l) ∙ r.stored,
      )

      -- with the name added, if it is one
      pub firsting_on : {table' : List ℕ} {m : ℕ} → m ≡ with_one b n → table' ≡ with_place b table n (get_or places i 0) → m ≤ length table'
          → Firsting text places table₀ table' m (i + 1)
      unfolding with_one with_place
      firsting_on {table'} {m} f g l = go b refl
        where
          go : (t : Bool) → b ≡ t → Firsting text places table₀ table' m (i + 1)
          go true h =
              let u : m ≡ n + 1 = rw (h, with_one) at f in
              let v : table' ≡ set table n (get_or places i 0) = rw (h, with_place) at g in
              let w = length-set table n (get_or places i 0) in
              rw u (firsting_new h (omega (arith, u, l, ap length v, w)) v)
          go false h =
              let u : m ≡ n = rw (h, with_one) at f in
              let v : table' ≡ table = rw (h, with_place) at g in
              rw (u, v) (firsting_old h)

      pub firsting_kept : {table' : List ℕ} → table' ≡ with_place b table n (get_or places i 0) → length table' ≡ length table₀
      unfolding with_place
      firsting_kept {table'} g = go b refl
        where
          go : (t : Bool) → b ≡ t → length table' ≡ length table₀
          go true h =
              let v : table' ≡ set table n (get_or places i 0) = rw (h, with_place) at g in
              ap length v ∙ length-set table n (get_or places i 0) ∙ r.kept
          go false h = let v : table' ≡ table = rw (h, with_place) at g in ap length v ∙ r.kept

      pub firsting_over : {table' : List ℕ} {m : ℕ} → m ≡ with_one b n → table' ≡ with_place b table n (get_or places i 0) → length table' < m
          → (m ≡ min (length all) (1 + length table₀)) × (table' ≡ sets table₀ 0 all)
      unfolding with_one with_place
      firsting_over {table'} {m} f g l = go b refl
        where
          go : (t : Bool) → b ≡ t → (m ≡ min (length all) (1 + length table₀)) × (table' ≡ sets table₀ 0 all)
          go true h =
              let u : m ≡ n + 1 = rw (h, with_one) at f in
              let v : table' ≡ set table n (get_or places i 0) = rw (h, with_place) at g in
              let w = length-set table n (get_or places i 0) in
              let full : length table ≤ n = omega (arith, u, l, ap length v, w) in
              let (a, z) = firsting_full h full in
              (u ∙ a, v ∙ set_out table n (get_or places i 0) full ∙ z)
          go false h =
              let u : m ≡ n = rw (h, with_one) at f in
              let v : table' ≡ table = rw (h, with_place) at g in
              absurd (let k = r.fits in omega (arith, u, l, ap length v, k))

    pub firsting_end : length places ≤ i → (n ≡ min (length all) (1 + length table₀)) × (table ≡ sets table₀ 0 all)
    unfolding firsts
    firsting_end l =
        let f : firsts text (take n table) (drop i places) ≡ [] = rw (drop_of_length-le places {i = i} l) refl in
        ((let h = r.fits in omega (arith, h, r.kept, ap length f, r.count)), ap (sets table n) (sym f) ∙ r.stored)
