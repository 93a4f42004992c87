-- The places of declarations tell the tables of declarations (02 §1): places of each role, how many stand before each struct; and the loops over a text and
-- over these places.
use Rattle.std.specs.Prelude.{ℕ, zero, suc, ◌+◌, ◌≤◌, ◌<◌, ◌≡◌, Bool, length, get_or, drop, leb}
use Rattle.std.proofs.Common.{arith, add-one, ◌∙◌, drop_of_length-le, ne_eqb, eqb-true, le-leb, leb-true}
use Rattle.std.proofs.Math.Path.{refl, sym, ap}
use Rattle.std.proofs.Math.Bool.{true, false}
use Rattle.std.proofs.lemmas.Bool.{false≢true, eqb-false}
use mathlib.Core.List.{List, [], ◌∷◌, map}
use Rattle.std.proofs.lemmas.List.{length-map}
use Rattle.std.proofs.Math.Dec.{eqb}
use Rattle.types.proofs.Laws.ListLaws.{drop_next}
use Rattle.tokens.specs.Tokens.{between}
use Rattle.resolve.specs.Laws.StandingLaws.{both_parts}
use Rattle.resolve.specs.Tables.{places_from, places, with_place, with_one, offsets_from, offsets}
use Rattle.resolve.specs.Laws.TableLaws.{Gathers, gathers_on, Lays, lays_on}
use Rattle.resolve.specs.Laws.PlacesLaws.{next_of, first_of}
use Rattle.uses.specs.Among.{declares, declared_from, declared_at, AllDeclare, among, bytes_at}
use Rattle.text_shape.specs.RoleNames.{new_struct_role, new_par_role, new_step_role, first_type_role, last_par_type_role}

-- One byte -----------------------------------------------------------------------------------

within : (lo hi b : ℕ) → lo ≤ b → b ≤ hi → between lo hi b ≡ true
unfolding between
within lo hi b l h = rw (between, le-leb lo b l, le-leb b hi h) refl

record Bounds (lo hi b : ℕ) : Type 0 where
  low : lo ≤ b
  high : b ≤ hi

bounds : (lo hi b : ℕ) → between lo hi b ≡ true → Bounds lo hi b
unfolding between
bounds lo hi b e = let h = both_parts (leb lo b) (leb b hi) e in record { low = leb-true lo b h.0; high = leb-true b hi h.1 }

-- what declares
pub named_declares : (b : ℕ) → between new_struct_role new_step_role b ≡ true → true ≡ declares b
unfolding declares
named_declares b e = rw (declares, e) refl

pub typed_declares : (b : ℕ) → between new_struct_role new_step_role b ≡ false → between first_type_role last_par_type_role b ≡ declares b
unfolding declares
typed_declares b e = rw (declares, e) refl

pub one_declares : (q : ℕ) → new_struct_role ≤ q → q ≤ new_step_role → AllDeclare q q
one_declares q l h b e =
    let k = bounds q q b e in
    sym (named_declares b (within new_struct_role new_step_role b (let i = k.low in omega (arith, i, l)) (let i = k.high in omega (arith, i, h))))

pub types_declare : AllDeclare first_type_role last_par_type_role
types_declare b e = go (between new_struct_role new_step_role b) refl
  where
    go : (t : Bool) → between new_struct_role new_step_role b ≡ t → declares b ≡ true
    go true f = sym (named_declares b f)
    go false f = sym (typed_declares b f) ∙ e

module _ (lo hi i b : ℕ) (s : List ℕ) where
  placed_in : between lo hi b ≡ true → places_from lo hi i (b ∷ s) ≡ i ∷ places_from lo hi (suc i) s
  unfolding places_from
  placed_in e = rw (places_from, e) refl

  placed_out : between lo hi b ≡ false → places_from lo hi i (b ∷ s) ≡ places_from lo hi (suc i) s
  unfolding places_from
  placed_out e = rw (places_from, e) refl

module _ (i b : ℕ) (s : List ℕ) where
  declared_in : declares b ≡ true → declared_from i (b ∷ s) ≡ i ∷ declared_from (suc i) s
  unfolding declared_from
  declared_in e = rw (declared_from, e) refl

  declared_out : declares b ≡ false → declared_from i (b ∷ s) ≡ declared_from (suc i) s
  unfolding declared_from
  declared_out e = rw (declared_from, e) refl

module _ (lo hi : ℕ) (x : List ℕ) (p : ℕ) (at : List ℕ) where
  among_in : between lo hi (get_or x p 0) ≡ true → among lo hi x (p ∷ at) ≡ p ∷ among lo hi x at
  unfolding among
  among_in e = rw (among, e) refl

  among_out : between lo hi (get_or x p 0) ≡ false → among lo hi x (p ∷ at) ≡ among lo hi x at
  unfolding among
  among_out e = rw (among, e) refl

-- The places of some roles -----------------------------------------------------------------------

module _ (x : List ℕ) (lo hi : ℕ) (d : AllDeclare lo hi) where
  among_from : (i : ℕ) (s : List ℕ) → drop i x ≡ s → among lo hi x (declared_from i s) ≡ places_from lo hi i s
  unfolding among declared_from places_from
  among_from i [] e = refl
  among_from i (b ∷ s) e = go (declares b) refl (between lo hi b) refl (among_from (suc i) s (next_of x i b s e))
    where
      here : between lo hi (get_or x i 0) ≡ between lo hi b
      here = ap (between lo hi) (first_of x i b s e)

      go : (u : Bool) → declares b ≡ u → (v : Bool) → between lo hi b ≡ v
          → among lo hi x (declared_from (suc i) s) ≡ places_from lo hi (suc i) s → among lo hi x (declared_from i (b ∷ s)) ≡ places_from lo hi i (b ∷ s)
      go true f true g rec =
          ap (among lo hi x) (declared_in i b s f) ∙ among_in lo hi x i (declared_from (suc i) s) (here ∙ g) ∙ ap (λ l. i ∷ l) rec
          ∙ sym (placed_in lo hi i b s g)
      go true f false g rec =
          ap (among lo hi x) (declared_in i b s f) ∙ among_out lo hi x i (declared_from (suc i) s) (here ∙ g) ∙ rec ∙ sym (placed_out lo hi i b s g)
      go false f true g rec = absurd (false≢true (sym f ∙ d b g))
      go false f false g rec = ap (among lo hi x) (declared_out i b s f) ∙ rec ∙ sym (placed_out lo hi i b s g)

  pub among_declared : among lo hi x (declared_at x) ≡ places lo hi x
  among_declared = among_from 0 x refl

module _ (x : List ℕ) (q : ℕ) (low : new_struct_role ≤ q) (high : q ≤ new_step_role) where
  -- how many before each struct
  offsets_on : (n b : ℕ) (l m : List ℕ) → ((k : ℕ) → offsets_from q k l ≡ offsets_from q k m) → offsets_from q n (b ∷ l) ≡ offsets_from q n (b ∷ m)
  unfolding offsets_from
  offsets_on n b l m f = go (eqb b new_struct_role) refl
    where
      go : (t : Bool) → eqb b new_struct_role ≡ t → offsets_from q n (b ∷ l) ≡ offsets_from q n (b ∷ m)
      go true e = rw (offsets_from, e) (ap (λ r. n ∷ r) (f (with_one (eqb b q) n)))
      go false e = rw (offsets_from, e) (f (with_one (eqb b q) n))

  apart : (b : ℕ) → declares b ≡ false → (k : ℕ) → new_struct_role ≤ k → k ≤ new_step_role → eqb b k ≡ false
  apart b f k l h = ne_eqb b k (λ e. false≢true (sym f ∙ one_declares k l h b (within k k b (omega (arith, e)) (omega (arith, e)))))

  offsets_past : (n b : ℕ) (l : List ℕ) → declares b ≡ false → offsets_from q n (b ∷ l) ≡ offsets_from q n l
  unfolding offsets_from with_one
  offsets_past n b l f = rw (offsets_from, apart b f new_struct_role (omega arith) (omega arith), apart b f q low high) refl

  offsets_among : (i : ℕ) (s : List ℕ) → drop i x ≡ s → (n : ℕ) → offsets_from q n (bytes_at x (declared_from i s)) ≡ offsets_from q n s
  unfolding bytes_at declared_from
  offsets_among i [] e n = refl
  offsets_among i (b ∷ s) e n = go (declares b) refl (offsets_among (suc i) s (next_of x i b s e))
    where
      go : (u : Bool) → declares b ≡ u → ((k : ℕ) → offsets_from q k (bytes_at x (declared_from (suc i) s)) ≡ offsets_from q k s)
          → offsets_from q n (bytes_at x (declared_from i (b ∷ s))) ≡ offsets_from q n (b ∷ s)
      go true f rec =
          ap (λ l. offsets_from q n (bytes_at x l)) (declared_in i b s f)
          ∙ ap (λ c. offsets_from q n (c ∷ bytes_at x (declared_from (suc i) s))) (first_of x i b s e)
          ∙ offsets_on n b (bytes_at x (declared_from (suc i) s)) s rec
      go false f rec = ap (λ l. offsets_from q n (bytes_at x l)) (declared_out i b s f) ∙ rec n ∙ sym (offsets_past n b s f)

  pub offsets_declared : offsets q (bytes_at x (declared_at x)) ≡ offsets q x
  offsets_declared = offsets_among 0 x refl 0

-- Loops --------------------------------------------------------------------------------------------

-- over a text: what is declared from a place on
module _ (x : List ℕ) where
  abbrev pub declared_behind : ℕ → List ℕ
  declared_behind i = declared_from i (drop i x)

  pub all_left : {i : ℕ} → length x ≤ i → declared_behind i ≡ []
  unfolding declared_from
  all_left {i} l = rw (drop_of_length-le x {i = i} l) refl

  module _ {table₀ table : List ℕ} {n i : ℕ} (r : Gathers declared_behind table₀ table n i) (l : i < length x) where
    pub all_on : {t : Bool} {table' : List ℕ} {m : ℕ} → t ≡ declares (get_or x i 0) → m ≡ with_one t n → table' ≡ with_place t table n i
        → Gathers declared_behind table₀ table' m (i + 1)
    all_on e f g =
        gathers_on r
        (λ h. here ∙ declared_in i (get_or x i 0) (drop (i + 1) x) (sym e ∙ h) ∙ ap (λ k. i ∷ declared_from k (drop (i + 1) x)) (sym (add-one i)))
        (λ h. here ∙ declared_out i (get_or x i 0) (drop (i + 1) x) (sym e ∙ h) ∙ ap (λ k. declared_from k (drop (i + 1) x)) (sym (add-one i))) f g
      where
        here : declared_behind i ≡ declared_from i (get_or x i 0 ∷ drop (i + 1) x)
        here = ap (declared_from i) (drop_next x i l)

-- over places: those of some roles from one on
module _ (lo hi : ℕ) (x at : List ℕ) where
  abbrev pub among_behind : ℕ → List ℕ
  among_behind i = among lo hi x (drop i at)

  pub picks_left : {i : ℕ} → length at ≤ i → among_behind i ≡ []
  unfolding among
  picks_left {i} l = rw (drop_of_length-le at {i = i} l) refl

  module _ {table₀ table : List ℕ} {n i : ℕ} (r : Gathers among_behind table₀ table n i) (l : i < length at) where
    pub picks_on : {t : Bool} {table' : List ℕ} {m : ℕ} → t ≡ between lo hi (get_or x (get_or at i 0) 0) → m ≡ with_one t n
        → table' ≡ with_place t table n (get_or at i 0) → Gathers among_behind table₀ table' m (i + 1)
    picks_on e f g =
        gathers_on r (λ h. here ∙ among_in lo hi x (get_or at i 0) (drop (i + 1) at) (sym e ∙ h))
        (λ h. here ∙ among_out lo hi x (get_or at i 0) (drop (i + 1) at) (sym e ∙ h)) f g
      where
        here : among_behind i ≡ among lo hi x (get_or at i 0 ∷ drop (i + 1) at)
        here = ap (among lo hi x) (drop_next at i l)

-- rows over the bytes at places
mapped : (f : ℕ → ℕ) (l : List ℕ) (i : ℕ) → i < length l → get_or (map f l) i 0 ≡ f (get_or l i 0)
mapped f [] i h = absurd (omega arith)
mapped f (a ∷ l) zero h = refl
mapped f (a ∷ l) (suc i) h = mapped f l i (omega arith)

pub bytes_long : (x at : List ℕ) → length (bytes_at x at) ≡ length at
unfolding bytes_at
bytes_long x at = length-map at (λ p. get_or x p 0)

pub lays_byte : (x at : List ℕ) {table₀ table table' : List ℕ} {q n k i m j b : ℕ} → Lays (bytes_at x at) table₀ table q n k i → i < length at
    → b ≡ get_or x (get_or at i 0) 0 → j ≡ with_one (eqb b new_struct_role) k → table' ≡ with_place (eqb b new_struct_role) table k n → m ≡ with_one (eqb b q) n
    → Lays (bytes_at x at) table₀ table' q m j (i + 1)
unfolding bytes_at
lays_byte x at {i = i} {b = b} r l e f g h =
    let c : b ≡ get_or (bytes_at x at) i 0 = e ∙ sym (mapped (λ p. get_or x p 0) at i l) in
    lays_on r (let k = bytes_long x at in omega (arith, k, l)) (rw c at f) (rw c at g) (rw c at h)

-- How many there are -------------------------------------------------------------------------------

module _ (i b : ℕ) (s : List ℕ) where
  grown : (lo hi : ℕ) → length (places_from lo hi (suc i) s) ≤ length (places_from lo hi i (b ∷ s))
  grown lo hi = go (between lo hi b) refl
    where
      go : (t : Bool) → between lo hi b ≡ t → length (places_from lo hi (suc i) s) ≤ length (places_from lo hi i (b ∷ s))
      go true e = let h = ap length (placed_in lo hi i b s e) in omega (arith, h)
      go false e = let h = ap length (placed_out lo hi i b s e) in omega (arith, h)

  one_more : (lo hi : ℕ) → between lo hi b ≡ true → length (places_from lo hi i (b ∷ s)) ≡ suc (length (places_from lo hi (suc i) s))
  one_more lo hi e = ap length (placed_in lo hi i b s e)

-- of each kind
abbrev kinds : ℕ → List ℕ → ℕ
kinds i s = length (places_from new_struct_role new_struct_role i s) + length (places_from new_par_role new_par_role i s)
    + length (places_from new_step_role new_step_role i s) + length (places_from first_type_role last_par_type_role i s)

module _ (i b : ℕ) (s : List ℕ) where
  kinds_grown : kinds (suc i) s ≤ kinds i (b ∷ s)
  kinds_grown = omega (
    arith,
    grown i b s new_struct_role new_struct_role,
    grown i b s new_par_role new_par_role,
    grown i b s new_step_role new_step_role,
    grown i b s first_type_role last_par_type_role,
  )

  kinds_more : declares b ≡ true → suc (kinds (suc i) s) ≤ kinds i (b ∷ s)
  kinds_more e = go (eqb b new_struct_role) refl (eqb b new_par_role) refl (between new_struct_role new_step_role b) refl
    where
      go : (t : Bool) → eqb b new_struct_role ≡ t → (u : Bool) → eqb b new_par_role ≡ u → (v : Bool) → between new_struct_role new_step_role b ≡ v
          → suc (kinds (suc i) s) ≤ kinds i (b ∷ s)
      go true f u g v h =
          let w = eqb-true b new_struct_role f in
          let m = one_more i b s new_struct_role new_struct_role (within new_struct_role new_struct_role b (omega (arith, w)) (omega (arith, w))) in
          omega (arith, m, grown i b s new_par_role new_par_role, grown i b s new_step_role new_step_role, grown i b s first_type_role last_par_type_role)
      go false f true g v h =
          let w = eqb-true b new_par_role g in
          let m = one_more i b s new_par_role new_par_role (within new_par_role new_par_role b (omega (arith, w)) (omega (arith, w))) in
          omega (arith, m, grown i b s new_struct_role new_struct_role, grown i b s new_step_role new_step_role, grown i b s first_type_role last_par_type_role)
      go false f false g true h =
          let w = bounds new_struct_role new_step_role b h in
          let m = one_more i b s new_step_role new_step_role
          (within new_step_role new_step_role b (omega (arith, eqb-false b new_struct_role f, eqb-false b new_par_role g, w.low)) w.high) in
          omega (arith, m, grown i b s new_struct_role new_struct_role, grown i b s new_par_role new_par_role, grown i b s first_type_role last_par_type_role)
      go false f false g false h =
          let m = one_more i b s first_type_role last_par_type_role (typed_declares b h ∙ e) in
          omega (arith, m, grown i b s new_struct_role new_struct_role, grown i b s new_par_role new_par_role, grown i b s new_step_role new_step_role)

few_kinds : (i : ℕ) (s : List ℕ) → length (declared_from i s) ≤ kinds i s
unfolding declared_from places_from
few_kinds i [] = omega arith
few_kinds i (b ∷ s) = go (declares b) refl (few_kinds (suc i) s)
  where
    go : (t : Bool) → declares b ≡ t → length (declared_from (suc i) s) ≤ kinds (suc i) s → length (declared_from i (b ∷ s)) ≤ kinds i (b ∷ s)
    go true e rec = let h = ap length (declared_in i b s e) in omega (arith, h, rec, kinds_more i b s e)
    go false e rec = let h = ap length (declared_out i b s e) in omega (arith, h, rec, kinds_grown i b s)

pub declared_count : (x : List ℕ)
    → length (declared_at x) ≤ length (places new_struct_role new_struct_role x) + length (places new_par_role new_par_role x)
    + length (places new_step_role new_step_role x) + length (places first_type_role last_par_type_role x)
declared_count x = few_kinds 0 x
