-- Offsets of rows: one for each struct and one behind, the last is how many there are; where every row is short, few.
use Rattle.std.specs.Prelude.{ℕ, zero, suc, ◌+◌, ◌*◌, ◌≤◌, ◌<◌, ◌≡◌, refl, Bool, true, false, ◌&&◌, List, [], ◌∷◌, length, get_or, eqb, leb}
use Rattle.std.proofs.Common.{arith, ap, ◌∙◌, eqb-true, le-leb, leb-true}
use Rattle.std.proofs.lemmas.Bool.{eqb-false, lt-leb}
use Rattle.tokens.specs.Tokens.{between}
use Rattle.resolve.specs.Laws.StandingLaws.{both_parts}
use Rattle.resolve.specs.Tables.{places_from, places, with_one, offsets_from, offsets}
use Rattle.resolve.specs.Checks.{between_all}
use Rattle.text_shape.specs.RoleNames.{new_struct_role}
use Rattle.types.specs.Limits.{max_structs, max_params}
use Rattle.uses.specs.Layout.{rows_room}

one_byte : (q b : ℕ) → between q q b ≡ eqb b q
unfolding between
one_byte q b = go (eqb b q) refl (leb q b) refl
  where
    apart : q ≤ b → (b ≡ q → ⊥) → q < b
    apart l n = omega (arith, n)

    go : (t : Bool) → eqb b q ≡ t → (u : Bool) → leb q b ≡ u → (leb q b && leb b q) ≡ eqb b q
    go true e u f = let h = eqb-true b q e in rw (e, le-leb q b (omega (arith, h)), le-leb b q (omega (arith, h))) refl
    go false e true f = let h = leb-true q b f in rw (e, f, lt-leb b q (apart h (eqb-false b q e))) refl
    go false e false f = rw (e, f) refl

-- one more place
places_more : (q i b : ℕ) (s : List ℕ) (n : ℕ) → with_one (eqb b q) n + length (places_from q q (suc i) s) ≡ n + length (places_from q q i (b ∷ s))
unfolding places_from with_one
places_more q i b s n = go (eqb b q) refl
  where
    go : (t : Bool) → eqb b q ≡ t → with_one (eqb b q) n + length (places_from q q (suc i) s) ≡ n + length (places_from q q i (b ∷ s))
    go true e = rw (places_from, one_byte q b, e, with_one) (omega arith)
    go false e = rw (places_from, one_byte q b, e, with_one) refl

offsets_long_from : (q n i : ℕ) (s : List ℕ) → length (offsets_from q n s) ≡ suc (length (places_from new_struct_role new_struct_role i s))
unfolding places_from offsets_from
offsets_long_from q n i [] = refl
offsets_long_from q n i (b ∷ s) = go (eqb b new_struct_role) refl (offsets_long_from q (with_one (eqb b q) n) (suc i) s)
  where
    go : (t : Bool) → eqb b new_struct_role ≡ t
        → length (offsets_from q (with_one (eqb b q) n) s) ≡ suc (length (places_from new_struct_role new_struct_role (suc i) s))
        → length (offsets_from q n (b ∷ s)) ≡ suc (length (places_from new_struct_role new_struct_role i (b ∷ s)))
    go true e rec = rw (offsets_from, places_from, one_byte new_struct_role b, e) (ap suc rec)
    go false e rec = rw (offsets_from, places_from, one_byte new_struct_role b, e) rec

offsets_last_from : (q n i : ℕ) (s : List ℕ)
    → get_or (offsets_from q n s) (length (places_from new_struct_role new_struct_role i s)) 0 ≡ n + length (places_from q q i s)
unfolding places_from offsets_from
offsets_last_from q n i [] = omega arith
offsets_last_from q n i (b ∷ s) = go (eqb b new_struct_role) refl _ (offsets_last_from q (with_one (eqb b q) n) (suc i) s ∙ places_more q i b s n)
  where
    go : (t : Bool) → eqb b new_struct_role ≡ t → (m : ℕ)
        → get_or (offsets_from q (with_one (eqb b q) n) s) (length (places_from new_struct_role new_struct_role (suc i) s)) 0 ≡ m
        → get_or (offsets_from q n (b ∷ s)) (length (places_from new_struct_role new_struct_role i (b ∷ s))) 0 ≡ m
    go true e m rec = rw (offsets_from, places_from, one_byte new_struct_role b, e) rec
    go false e m rec = rw (offsets_from, places_from, one_byte new_struct_role b, e) rec

module _ (q : ℕ) (roles : List ℕ) where
  pub offsets_long : length (offsets q roles) ≡ suc (length (places new_struct_role new_struct_role roles))
  offsets_long = offsets_long_from q 0 0 roles

  pub offsets_last : get_or (offsets q roles) (length (places new_struct_role new_struct_role roles)) 0 ≡ length (places q q roles)
  offsets_last = let h = offsets_last_from q 0 0 roles in omega (arith, h)

-- Pairs ------------------------------------------------------------------------------------------

pub pair_held : (t : ℕ → ℕ → Bool) (l : List ℕ) → between_all t l ≡ true → (k : ℕ) → suc k < length l → t (get_or l k 0) (get_or l (suc k) 0) ≡ true
unfolding between_all
pair_held t [] e k h = absurd (omega arith)
pair_held t (a ∷ []) e k h = absurd (omega arith)
pair_held t (a ∷ b ∷ l) e zero h = (both_parts (t a b) (between_all t (b ∷ l)) e).0
pair_held t (a ∷ b ∷ l) e (suc k) h = pair_held t (b ∷ l) (both_parts (t a b) (between_all t (b ∷ l)) e).1 k (omega (arith, h))

module _ (t : ℕ → ℕ → Bool) (short : (a b : ℕ) → t a b ≡ true → b ≤ a + max_params) where
  climbs : (l : List ℕ) → between_all t l ≡ true → (k : ℕ) → k < length l → get_or l k 0 ≤ get_or l 0 0 + max_params * k
  climbs l e zero h = omega arith
  climbs l e (suc k) h =
      let i = climbs l e k (omega (arith, h)) in
      let j = short (get_or l k 0) (get_or l (suc k) 0) (pair_held t l e k h) in
      omega (arith, i, j)

  -- short rows of few structs are few
  pub few_in_rows : (q : ℕ) (roles : List ℕ) → between_all t (offsets q roles) ≡ true → get_or (offsets q roles) 0 0 ≡ 0
      → length (places new_struct_role new_struct_role roles) ≤ max_structs → length (places q q roles) ≤ rows_room
  few_in_rows q roles e f h =
      let g = offsets_long q roles in
      let i = climbs (offsets q roles) e (length (places new_struct_role new_struct_role roles)) (omega (arith, g)) in
      let j = offsets_last q roles in
      omega (arith, i, j, f, h)
