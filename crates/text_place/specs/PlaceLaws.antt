-- The loops that look for the place at which reading stops, place by place; each way to it; and that behind a token with which no derivation goes on none does.
use Prim.Native.Nat.{ℕ, suc, ◌+◌, ◌≤◌, ◌<◌}
use Rattle.std.proofs.Common.{arith, add-one, ◌∙◌, length-drop, length-append, drop-cons, drop-drop, ne_eqb, lt-ltb, le-ltb}
use Rattle.std.specs.Prelude.{◌≡◌, Bool, not, get_or, replicate, eqb, Some, None}
use Rattle.std.proofs.Math.Path.{refl, sym, ap}
use Rattle.std.proofs.Math.Bool.{true, false}
use Rattle.std.proofs.lemmas.Bool.{false≢true, not-true, not-false}
use mathlib.Core.List.{List, [], ◌∷◌, ◌++◌}
use Rattle.std.proofs.Math.Option.{Option, none, some}
use Rattle.std.proofs.Math.ListN.{length, drop, drop_of_length-le}
use Rattle.std.proofs.lemmas.List.{length-replicate}
use Rattle.std.proofs.lemmas.List.Edits.{sets}
use Rattle.types.proofs.Laws.ListLaws.{sets_whole}
use Rattle.source.specs.Source.{max_text}
use Rattle.tokens.specs.Tokens.{Token}
use Rattle.tokens.specs.Scanning.{front, lex}
use Rattle.tokens.specs.Marking.{spot_of, at_spot, marks_of, marks_from, marks, found, parts, kinds_in}
use Rattle.tokens.proofs.Laws.MarkingLaws.{marks_tell, spot_inside, marks_taken, marks_stray}
use Rattle.tokens.specs.Spot.{Spot}
use Rattle.text_shape.specs.Shape.{Shape, Shape.shape, sample, move, derived}
use Rattle.text_shape.specs.RoleMarks.{role_codes, placed}
use Rattle.derive.specs.Held.{held, Kept}
use Rattle.derive.specs.HeldLaws.{kept_shape}
use Rattle.uses.specs.Declaring.{Fronted}
use Rattle.uses.specs.Laws.DeclaringLaws.{roles_fronted}
use Rattle.uses.specs.Stopping.{stops}
use Rattle.read_text.specs.PassLaws.{roled_there}
use Rattle.text_place.specs.Place.{dead, stuck_from, roles_in, of_derived, of_parts, of_length, place}
use Rattle.text_shape.specs.CodeNames.{first_defs_code}

-- Where no token begins ------------------------------------------------------------------------------

-- i places were marked
pub record MarkedTo (x : List ℕ) (i : ℕ) : Type 0 where
  pub inner : i ≤ length x
  pub whole : i + length (marks (drop i x)) ≡ length (marks x)

pub marked_start : (x : List ℕ) → MarkedTo x 0
marked_start x = record { inner = omega arith; whole = omega arith }

module _ {x : List ℕ} {i : ℕ} (r : MarkedTo x i) where
  pub marked_end : length x ≤ i → i ≡ length (marks x)
  unfolding marks_from
  marked_end h = let e = drop_of_length-le x {i = i} h in let w : i + length (marks []) ≡ length (marks x) = rw e at r.whole in omega (arith, w)

  pub marked_stray : None ≡ spot_of (front (drop i x)) → i ≡ length (marks x)
  marked_stray e = let w : i + 0 ≡ length (marks x) = rw (marks_stray (drop i x) e) at r.whole in omega (arith, w)

  module _ {k n : ℕ} (e : Some (k, n) ≡ spot_of (front (drop i x))) where
    pub marked_inside : i + (n + 1) ≤ length x
    marked_inside = let h = spot_inside (drop i x) e in omega (arith, length-drop i x)

    pub marked_next : MarkedTo x (i + (n + 1))
    marked_next =
        let rest = marks (drop (i + (n + 1)) x) in
        let w : i + suc (length (replicate n 0 ++ rest)) ≡ length (marks x) = rw (marks_taken (drop i x) e, drop-drop (n + 1) i x) at r.whole in
        record { inner = marked_inside; whole = omega (arith, w, length-append (replicate n 0) rest, length-replicate {A = ℕ} n 0) }

-- no more places are marked than there are
marks_within : (k : ℕ) (s : List ℕ) → length (marks_from k s) ≤ length s
unfolding marks_from marks_of
marks_within k [] = omega arith
marks_within k (b ∷ s) = go (at_spot k (b ∷ s)) (λ n. marks_within n s)
  where
    go : (p : Spot) → ((n : ℕ) → length (marks_from n s) ≤ length s) → length (marks_of p (λ n. marks_from n s)) ≤ suc (length s)
    go (Some (q, n)) rec = let h = rec n in omega arith
    go None rec = omega arith

-- Where no derivation goes on --------------------------------------------------------------------------

-- one place
pub stuck_past : (s : Shape) (k : ℕ) (ks : List ℕ) → k ≡ 0 → stuck_from s (k ∷ ks) ≡ suc (stuck_from s ks)
unfolding stuck_from
stuck_past s k ks e = rw e refl

pub stuck_here : (s : Shape) (k : ℕ) (ks : List ℕ) → (k ≡ 0 → ⊥) → dead (move s (sample k)) ≡ true → stuck_from s (k ∷ ks) ≡ 0
unfolding stuck_from
stuck_here s k ks n e = rw (ne_eqb k 0 n, stuck_from, e) refl

pub stuck_on : (s : Shape) (k : ℕ) (ks : List ℕ) → (k ≡ 0 → ⊥) → dead (move s (sample k)) ≡ false
    → stuck_from s (k ∷ ks) ≡ suc (stuck_from (move s (sample k)) ks)
unfolding stuck_from
stuck_on s k ks n e = rw (ne_eqb k 0 n, stuck_from, e) refl

stuck_within : (s : Shape) (ks : List ℕ) → stuck_from s ks ≤ length ks
unfolding stuck_from
stuck_within s [] = omega arith
stuck_within s (k ∷ ks) = go (eqb k 0) (dead (move s (sample k))) (stuck_within s ks) (stuck_within (move s (sample k)) ks)
  where
    go : (b c : Bool) → stuck_from s ks ≤ length ks → stuck_from (move s (sample k)) ks ≤ length ks
        → elim b [ true ↦ suc (stuck_from s ks) | false ↦ elim c [ true ↦ 0 | false ↦ suc (stuck_from (move s (sample k)) ks) ] ] ≤ suc (length ks)
    go true c g h = omega arith
    go false true g h = omega arith
    go false false g h = omega arith

-- i places were passed, with a state and a stack
pub record Goes (ks stack₀ stack : List ℕ) (q h i : ℕ) : Type 0 where
  pub inner : i ≤ length ks
  pub low : h ≤ i
  pub fits : length ks ≤ length stack
  pub room : length stack ≡ length stack₀
  pub whole : i + stuck_from (shape q (held stack h)) (drop i ks) ≡ stuck_from (shape first_defs_code []) ks

pub goes_start : (ks stack : List ℕ) → length ks ≤ length stack → Goes ks stack stack 1 0 0
unfolding held
goes_start ks stack l = record { inner = omega arith; low = omega arith; fits = l; room = refl; whole = omega arith }

module _ {ks stack₀ stack : List ℕ} {q h i : ℕ} (r : Goes ks stack₀ stack q h i) where
  pub goes_end : length ks ≤ i → i ≡ stuck_from (shape first_defs_code []) ks
  unfolding stuck_from
  goes_end l =
      let e = drop_of_length-le ks {i = i} l in
      let w : i + stuck_from (shape q (held stack h)) [] ≡ stuck_from (shape first_defs_code []) ks = rw e at r.whole in omega (arith, w)

  module _ (l : i < length ks) where
    at_here : i + stuck_from (shape q (held stack h)) (get_or ks i 0 ∷ drop (i + 1) ks) ≡ stuck_from (shape first_defs_code []) ks
    at_here = let e : drop i ks ≡ get_or ks i 0 ∷ drop (i + 1) ks = rw (add-one i) (drop-cons ks i 0 l) in rw e at r.whole

    pub goes_past : get_or ks i 0 ≡ 0 → Goes ks stack₀ stack q h (i + 1)
    goes_past e =
        let w = stuck_past (shape q (held stack h)) (get_or ks i 0) (drop (i + 1) ks) e in
        record { inner = omega arith; low = omega (arith, r.low); fits = r.fits; room = r.room; whole = omega (arith, w, at_here) }

    -- a token, with the state and the stack behind it
    module _ {stack₁ : List ℕ} {q₁ h₁ : ℕ} (n : get_or ks i 0 ≡ 0 → ⊥)
        (k : Kept q₁ h₁ stack₁ (move (shape q (held stack h)) (sample (get_or ks i 0)))) where
      behind : move (shape q (held stack h)) (sample (get_or ks i 0)) ≡ shape q₁ (held stack₁ h₁)
      behind = kept_shape k

      pub goes_dead : q₁ ≡ 0 → i ≡ stuck_from (shape first_defs_code []) ks
      unfolding dead
      goes_dead e =
          let d : dead (move (shape q (held stack h)) (sample (get_or ks i 0))) ≡ true = rw (behind, e) refl in
          let w = stuck_here (shape q (held stack h)) (get_or ks i 0) (drop (i + 1) ks) n d in omega (arith, w, at_here)

      pub goes_on : (q₁ ≡ 0 → ⊥) → h₁ ≤ h + 1 → length stack₁ ≡ length stack → Goes ks stack₀ stack₁ q₁ h₁ (i + 1)
      unfolding dead
      goes_on e b c =
          let d : dead (move (shape q (held stack h)) (sample (get_or ks i 0))) ≡ false = rw (behind, dead) (ne_eqb q₁ 0 e) in
          let w : stuck_from (shape q (held stack h)) (get_or ks i 0 ∷ drop (i + 1) ks) ≡ suc (stuck_from (shape q₁ (held stack₁ h₁)) (drop (i + 1) ks)) =
          stuck_on (shape q (held stack h)) (get_or ks i 0) (drop (i + 1) ks) n d ∙ ap (λ s. suc (stuck_from s (drop (i + 1) ks))) behind in
          record {
            inner = omega arith;
            low = omega (arith, r.low);
            fits = omega (arith, r.fits);
            room = c ∙ r.room;
            whole = omega (arith, w, at_here);
          }

-- a text that parts into tokens is marked whole
marks_long : (x : List ℕ) → true ≡ parts x → length (marks x) ≡ length x
unfolding found
marks_long x e = go (lex 0 x) refl e
  where
    go : (o : Option (List Token)) → lex 0 x ≡ o → true ≡ found o → length (marks x) ≡ length x
    go none f e = absurd (false≢true (sym e))
    go (some ts) f e = (marks_tell x ts f).1

-- Each way to the place ----------------------------------------------------------------------------------

pub long_place : (x : List ℕ) → max_text < length x → (max_text ≡ place x) × (max_text ≤ length x)
unfolding place of_length
long_place x h = (rw (lt-ltb max_text (length x) h, of_length) refl, omega arith)

module _ (x ks₀ ks : List ℕ) (short : length x ≤ max_text) (long : length ks₀ ≡ length x) (p : Bool) (e : p ≡ parts x) (f : ks ≡ sets ks₀ 0 (marks x)) where
  by_parts : place x ≡ of_parts p x
  unfolding place of_length
  by_parts = rw (le-ltb max_text (length x) short, of_length, e) refl

  pub stray_place : not p ≡ true → (r : ℕ) → r ≡ length (marks x) → (r ≡ place x) × (r ≤ length x)
  unfolding of_parts
  stray_place h r g =
      let w : place x ≡ length (marks x) = by_parts ∙ rw (not-true p h) refl in
      (g ∙ sym w, let b = marks_within 0 x in omega arith)

  -- a text that parts into tokens, its kinds, and then its roles, in lent memory
  module _ (parted : not p ≡ false) (cs : List ℕ) (q : Bool) (d : q ≡ derived (kinds_in ks))
      (k : cs ≡ placed ks (role_codes (shape first_defs_code []) (kinds_in ks))) where
    marks_all : length (marks x) ≡ length x
    marks_all = marks_long x (sym (not-false p parted) ∙ e)

    marks_are : ks ≡ marks x
    marks_are = f ∙ sets_whole ks₀ (marks x) (marks_all ∙ sym long)

    by_derived : place x ≡ of_derived q x
    unfolding of_parts
    by_derived = by_parts ∙ rw (not-false p parted, d, marks_are) refl

    pub stuck_place : not q ≡ true → (r : ℕ) → r ≡ stuck_from (shape first_defs_code []) ks → (r ≡ place x) × (r ≤ length x)
    unfolding of_derived
    stuck_place h r g =
        let w : place x ≡ stuck_from (shape first_defs_code []) (marks x) = by_derived ∙ rw (not-true q h) refl in
        let b = stuck_within (shape first_defs_code []) (marks x) in
        let v : r ≡ stuck_from (shape first_defs_code []) (marks x) = g ∙ ap (stuck_from (shape first_defs_code [])) marks_are in
        (v ∙ sym w, omega (arith, v, b, marks_all))

    module _ (h : not q ≡ false) where
      pub fronted_there : Fronted cs
      fronted_there = let r = roled_there x ks₀ ks long p e f [] parted cs q d k h in roles_fronted r.derivation r.stands

      pub names_place : length cs ≡ length x → (r : ℕ) → (r ≡ stops x cs) × (r ≤ length cs) → (r ≡ place x) × (r ≤ length x)
      unfolding of_derived roles_in
      names_place same r (g, b) =
          let w : place x ≡ stops x (roles_in (marks x)) = by_derived ∙ rw (not-false q h) refl in
          let v : cs ≡ roles_in (marks x) = k ∙ ap roles_in marks_are in
          (g ∙ ap (stops x) v ∙ sym w, omega (arith, b, same))
