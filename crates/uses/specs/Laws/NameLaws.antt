-- A struct begun, a constructor, a declared local, in lent memory (02 §1): one law for each way through the code.
use Rattle.std.specs.Prelude.{ℕ, ◌+◌, ◌-◌, ◌≤◌, ◌<◌, ◌≡◌, Bool, true, false, ◌&&◌, List, ◌∷◌, length, get_or, set, drop, eqb, leb, ltb, None}
use native.Mathlib.Omega.{arith}
use Rattle.std.proofs.Math.Numerals.{add-one}
use Rattle.std.proofs.Math.Path.{refl, sym}
use Rattle.std.proofs.Common.{ap, ◌∙◌, length-set, get_or-set_same, get_or-set_other}
use Rattle.std.proofs.Math.Option.{Option, some}
use Rattle.std.proofs.lemmas.List.{length-map}
use borrow.Author.Tests.{lt-ltb, le-ltb, eqb-true, eqb-false}
use Rattle.types.specs.Limits.{first_local, max_locals}
use Rattle.syntax.specs.Syntax.{Id}
use Rattle.derive.specs.HeldLaws.{held_push}
use Rattle.text_shape.specs.Roles.{Naming.new_struct}
use Rattle.meaning.specs.Meant.{provided}
use Rattle.resolve.specs.Named.{name_at, names_at, sought}
use Rattle.resolve.specs.Checks.{part_of}
use Rattle.resolve.specs.Using.{Use, own_row, leave, due, live, begin, use_made, use_new, use_name}
use Rattle.uses.specs.Laws.PartLaws.{up_to, part_behind, part_before, up_to_more, up_to_long}
use Rattle.uses.specs.Lent.{structs_of_table, row_start, row_end, book_in, Booked, use_in, Small, Roomy, passed_in, Next}
use Rattle.uses.specs.Seeing.{dued, with_local}
use Rattle.uses.specs.Laws.SeeingLaws.{structs_long, row_long}
use Rattle.uses.specs.Laws.StackLaws.{heights_stay, rest, rest_names}
use Rattle.uses.specs.declared.Scope.{Scope}
use Rattle.uses.specs.Layout.{declared_end, living_end, numbers_end, bytes_end}
use Rattle.uses.specs.Passed.{onward, leaves}

-- A struct is begun ------------------------------------------------------------------------------

abbrev pub more : Scope → Scope
more c = record { begun = c.begun + 1; met = c.met; living = c.living; fresh = c.fresh; typ = c.typ; dues = c.dues; bodies = c.bodies }

module _ (t : List ℕ) (b : Booked t) (c : Scope) where
  pub begin_none : structs_of_table t ≤ c.begun → (x : List ℕ) (y : Id) (l k o : List ℕ)
      → passed_in x l k None o ≡ use_name (book_in x t) new_struct y (use_in x l k c o)
  unfolding passed_in use_in use_name provided
  begin_none h x y l k o = let s = structs_long x t b in rw (le-ltb c.begun (length (book_in x t).structs) (omega (arith, s, h))) refl

  pub begin_one : c.begun < structs_of_table t → (x : List ℕ) (y : Id) (l k o : List ℕ)
      → passed_in x l k (onward (more c)) o ≡ use_name (book_in x t) new_struct y (use_in x l k c o)
  unfolding passed_in use_in use_name provided begin
  begin_one h x y l k o =
      let s = structs_long x t b in rw (lt-ltb c.begun (length (book_in x t).structs) (omega (arith, s, h)), add-one c.begun) refl

  pub next_begun : c.begun < structs_of_table t → (l : List ℕ) → Roomy t l c → Next t l c (onward (more c))
  unfolding Next
  next_begun h l r = (
    record { long = r.long; begun = omega (arith, h); met = r.met; living = r.living; fresh = r.fresh; small = r.small },
    omega arith,
  )

-- A constructor ----------------------------------------------------------------------------------

module _ (x t : List ℕ) (b : Booked t) (k : List ℕ) (c : Scope) (y : Id) {n : ℕ} (e : n ≡ sought y (names_at x (part_of t 0 (structs_of_table t)))) where
  pub made_none : structs_of_table t ≤ n → (l o : List ℕ) → passed_in x l k None o ≡ use_made (book_in x t) y (use_in x l k c o)
  unfolding passed_in use_made provided book_in
  made_none h l o =
      let s = structs_long x t b in
      rw (le-ltb (sought y (book_in x t).structs) (length (book_in x t).structs) (omega (arith, s, h, e))) refl

  module _ (h : n < structs_of_table t) where
    abbrev long : ℕ
    long = row_end t n - row_start t n

    sought_there : sought y (book_in x t).structs ≡ n
    unfolding book_in
    sought_there = sym e

    made_is : (u : Use) → use_made (book_in x t) y u ≡ some (due (leave u u.type n) (long ∷ u.dues))
    unfolding use_made provided
    made_is u =
        let s = structs_long x t b in
        let f : sought y (book_in x t).structs ≡ n = sought_there in
        rw (lt-ltb (sought y (book_in x t).structs) (length (book_in x t).structs) (omega (arith, s, h, f)), f, row_long x t b n h) refl

    pub made_one : c.dues + c.bodies < length k → (l o : List ℕ)
        → passed_in x l (set k c.dues long) (leaves (dued c (c.dues + 1)) n) o ≡ use_made (book_in x t) y (use_in x l k c o)
    unfolding passed_in use_in dued due leave
    made_one room l o =
        rw (held_push k c.dues long (omega (arith, room)), heights_stay k c.dues long c.bodies (omega (arith, room)))
        (sym (made_is (use_in x l k c o)))

pub next_made : (t l : List ℕ) (c : Scope) (n : ℕ) → Roomy t l c → Next t l c (leaves (dued c (c.dues + 1)) n)
unfolding Next dued
next_made t l c n r =
    (record { long = r.long; begun = r.begun; met = r.met; living = r.living; fresh = r.fresh; small = r.small }, omega arith)

-- A local is declared ----------------------------------------------------------------------------

abbrev pub declaring : Scope → Scope
declaring c =
    record {
      begun = c.begun;
      met = c.met + 1;
      living = (c.living - c.fresh) + 1;
      fresh = 1;
      typ = c.typ;
      dues = c.dues;
      bodies = c.bodies;
    }

both_tests : {A : Type 0} (p q r : Bool) (o : Option A) → r ≡ (p && q) → provided p (provided q o) ≡ provided r o
unfolding provided
both_tests true q r o e = ap (λ z. provided z o) (sym e)
both_tests false q r o e = ap (λ z. provided z o) (sym e)

module _ (l : List ℕ) (long : length l ≡ bytes_end) (at m n b : ℕ) (few : m < max_locals) (less : n < max_locals) where
  abbrev l₁ : List ℕ
  l₁ = set l (declared_end - (m + 1)) at

  abbrev l₂ : List ℕ
  l₂ = set l₁ (living_end - (n + 1)) at

  abbrev l₃ : List ℕ
  l₃ = set l₂ (numbers_end - (n + 1)) m

  long₁ : length l₁ ≡ bytes_end
  long₁ = length-set l (declared_end - (m + 1)) at ∙ long

  long₂ : length l₂ ≡ bytes_end
  long₂ = length-set l₁ (living_end - (n + 1)) at ∙ long₁

  long₃ : length l₃ ≡ bytes_end
  long₃ = length-set l₂ (numbers_end - (n + 1)) m ∙ long₂

  pub long_stored : length (with_local l at m n b) ≡ bytes_end
  long_stored = length-set l₃ (bytes_end - (n + 1)) b ∙ long₃

  pub met_stored : up_to (with_local l at m n b) declared_end (m + 1) ≡ at ∷ up_to l declared_end m
  met_stored =
      part_before l₃ (bytes_end - (n + 1)) b (declared_end - (m + 1)) declared_end (omega arith) (omega (arith, less))
      ∙ part_before l₂ (numbers_end - (n + 1)) m (declared_end - (m + 1)) declared_end (omega arith) (omega (arith, less))
      ∙ part_before l₁ (living_end - (n + 1)) at (declared_end - (m + 1)) declared_end (omega arith) (omega (arith, less))
      ∙ up_to_more l declared_end m at few (omega (arith, long))

  pub living_stored : up_to (with_local l at m n b) living_end (n + 1) ≡ at ∷ up_to l living_end n
  living_stored =
      part_before l₃ (bytes_end - (n + 1)) b (living_end - (n + 1)) living_end (omega arith) (omega (arith, less))
      ∙ part_before l₂ (numbers_end - (n + 1)) m (living_end - (n + 1)) living_end (omega arith) (omega (arith, less))
      ∙ up_to_more l₁ living_end n at (omega (arith, less)) (omega (arith, long₁))
      ∙ ap (λ z. at ∷ z) (part_behind l (declared_end - (m + 1)) at (living_end - n) living_end (omega (arith, less)))

  pub numbers_stored : up_to (with_local l at m n b) numbers_end (n + 1) ≡ m ∷ up_to l numbers_end n
  numbers_stored =
      part_before l₃ (bytes_end - (n + 1)) b (numbers_end - (n + 1)) numbers_end (omega arith) (omega (arith, less))
      ∙ up_to_more l₂ numbers_end n m (omega (arith, less)) (omega (arith, long₂))
      ∙ ap (λ z. m ∷ z)
      (part_behind l₁ (living_end - (n + 1)) at (numbers_end - n) numbers_end (omega (arith, less))
      ∙ part_behind l (declared_end - (m + 1)) at (numbers_end - n) numbers_end (omega (arith, less)))

  pub bytes_stored : up_to (with_local l at m n b) bytes_end (n + 1) ≡ b ∷ up_to l bytes_end n
  bytes_stored =
      up_to_more l₃ bytes_end n b (omega (arith, less)) (omega (arith, long₃))
      ∙ ap (λ z. b ∷ z)
      (part_behind l₂ (numbers_end - (n + 1)) m (bytes_end - n) bytes_end (omega (arith, less))
      ∙ part_behind l₁ (living_end - (n + 1)) at (bytes_end - n) bytes_end (omega (arith, less))
      ∙ part_behind l (declared_end - (m + 1)) at (bytes_end - n) bytes_end (omega (arith, less)))

  pub small_stored : Small l n → Small (with_local l at m n b) (n + 1)
  small_stored s i g h = go (eqb i (numbers_end - (n + 1))) refl
    where
      outer : get_or (with_local l at m n b) i 0 ≡ get_or l₃ i 0
      outer = get_or-set_other l₃ (bytes_end - (n + 1)) i b 0 (λ e. omega (arith, e, less, h))

      go : (q : Bool) → eqb i (numbers_end - (n + 1)) ≡ q → get_or (with_local l at m n b) i 0 < max_locals
      go true f =
          let e = eqb-true i (numbers_end - (n + 1)) f in
          let v : get_or l₃ i 0 ≡ m = ap (λ z. get_or l₃ z 0) e ∙ get_or-set_same l₂ (numbers_end - (n + 1)) m 0 (omega (arith, long₂, less)) in
          omega (arith, outer, v, few)
      go false f =
          let d = eqb-false i (numbers_end - (n + 1)) f in
          let v : get_or l₃ i 0 ≡ get_or l i 0 =
          get_or-set_other l₂ (numbers_end - (n + 1)) i m 0 d ∙ get_or-set_other l₁ (living_end - (n + 1)) i at 0 (λ e. omega (arith, e, g, less))
          ∙ get_or-set_other l (declared_end - (m + 1)) i at 0 (λ e. omega (arith, e, g, less)) in
          let w = s i (omega (arith, g, d)) h in
          omega (arith, outer, v, w)

module _ (x t l : List ℕ) (c : Scope) (r : Roomy t l c) (at : ℕ) (q : Bool)
    (e : q ≡ (leb c.met (sought (name_at x at) (names_at x (up_to l declared_end c.met)))
    && leb (length (own_row (book_in x t).rows c.begun)) (sought (name_at x at) (own_row (book_in x t).rows c.begun)))) where
  abbrev y : Id
  y = name_at x at

  met_long : length (names_at x (up_to l declared_end c.met)) ≡ c.met
  met_long = length-map (up_to l declared_end c.met) (name_at x) ∙ up_to_long l declared_end c.met r.met (omega (arith, r.long))

  module _ (k o : List ℕ) where
    abbrev used : Use
    used = use_in x l k c o

    abbrev then_live : Option Use
    then_live =
        some
        (live (leave used c.typ (first_local + c.met)) (y ∷ drop c.fresh used.living) (c.met ∷ drop c.fresh used.numbers)
        (c.typ ∷ drop c.fresh used.bytes) 1 (y ∷ used.met) used.heights)

    new_is : use_new (book_in x t) y used ≡ provided q (provided (ltb c.met max_locals) then_live)
    unfolding use_new use_in
    new_is =
        rw met_long
        (both_tests (leb c.met (sought y (names_at x (up_to l declared_end c.met)))) (leb (length (own_row (book_in x t).rows c.begun))
        (sought y (own_row (book_in x t).rows c.begun))) q (provided (ltb c.met max_locals) then_live) e)

    pub declare_not : q ≡ false → passed_in x l k None o ≡ use_new (book_in x t) y used
    unfolding passed_in provided
    declare_not f = sym (new_is ∙ rw f refl)

    pub declare_full : q ≡ true → max_locals ≤ c.met → passed_in x l k None o ≡ use_new (book_in x t) y used
    unfolding passed_in provided
    declare_full f h = sym (new_is ∙ rw (f, le-ltb c.met max_locals h) refl)

    told : q ≡ true → c.met < max_locals → provided q (provided (ltb c.met max_locals) then_live) ≡ then_live
    unfolding provided
    told f h = rw (f, lt-ltb c.met max_locals h) refl

    stored : c.met < max_locals
        → passed_in x (with_local l at c.met (c.living - c.fresh) c.typ) k (leaves (declaring c) (first_local + c.met)) o ≡ then_live
    unfolding passed_in use_in live leave
    stored h =
        let less : c.living - c.fresh < max_locals = omega (arith, r.living, h) in
        rw (
          met_stored l r.long at c.met (c.living - c.fresh) c.typ h less,
          living_stored l r.long at c.met (c.living - c.fresh) c.typ h less,
          numbers_stored l r.long at c.met (c.living - c.fresh) c.typ h less,
          bytes_stored l r.long at c.met (c.living - c.fresh) c.typ h less,
          rest_names x l k o c r,
          rest x l k o c r numbers_end (omega arith),
          rest x l k o c r bytes_end (omega arith),
        )
        refl

    pub declare_one : q ≡ true → c.met < max_locals
        → passed_in x (with_local l at c.met (c.living - c.fresh) c.typ) k (leaves (declaring c) (first_local + c.met)) o ≡ use_new (book_in x t) y used
    declare_one f h = stored h ∙ sym (new_is ∙ told f h)

  pub next_declared : c.met < max_locals → (n : ℕ) → Next t (with_local l at c.met (c.living - c.fresh) c.typ) c (leaves (declaring c) n)
  unfolding Next
  next_declared h n =
      let less : c.living - c.fresh < max_locals = omega (arith, r.living, h) in (
        record {
          long = long_stored l r.long at c.met (c.living - c.fresh) c.typ h less;
          begun = r.begun;
          met = omega (arith, h);
          living = omega (arith, r.living);
          fresh = omega arith;
          small = small_stored l r.long at c.met (c.living - c.fresh) c.typ h less (λ i g j. r.small i (omega (arith, g)) j);
        },
        omega arith,
      )
