-- Arguments due and open ifs in lent memory (02 §1): one law for each way through the code of brackets, braces and commas.
use Prim.Native.Nat.{ℕ, zero, suc, ◌+◌, ◌-◌, ◌≤◌, ◌<◌}
use native.Mathlib.Omega.{arith}
use Rattle.std.proofs.Math.Numerals.{sub-one}
use Rattle.std.specs.Prelude.{◌≡◌, set, min, Bool, true, false, ltb, None}
use Rattle.std.proofs.Math.Path.{refl, sym, ap}
use Rattle.std.proofs.Common.{◌∙◌, length-set, drop-cons}
use mathlib.Core.List.{List, [], ◌∷◌}
use Rattle.std.proofs.Math.Option.{some}
use Rattle.std.proofs.Math.ListN.{length, get_or, take, drop}
use Rattle.std.proofs.lemmas.List.{length-map}
use borrow.Author.Tests.{eq-eqb, ne_eqb, ltb-true, ltb-false}
use Rattle.types.proofs.Laws.ListLaws.{map_drop}
use Rattle.derive.specs.Held.{held}
use Rattle.derive.specs.HeldLaws.{held_set, held_push}
use Rattle.meaning.specs.Meant.{provided}
use Rattle.resolve.specs.Named.{name_at, names_at}
use Rattle.resolve.specs.Using.{Use, due, live, last_of, use_goes, use_closes, use_dies, use_opens}
use Rattle.uses.specs.Laws.PartLaws.{up_to, mapped_long, part_behind, up_to_more, up_to_long, drop_up_to, last_up_to, last_all}
use Rattle.uses.specs.Lent.{use_in, Roomy, passed_in, Next}
use Rattle.uses.specs.Seeing.{dued, lived}
use Rattle.uses.specs.declared.Scope.{Scope}
use Rattle.types.specs.Limits.{max_locals}
use Rattle.uses.specs.Layout.{living_end, numbers_end, bytes_end}
use Rattle.uses.specs.Passed.{onward}

held_top : (k : List ℕ) (d : ℕ) → (d ≡ 0 → ⊥) → held k d ≡ get_or k (d - 1) 0 ∷ held k (d - 1)
unfolding held
held_top k zero n = absurd (n refl)
held_top k (suc d) n = rw sub-one refl

back : (a b : ℕ) → b ≤ a → a - (a - b) ≡ b
back a b h = omega (arith, h)

below : (b : ℕ) → (b ≡ 0 → ⊥) → b ≡ suc (b - 1)
below b n = omega (arith, n)

less : (e b : ℕ) → b ≤ e → b - 1 ≤ e
less e b h = omega (arith, h)

step : (e b : ℕ) → b ≤ e → b ≡ suc (b - 1) → suc (e - b) ≡ e - (b - 1)
step e b h g = omega (arith, h, g)

inside : (e b n : ℕ) → b ≤ e → e ≡ n → b ≡ suc (b - 1) → e - b < n
inside e b n h f g = omega (arith, h, f, g)

up_to_top : (k : List ℕ) (b : ℕ) → (b ≡ 0 → ⊥) → b ≤ length k → up_to k (length k) b ≡ get_or k (length k - b) 0 ∷ up_to k (length k) (b - 1)
up_to_top k b n h = go (length k) h refl (below b n)
  where
    go : (e : ℕ) → b ≤ e → e ≡ length k → b ≡ suc (b - 1) → up_to k e b ≡ get_or k (e - b) 0 ∷ up_to k e (b - 1)
    go e le f g =
        let i : e - (e - b) ≡ suc (e - (e - (b - 1))) = back e b le ∙ g ∙ ap suc (sym (back e (b - 1) (less e b le))) in
        let m : suc (e - b) ≡ e - (b - 1) = step e b le g in
        ap (λ z. take z (drop (e - b) k)) i
        ∙ ap (take (suc (e - (e - (b - 1))))) (drop-cons k (e - b) 0 (inside e b (length k) le f g))
        ∙ ap (λ z. get_or k (e - b) 0 ∷ take (e - (e - (b - 1))) (drop z k)) m

-- a place before those of the ifs
pub heights_stay : (k : List ℕ) (i v b : ℕ) → i < length k - b → up_to (set k i v) (length (set k i v)) b ≡ up_to k (length k) b
heights_stay k i v b h = ap (λ z. up_to (set k i v) z b) (length-set k i v) ∙ part_behind k i v (length k - b) (length k) h

-- Room -------------------------------------------------------------------------------------------

module _ (t l : List ℕ) (c : Scope) (r : Roomy t l c) where
  pub next_stop : Next t l c None
  unfolding Next
  next_stop = tt

  pub next_same : Next t l c (onward c)
  unfolding Next
  next_same = (r, omega arith)

  pub next_dued : (n : ℕ) → n ≤ c.dues + 1 → Next t l c (onward (dued c n))
  unfolding Next dued
  next_dued n h =
      (record { long = r.long; begun = r.begun; met = r.met; living = r.living; fresh = r.fresh; small = r.small }, omega arith)

  pub next_lived : (m n b : ℕ) → m ≤ max_locals → n ≤ m → n ≤ c.living → b ≤ c.bodies + 1 → Next t l c (onward (lived c m n b))
  unfolding Next lived
  next_lived m n b g h i j = (
    record {
      long = r.long;
      begun = r.begun;
      met = g;
      living = h;
      fresh = omega arith;
      small = λ p q s. r.small p (omega (arith, q, i)) s;
    },
    omega arith,
  )

-- Arguments --------------------------------------------------------------------------------------

module _ (x l k o : List ℕ) (c : Scope) where
  abbrev used : Use
  used = use_in x l k c o

  pub close_none : (n : ℕ) → c.dues ≡ 0 → passed_in x l k None o ≡ use_closes n used used.dues
  unfolding passed_in use_in use_closes held
  close_none n e = rw e refl

  pub close_other : (n : ℕ) → (c.dues ≡ 0 → ⊥) → (get_or k (c.dues - 1) 0 ≡ n → ⊥) → passed_in x l k None o ≡ use_closes n used used.dues
  unfolding passed_in use_in use_closes provided
  close_other n h i = rw (held_top k c.dues h, ne_eqb n (get_or k (c.dues - 1) 0) (λ e. i (sym e))) refl

  pub close_one : (n : ℕ) → (c.dues ≡ 0 → ⊥) → get_or k (c.dues - 1) 0 ≡ n → passed_in x l k (onward (dued c (c.dues - 1))) o ≡ use_closes n used used.dues
  unfolding passed_in use_in use_closes provided due dued
  close_one n h i = rw (held_top k c.dues h, eq-eqb n (get_or k (c.dues - 1) 0) (sym i)) refl

  pub go_none : c.dues ≡ 0 → passed_in x l k None o ≡ use_goes used used.dues
  unfolding passed_in use_in use_goes held
  go_none e = rw e refl

  pub go_zero : (c.dues ≡ 0 → ⊥) → get_or k (c.dues - 1) 0 ≡ 0 → passed_in x l k None o ≡ use_goes used used.dues
  unfolding passed_in use_in use_goes
  go_zero h e = rw (held_top k c.dues h, e) refl

  goes_on : (m : ℕ) (d : List ℕ) → (m ≡ 0 → ⊥) → use_goes used (m ∷ d) ≡ some (due used ((m - 1) ∷ d))
  unfolding use_goes
  goes_on zero d h = absurd (h refl)
  goes_on (suc m) d h = rw sub-one refl

  pub go_one : (c.dues ≡ 0 → ⊥) → (get_or k (c.dues - 1) 0 ≡ 0 → ⊥) → c.dues + c.bodies ≤ length k
      → passed_in x l (set k (c.dues - 1) (get_or k (c.dues - 1) 0 - 1)) (onward c) o ≡ use_goes used used.dues
  unfolding passed_in use_in due
  go_one h i room =
      let v : ℕ = get_or k (c.dues - 1) 0 - 1 in
      let e : c.dues ≡ c.dues - 1 + 1 = omega (arith, h) in
      let f : held (set k (c.dues - 1) v) c.dues ≡ v ∷ held k (c.dues - 1) =
      ap (held (set k (c.dues - 1) v)) e ∙ held_push k (c.dues - 1) v (omega (arith, h, room)) in
      let g : use_goes used (held k c.dues) ≡ some (due used (v ∷ held k (c.dues - 1))) =
      ap (use_goes used) (held_top k c.dues h) ∙ goes_on (get_or k (c.dues - 1) 0) (held k (c.dues - 1)) i in
      rw (f, heights_stay k (c.dues - 1) v c.bodies (omega (arith, h, room))) (sym g)

-- Ifs ----------------------------------------------------------------------------------------------

module _ (x l k o : List ℕ) (c : Scope) {t : List ℕ} (r : Roomy t l c) where
  abbrev passing : Use
  passing = use_in x l k c o

  abbrev alive : ℕ
  alive = c.living - c.fresh

  pub rest : (e : ℕ) → max_locals ≤ e → up_to l e alive ≡ drop c.fresh (up_to l e c.living)
  rest e h = sym (drop_up_to l e c.living c.fresh r.fresh (omega (arith, h, r.living, r.met)))

  pub rest_names : names_at x (up_to l living_end alive) ≡ drop c.fresh (names_at x (up_to l living_end c.living))
  rest_names = ap (names_at x) (rest living_end (omega arith)) ∙ map_drop (name_at x) c.fresh (up_to l living_end c.living)

  pub rest_long : length (drop c.fresh (names_at x (up_to l living_end c.living))) ≡ alive
  rest_long =
      let e : living_end - (living_end - alive) ≡ alive = omega (arith, r.living, r.met) in
      ap length (sym rest_names) ∙ mapped_long (name_at x) l (living_end - alive) living_end (omega (arith, r.long)) ∙ e

  pub opened : c.dues + c.bodies < length k
      → passed_in x l (set k (length k - (c.bodies + 1)) alive) (onward (lived c c.met alive (c.bodies + 1))) o ≡ some (use_opens passing)
  unfolding passed_in use_in use_opens live lived
  opened room =
      let i : ℕ = length k - (c.bodies + 1) in
      let f : held (set k i alive) c.dues ≡ held k c.dues = held_set k i alive c.dues (omega (arith, room)) in
      let g : up_to (set k i alive) (length (set k i alive)) (c.bodies + 1) ≡ alive ∷ up_to k (length k) c.bodies =
      ap (λ z. up_to (set k i alive) z (c.bodies + 1)) (length-set k i alive)
      ∙ up_to_more k (length k) c.bodies alive (omega (arith, room)) (omega arith) in
      rw (f, g, rest_names, rest numbers_end (omega arith), rest bytes_end (omega arith), rest_long) refl

  pub shut_none : c.bodies ≡ 0 → passed_in x l k None o ≡ use_dies passing passing.heights
  unfolding passed_in use_in use_dies
  shut_none e =
      let i : length k - (length k - c.bodies) ≡ 0 = omega (arith, e) in
      let f : up_to k (length k) c.bodies ≡ [] = ap (λ z. take z (drop (length k - c.bodies) k)) i in
      rw f refl

  last_names : (h : ℕ) → h ≤ c.living → last_of h (names_at x (up_to l living_end c.living)) ≡ names_at x (up_to l living_end h)
  unfolding last_of
  last_names h le =
      ap (λ z. drop (z - h) (names_at x (up_to l living_end c.living))) (length-map (up_to l living_end c.living) (name_at x))
      ∙ sym (map_drop (name_at x) (length (up_to l living_end c.living) - h) (up_to l living_end c.living))
      ∙ ap (names_at x) (last_up_to l living_end c.living h le (omega (arith, r.living, r.met)) (omega (arith, r.long)))

  names_long : length (names_at x (up_to l living_end c.living)) ≡ c.living
  names_long =
      length-map (up_to l living_end c.living) (name_at x) ∙ up_to_long l living_end c.living (omega (arith, r.living, r.met)) (omega (arith, r.long))

  module _ (n : c.bodies ≡ 0 → ⊥) (fits : c.bodies ≤ length k) where
    abbrev height : ℕ
    height = get_or k (length k - c.bodies) 0

    pub shut_less : height < c.living
        → passed_in x l k (onward (lived c c.met height (c.bodies - 1))) o ≡ use_dies passing passing.heights
    unfolding passed_in use_in use_dies live lived
    shut_less h =
        let a = r.living in
        let b = r.met in
        let e = r.long in
        rw (
          up_to_top k c.bodies n fits,
          last_names height (omega (arith, h)),
          last_up_to l numbers_end c.living height (omega (arith, h)) (omega (arith, a, b)) (omega (arith, e)),
          last_up_to l bytes_end c.living height (omega (arith, h)) (omega (arith, a, b)) (omega (arith, e)),
        )
        refl

    pub shut_all : c.living ≤ height
        → passed_in x l k (onward (lived c c.met c.living (c.bodies - 1))) o ≡ use_dies passing passing.heights
    unfolding passed_in use_in use_dies live lived
    shut_all h =
        let a = r.living in
        let b = r.met in
        let e = r.long in
        let f = up_to_long l numbers_end c.living (omega (arith, a, b)) (omega (arith, e)) in
        let g = up_to_long l bytes_end c.living (omega (arith, a, b)) (omega (arith, e)) in
        rw (
          up_to_top k c.bodies n fits,
          last_all (names_at x (up_to l living_end c.living)) height (omega (arith, h, names_long)),
          last_all (up_to l numbers_end c.living) height (omega (arith, h, f)),
          last_all (up_to l bytes_end c.living) height (omega (arith, h, g)),
        )
        refl

    -- the fewer of both are alive
    pub shut : {m b : ℕ} → b ≡ c.bodies - 1 → m ≡ min c.living height → passed_in x l k (onward (lived c c.met m b)) o ≡ use_dies passing passing.heights
    shut {m} {b} e f = ap (λ z. passed_in x l k (onward (lived c c.met m z)) o) e ∙ go (ltb height c.living) refl
      where
        go : (t : Bool) → ltb height c.living ≡ t → passed_in x l k (onward (lived c c.met m (c.bodies - 1))) o ≡ use_dies passing passing.heights
        go true g =
            let h = ltb-true height c.living g in
            let i : m ≡ height = omega (arith, f, h) in
            ap (λ z. passed_in x l k (onward (lived c c.met z (c.bodies - 1))) o) i ∙ shut_less h
        go false g =
            let h = ltb-false height c.living g in
            let i : m ≡ c.living = omega (arith, f, h) in
            ap (λ z. passed_in x l k (onward (lived c c.met z (c.bodies - 1))) o) i ∙ shut_all h
