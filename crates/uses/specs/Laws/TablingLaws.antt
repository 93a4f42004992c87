-- The tables of a text's declarations (02 §1): tables that code gathers beside the lent one, and each way through the tests.
use Rattle.std.specs.Prelude.{ℕ, ◌+◌, ◌-◌, ◌≤◌, ◌<◌, min, ◌≡◌, Bool, List, [], length, get_or, take}
use Rattle.std.proofs.Math.Nat.{min-eq_left, min-eq_right}
use Rattle.std.proofs.Common.{arith, sym, ap, ◌∙◌}
use Rattle.std.proofs.Math.Path.{refl}
use Rattle.std.proofs.Math.Bool.{true, false}
use Rattle.std.proofs.lemmas.List.Edits.{sets}
use Rattle.std.proofs.Math.Dec.{leb}
use borrow.Author.Tests.{le-leb, lt-leb, leb-true, leb-false}
use Rattle.types.specs.Limits.{max_structs, max_params, max_steps}
use Rattle.meaning.specs.Finding.{distinct}
use Rattle.resolve.specs.Named.{names_at}
use Rattle.resolve.specs.Tables.{places, offsets}
use Rattle.resolve.specs.Laws.StandingLaws.{both_parts}
use Rattle.resolve.specs.Checks.{part_of, row_ok, rows_ok, narrow, known, types_at, firsts}
use Rattle.uses.specs.Laws.PartLaws.{part_at}
use Rattle.uses.specs.Declaring.{Fronted, type_bytes}
use Rattle.uses.specs.Tabling.{structs_at, pars_at, steps_at, names_first, Gathered, Laid, tested}
use Rattle.uses.specs.Laws.PutLaws.{sets_front}
use Rattle.uses.specs.Laws.OffsetLaws.{offsets_long, offsets_last, few_in_rows}
use Rattle.text_shape.specs.RoleNames.{new_par_role, new_step_role, first_type_role, last_par_type_role}
use Rattle.types.specs.Limits.{step_names}
use Rattle.uses.specs.Layout.{offsets_room, rows_room, offsets_place, pars_place, struct_count_place, name_count_place}

-- Gathered in a table of their own -------------------------------------------------------------

pub front_held : {n : ℕ} {p : List ℕ} (z l : List ℕ) → n ≡ length l → p ≡ sets z 0 l → n ≤ length z → take n p ≡ l
front_held {n} {p} z l e f h = ap (take n) f ∙ ap (λ k. take k (sets z 0 l)) e ∙ sets_front z l (omega (arith, e, h))

pub gathered_not : (text roles t : List ℕ) {n : ℕ} → n ≡ length (steps_at roles) → rows_room < n → Gathered text roles t t 0
gathered_not text roles t e l = record { count = λ h. absurd (omega (arith, e, l, h)); stored = λ h. absurd (omega (arith, e, l, h)) }

pub gathered_all : (text roles t₀ z : List ℕ) {t p : List ℕ} {n k : ℕ} → length t₀ ≡ step_names → n ≡ length (steps_at roles) → p ≡ sets z 0 (steps_at roles)
    → n ≤ length z → k ≡ min (length (firsts text [] (take n p))) (1 + length t₀) → t ≡ sets t₀ 0 (firsts text [] (take n p))
    → Gathered text roles t₀ t k
gathered_all text roles t₀ z {t} {p} {n} {k} long e f h c s =
    let g : take n p ≡ steps_at roles = front_held z (steps_at roles) e f h in
    let i : 1 + length t₀ ≡ step_names + 1 = omega (arith, long) in
    record {
      count = λ _. c ∙ ap (λ l. min (length (firsts text [] l)) (1 + length t₀)) g ∙ ap (min (length (names_first text roles))) i;
      stored = λ _. s ∙ ap (λ l. sets t₀ 0 (firsts text [] l)) g;
    }

-- the types of parameters, by places in tables of their own
module _ (text roles z₁ z₂ : List ℕ) {n₁ n₂ : ℕ} {p₁ p₂ : List ℕ} (few : length (structs_at roles) ≤ max_structs)
    (slim : length (places first_type_role last_par_type_role roles) ≤ rows_room)
    (e₁ : n₁ ≡ length (structs_at roles)) (f₁ : p₁ ≡ sets z₁ 0 (structs_at roles)) (m₁ : length z₁ ≡ max_structs)
    (e₂ : n₂ ≡ length (places first_type_role last_par_type_role roles))
    (f₂ : p₂ ≡ sets z₂ 0 (places first_type_role last_par_type_role roles)) (m₂ : length z₂ ≡ rows_room) where
  structs_held : take n₁ p₁ ≡ structs_at roles
  structs_held = front_held z₁ (structs_at roles) e₁ f₁ (omega (arith, e₁, few, m₁))

  pub structs_few : length (take n₁ p₁) ≤ max_structs
  structs_few = let h = ap length structs_held in omega (arith, h, few)

  bytes_held : types_at text roles (names_at text (take n₁ p₁)) (take n₂ p₂) ≡ type_bytes text roles
  bytes_held =
      ap (λ l. types_at text roles (names_at text l) (take n₂ p₂)) structs_held
      ∙ ap (types_at text roles (names_at text (structs_at roles)))
      (front_held z₂ (places first_type_role last_par_type_role roles) e₂ f₂ (omega (arith, e₂, slim, m₂)))

  pub types_tested : {r : Bool} → r ≡ known (length (take n₁ p₁)) (types_at text roles (names_at text (take n₁ p₁)) (take n₂ p₂))
      → r ≡ known (length (structs_at roles)) (type_bytes text roles)
  types_tested e =
      e ∙ ap (λ l. known (length l) (types_at text roles (names_at text (take n₁ p₁)) (take n₂ p₂))) structs_held
      ∙ ap (known (length (structs_at roles))) bytes_held

  pub types_stored : {t : List ℕ} (t₀ : List ℕ) → t ≡ sets t₀ 0 (types_at text roles (names_at text (take n₁ p₁)) (take n₂ p₂))
      → t ≡ sets t₀ 0 (type_bytes text roles)
  types_stored t₀ e = e ∙ ap (sets t₀ 0) bytes_held

-- Tests ------------------------------------------------------------------------------------------

-- steps of few structs
pub steps_narrowed : (roles z : List ℕ) {s : ℕ} {p : List ℕ} → s ≡ length (structs_at roles) → s ≤ max_structs → length z ≡ offsets_room
    → p ≡ sets z 0 (offsets new_step_role roles)
    → take (s + 1) p ≡ offsets new_step_role roles
steps_narrowed roles z {s} {p} e h l f =
    let i = offsets_long new_step_role roles in
    front_held {n = s + 1} z (offsets new_step_role roles) (omega (arith, e, i)) f (omega (arith, h, l))

narrow_short : (a b : ℕ) → leb (b - a) max_steps ≡ true → b ≤ a + max_steps
narrow_short a b e = let h = leb-true (b - a) max_steps e in omega (arith, h)

pub record RowOk (pars : List ℕ) (a b : ℕ) : Type 0 where
  pub up : a ≤ b
  pub within : b ≤ length pars
  pub short : b ≤ a + max_steps

pub row_held : (text pars : List ℕ) (a b : ℕ) → row_ok text pars a b ≡ true → RowOk pars a b
unfolding row_ok
row_held text pars a b e =
    let f = both_parts (leb a b) _ e in
    let g = both_parts (leb b (length pars)) _ f.1 in
    let h = both_parts (leb (b - a) max_params) _ g.1 in
    let i = leb-true (b - a) max_params h.0 in
    let j = leb-true a b f.0 in
    record { up = j; within = leb-true b (length pars) g.0; short = omega (arith, i, j) }

module _ (text roles : List ℕ) (fr : Fronted roles) (few : length (structs_at roles) ≤ max_structs) where
  pub few_pars : rows_ok text (pars_at roles) (offsets new_par_role roles) ≡ true → length (pars_at roles) ≤ rows_room
  unfolding rows_ok
  few_pars e = few_in_rows (row_ok text (pars_at roles)) (λ a b h. (row_held text (pars_at roles) a b h).short) new_par_role roles e fr.pars few

  pub few_steps : narrow (offsets new_step_role roles) ≡ true → length (steps_at roles) ≤ rows_room
  unfolding narrow
  few_steps e = few_in_rows (λ a b. leb (b - a) max_steps) narrow_short new_step_role roles e fr.steps few

min_tested : (n : ℕ) → leb (min n (step_names + 1)) step_names ≡ leb n step_names
min_tested n = go (leb n step_names) refl
  where
    go : (t : Bool) → leb n step_names ≡ t → leb (min n (step_names + 1)) step_names ≡ leb n step_names
    go true e = let h = leb-true n step_names e in ap (λ k. leb k step_names) (min-eq_left {n = n} {m = step_names + 1} (omega (arith, h)))
    go false e = let h = leb-false n step_names e in ap (λ k. leb k step_names) (min-eq_right {n = step_names + 1} {m = n} (omega (arith, h))) ∙ sym e

module _ {text roles t : List ℕ} (laid : Laid text roles t) (fr : Fronted roles) where
  abbrev s : ℕ
  s = get_or t struct_count_place 0

  abbrev n : ℕ
  n = get_or t (offsets_place + s) 0

  pub well_many : max_structs < s → false ≡ tested text roles
  unfolding tested
  well_many h = rw (tested, lt-leb (length (structs_at roles)) max_structs (let e = laid.count in omega (arith, e, h))) refl

  module _ (few : s ≤ max_structs) where
    at_most : length (structs_at roles) ≤ max_structs
    at_most = let e = laid.count in omega (arith, e, few)

    structs_here : take s t ≡ structs_at roles
    structs_here =
        let e : s ≡ (0 + length (structs_at roles)) - 0 = let e = laid.count in omega (arith, e) in
        ap (λ k. take k t) e ∙ laid.structs (omega (arith, at_most))

    rows_here : part_of t offsets_place (offsets_place + 1 + s) ≡ offsets new_par_role roles
    rows_here =
        let l = offsets_long new_par_role roles in
        let e : offsets_place + 1 + s ≡ offsets_place + length (offsets new_par_role roles) = let e = laid.count in omega (arith, e, l) in
        ap (part_of t offsets_place) e ∙ laid.rows (omega (arith, l, at_most))

    pub count_here : n ≡ length (pars_at roles)
    count_here =
        sym (part_at t offsets_place (offsets_place + 1 + s) s (omega arith)) ∙ ap (λ l. get_or l s 0) rows_here
        ∙ ap (λ k. get_or (offsets new_par_role roles) k 0) laid.count
        ∙ offsets_last new_par_role roles

    different : {b : Bool} → b ≡ distinct (names_at text (take s t)) → b ≡ distinct (names_at text (structs_at roles))
    different e = e ∙ ap (λ l. distinct (names_at text l)) structs_here

    pub well_same : {b : Bool} → b ≡ distinct (names_at text (take s t)) → b ≡ false → false ≡ tested text roles
    unfolding tested
    well_same e f = rw (tested, le-leb (length (structs_at roles)) max_structs at_most, ← different e, f) refl

    module _ {b : Bool} (e₁ : b ≡ distinct (names_at text (take s t))) (f₁ : b ≡ true) where
      pub well_wide : rows_room < n → false ≡ tested text roles
      unfolding tested
      well_wide h =
          go (rows_ok text (pars_at roles) (offsets new_par_role roles)) refl
        where
          go : (r : Bool) → rows_ok text (pars_at roles) (offsets new_par_role roles) ≡ r → false ≡ tested text roles
          go true g = absurd (let k = few_pars text roles fr at_most g in omega (arith, k, count_here, h))
          go false g = rw (tested, le-leb (length (structs_at roles)) max_structs at_most, ← different e₁, f₁, g) refl

      module _ (slim : n ≤ rows_room) where
        pars_here : part_of t pars_place (pars_place + n) ≡ pars_at roles
        pars_here = ap (λ k. part_of t pars_place (pars_place + k)) count_here ∙ laid.pars (let e = count_here in omega (arith, e, slim))

        rowed : {r : Bool} → r ≡ rows_ok text (part_of t pars_place (pars_place + n)) (part_of t offsets_place (offsets_place + 1 + s))
            → r ≡ rows_ok text (pars_at roles) (offsets new_par_role roles)
        rowed e = e ∙ ap (λ l. rows_ok text l (part_of t offsets_place (offsets_place + 1 + s))) pars_here ∙ ap (rows_ok text (pars_at roles)) rows_here

        pub well_rowless : {r : Bool} → r ≡ rows_ok text (part_of t pars_place (pars_place + n)) (part_of t offsets_place (offsets_place + 1 + s))
            → r ≡ false → false ≡ tested text roles
        unfolding tested
        well_rowless e f = rw (tested, le-leb (length (structs_at roles)) max_structs at_most, ← different e₁, f₁, ← rowed e, f) refl

        module _ {r : Bool} (e₂ : r ≡ rows_ok text (part_of t pars_place (pars_place + n)) (part_of t offsets_place (offsets_place + 1 + s)))
            (f₂ : r ≡ true) {u : Bool}
            (e₃ : u ≡ narrow (offsets new_step_role roles)) where
          pub well_long : u ≡ false → false ≡ tested text roles
          unfolding tested
          well_long f =
              rw (tested, le-leb (length (structs_at roles)) max_structs at_most, ← different e₁, f₁, ← rowed e₂, f₂, ← e₃, f) refl

          pub well_named : u ≡ true → leb (get_or t name_count_place 0) step_names ≡ tested text roles
          unfolding tested
          well_named f =
              rw (tested, le-leb (length (structs_at roles)) max_structs at_most, ← different e₁, f₁, ← rowed e₂, f₂, ← e₃, f)
              (ap (λ k. leb k step_names) (laid.names_count (few_steps text roles fr at_most (sym e₃ ∙ f))) ∙ min_tested (length (names_first text roles)))
