-- The pass over uses place by place, in lent memory (02 §1): a byte's group, and the loop over the roles of a text.
use Prim.Native.Nat.{ℕ, suc, ◌+◌, ◌-◌, ◌≤◌, ◌<◌}
use native.Mathlib.Omega.{arith}
use Rattle.std.proofs.Common.{add-one, ◌∙◌, drop-cons}
use Rattle.std.specs.Prelude.{◌≡◌, get_or, set, eqb, None, Ok, Err}
use Rattle.std.proofs.Math.Path.{refl, sym, ap}
use mathlib.Core.List.{List, [], ◌∷◌}
use Rattle.std.proofs.Math.Option.{some}
use Rattle.std.proofs.Math.ListN.{length, take, drop, length-set, drop_of_length-le}
use borrow.Author.Tests.{lt-ltb, le-ltb, eq-eqb, ne_eqb}
use Rattle.meaning.specs.Meant.{then}
use Rattle.derive.specs.Held.{held}
use Rattle.derive.specs.HeldLaws.{held_push}
use Rattle.resolve.specs.Named.{name_of}
use Rattle.resolve.specs.Checks.{type_here}
use Rattle.resolve.specs.Using.{Book, Use, chosen, use_start, use_name, use_type, use_part}
use Rattle.resolve.specs.UsingAt.{naming_at, typed_at, number_at, part_at, use_kind, use_at, uses_at}
use Rattle.uses.specs.Laws.PartLaws.{up_to}
use Rattle.uses.specs.Lent.{book_in, use_in, Roomy, passed_in, Next, numbered_in, used_out}
use Rattle.uses.specs.Seeing.{Quiet}
use Rattle.uses.specs.Laws.BracketLaws.{part_quiet}
use Rattle.uses.specs.Stopping.{counts_on, stops_at}
use Rattle.uses.specs.declared.Scope.{Scope}
use Rattle.text_shape.specs.RoleNames.{args_close_role, no_args_close_role, body_close_role, first_name_role, first_type_role, first_part_role}
use Rattle.tokens.specs.KindNames.{semicolon_kind, int_kind, nat_kind}
use Rattle.uses.specs.Layout.{bytes_end}
use Rattle.uses.specs.Passed.{Passed, onward, leaves}
use Rattle.uses.specs.declared.NoProgram.{NoProgram}

-- One place --------------------------------------------------------------------------------------

module _ (b : Book) (c : ℕ) (s : List ℕ) (u : Use) where
  pub place_kind : c < first_name_role → use_kind c s u ≡ use_at b c s u
  unfolding use_at chosen
  place_kind l = sym (rw (lt-ltb c first_name_role l) refl)

  module _ (l : first_name_role ≤ c) where
    pub place_name : c < first_type_role → use_name b (naming_at c) (name_of s) u ≡ use_at b c s u
    unfolding use_at chosen
    place_name h = sym (rw (le-ltb c first_name_role l, lt-ltb c first_type_role h) refl)

    module _ (m : first_type_role ≤ c) where
      pub place_type : c < first_part_role → use_type b (typed_at c) (type_here (number_at c) s) u ≡ use_at b c s u
      unfolding use_at chosen
      place_type h = sym (rw (le-ltb c first_name_role l, le-ltb c first_type_role m, lt-ltb c first_part_role h) refl)

      pub place_part : first_part_role ≤ c → use_part (part_at c) u ≡ use_at b c s u
      unfolding use_at chosen
      place_part h = sym (rw (le-ltb c first_name_role l, le-ltb c first_type_role m, le-ltb c first_part_role h) refl)

  pub place_none : c ≡ 0 → some u ≡ chosen (eqb c 0) (some u) (use_at b c s u)
  unfolding chosen
  place_none e = sym (rw (eq-eqb c 0 e) refl)

  pub place_some : (c ≡ 0 → ⊥) → use_at b c s u ≡ chosen (eqb c 0) (some u) (use_at b c s u)
  unfolding chosen
  place_some n = sym (rw (ne_eqb c 0 n) refl)

-- Roles that leave the pass as it is ---------------------------------------------------------------

pub quiet_kind : (c : ℕ) → c < int_kind → (c ≡ semicolon_kind → ⊥) → Quiet c
unfolding use_kind chosen
quiet_kind c h n b s u =
    let i : c ≡ int_kind → ⊥ = λ e. omega (arith, e, h) in
    let j : c ≡ nat_kind → ⊥ = λ e. omega (arith, e, h) in
    let k : some u ≡ use_kind c s u = sym (rw (ne_eqb c semicolon_kind n, ne_eqb c int_kind i, ne_eqb c nat_kind j) refl) in
    k ∙ place_kind b c s u (omega (arith, h))

pub quiet_part : (c : ℕ) → first_part_role ≤ c → c < body_close_role → (c ≡ args_close_role → ⊥) → (c ≡ no_args_close_role → ⊥) → Quiet c
quiet_part c h k m n b s u =
    part_quiet u c h m n (λ e. omega (arith, e, k)) (λ e. omega (arith, e, k)) (λ e. omega (arith, e, k)) (λ e. omega (arith, e, k))
    ∙ place_part b c s u (omega (arith, h)) (omega (arith, h)) h

-- The loop ---------------------------------------------------------------------------------------

-- i places were passed: what is left leads to what the whole leads to
pub record Reached (x roles t l₀ k₀ m₀ l k m : List ℕ) (c : Scope) (n i : ℕ) : Type 0 where
  pub inner : i ≤ length roles
  pub room : Roomy t l c
  pub low : c.dues + c.bodies ≤ i
  pub few : n ≤ i
  pub locals : length l ≡ length l₀
  pub stack : length k ≡ length k₀
  pub numbers : length m ≡ length m₀
  pub whole : uses_at (book_in x t) (drop i x) (drop i roles) (use_in x l k c (held m n)) ≡ uses_at (book_in x t) x roles use_start
  pub stop : i + stops_at (book_in x t) (drop i x) (drop i roles) (use_in x l k c (held m n)) ≡ stops_at (book_in x t) x roles use_start

abbrev pub first_scope : Scope
first_scope = record { begun = 0; met = 0; living = 0; fresh = 0; typ = 0; dues = 0; bodies = 0 }

module _ (x roles t l₀ k₀ m₀ : List ℕ) where
  start_use : use_in x l₀ k₀ first_scope (held m₀ 0) ≡ use_start
  unfolding use_in held
  start_use =
      let e : length k₀ - (length k₀ - 0) ≡ 0 = omega arith in
      let f : up_to k₀ (length k₀) 0 ≡ [] = ap (λ z. take z (drop (length k₀ - 0) k₀)) e in
      rw f refl

  pub reached_start : length l₀ ≡ bytes_end → Reached x roles t l₀ k₀ m₀ l₀ k₀ m₀ first_scope 0 0
  reached_start h =
      record {
        inner = omega arith;
        room =
            record { long = h; begun = omega arith; met = omega arith; living = omega arith; fresh = omega arith; small = λ i g j. absurd (omega arith) };
        low = omega arith;
        few = omega arith;
        locals = refl;
        stack = refl;
        numbers = refl;
        whole = ap (λ u. uses_at (book_in x t) x roles u) start_use;
        stop =
            let w : stops_at (book_in x t) (drop 0 x) (drop 0 roles) (use_in x l₀ k₀ first_scope (held m₀ 0)) ≡ stops_at (book_in x t) x roles use_start =
            ap (λ u. stops_at (book_in x t) x roles u) start_use in
            omega (arith, w);
      }

  module _ (same : length roles ≡ length x) {l k m : List ℕ} {c : Scope} {n i : ℕ} (r : Reached x roles t l₀ k₀ m₀ l k m c n i) where
    abbrev book : Book
    book = book_in x t

    abbrev used : Use
    used = use_in x l k c (held m n)

    module _ (inside : i < length roles) where
      here : (s : List ℕ) → i < length s → drop i s ≡ get_or s i 0 ∷ drop (i + 1) s
      here s h = drop-cons s i 0 h ∙ ap (λ z. get_or s i 0 ∷ drop z s) (sym (add-one i))

      one_place : uses_at book (drop i x) (drop i roles) used
          ≡ then (chosen (eqb (get_or roles i 0) 0) (some used) (use_at book (get_or roles i 0) (drop i x) used)) (uses_at book (drop (i + 1) x)
          (drop (i + 1) roles))
      unfolding uses_at
      one_place =
          let e = here x (omega (arith, inside, same)) in
          let f = here roles inside in
          ap (λ s. uses_at book s (drop i roles) used) e ∙ ap (λ s. uses_at book (get_or x i 0 ∷ drop (i + 1) x) s used) f
          ∙ ap
          (λ s. then (chosen (eqb (get_or roles i 0) 0) (some used) (use_at book (get_or roles i 0) s used)) (uses_at book (drop (i + 1) x) (drop (i + 1) roles)))
          (sym e)

      one_stop : stops_at book (drop i x) (drop i roles) used
          ≡ counts_on (chosen (eqb (get_or roles i 0) 0) (some used) (use_at book (get_or roles i 0) (drop i x) used)) (stops_at book (drop (i + 1) x)
          (drop (i + 1) roles))
      unfolding stops_at
      one_stop =
          let e = here x (omega (arith, inside, same)) in
          let f = here roles inside in
          ap (λ s. stops_at book s (drop i roles) used) e ∙ ap (λ s. stops_at book (get_or x i 0 ∷ drop (i + 1) x) s used) f
          ∙ ap
          (λ s. counts_on (chosen (eqb (get_or roles i 0) 0) (some used) (use_at book (get_or roles i 0) s used))
          (stops_at book (drop (i + 1) x) (drop (i + 1) roles)))
          (sym e)

      -- what is passed at a place, as the code says it
      module _ (l' k' : List ℕ) (p : Passed)
          (e : (o : List ℕ) → passed_in x l' k' p o
          ≡ chosen (eqb (get_or roles i 0) 0) (some (use_in x l k c o)) (use_at book (get_or roles i 0) (drop i x) (use_in x l k c o)))
          (g : Next t l' c p) (h : (length k' ≡ length k) × (length l' ≡ length l)) where
        next_place : (q : Passed) → p ≡ q
            → then (passed_in x l' k' q (held m n)) (uses_at book (drop (i + 1) x) (drop (i + 1) roles)) ≡ uses_at book x roles use_start
        next_place q f =
            ap (λ z. then z (uses_at book (drop (i + 1) x) (drop (i + 1) roles))) (ap (λ z. passed_in x l' k' z (held m n)) (sym f) ∙ e (held m n))
            ∙ sym one_place ∙ r.whole

        next_stop : (q : Passed) → p ≡ q
            → i + counts_on (passed_in x l' k' q (held m n)) (stops_at book (drop (i + 1) x) (drop (i + 1) roles)) ≡ stops_at book x roles use_start
        next_stop q f =
            ap (λ z. i + counts_on z (stops_at book (drop (i + 1) x) (drop (i + 1) roles)))
            (ap (λ z. passed_in x l' k' z (held m n)) (sym f) ∙ e (held m n))
            ∙ ap (λ z. i + z) (sym one_stop) ∙ r.stop

        pub stopped_here : p ≡ None → i ≡ stops_at book x roles use_start
        unfolding passed_in counts_on
        stopped_here f = let w : i + 0 ≡ stops_at book x roles use_start = next_stop None f in omega (arith, w)

        pub reached_stop : (m' : List ℕ) (o : NoProgram) → p ≡ None → numbered_in m' (Err o) ≡ used_out (uses_at book x roles use_start)
        unfolding passed_in then numbered_in used_out
        reached_stop m' o f = ap used_out (next_place None f)

        pub reached_on : {d : Scope} → p ≡ onward d → Reached x roles t l₀ k₀ m₀ l' k' m d n (i + 1)
        unfolding passed_in then Next counts_on
        reached_on {d} f =
            let a : Roomy t l' d × (d.dues + d.bodies ≤ c.dues + c.bodies + 1) = rw f at g in
            record {
              inner = omega arith;
              room = a.0;
              low = omega (arith, a.1, r.low);
              few = omega (arith, r.few);
              locals = h.1 ∙ r.locals;
              stack = h.0 ∙ r.stack;
              numbers = r.numbers;
              whole = next_place (onward d) f;
              stop =
                  let w : i + suc (stops_at book (drop (i + 1) x) (drop (i + 1) roles) (use_in x l' k' d (held m n))) ≡ stops_at book x roles use_start =
                  next_stop (onward d) f in
                  omega (arith, w);
            }

        pub reached_left : {d : Scope} {v : ℕ} → length roles ≤ length m₀ → p ≡ leaves d v → Reached x roles t l₀ k₀ m₀ l' k' (set m n v) d (n + 1) (i + 1)
        unfolding passed_in then Next counts_on
        reached_left {d} {v} fits f =
            let a : Roomy t l' d × (d.dues + d.bodies ≤ c.dues + c.bodies + 1) = rw f at g in
            let b : held (set m n v) (n + 1) ≡ v ∷ held m n = held_push m n v (omega (arith, fits, r.numbers, r.few, inside)) in
            record {
              inner = omega arith;
              room = a.0;
              low = omega (arith, a.1, r.low);
              few = omega (arith, r.few);
              locals = h.1 ∙ r.locals;
              stack = h.0 ∙ r.stack;
              numbers = length-set m n v ∙ r.numbers;
              whole =
                  ap (λ z. uses_at book (drop (i + 1) x) (drop (i + 1) roles) (use_in x l' k' d z)) b ∙ next_place (leaves d v) f;
              stop =
                  let w : i + suc (stops_at book (drop (i + 1) x) (drop (i + 1) roles) (use_in x l' k' d (v ∷ held m n))) ≡ stops_at book x roles use_start =
                  next_stop (leaves d v) f in
                  let s = ap (λ z. stops_at book (drop (i + 1) x) (drop (i + 1) roles) (use_in x l' k' d z)) b in
                  omega (arith, w, s);
            }

    pub reached_end : length roles ≤ i → numbered_in m (Ok n) ≡ used_out (uses_at book x roles use_start)
    unfolding numbered_in used_out then uses_at use_in
    reached_end h =
        let e : drop i x ≡ [] = drop_of_length-le x {i = i} (omega (arith, h, same)) in
        ap used_out (sym (ap (λ s. uses_at book s (drop i roles) used) e) ∙ r.whole)

    pub stopped_end : length roles ≤ i → length roles ≡ stops_at book x roles use_start
    unfolding stops_at
    stopped_end h =
        let e : drop i x ≡ [] = drop_of_length-le x {i = i} (omega (arith, h, same)) in
        let w : i + stops_at book [] (drop i roles) used ≡ stops_at book x roles use_start =
        ap (λ s. i + stops_at book s (drop i roles) used) (sym e) ∙ r.stop in
        omega (arith, w, h, r.inner)
