-- The ways through the code by which a step begins (000's rules InitG and InitL).
use Prim.Native.Nat.{ℕ, suc, ◌+◌, ◌-◌, ◌%◌, ◌<◌, ◌≤◌}
use Rattle.std.specs.Prelude.{◌≡◌, refl, Bool, true, false, List, get_or, eqb}
use Rattle.std.proofs.Common.{sym, ◌∙◌, eqb-true, le-leb, eq-eqb, ne_eqb}
use native.Mathlib.Omega.{arith}
use Rattle.std.proofs.Math.Numerals.{add-one}
use Rattle.std.proofs.lemmas.Bool.{eqb-false, lt-leb}
use Rattle.types.specs.Limits.{step_names}
use Rattle.layout.specs.Layout.{head, struct_of, begun}
use Rattle.memory.specs.Plan.{span_of, from, to}
use Rattle.memory.specs.Move.{means, begin_one, begin_all}
use Rattle.memory.proofs.Laws.BeginLaws.{begins, begun_struct, one_begins, one_stays, one_length, one_others}
use Rattle.scheduler.specs.Ready.{Row, Rows}
use Prim.Native.Nat.{◌/◌}

-- One instance -------------------------------------------------------------------

-- the code names no struct, or one
pub means_any : (c k : ℕ) → c / step_names ≡ 0 → means c k ≡ true
means_any c k h = rw (eq-eqb (c / step_names) 0 h)

pub means_named : (c k : ℕ) → (c / step_names ≡ 0 → ⊥) → eqb (c / step_names) (k + 1) ≡ means c k
means_named c k h = rw (add-one k, ne_eqb (c / step_names) 0 h)

module _ (spans : List ℕ) (c : ℕ) (heads : List ℕ) (l : ℕ) where
  abbrev k₀ : ℕ
  k₀ = get_or heads (head l struct_of) 0

  -- its struct, as it was read
  module _ {k : ℕ} (read : k ≡ k₀) where
    abbrev a₀ : ℕ
    a₀ = from spans k (c % step_names)

    abbrev e₀ : ℕ
    e₀ = get_or spans (span_of k (c % step_names) + 1) 0

    ends : e₀ ≡ to spans k (c % step_names)
    ends = rw add-one

    pub one_not_meant : means c k ≡ false → begin_one spans c heads l ≡ heads
    one_not_meant m = one_stays spans c heads l (sym read) (rw m)

    pub one_without : means c k ≡ true → e₀ < a₀ → begin_one spans c heads l ≡ heads
    one_without m h =
        let t = lt-leb a₀ (to spans k (c % step_names)) (rw ends at h) in
        one_stays spans c heads l (sym read) (rw (m, t))

    pub one_with : means c k ≡ true → a₀ ≤ e₀ → begin_one spans c heads l ≡ begun heads l a₀ e₀
    one_with m h =
        let t = le-leb a₀ (to spans k (c % step_names)) (rw ends at h) in
        one_begins spans c heads l (sym read) (rw (m, t)) ∙ rw ends

  -- no instance changes its struct
  one_struct : (j : ℕ) → get_or (begin_one spans c heads l) (head j struct_of) 0 ≡ get_or heads (head j struct_of) 0
  one_struct j = go (eqb j l) refl
    where
      own : (t : Bool) → begins spans c k₀ ≡ t → get_or (begin_one spans c heads l) (head l struct_of) 0 ≡ k₀
      own true t = rw (one_begins spans c heads l refl t) (begun_struct heads l (from spans k₀ (c % step_names)) (to spans k₀ (c % step_names)))
      own false t = rw (one_stays spans c heads l refl t)

      go : (t : Bool) → eqb j l ≡ t → get_or (begin_one spans c heads l) (head j struct_of) 0 ≡ get_or heads (head j struct_of) 0
      go true t = rw (eqb-true j l t) (own (begins spans c k₀) refl)
      go false t = sym (one_others spans c heads l j (eqb-false j l t) struct_of (omega arith))

  pub one_rows : {n : ℕ} → Rows heads n → Rows (begin_one spans c heads l) n
  one_rows r = record { long = rw (one_length spans c heads l) r.long; known = λ j h. rw (one_struct j) (r.known j h) }

-- All of them --------------------------------------------------------------------

pub row_of : {heads : List ℕ} {n l : ℕ} → Rows heads n → l < n → Row heads l
row_of {heads} {n} {l} r h = let a = r.long in record { long = omega arith; known = r.known l h }

module _ (spans : List ℕ) (c : ℕ) (heads : List ℕ) (n l : ℕ) where
  pub all_done : n ≤ l → begin_all spans c heads l (n - l) ≡ heads
  unfolding begin_all
  all_done h = let z : n - l ≡ 0 = omega arith in rw z

  pub all_next : l < n → begin_all spans c heads l (n - l) ≡ begin_all spans c (begin_one spans c heads l) (l + 1) (n - (l + 1))
  unfolding begin_all
  all_next h = let z : n - l ≡ suc (n - (l + 1)) = omega arith in rw (z, add-one l)
