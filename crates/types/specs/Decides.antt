-- What a test reflects, by its two halves: a proof where it is true, a refutation where it is false.
use Rattle.std.specs.Prelude.{ℕ, ◌≤◌, ◌≡◌, refl, Bool, true, false, ◌&&◌, eqb, leb}
use Rattle.std.proofs.Common.{true≢false}
use Rattle.std.proofs.lemmas.Bool.{false≢true}
use Rattle.types.specs.Reflects.{Reflects, Reflects.holds as so, Reflects.fails as not_so, reflects_iff, reflects_map, reflects_both}
use Rattle.types.specs.Reflects.{le_reflects, eq_reflects}

pub record Decides (t : Bool) (P : Type 0) : Type 0 where
  pub holds : t ≡ true → P
  pub fails : t ≡ false → P → ⊥

pub decided : {P : Type 0} {t : Bool} → Reflects P t → Decides t P
decided (so a) = record { holds = λ e. a; fails = λ e. absurd (true≢false e) }
decided (not_so f) = record { holds = λ e. absurd (false≢true e); fails = λ e. f }

pub reflected : {P : Type 0} (t : Bool) → Decides t P → Reflects P t
reflected true d = so (d.holds refl)
reflected false d = not_so (d.fails refl)

pub decides_both : (s t : Bool) {P Q : Type 0} → Decides s P → Decides t Q → Decides (s && t) (P × Q)
decides_both s t p q = decided (reflects_both (reflected s p) (reflected t q))

pub decides_eqb : (a b : ℕ) → Decides (eqb a b) (a ≡ b)
decides_eqb a b = decided (eq_reflects a b)

pub decides_leb : (a b : ℕ) → Decides (leb a b) (a ≤ b)
decides_leb a b = decided (le_reflects a b)

pub decides_as : {t : Bool} {P Q : Type 0} → Decides t P → (P → Q) → (Q → P) → Decides t Q
decides_as {t} d to from = decided (reflects_map to from (reflected t d))

pub is_true : {t : Bool} {P : Type 0} → Decides t P → P → t ≡ true
is_true {t} d p = (reflects_iff (reflected t d)).1 p
