-- The number of a program that is read is that of the first condition that it breaks (01, 'Numbers from the input').
use Rattle.std.specs.Prelude.{ℕ, Bool, true, false, not, ◌↔◌, ◌≡◌}
use Rattle.std.proofs.Math.Path.{refl}
use Rattle.std.proofs.Common.{arith}
use Rattle.program.specs.Tree.{Program}
use Rattle.types.specs.Reflects.{Reflects, Reflects.holds, Reflects.fails}
use Rattle.program.specs.Counts.{Counts}
use Rattle.commands.specs.Accepted.{Accepted}
use Rattle.commands.specs.Bounds.{Within}
use Rattle.commands.specs.Names.{NamesRight}
use Rattle.commands.specs.Typing.{TypesRight}
use Rattle.commands.proofs.Decide.BoundsDecideLaws.{within_reflects}
use Rattle.commands.proofs.Decide.NamesDecideLaws.{names_reflects}
use Rattle.commands.proofs.Decide.TypingDecideLaws.{types_reflects}
use Rattle.commands.specs.Numbers.{no_breach, first, over_limits, wrong_names, wrong_types, breach_tests, breach_number}

-- the number by the three tests
abbrev outcome : Bool → Bool → Bool → ℕ
outcome a b c = elim (not a) [
  | true ↦ over_limits
  | false ↦ elim (not b) [ true ↦ wrong_names | false ↦ elim (not c) [ true ↦ wrong_types | false ↦ no_breach ] ]
]

-- two that hold, and two that fail, are equivalent
yes_yes : {A B : Type 0} → A → B → A ↔ B
yes_yes a b = (λ x. b, λ y. a)

no_no : {A B : Type 0} → (A → ⊥) → (B → ⊥) → A ↔ B
no_no f g = (λ x. absurd (f x), λ y. absurd (g y))

module _ (p : Program) where
  -- 0 comes out exactly where a program keeps to the limits and its names and types are right
  pub number_accepted : (breach_number p ≡ no_breach) ↔ (Within p × NamesRight p × TypesRight p)
  unfolding breach_number first breach_tests
  number_accepted = go (within_reflects p) (names_reflects p) (types_reflects p)
    where
      go : {a b c : Bool} → Reflects (Within p) a → Reflects (NamesRight p) b → Reflects (TypesRight p) c
          → (outcome a b c ≡ no_breach) ↔ (Within p × NamesRight p × TypesRight p)
      go (holds x) (holds y) (holds z) = yes_yes refl (x, y, z)
      go (holds x) (holds y) (fails h) = no_no (λ e. omega arith) (λ q. h q.2)
      go (holds x) (fails g) t = no_no (λ e. omega arith) (λ q. g q.1)
      go (fails f) s t = no_no (λ e. omega arith) (λ q. f q.0)

  -- so one that keeps to the counts is accepted exactly where its number is 0
  pub number_accepts : Counts p → (breach_number p ≡ no_breach) ↔ Accepted p
  number_accepts c =
      (λ e. let (w, n, t) = number_accepted.0 e in (c, w, n, t), λ a. number_accepted.1 (a.1, a.2, a.3))

  -- 6 exactly where it breaks a limit
  pub number_limits : (breach_number p ≡ over_limits) ↔ (Within p → ⊥)
  unfolding breach_number first breach_tests
  number_limits = go (within_reflects p) (names_reflects p) (types_reflects p)
    where
      go : {a b c : Bool} → Reflects (Within p) a → Reflects (NamesRight p) b → Reflects (TypesRight p) c
          → (outcome a b c ≡ over_limits) ↔ (Within p → ⊥)
      go (holds x) (holds y) (holds z) = no_no (λ e. omega arith) (λ q. q x)
      go (holds x) (holds y) (fails h) = no_no (λ e. omega arith) (λ q. q x)
      go (holds x) (fails g) t = no_no (λ e. omega arith) (λ q. q x)
      go (fails f) s t = yes_yes refl f

  -- 7 exactly where it keeps to them and a name is wrong
  pub number_names : (breach_number p ≡ wrong_names) ↔ (Within p × (NamesRight p → ⊥))
  unfolding breach_number first breach_tests
  number_names = go (within_reflects p) (names_reflects p) (types_reflects p)
    where
      go : {a b c : Bool} → Reflects (Within p) a → Reflects (NamesRight p) b → Reflects (TypesRight p) c
          → (outcome a b c ≡ wrong_names) ↔ (Within p × (NamesRight p → ⊥))
      go (holds x) (holds y) (holds z) = no_no (λ e. omega arith) (λ q. q.1 y)
      go (holds x) (holds y) (fails h) = no_no (λ e. omega arith) (λ q. q.1 y)
      go (holds x) (fails g) t = yes_yes refl (x, g)
      go (fails f) s t = no_no (λ e. omega arith) (λ q. f q.0)

  -- 8 exactly where limits and names are right and a type is wrong
  pub number_types : (breach_number p ≡ wrong_types) ↔ (Within p × NamesRight p × (TypesRight p → ⊥))
  unfolding breach_number first breach_tests
  number_types = go (within_reflects p) (names_reflects p) (types_reflects p)
    where
      go : {a b c : Bool} → Reflects (Within p) a → Reflects (NamesRight p) b → Reflects (TypesRight p) c
          → (outcome a b c ≡ wrong_types) ↔ (Within p × NamesRight p × (TypesRight p → ⊥))
      go (holds x) (holds y) (holds z) = no_no (λ e. omega arith) (λ q. q.2 z)
      go (holds x) (holds y) (fails h) = yes_yes refl (x, y, h)
      go (holds x) (fails g) t = no_no (λ e. omega arith) (λ q. g q.1)
      go (fails f) s t = no_no (λ e. omega arith) (λ q. f q.0)
