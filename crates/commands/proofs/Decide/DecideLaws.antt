-- What the tests of Decide decide.
use Rattle.std.specs.Prelude.{ℕ, Bool, ◌||◌, ◌≡◌}
use mathlib.Core.List.Memᴰ
use mathlib.Core.List.{List, [], ◌∷◌, Memᴰ}
use Rattle.std.proofs.Common.{inl, inr}
use Rattle.program.specs.Counts.{All}
use Rattle.commands.specs.Names.{Once}
use Rattle.types.specs.Reflects.{Reflects, Reflects.holds, Reflects.fails, reflects_negation, reflects_both, eq_reflects}
use Rattle.commands.specs.Decide.{every, member, distinct}

-- where a test decides a condition, the test of every element decides the condition of every element
pub every_reflects : {A : Type 0} {C : A → Type 0} {f : A → Bool} → ((a : A) → Reflects (C a) (f a)) → (l : List A) → Reflects (All C l) (every f l)
unfolding every
every_reflects r [] = holds tt
every_reflects r (a ∷ l) = reflects_both (r a) (every_reflects r l)

-- Membership -----------------------------------------------------------------------

-- the membership test decides membership
pub member_reflects : (x : ℕ) (l : List ℕ) → Reflects (Memᴰ x l) (member x l)
unfolding member
member_reflects x [] = fails Memᴰ.not-nil
member_reflects x (y ∷ l) = go (eq_reflects x y) (member_reflects x l)
  where
    go : {a b : Bool} → Reflects (x ≡ y) a → Reflects (Memᴰ x l) b → Reflects (Memᴰ x (y ∷ l)) (a || b)
    go (holds e) r = holds (Memᴰ.head e)
    go (fails f) (holds m) = holds (Memᴰ.tail m)
    go (fails f) (fails g) = fails (λ m. elim (Memᴰ.cases_cons m) [ inl e ↦ f e | inr n ↦ g n ])

-- the test for repetition decides whether each stands once
pub once_reflects : (l : List ℕ) → Reflects (Once l) (distinct l)
unfolding distinct
once_reflects [] = holds tt
once_reflects (x ∷ l) = reflects_both (reflects_negation (member_reflects x l)) (once_reflects l)
