-- The counting by its steps (02 §14): with any fuel that is enough it comes to the same, so that a machine's count is the sum over its holders of the
-- counts of the machines that their commands lead to.
use Prim.Native.Nat.{ℕ, zero, suc, ◌+◌, ◌<◌}
use Rattle.std.proofs.Common.{arith, ap₂}
use Rattle.std.specs.Prelude.{◌≡◌, refl, List, [], ◌∷◌}
use Rattle.program.specs.Tree.{Program}
use Rattle.machine.specs.Machine.{Machine, Out, Out.next, Out.refused, Out.stuck, command}
use Rattle.machine.specs.Measure.{codes}
use Rattle.machine.proofs.Laws.MeasureLaws.{command_shortens}
use Rattle.counts.specs.Numbers.{sum}
use Rattle.counts.specs.Tally.{Kind, value_at, at_rest, after, holding, tally_by, tally_with, tally}

sum_same : (f g : ℕ → ℕ) → ((h : ℕ) → f h ≡ g h) → (hs : List ℕ) → sum f hs ≡ sum g hs
unfolding sum
sum_same f g e [] = refl
sum_same f g e (h ∷ hs) = ap₂ (λ a b. a + b) (e h) (sum_same f g e hs)

by_same : (f g : ℕ → ℕ) (r : ℕ) → ((h : ℕ) → f h ≡ g h) → (hs : List ℕ) → tally_by f r hs ≡ tally_by g r hs
unfolding tally_by
by_same f g r e [] = refl
by_same f g r e (h ∷ hs) = sum_same f g e (h ∷ hs)

after_same : (κ : Kind) (F G : Machine → ℕ) (o : Out) → ((m : Machine) → o ≡ next m → F m ≡ G m) → after κ F o ≡ after κ G o
unfolding after
after_same κ F G (next m) e = e m refl
after_same κ F G (refused n) e = refl
after_same κ F G stuck e = refl

module _ (p : Program) (l v : ℕ) (κ : Kind) where
  same_fuel : (f g : ℕ) (m : Machine) → codes m.instances < f → codes m.instances < g → tally_with f p l v κ m ≡ tally_with g p l v κ m
  unfolding tally_with
  same_fuel zero g m a b = absurd (omega (arith, a))
  same_fuel (suc f) zero m a b = absurd (omega (arith, b))
  same_fuel (suc f) (suc g) m a b =
      by_same (λ h. after κ (λ z. tally_with f p l v κ z) (command p h m)) (λ h. after κ (λ z. tally_with g p l v κ z) (command p h m))
      (at_rest κ (value_at m l v))
      (λ h.
      after_same κ (λ z. tally_with f p l v κ z) (λ z. tally_with g p l v κ z) (command p h m)
      (λ z e. let s = command_shortens p h m e in same_fuel f g z (omega (arith, a, s)) (omega (arith, b, s))))
      (holding m)

  -- what follows a command of instance h
  abbrev pub from_command : Machine → ℕ → ℕ
  from_command m h = after κ (λ z. tally p l v κ z) (command p h m)

  -- one where nobody holds commands, else the sum over the holders
  pub tally_steps : (m : Machine) → tally p l v κ m ≡ tally_by (from_command m) (at_rest κ (value_at m l v)) (holding m)
  unfolding tally tally_with
  tally_steps m =
      by_same (λ h. after κ (λ z. tally_with (codes m.instances) p l v κ z) (command p h m)) (from_command m) (at_rest κ (value_at m l v))
      (λ h.
      after_same κ (λ z. tally_with (codes m.instances) p l v κ z) (λ z. tally p l v κ z) (command p h m)
      (λ z e. same_fuel (codes m.instances) (suc (codes z.instances)) z (command_shortens p h m e) (omega arith)))
      (holding m)
