-- The machine that a run has come to after so many acts, commands and schedule moves (01, 'The words of demand 3').
use Prim.Native.Nat.{ℕ, zero, suc}
use Rattle.std.specs.Prelude.{◌≡◌, true, false}
use Rattle.std.proofs.Math.Path.{refl}
use Rattle.std.proofs.Common.{ap}
use mathlib.Core.List.{List, [], ◌∷◌}
use Rattle.program.specs.Tree.{Program}
use Rattle.machine.specs.Machine.{Machine, Out, Out.next, Out.refused, Out.stuck, Moved, Moved.next, Moved.stuck, command, move}
use Rattle.run.specs.Turns.{chosen}
use Rattle.run.specs.Holders.{holders, due}
use Rattle.run.proofs.Laws.TurnLaws.{due_none, some_due}
use Rattle.run.specs.Steps.{Steps.here, Steps.silent, Steps.reads}
use Rattle.run.specs.Visits.{Acts.moves, Acts.takes, Visits}

-- on from where a command leads; where it leads nowhere, the run stays
unfoldable pub onward : (Machine → Machine) → Machine → Out → Machine
onward k m (next z) = k z
onward k m (refused n) = m
onward k m stuck = m

-- an act of a machine with these holders
unfoldable pub act_on : Program → (Machine → List ℕ → Machine) → Machine → List ℕ → List ℕ → Machine
act_on p k m [] es = elim (move p m) [ next z ↦ k z es | stuck ↦ m ]
act_on p k m (h ∷ hs) [] = m
act_on p k m (h ∷ hs) (e ∷ es) = onward (λ z. k z es) m (command p (chosen (h ∷ hs) e) m)

unfoldable pub after : Program → ℕ → Machine → List ℕ → Machine
after p zero m es = m
after p (suc k) m es = act_on p (λ z fs. after p k z fs) m (holders m) es

module _ (p : Program) where
  -- it is one that the run passes through, with some bytes left
  abbrev Visited : Machine → List ℕ → Machine → Type 0
  Visited m es z = (fs : List ℕ) × Visits p m es z fs

  -- an act, and on by k
  module _ (k : Machine → List ℕ → Machine) (on : (z : Machine) (es : List ℕ) → Visited z es (k z es)) (m : Machine) where
    moved : (es : List ℕ) → due m ≡ true → (o : Moved) → move p m ≡ o → Visited m es (elim o [ next z ↦ k z es | stuck ↦ m ])
    moved es q (next z) c = let (fs, (t, v)) = on z es in (fs, (t, silent (moves q c) v))
    moved es q stuck c = (es, (0, here))

    taken : (e : ℕ) (es : List ℕ) → due m ≡ false → (o : Out) → command p (chosen (holders m) e) m ≡ o
        → Visited m (e ∷ es) (onward (λ z. k z es) m o)
    unfolding onward
    taken e es q (next z) c = let (fs, (t, v)) = on z es in (fs, (suc t, reads (takes q c) v))
    taken e es q (refused n) c = (e ∷ es, (0, here))
    taken e es q stuck c = (e ∷ es, (0, here))

    acted : (hs es : List ℕ) → holders m ≡ hs → Visited m es (act_on p k m hs es)
    unfolding act_on
    acted [] es q = moved es ((due_none m).1 q) (move p m) refl
    acted (h ∷ hs) [] q = ([], (0, here))
    acted (h ∷ hs) (e ∷ es) q =
        taken e es (some_due m q) (command p (chosen (h ∷ hs) e) m) (ap (λ l. command p (chosen l e) m) q)

  pub after_visited : (k : ℕ) (m : Machine) (es : List ℕ) → (fs : List ℕ) × Visits p m es (after p k m es) fs
  unfolding after
  after_visited zero m es = (es, (0, here))
  after_visited (suc k) m es = acted (λ z fs. after p k z fs) (λ z fs. after_visited k z fs) m (holders m) es refl
