-- The machines of a run follow one another: of two that it passes through, one leads to the other (01, 'The words of demand 3').
use Rattle.std.specs.Prelude.{ℕ, ◌≡◌, ◌⊎◌, List}
use Rattle.std.proofs.Common.{arith}
use Rattle.std.proofs.Math.Option.{Option, none, some}
use Rattle.program.specs.Tree.{Program}
use Rattle.machine.specs.Machine.{Machine}
use Rattle.run.proofs.Laws.StepsLaws.{steps_one_way}
use Rattle.run.specs.Visits.{Acts, Acts.moves, Acts.takes, Visits}

module _ (p : Program) where
  -- a machine makes one step at most
  acts_one : {m d d' : Machine} {a : Option ℕ} → Acts p m a d → Acts p m a d' → d ≡ d'
  acts_one (moves g e) (moves h c) = cc
  acts_one (takes g e) (takes h c) = cc

  acts_apart : {m d d' : Machine} {e : ℕ} → Acts p m none d → Acts p m (some e) d' → ⊥
  acts_apart (moves g e) (takes h c) = let z : ◌≡◌ {A = ℕ} 0 1 = cc in omega arith

  -- of two machines that a run passes through, the first leads to the second or the second to the first
  pub one_way : {m z : Machine} {es fs : List ℕ} → Visits p m es z fs → (w : Machine) (gs : List ℕ) → Visits p m es w gs
      → (Visits p z fs w gs) ⊎ (Visits p w gs z fs)
  one_way (t, v) w gs (u, x) = steps_one_way (λ c d d' a s r. acts_one s r) (λ c d d' e s r. acts_apart s r) v x
