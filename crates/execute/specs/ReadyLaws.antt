-- What the next command of an instance needs is at hand where `Fit` holds (01, 'The words of demand 3').
use Rattle.std.specs.Prelude.{ℕ, ◌%◌, ◌<◌, ◌≤◌, Bool, true, false, List, eqb}
use Rattle.std.proofs.Common.{arith}
use Rattle.types.specs.Limits.{max_instances}
use Rattle.layout.specs.Layout.{operand}
use Rattle.layout.specs.State.{State}
use Rattle.memory.specs.Act.{top, next_word}
use Rattle.memory.specs.Fit.{Needed, Fit}
use Rattle.execute.specs.Ready.{memory, Ready}

-- one of two things, by a test
abbrev One : Bool → Type 0 → Type 0 → Type 0
One t A B = elim t [ true ↦ A | false ↦ B ]

by : (t : Bool) {A B C D : Type 0} → (A → C) → (B → D) → One t A B → One t C D
by true f g x = f x
by false f g x = g x

module _ (counts : List ℕ) (l : ℕ) (z : State) (few : z.machine.count ≤ max_instances) where
  -- of the state, what a command needs is in heads and cells
  needed_there : (k v : ℕ) → Needed counts l z k v → Needed counts l (memory z.heads z.cells) k v
  needed_there k v =
      by (eqb k 1) (λ q. q)
      (by (eqb k 2) (λ q. q)
      (by (eqb k 3)
      (λ q.
      let t : operand (top counts l z) < z.machine.count = q.target in
      record { one = q.one; low = q.low; target = omega arith; var = q.var })
      (by (eqb k 4)
      (λ q.
      let t : operand (top counts l z) < z.machine.count = q.target in
      record { two = q.two; low = q.low; target = omega arith; var = q.var; struct = q.struct })
      (λ q. q))))

pub ready : (list counts : List ℕ) (l : ℕ) (z : State) → Fit list counts l z
    → Ready counts z.heads z.cells l z.machine.count (next_word list z l)
ready list counts l z f = record {
  room = record {
    chosen = let a : l < z.machine.count = f.chosen in let b : z.machine.count ≤ max_instances = f.few in omega arith;
    heads_long = f.heads_long;
    cells_long = f.cells_long;
    next = f.next;
  };
  among = f.chosen;
  least = f.least;
  greatest = f.greatest;
  needed = needed_there counts l z f.few (next_word list z l % 256) (operand (next_word list z l)) f.needed;
}
