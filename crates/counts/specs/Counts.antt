-- How many orders of a started step end in which way (02 §14), by the published rules alone.
use Rattle.std.specs.Prelude.{ℕ, ◌≡◌, Bool, true, false, List, [], ◌∷◌, ◌++◌}
use Rattle.std.proofs.Math.Option.{some}
use Rattle.std.proofs.Math.ListN.{get_elem?}
use Rattle.types.specs.Values.{Val, Val.bool_val}
use Rattle.program.specs.Tree.{Program}
use Rattle.commands.specs.Commands.{Coms}
use Rattle.machine.specs.Published.{Env, lookup, Inst.inst, State, State.state}
use Rattle.orders.specs.Orders.{Ordered, Completes, Refused}
use Rattle.counts.specs.Numbers.{Number}

-- variable v of label l has the truth t
abbrev pub Is : State → ℕ → ℕ → Bool → Type 0
Is (state s σ b) l v t =
    (k : ℕ) × (c : Coms) × (χ : List Val) × (ξ : Env) × (get_elem? σ l ≡ some (inst k c χ ξ)) × (lookup ξ v ≡ some (bool_val t))

-- a sequence completes the step with that truth there
pub record Ends (p : Program) (st : State) (l v : ℕ) (t : Bool) (ls : List ℕ) : Type 0 where
  pub last : State
  pub completes : Completes p st ls last
  pub is : Is last l v t

-- a sequence stops: its last label is that of the command refused with 34 or 35, and those before it were taken
pub record Stops (p : Program) (st : State) (ls : List ℕ) : Type 0 where
  pub before : List ℕ
  pub label : ℕ
  pub last : State
  pub parts : ls ≡ before ++ label ∷ []
  pub taken : Ordered p st before last
  pub refused : Refused label last

-- "count the sequences of acting labels that complete it with a Bool parameter of a given label true, that complete it with it false, and that
-- stop with 34 or 35. Each sequence counts once, up to its end or stop, the label of the refused command included"
pub record Counts (p : Program) (st : State) (l v with_true with_false stopped : ℕ) : Type 0 where
  pub true_ones : Number (Ends p st l v true) with_true
  pub false_ones : Number (Ends p st l v false) with_false
  pub stops : Number (Stops p st) stopped
