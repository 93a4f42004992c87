-- The counting as it is done (02 §14): one where nobody holds commands, else the sum over the holders, each of which takes its next command.
use Rattle.std.specs.Prelude.{ℕ, zero, suc, Bool, true, false, List, [], ◌∷◌}
use Rattle.std.proofs.Math.Option.{Option, none, some}
use Rattle.std.proofs.Math.ListN.{get_elem?}
use Rattle.types.specs.Values.{Val, Val.int_val, Val.nat_val, Val.bool_val, Val.label}
use Rattle.program.specs.Tree.{Program}
use Rattle.machine.specs.Published.{lookup}
use Rattle.machine.specs.Machine.{Instance, Machine, Out, Out.next, Out.refused, Out.stuck, command}
use Rattle.machine.specs.Measure.{codes}
use Rattle.run.specs.Turns.{labels_from}
use Rattle.run.specs.Holders.{flags}
use Rattle.counts.specs.Numbers.{sum}

-- what is counted: sequences that end with this truth in the place asked about, or that stop
pub data Kind : Type 0 where
  ends : Bool → Kind
  stops : Kind

-- the value of variable v of an instance, where both are there
unfoldable pub value_in : ℕ → Option Instance → Option Val
value_in v none = none
value_in v (some i) = lookup i.env v

abbrev pub value_at : Machine → ℕ → ℕ → Option Val
value_at m l v = value_in v (get_elem? m.instances l)

-- one where the value is this truth
unfoldable pub one_if : Bool → Option Val → ℕ
one_if t none = 0
one_if t (some (int_val z)) = 0
one_if t (some (nat_val n)) = 0
one_if true (some (bool_val true)) = 1
one_if true (some (bool_val false)) = 0
one_if false (some (bool_val true)) = 0
one_if false (some (bool_val false)) = 1
one_if t (some (label r)) = 0

-- nobody holds commands: the empty sequence
unfoldable pub at_rest : Kind → Option Val → ℕ
at_rest (ends t) x = one_if t x
at_rest stops x = 0

-- a refused command: the sequence of its label
unfoldable pub at_refusal : Kind → ℕ
at_refusal (ends t) = 0
at_refusal stops = 1

-- what a command comes to: the sequences of the next machine, by f
unfoldable pub after : Kind → (Machine → ℕ) → Out → ℕ
after κ f (next m) = f m
after κ f (refused n) = at_refusal κ
after κ f stuck = 0

-- the labels that hold commands, in their order
abbrev pub holding : Machine → List ℕ
holding m = labels_from 0 (flags m.instances)

-- r where nobody holds commands, else the sum over those who do
unfoldable pub tally_by : (ℕ → ℕ) → ℕ → List ℕ → ℕ
tally_by f r [] = r
tally_by f r (h ∷ hs) = sum f (h ∷ hs)

-- of program p, with variable v of label l asked about; the fuel bounds the commands taken
unfoldable pub tally_with : ℕ → Program → ℕ → ℕ → Kind → Machine → ℕ
tally_with zero p l v κ m = 0
tally_with (suc f) p l v κ m =
    tally_by (λ h. after κ (λ m'. tally_with f p l v κ m') (command p h m)) (at_rest κ (value_at m l v)) (holding m)

-- enough fuel: one more than the commands held
unfoldable pub tally : Program → ℕ → ℕ → Kind → Machine → ℕ
tally p l v κ m = tally_with (suc (codes m.instances)) p l v κ m
