-- What the code that counts promises (02 §14), of every program and machine that memory holds: the three counts, with memory as it was.
use Rattle.std.specs.Prelude.{ℕ, zero, suc, ◌+◌, ◌-◌, ◌≤◌, ◌≡◌, true, false, List, get_or, eqb}
use Rattle.std.proofs.Math.Option.{some}
use Rattle.std.proofs.Math.ListN.{get_elem?}
use Rattle.types.specs.Types.{Ty.bool}
use Rattle.program.specs.Tree.{Program}
use Rattle.commands.specs.Context.{params_of}
use Rattle.machine.specs.Published.{Sched}
use Rattle.machine.specs.Machine.{Instance, Machine}
use Rattle.sound.specs.Invariant.{Good}
use Rattle.sound.specs.Firm.{Firm}
use Rattle.layout.specs.Layout.{head, next_of, end_of, operand}
use Rattle.layout.specs.State.{State}
use Rattle.memory.specs.Frame.{Bounded}
use Rattle.memory.specs.Choose.{Kept, flags}
use Rattle.memory.specs.Stands.{Stands}
use Rattle.run.specs.Turns.{labels_from}
use Rattle.counts.specs.Numbers.{sum}
use Rattle.counts.specs.Tally.{Kind, Kind.ends, Kind.stops, tally}
use Rattle.counts.specs.CountEntry.{most_counted}
use Rattle.counts.proofs.Laws.TallySteps.{from_command}
use Rattle.counting.specs.declared.count.Asked.{Asked}
use Rattle.counting.specs.declared.count.Tally.{Tally}

-- Memory ---------------------------------------------------------------------------------

-- how many commands the n instances from l on hold
unfoldable pub commands_in : List ℕ → ℕ → ℕ → ℕ
commands_in heads l zero = 0
commands_in heads l (suc n) = (get_or heads (head l end_of) 0 - get_or heads (head l next_of) 0) + commands_in heads (suc l) n

-- counting looks at no schedule
abbrev pub AnyPlace : ℕ → Sched → Type 0
AnyPlace a s = Unit {0}

-- parameter v of label l is a Bool
pub record Truth (p : Program) (is : List Instance) (l v : ℕ) : Type 0 where
  pub instance : Instance
  pub there : get_elem? is l ≡ some instance
  pub typed : get_elem? (params_of p instance.struct) v ≡ some bool

-- memory z holds the machine m of a step of the program p, and what is asked about is a Bool
pub record Stood (p : Program) (counts list : List ℕ) (a : Asked) (m : Machine) (z : State) : Type 0 where
  pub firm : Firm p
  pub bounded : Bounded p counts
  pub good : Good p m
  pub stands : Stands list AnyPlace m z
  pub kept : Kept z
  pub truth : Truth p m.instances a.label a.parameter

-- there is such a program and such a machine, and its commands are few
pub record Countable (counts list : List ℕ) (a : Asked) (z : State) : Type 0 where
  pub program : Program
  pub machine : Machine
  pub stood : Stood program counts list a machine z
  pub few : commands_in z.heads 0 z.machine.count ≤ most_counted

-- Counts -----------------------------------------------------------------------------------

abbrev pub tallied : ℕ → ℕ → ℕ → Tally
tallied a b c = record { truths = a; falsehoods = b; stops = c }

-- of the cell asked about, where nobody holds commands
unfoldable pub rest_tally : ℕ → Tally
rest_tally c = elim (eqb (operand c) 1) [ true ↦ tallied 1 0 0 | false ↦ tallied 0 1 0 ]

-- the number of a kind
abbrev pub count_of : Kind → Tally → ℕ
count_of (ends true) r = r.truths
count_of (ends false) r = r.falsehoods
count_of stops r = r.stops

-- from memory z: all sequences
abbrev pub Tallies : List ℕ → List ℕ → Asked → State → Tally → Type 0
Tallies counts list a z r =
    (p : Program) (m : Machine) → Stood p counts list a m z → (κ : Kind) → count_of κ r ≡ tally p a.label a.parameter κ m

-- those whose first label is h
abbrev pub Follows : List ℕ → List ℕ → Asked → ℕ → State → Tally → Type 0
Follows counts list a h z r =
    (p : Program) (m : Machine) → Stood p counts list a m z → (κ : Kind) → count_of κ r ≡ from_command p a.label a.parameter κ m h

-- those from h on are left, of n instances: with them r has all
abbrev pub later : List ℕ → ℕ → ℕ → List ℕ
later heads h n = labels_from h (flags heads h (n - h))

abbrev pub Sums : List ℕ → List ℕ → Asked → State → ℕ → Tally → Type 0
Sums counts list a z h r =
    (p : Program) (m : Machine) → Stood p counts list a m z → (κ : Kind)
    → count_of κ r + sum (from_command p a.label a.parameter κ m) (later z.heads h z.machine.count) ≡ tally p a.label a.parameter κ m
