-- A machine as it stands in memory (01, 'Table and turns'): its numbers, which the code holds by value, and the two lists that it is
-- lent. Both records are built here alone, by one function for each field, so that a number more is paid for here.
use Rattle.std.specs.Prelude.{ℕ, ◌*◌, Bool, true, false, List, get_or, ltb}
use Rattle.layout.specs.declared.Numbers.{Numbers}
use Rattle.layout.specs.Layout.{head}

-- The numbers ------------------------------------------------------------------

-- a machine of n instances at the beginning of its schedule
abbrev pub fresh : ℕ → Numbers
fresh n = record { count = n; place = 0; fixes = 0; stable = 0; number = 0; holding = 0; from = 0 }

module _ (m : Numbers) (x : ℕ) where
  abbrev pub set_count : Numbers
  set_count = record { count = x; place = m.place; fixes = m.fixes; stable = m.stable; number = m.number; holding = m.holding; from = m.from }

  abbrev pub set_place : Numbers
  set_place = record { count = m.count; place = x; fixes = m.fixes; stable = m.stable; number = m.number; holding = m.holding; from = m.from }

  abbrev pub set_fixes : Numbers
  set_fixes = record { count = m.count; place = m.place; fixes = x; stable = m.stable; number = m.number; holding = m.holding; from = m.from }

  abbrev pub set_stable : Numbers
  set_stable = record { count = m.count; place = m.place; fixes = m.fixes; stable = x; number = m.number; holding = m.holding; from = m.from }

  abbrev pub set_number : Numbers
  set_number = record { count = m.count; place = m.place; fixes = m.fixes; stable = m.stable; number = x; holding = m.holding; from = m.from }

  abbrev pub set_holding : Numbers
  set_holding = record { count = m.count; place = m.place; fixes = m.fixes; stable = m.stable; number = m.number; holding = x; from = m.from }

  abbrev pub set_from : Numbers
  set_from =
      record { count = m.count; place = m.place; fixes = m.fixes; stable = m.stable; number = m.number; holding = m.holding; from = x }

-- a turn is due: some instance holds commands
abbrev pub due_in : Numbers → Bool
due_in m = ltb 0 m.holding

-- place, open Fixes and their entries
abbrev pub placed : Numbers → ℕ → ℕ → ℕ → Numbers
placed m a f s = set_stable (set_fixes (set_place m a) f) s

-- The state --------------------------------------------------------------------

pub record State : Type 0 where
  pub machine : Numbers
  pub heads : List ℕ
  pub cells : List ℕ

abbrev pub state_of : Numbers → List ℕ → List ℕ → State
state_of m h c = record { machine = m; heads = h; cells = c }

abbrev pub with_machine : State → Numbers → State
with_machine z m = state_of m z.heads z.cells

abbrev pub with_heads : State → List ℕ → State
with_heads z h = state_of z.machine h z.cells

abbrev pub with_cells : State → List ℕ → State
with_cells z c = state_of z.machine z.heads c

abbrev pub with_count : State → ℕ → State
with_count z n = with_machine z (set_count z.machine n)

-- a truth as a number
abbrev pub bit : Bool → ℕ
bit true = 1
bit false = 0

-- each stability entry times 0 or 1 (02, 'Stability entries by product')
abbrev pub times : Bool → State → State
times t z = with_machine z (set_stable z.machine (z.machine.stable * bit t))

-- all stability entries are false
abbrev pub unstable : State → State
unstable z = with_machine z (set_stable z.machine 0)

-- so many instances hold commands
abbrev pub with_holding : State → ℕ → State
with_holding z n = with_machine z (set_holding z.machine n)

-- turns are counted from this label (02, 'Turns that go round')
abbrev pub with_from : State → ℕ → State
with_from z n = with_machine z (set_from z.machine n)

abbrev pub refused : ℕ → State → State
refused n z = with_machine z (set_number z.machine n)

-- the schedule elsewhere, with its open Fixes and their entries
abbrev pub moved : State → ℕ → ℕ → ℕ → State
moved z a f s = with_machine z (placed z.machine a f s)

-- what stands at a place
abbrev pub of_head : State → ℕ → ℕ → ℕ
of_head z l f = get_or z.heads (head l f) 0

abbrev pub of_cell : State → ℕ → ℕ
of_cell z at = get_or z.cells at 0
