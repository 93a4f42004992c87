-- A run that is told (docs/FORMAT.md, 'Traces'): what the code keeps of it between two acts, how far its text is told there, and what the code of a
-- move, of the moves between turns and of a turn promises. A text is told up to a machine that the run visits: the rest is the text of that
-- machine's own trace.
use Rattle.std.specs.Prelude.{ℕ, ◌+◌, ◌*◌, ◌^◌, ◌<◌, ◌≤◌, ◌≡◌, true, false, List, ◌∷◌, ◌++◌, length, get_or, take, drop, leb}
use Rattle.std.proofs.Math.Option.{Option, some}
use Rattle.types.specs.Limits.{step_names, fix_levels, schedule_items, max_turns}
use Rattle.program.specs.Tree.{Program}
use Rattle.machine.specs.Machine.{Machine}
use Rattle.machine.specs.Stops.{ended, out_of_turns}
use Rattle.run.specs.Run.{Outcome.stopped, run}
use Rattle.run.specs.Visits.{Visits}
use Rattle.layout.specs.Codes.{end_code}
use Rattle.layout.specs.State.{State, state_of, due_in}
use Rattle.memory.specs.Move.{move}
use Rattle.scheduler.specs.Ready.{Movable}
use Rattle.engine.specs.declared.Machine.{Machine as Engine}
use Rattle.interpreter.specs.Ready.{Ready}
use Rattle.seating.specs.Seated.{Opens, Seated}
use Rattle.trace.specs.Trace.{trace}
use Rattle.trace.specs.LineText.{lines_text, trace_lines}
use Rattle.trace_lines.specs.declared.Coming.{Coming}
use Rattle.trace_lines.specs.Parts.{line_most}
use Rattle.trace_lines.specs.Told.{Turnable}
use Rattle.trace_images.specs.declared.pages.Page.{Page}
use Rattle.trace_images.specs.declared.telling.Start.{Start}
use Rattle.trace_images.specs.declared.telling.Telling.{Telling}
use Rattle.trace_images.specs.Pages.{Paged, blank}

-- Between two acts -------------------------------------------------------------------

-- before the first
abbrev pub first_of : Start → Telling
first_of z = record {
  coming = record { machine = record { numbers = z.seat.numbers }; step = 0; taken = 0; byte = 0 };
  number = 0;
  due = false;
  page = blank z.from;
}

-- no turn is due
abbrev pub rests : Telling → ℕ → Telling
rests s k = record { coming = s.coming; number = k; due = false; page = s.page }

-- one is, with the byte e
abbrev pub waits : Telling → ℕ → Telling
waits s e = record {
  coming = record { machine = s.coming.machine; step = s.coming.step; taken = s.coming.taken; byte = e };
  number = 0;
  due = true;
  page = s.page;
}

unfoldable pub told_at : List ℕ → Telling → Telling
told_at es s =
    elim (due_in s.coming.machine.numbers) [
      | true ↦ elim (leb (length es) s.coming.taken) [ true ↦ rests s out_of_turns | false ↦ waits s (get_or es s.coming.taken 0) ]
      | false ↦ rests s ended
    ]

-- after an act, in the step n after t turns, with a page
abbrev pub behind : Engine → ℕ → ℕ → Page → Telling
behind a n t g = record {
  coming = record { machine = a; step = n; taken = t; byte = 0 };
  number = a.numbers.number;
  due = false;
  page = g;
}

abbrev pub memory_of : Telling → List ℕ → List ℕ → State
memory_of s h c = state_of s.coming.machine.numbers h c

-- How long the text may be -------------------------------------------------------------

-- codes that a schedule has at most
abbrev pub items_most : ℕ
items_most = 2 * schedule_items + 1

-- bytes of the moves that follow each other without a turn: an open Fix, and the schedule itself, is passed through once
abbrev pub settle_most : ℕ
settle_most = line_most * ((fix_levels + 1) * items_most)

-- bytes for a turn
abbrev pub told_most : ℕ
told_most = line_most + settle_most

-- How far the text is told -----------------------------------------------------------

-- and the page that a buffer shows, where it is known how it was lent
module _ (lent : Option (List ℕ)) (p : Program) (m : Machine) (es whole fs : List ℕ) where
  -- the run of m with the bytes es is at a machine that memory holds, with the bytes fs left, and the rest of its text is that machine's
  pub record Stage (counts list items spans : List ℕ) (s : Telling) (h c out : List ℕ) : Type 0 where
    pub machine : Machine
    pub ready : Ready p counts list items spans machine (memory_of s h c)
    pub visits : Visits p m es machine fs
    pub told : List ℕ
    pub paged : (l : List ℕ) → lent ≡ some l → Paged told l s.page out
    pub rest : whole ≡ told ++ lines_text p s.coming.step s.coming.taken (trace p machine fs)

  -- it stops at a machine with a number, and all of its text is told
  pub record Stops (number : ℕ) (g : Page) (out : List ℕ) : Type 0 where
    pub machine : Machine
    pub visits : Visits p m es machine fs
    pub stops : run p machine fs ≡ stopped number 0 machine
    pub paged : (l : List ℕ) → lent ≡ some l → Paged whole l g out

-- What the code promises -------------------------------------------------------------

-- an act that reads no byte
abbrev pub Silent : List ℕ → List ℕ → Telling → List ℕ → List ℕ → Telling → List ℕ → List ℕ → Type 0
Silent items spans s h out r h' out' =
    (lent : Option (List ℕ)) (p : Program) (m : Machine) (es whole fs counts list c : List ℕ) → Stage lent p m es whole fs counts list items spans s h c out
    → Stage lent p m es whole fs counts list items spans r h' c out'

-- memory may be moved on
pub record Moveable (items spans h : List ℕ) (s : Telling) : Type 0 where
  pub movable : Movable items spans h s.coming.machine.numbers
  pub nobody : s.coming.machine.numbers.holding ≡ 0
  pub few : s.coming.machine.numbers.fixes ≤ fix_levels
  pub named : s.coming.step < step_names

pub record Moves (items spans : List ℕ) (s : Telling) (h out : List ℕ) (r : Telling) (h' out' : List ℕ) : Type 0 where
  pub goes : (c : List ℕ) → memory_of r h' c ≡ move items spans (memory_of s h c)
  pub tells : Silent items spans s h out r h' out'
  pub named : r.coming.step < step_names
  pub taken : r.coming.taken ≡ s.coming.taken
  pub place : r.page.from ≡ s.page.from
  pub short : r.page.length ≤ s.page.length + line_most

pub record Settles (items spans : List ℕ) (s : Telling) (h out : List ℕ) (r : Telling) (h' out' : List ℕ) : Type 0 where
  pub tells : Silent items spans s h out r h' out'
  pub still : r.coming.machine.numbers.holding ≡ 0 → get_or items r.coming.machine.numbers.place 0 ≡ end_code
  pub named : r.coming.step < step_names
  pub taken : r.coming.taken ≡ s.coming.taken
  pub place : r.page.from ≡ s.page.from
  pub short : r.page.length ≤ s.page.length + settle_most

-- a turn may be taken, and counted
pub record Takeable (counts list spans : List ℕ) (s : Telling) (h c : List ℕ) : Type 0 where
  pub turnable : Turnable counts list spans s.coming.step (memory_of s h c)
  pub early : s.coming.taken + 1 < 2 ^ 64

pub record Takes (counts list spans : List ℕ) (s : Telling) (h c out : List ℕ) (r : Telling) (h' c' out' : List ℕ) : Type 0 where
  pub tells : r.number ≡ 0 → (lent : Option (List ℕ)) (p : Program) (m : Machine) (es whole fs items : List ℕ)
      → Stage lent p m es whole (s.coming.byte ∷ fs) counts list items spans s h c out
      → Stage lent p m es whole fs counts list items spans r h' c' out'
  pub stops : (r.number ≡ 0 → ⊥) → (lent : Option (List ℕ)) (p : Program) (m : Machine) (es whole fs items : List ℕ)
      → Stage lent p m es whole (s.coming.byte ∷ fs) counts list items spans s h c out
      → Stops lent p m es whole (s.coming.byte ∷ fs) r.number r.page out'
  pub counted : r.number ≡ 0 → r.coming.taken ≡ s.coming.taken + 1
  pub kept : (r.number ≡ 0 → ⊥) → r.coming.taken ≡ s.coming.taken
  pub rest : r.due ≡ false
  pub named : r.coming.step ≡ s.coming.step
  pub place : r.page.from ≡ s.page.from
  pub short : r.number ≡ 0 → r.page.length ≤ s.page.length + line_most
  pub same : (r.number ≡ 0 → ⊥) → r.page ≡ s.page

-- The whole run ----------------------------------------------------------------------

-- m was run with the bytes es, and the lines of its trace are told
pub record Ran (p : Program) (m : Machine) (es : List ℕ) (number taken : ℕ) (lent : List ℕ) (g : Page) (out : List ℕ) : Type 0 where
  pub last : Machine
  pub returns : run p m es ≡ stopped number taken last
  pub paged : Paged (trace_lines p (trace p m es)) lent g out

-- a program that is opened and a machine beside it
pub record Starts (s rows : List ℕ) (z : Start) (h c : List ℕ) (p : Program) (m : Machine) : Type 0 where
  pub opens : Opens z.opened s rows p
  pub seated : Seated s (take z.opened.loaded.structs z.opened.counts) z.seat h c p m

abbrev pub Starting : List ℕ → List ℕ → Start → List ℕ → List ℕ → Type 0
Starting s rows z h c = (p : Program) × (m : Machine) × (Starts s rows z h c p m)

-- whatever program and machine they are
pub record Plays (s rows : List ℕ) (z : Start) (h c es lent : List ℕ) (r : Telling) (out : List ℕ) : Type 0 where
  pub ran : (p : Program) (m : Machine) → Starts s rows z h c p m → Ran p m es r.number r.coming.taken lent r.page out
  pub begins : r.page.from ≡ z.from
  pub short : r.page.length + line_most < 2 ^ 64
  pub few : r.coming.taken ≤ max_turns
