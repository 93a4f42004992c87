-- A step is found where its commands stand (01, 'Names, types, commands').
use Rattle.std.specs.Prelude.{ℕ, ◌+◌, ◌<◌, ◌≤◌, ◌≡◌, Bool, List, take, drop}
use native.Mathlib.Omega.{arith}
use Rattle.std.proofs.Math.Path.{refl}
use Rattle.std.proofs.Common.{ap, sym, ◌∙◌}
use Rattle.std.proofs.Math.Option.{Option, none, some}
use Rattle.std.proofs.Math.ListN.{length}
use borrow.Author.Tests.{lt-ltb}
use Rattle.types.specs.Limits.{max_commands}
use Rattle.types.specs.Numbers.{no_room}
use Rattle.types.specs.Reflects.{Reflects, Reflects.holds, Reflects.fails, lt_reflects}
use Rattle.types.specs.Orders.{Numbered}
use Rattle.types.proofs.Laws.OrderLaws.{foremost_numbered}
use Rattle.types.specs.Stages.{Stage.went as accepted, Stage.stopped as refused, on, asked}
use Rattle.program.specs.Tree.{Program}
use Rattle.commands.specs.Bounds.{Within}
use Rattle.directory.specs.declared.Row.{Row}
use Rattle.directory.specs.Directory.{directory, find_row}
use Rattle.directory.specs.Rows.{sought}
use Rattle.directory.proofs.DirectoryLaws.{directory_inside}
use Rattle.directory.proofs.FindLaws.{IfFound, find_all}
use Rattle.verdict.specs.Verdict.{Checked, checked, checks, verdict_of, check_verdict}
use Rattle.verdict.proofs.VerdictLaws.{checks_room}
use Rattle.verdict.specs.ProgramInput.{program_order}
use Rattle.verdict.proofs.ProgramInputLaws.{checked_number, checked_accepted}
use Rattle.step_part.specs.declared.Spot.{Spot}
use Rattle.step_part.specs.StepPart.{nowhere, spot_of, spot_at, spot_by, step_place, step_part}

-- Bounds -------------------------------------------------------------------------------

-- a step's commands lie within the list's first 1,024 places
accepted_fits : (p : Program) (k n : ℕ) → Within p → (spot_by (accepted p) k n).start + (spot_by (accepted p) k n).len ≤ max_commands
unfolding Within spot_by
accepted_fits p k n w = go (find_row (directory p) k n) (find_all _ (directory p) k n (directory_inside p max_commands w.1))
  where
    go : (o : Option Row) → IfFound (λ (r : Row). r.start + r.size ≤ max_commands) o → (spot_of o).start + (spot_of o).len ≤ max_commands
    go none h = omega arith
    go (some r) h = h

pub spot_fits : (x : List ℕ) (k n : ℕ) → (spot_by (checked x) k n).start + (spot_by (checked x) k n).len ≤ max_commands
unfolding spot_by
spot_fits x k n = go (checked x) refl
  where
    go : (c : Checked) → checked x ≡ c → (spot_by c k n).start + (spot_by c k n).len ≤ max_commands
    go (refused m) e = omega arith
    go (accepted p) e = accepted_fits p k n ((checked_accepted x p).0 e).program.1

-- equal numbers make equal places
pub same_spot : (a b a' b' : ℕ) → a ≡ a' → b ≡ b' → ◌≡◌ {A = Spot} (record { number = 0; start = a; len = b }) (record { number = 0; start = a'; len = b' })
same_spot a b a' b' e f = rw (e, f)

-- a search among the rows of the directory
pub spot_sought : (p : Program) (rs : List Row) (k n : ℕ) → rs ≡ directory p → spot_at (sought (find_row rs k n)) ≡ spot_of (find_row (directory p) k n)
spot_sought p rs k n e = rw e (go (find_row (directory p) k n))
  where
    go : (o : Option Row) → spot_at (sought o) ≡ spot_of o
    go none = refl
    go (some r) = refl

-- A program ----------------------------------------------------------------------------

module _ (c : Checked) (k n : ℕ) where
  pub spot_refused : (m : ℕ) → c ≡ refused m → nowhere m ≡ spot_by c k n
  unfolding spot_by
  spot_refused m e = rw e

  pub spot_accepted : (p : Program) → c ≡ accepted p → spot_of (find_row (directory p) k n) ≡ spot_by c k n
  unfolding spot_by
  spot_accepted p e = rw e

  -- no number for a step of an accepted program, whether or not it is there
  pub spot_number : (p : Program) → c ≡ accepted p → (spot_by c k n).number ≡ 0
  spot_number p e = ap (λ (y : Spot). y.number) (sym (spot_accepted p e)) ∙ go (find_row (directory p) k n)
    where
      go : (o : Option Row) → (spot_of o).number ≡ 0
      go none = refl
      go (some r) = refl

-- The place ----------------------------------------------------------------------------

-- a check stops at its image, or at a list that is too short for a program that is accepted
module _ (x list : List ℕ) where
  checks_refused : (m : ℕ) → checked x ≡ refused m → checks x list ≡ refused m
  unfolding checks on
  checks_refused m e = rw e

  checks_short : (p : Program) → checked x ≡ accepted p → length list < max_commands → checks x list ≡ refused no_room
  unfolding checks on asked
  checks_short p e l = rw (e, lt-ltb (length list) max_commands l)

-- the number is that of the verdict
spot_verdict : (c : Checked) (k n : ℕ) → (spot_by c k n).number ≡ (verdict_of c).number
unfolding spot_by verdict_of
spot_verdict (refused m) k n = refl
spot_verdict (accepted p) k n = spot_number (accepted p) k n p refl

-- no refusal has the number 0
nonzero : (x : List ℕ) → Numbered (λ n. 1 ≤ n) (program_order x)
nonzero x = omega arith

refused_number : (x : List ℕ) (m : ℕ) → checked x ≡ refused m → m ≡ 0 → ⊥
refused_number x m e z = omega (arith, foremost_numbered (λ n. 1 ≤ n) (nonzero x) ((checked_number x m).0 e))

module _ (x list : List ℕ) (k n : ℕ) where
  abbrev z : Spot
  z = step_place x list k n

  abbrev y : Spot
  y = spot_by (checked x) k n

  -- a number that is not 0 is that of the image; after it the list is asked for
  pub place_numbered : (y.number ≡ 0 → ⊥) → y ≡ z
  unfolding step_place
  place_numbered h = go (checked x) refl
    where
      go : (c : Checked) → checked x ≡ c → y ≡ spot_by (checks x list) k n
      go (refused m) e = rw (e, checks_refused x list m e)
      go (accepted p) e = absurd (h (spot_number (checked x) k n p e))

  module _ (none : y.number ≡ 0) where
    sound : (p : Program) × (checked x ≡ accepted p)
    sound = go (checked x) refl
      where
        go : (c : Checked) → checked x ≡ c → (p : Program) × (checked x ≡ accepted p)
        go (refused m) e = absurd (refused_number x m e (ap (λ (y : Spot). y.number) (spot_refused (checked x) k n m e) ∙ none))
        go (accepted p) e = (p, e)

    pub place_short : length list < max_commands → nowhere no_room ≡ z
    unfolding step_place spot_by
    place_short l = rw (checks_short x list sound.0 sound.1 l)

    pub place_room : max_commands ≤ length list → y ≡ z
    unfolding step_place
    place_room l = rw (checks_room x list l)

  -- the number is that of a check of this image with this list
  pub place_number : z.number ≡ (check_verdict x list).number
  unfolding step_place check_verdict
  place_number = spot_verdict (checks x list) k n

  -- the place lies in the list's first 1,024 places, and the list has them
  pub place_fits : (z.start + z.len ≤ max_commands) × (z.start + z.len ≤ length list)
  unfolding step_place spot_by
  place_fits = go (checked x) refl
    where
      room : (p : Program) → checked x ≡ accepted p → {t : Bool} → Reflects (length list < max_commands) t
          → (z.start + z.len ≤ max_commands) × (z.start + z.len ≤ length list)
      room p e (holds l) = rw (checks_short x list p e l) (omega arith, omega arith)
      room p e (fails f) = rw (checks_room x list (omega arith)) (spot_fits x k n, omega (arith, spot_fits x k n))

      go : (c : Checked) → checked x ≡ c → (z.start + z.len ≤ max_commands) × (z.start + z.len ≤ length list)
      go (refused m) e = rw (checks_refused x list m e) (omega arith, omega arith)
      go (accepted p) e = room p e (lt_reflects (length list) max_commands)

  -- and the part is what stands there
  pub place_part : take z.len (drop z.start list) ≡ step_part x list k n
  unfolding step_part
  place_part = refl
