-- The ways through the loop of moves that are told (01, 'Table and turns'): the run s₀ where the loop begins, s where it stands.
use Rattle.std.specs.Prelude.{ℕ, zero, suc, ◌+◌, ◌*◌, ◌/◌, ◌<◌, ◌≤◌, ◌≡◌, refl, List, [], length, get_or}
use Rattle.std.proofs.Common.{arith, sym, subst}
use Rattle.std.proofs.Math.Nat.{mul-le-mul}
use Rattle.std.proofs.Math.Option.{none}
use Rattle.types.specs.Limits.{step_names, fix_levels}
use Rattle.run.specs.Steps.{Steps.here}
use Rattle.layout.specs.Codes.{end_code}
use Rattle.layout.specs.State.{State}
use Rattle.memory.proofs.Laws.PlanLaws.{at_within}
use Rattle.memory.specs.Move.{move}
use Rattle.interpreter.specs.Moving.{zeros, moves_left}
use Rattle.interpreter.specs.Laws.MovingLaws.{left}
use Rattle.interpreter.specs.Running.{Standing}
use Rattle.interpreter.specs.Laws.TurnLaws.{movable, less}
use Rattle.trace.specs.Trace.{trace}
use Rattle.trace.specs.LineText.{lines_text}
use Rattle.trace_images.specs.declared.telling.Telling.{Telling}
use Rattle.trace_images.specs.Telling.{items_most, memory_of, Stage, Silent, Moveable}
use Rattle.trace_images.specs.TellingLaws.{ready_few}

-- bits that are 0 are no more than bits
zeros_few : (n s : ℕ) → zeros n s ≤ n
unfolding zeros
zeros_few zero s = omega arith
zeros_few (suc n) s = omega (arith, zeros_few n (s / 2))

-- moves that are left at a place of the loop
abbrev pub left_at : List ℕ → Telling → ℕ
left_at items s = moves_left items s.coming.machine.numbers.place s.coming.machine.numbers.fixes s.coming.machine.numbers.stable

module _ {items spans : List ℕ} where
  -- no move yet; one more
  pub silent_none : (s : Telling) (h out : List ℕ) → Silent items spans s h out s h out
  silent_none s h out lent p m es whole fs counts list c st = st

  pub silent_more : {s₀ s r : Telling} {h₀ h h' out₀ out out' : List ℕ} → Silent items spans s₀ h₀ out₀ s h out → Silent items spans s h out r h' out'
      → Silent items spans s₀ h₀ out₀ r h' out'
  silent_more f g lent p m es whole fs counts list c st = g lent p m es whole fs counts list c (f lent p m es whole fs counts list c st)

  module _ (s₀ : Telling) (h₀ out₀ : List ℕ) (w : Standing items spans h₀ s₀.coming.machine.numbers) where
    -- of any machine that memory holds, the text is told, and nothing was lent
    abbrev all : List ℕ
    all = lines_text w.begun.program s₀.coming.step s₀.coming.taken (trace w.begun.program w.begun.machine [])

    first : Stage none w.begun.program w.begun.machine [] all [] w.counts w.list items spans s₀ h₀ w.cells out₀
    first = record {
      machine = w.begun.machine;
      ready = w.begun.ready;
      visits = (0, here);
      told = [];
      paged = λ l k. let z : ◌≡◌ {A = ℕ} 0 1 = cc in absurd (omega arith);
      rest = refl;
    }

    module _ (s : Telling) (h out : List ℕ) (f : Silent items spans s₀ h₀ out₀ s h out) where
      here_now : Stage none w.begun.program w.begun.machine [] all [] w.counts w.list items spans s h w.cells out
      here_now = f none w.begun.program w.begun.machine [] all [] w.counts w.list w.cells first

      -- memory stands at one of the items
      pub settling_within : s.coming.machine.numbers.place < length items
      settling_within = at_within items here_now.ready.stands.scheduled

      module _ (e : get_or items s.coming.machine.numbers.place 0 ≡ end_code → ⊥) where
        -- and may be moved on
        pub settling_moveable : s.coming.machine.numbers.holding ≡ 0 → s.coming.step < step_names → Moveable items spans h s
        settling_moveable k n = record {
          movable = movable here_now.ready e;
          nobody = k;
          few = ready_few here_now.ready;
          named = n;
        }

        -- fewer moves are left then
        pub settling_less : (r : Telling) (h' : List ℕ) → ((c : List ℕ) → memory_of r h' c ≡ move items spans (memory_of s h c))
            → left items (memory_of r h' w.cells) < left items (memory_of s h w.cells)
        settling_less r h' a =
            subst (λ (y : State). left items y < left items (memory_of s h w.cells)) (sym (a w.cells)) (less here_now.ready e)

    -- How long the text may get ---------------------------------------------------------

    -- where the loop begins no more moves are left than through an open Fix each, and through the schedule
    pub settling_most : length items ≤ items_most → left_at items s₀ ≤ (fix_levels + 1) * items_most
    unfolding moves_left
    settling_most k =
        let n = s₀.coming.machine.numbers in
        let z : zeros n.fixes n.stable ≤ fix_levels = omega (arith, zeros_few n.fixes n.stable, ready_few w.begun.ready) in
        omega (arith, mul-le-mul z k)

    -- a line for each move that is left: so much is free before one
    module _ (s : Telling) (h out : List ℕ) (f : Silent items spans s₀ h₀ out₀ s h out) where
      pub settling_some : 0 < left_at items s
      unfolding moves_left
      settling_some = omega (arith, settling_within s h out f)
