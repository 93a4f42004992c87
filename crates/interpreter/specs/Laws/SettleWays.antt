-- The ways through the loop of moves (01, 'Table and turns'): the machine's numbers n₀ and its heads h₀ where the loop begins, n and h
-- where it stands.
use Rattle.std.specs.Prelude.{ℕ, ◌<◌, ◌≡◌, List, length, get_or}
use Rattle.std.proofs.Common.{sym, subst}
use Rattle.machine.specs.Machine.{Machine}
use Rattle.layout.specs.State.{State, state_of}
use Rattle.layout.specs.Codes.{end_code}
use Rattle.memory.proofs.Laws.PlanLaws.{at_within}
use Rattle.memory.specs.Move.{move}
use Rattle.scheduler.specs.Ready.{Movable}
use Rattle.layout.specs.declared.Numbers.{Numbers}
use Rattle.interpreter.specs.Ready.{Ready}
use Rattle.interpreter.specs.Laws.MovingLaws.{left}
use Rattle.interpreter.specs.Running.{Standing, Led, Settling}
use Rattle.interpreter.specs.Laws.TurnLaws.{movable, less}
use Rattle.interpreter.specs.Laws.RunningLaws.{moves_none, moves_more, settles_held, settles_ended}

module _ {items spans h₀ : List ℕ} {n₀ : Numbers} where
  -- no move yet
  pub led_none : (cells : List ℕ) → Led items spans (state_of n₀ h₀ cells) (state_of n₀ h₀ cells)
  led_none cells p counts list m r = moves_none r

  module _ {h : List ℕ} {n : Numbers} (g : (cells : List ℕ) → Led items spans (state_of n₀ h₀ cells) (state_of n h cells)) where
    -- The ends of the loop ------------------------------------------------------------

    pub led_held : 0 < n.holding → (cells : List ℕ) → Settling items spans (state_of n₀ h₀ cells) (state_of n h cells)
    led_held k cells p counts list m r = settles_held (g cells p counts list m r) k

    pub led_ended : n.holding ≡ 0 → get_or items n.place 0 ≡ end_code
        → (cells : List ℕ) → Settling items spans (state_of n₀ h₀ cells) (state_of n h cells)
    led_ended b e cells p counts list m r = settles_ended (g cells p counts list m r) b e

    -- A move ------------------------------------------------------------------------

    module _ (s : Standing items spans h₀ n₀) where
      -- the machine that memory holds
      abbrev z : State
      z = state_of n h s.cells

      led_ready : (m : Machine) × Ready s.begun.program s.counts s.list items spans m z
      led_ready = let (m, r, v) = g s.cells s.begun.program s.counts s.list s.begun.machine s.begun.ready in (m, r)

      -- it stands at one of the items
      pub led_within : n.place < length items
      led_within = at_within items led_ready.1.stands.scheduled

      module _ (e : get_or items n.place 0 ≡ end_code → ⊥) where
        pub led_movable : Movable items spans h n
        led_movable = movable led_ready.1 e

        module _ {h' : List ℕ} {n' : Numbers} (a : (cells : List ℕ) → state_of n' h' cells ≡ move items spans (state_of n h cells)) where
          pub led_less : left items (state_of n' h' s.cells) < left items (state_of n h s.cells)
          led_less =
              subst (λ (y : State). left items y < left items (state_of n h s.cells)) (sym (a s.cells)) (less led_ready.1 e)

          pub led_more : n.holding ≡ 0 → (cells : List ℕ) → Led items spans (state_of n₀ h₀ cells) (state_of n' h' cells)
          led_more b cells p counts list m r = rw (a cells) (moves_more (g cells p counts list m r) b e)
