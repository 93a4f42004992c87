use Rattle.std.proofs.Common.{ℕ, ◌≡◌, List, length}
use Rattle.layout.specs.State.{state_of}
use Rattle.interpreter.specs.Moving.{moves_left}
use Rattle.interpreter.specs.Running.{Led}
use Rattle.interpreter.proofs.moving.settle.Given as goal

abbrev pub invariant-loop-place : goal.invariant-loop-place
invariant-loop-place l =
    (length l.heads ≡ length l.initial.heads) × ((cells : List ℕ) → Led l.items l.spans (state_of l.initial.next.numbers l.initial.heads cells) (state_of l.next.numbers l.heads cells))

abbrev pub decreases-loop-place : goal.decreases-loop-place
decreases-loop-place l = let n = l.next.numbers in moves_left l.items n.place n.fixes n.stable
