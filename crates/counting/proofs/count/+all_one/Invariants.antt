-- `count::all` and `count::one` meet their contracts. The measure is the number of commands held, twice, with the sum above its summands. The invariant of the
-- loop over labels: memory is as it was, and what is counted with what is left comes to all.
use Rattle.std.proofs.Common.{◌+◌, ◌*◌, ◌≤◌, ◌≡◌}
use Rattle.layout.specs.State.{state_of}
use Rattle.counting.specs.Counting.{commands_in, Sums}
use Rattle.counting.proofs.count.+all_one.Given as goal

abbrev pub decreases-all : goal.decreases-all
decreases-all l = 2 * commands_in l.heads.now 0 l.machine.numbers.count + 1

abbrev pub decreases-one : goal.decreases-one
decreases-one l = 2 * commands_in l.heads.now 0 l.machine.numbers.count

abbrev pub invariant-all-loop-h : goal.invariant-all-loop-h
invariant-all-loop-h l =
    (l.h ≤ l.n) × (l.n ≡ l.machine.numbers.count) × (l.heads ≡ l.initial.heads) × (l.cells ≡ l.initial.cells)
    × (Sums l.counts l.list l.a (state_of l.machine.numbers l.initial.heads l.initial.cells) l.h l.sum)
