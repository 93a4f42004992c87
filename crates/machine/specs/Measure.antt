-- What falls as a machine acts: a measure of the schedule and its stability stack, which falls with every move, and the
-- commands held, which fall with every command (01, 'Table and turns').
use Rattle.std.specs.Prelude.{ℕ, suc, max, ◌+◌, Bool, true, false, List, [], ◌∷◌, length}
use Rattle.std.proofs.Math.Option.{Option, none, some}
use Rattle.program.specs.Tree.{Stmts, Program}
use Rattle.commands.specs.Commands.{commands}
use Rattle.machine.specs.Published.{StepCall, called, Sched, Sched.done, Sched.start, Sched.fixpoint, Sched.active}
use Rattle.machine.specs.Machine.{Instance, Machine}

-- the moves that a schedule takes where each fixpoint goes through its body once
unfoldable pub weight : Sched → ℕ
weight done = 0
weight (start a s) = suc (weight s)
weight (fixpoint f s) = weight f + 2 + weight s
weight (active f s) = suc (weight s)

-- the greatest weight of a body of a fixpoint, those inside bodies too
unfoldable pub bound : Sched → ℕ
bound done = 0
bound (start a s) = bound s
bound (fixpoint f s) = max (max (weight f) (bound f)) (bound s)
bound (active f s) = max (max (weight f) (bound f)) (bound s)

-- each false entry stands for one more passage through a body of weight B at most
unfoldable pub passages : ℕ → List Bool → ℕ
passages B [] = 0
passages B (true ∷ b) = passages B b
passages B (false ∷ b) = suc B + passages B b

unfoldable pub measure : ℕ → Machine → ℕ
measure B m = passages B m.stability + weight m.sched

-- a number for each instance, in all
unfoldable pub total : (Instance → ℕ) → List Instance → ℕ
total f [] = 0
total f (i ∷ is) = f i + total f is

-- how many commands the instances hold in all
unfoldable pub codes : List Instance → ℕ
codes is = total (λ i. length i.code) is

-- the command count of a step, where the struct has it
unfoldable pub count : Option Stmts → ℕ
count none = 0
count (some b) = length (commands b)

-- that of the step that a call starts on an instance
unfoldable pub share : Program → StepCall → Instance → ℕ
share p a i = count (called p a i.struct)

-- what a move of the schedule gives an instance to take
unfoldable pub share_of : Program → Sched → Instance → ℕ
share_of p done i = 0
share_of p (start a s) i = share p a i
share_of p (fixpoint f s) i = 0
share_of p (active f s) i = 0
