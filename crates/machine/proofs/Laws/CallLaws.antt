-- What a step call starts on a struct is a step of that struct (01, 'Program stream', the schedule's items 1 and 2).
use Rattle.std.specs.Prelude.{ℕ, ◌≡◌, Bool, true, false, eqb}
use Rattle.std.proofs.Common.{arith}
use Rattle.std.proofs.Math.Option.{none, some}
use Rattle.program.specs.Tree.{Stmts, Program}
use Rattle.commands.specs.Context.{step_of}
use Rattle.machine.specs.Published.{StepCall, StepCall.global, StepCall.local, called}

pub called_step : (p : Program) (a : StepCall) (k : ℕ) {b : Stmts} → called p a k ≡ some b → (n : ℕ) × (step_of p k n ≡ some b)
unfolding called
called_step p (global n) k e = (n, e)
called_step p (local x n) k {b} e = go (eqb k x) e
  where
    go : (t : Bool) → elim t [ true ↦ step_of p k n | false ↦ none ] ≡ some b → (n : ℕ) × (step_of p k n ≡ some b)
    go true e = (n, e)
    go false e = let z : ◌≡◌ {A = ℕ} 0 1 = cc in absurd (omega arith)
