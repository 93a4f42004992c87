-- Which schedules a run can leave of its program's, and whose commands are held (01, 'Table and turns'; 000, rules InitG to FixTerm).
use Rattle.std.specs.Prelude.{ℕ, ◌≡◌, ◌⊎◌, List, [], drop}
use Rattle.std.proofs.Math.Option.{some}
use Rattle.std.proofs.Math.ListN.{get_elem?}
use Rattle.program.specs.Tree.{Stmts, Program}
use Rattle.commands.specs.Context.{context}
use Rattle.commands.specs.Noted.{Note, noted}
use Rattle.machine.specs.Published.{StepCall, called, Sched, Sched.start, Sched.fixpoint, Sched.active, before, of_items}
use Rattle.machine.specs.Machine.{Instance, Machine}

-- the schedules that moves leave of one, whatever the stability entries were
pub data Left (r : Sched) : Sched → Type 0 where
  whole : Left r r
  past : {a : StepCall} {s : Sched} → Left r (start a s) → Left r s
  into : {f s : Sched} → Left r (fixpoint f s) → Left r (before f (active f s))
  again : {f s : Sched} → Left r (active f s) → Left r (before f (active f s))
  out : {f s : Sched} → Left r (active f s) → Left r s

-- the schedule s is what a run of p has left after the step call a
abbrev pub Started : Program → StepCall → Sched → Type 0
Started p a s = Left (of_items p.schedule) (start a s)

-- the commands c are a rest of those of the step that the call a starts on struct k
abbrev pub RestOf : Program → StepCall → ℕ → List Note → Type 0
RestOf p a k c = (b : Stmts) × (called p a k ≡ some b) × (n : ℕ) × (c ≡ drop n (noted (context p k b) b))

-- no instance holds commands, or a step call was started last, and each holder holds a rest of its step
abbrev pub OneStep : Program → Machine → Type 0
OneStep p m =
    ((l : ℕ) (i : Instance) → get_elem? m.instances l ≡ some i → i.code ≡ [])
    ⊎ ((a : StepCall) × (Started p a m.sched)
    × ((l : ℕ) (i : Instance) → get_elem? m.instances l ≡ some i → (i.code ≡ []) ⊎ (RestOf p a i.struct i.code)))
