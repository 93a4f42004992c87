use Rattle.std.proofs.Common.{◌+◌, ◌-◌, ℕ, ◌≤◌, ◌≡◌, List, length}
use Rattle.program.specs.Reader.{read_item}
use Rattle.directory.specs.Rows.{rows_from}
use Rattle.read_schedule.specs.PlanTold.{plan_of}
use Rattle.read_schedule.specs.PlanWays.{row}
use Rattle.read_schedule.proofs.+item_items.Given as goal

abbrev pub decreases-item : goal.decreases-item
decreases-item l = length l.s.now - l.at

abbrev pub decreases-items : goal.decreases-items
decreases-items l = length l.s.now - l.at

abbrev pub invariant-items-loop-i : goal.invariant-items-loop-i
invariant-items-loop-i l =
    ((l.at + 1 ≤ l.next) × (l.next ≤ length l.s) × (l.all.count + l.at ≤ l.next))
    × ((ar : List ℕ) → length ar ≡ l.t.structs
    → row (rows_from l.t.rows.now 0 l.t.steps) l.t.structs (read_item ar l.s l.depth) (plan_of l.initial.all) l.n l.initial.next ≡ row (rows_from l.t.rows.now 0 l.t.steps) l.t.structs (read_item ar l.s l.depth) (plan_of l.all) (l.n - l.i) l.next)
