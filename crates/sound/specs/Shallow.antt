-- How deep Fixes stand in one another in what is left of a schedule, with the stability entries that there are (01, 'Program stream': "Fix and
-- if nest at most 8 deep"; 02 §9).
use Rattle.std.specs.Prelude.{ℕ, zero, suc, max, ◌+◌, ◌≤◌}
use Rattle.types.specs.Limits.{fix_levels}
use Rattle.machine.specs.Published.{Sched, Sched.done, Sched.start, Sched.fixpoint, Sched.active}

-- how many Fixes stand in one another
unfoldable pub deep : Sched → ℕ
deep done = 0
deep (start a s) = deep s
deep (fixpoint f s) = max (suc (deep f)) (deep s)
deep (active f s) = max (suc (deep f)) (deep s)

-- each Fix, to begin or begun, stands within the levels, above the entries of those that have begun before it: k entries are there
unfoldable pub Shallow : Sched → ℕ → Type 0
Shallow done k = Unit {0}
Shallow (start a s) k = Shallow s k
Shallow (fixpoint f s) k = (k + suc (deep f) ≤ fix_levels) × (Shallow s k)
Shallow (active f s) zero = ⊥
Shallow (active f s) (suc k) = (k + suc (deep f) ≤ fix_levels) × (Shallow s k)
