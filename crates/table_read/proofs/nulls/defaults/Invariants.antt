use Rattle.std.proofs.Common.{◌≤◌, ◌+◌, ◌-◌, ◌≡◌, length}
use Rattle.table_read.specs.Laws.NullWays.{defaults_laid}
use Rattle.table_read.proofs.nulls.defaults.Given as goal

abbrev pub invariant-loop-x : goal.invariant-loop-x
invariant-loop-x l =
    ((l.x ≤ l.n) × (length l.cells ≡ length l.initial.cells)) × (defaults_laid l.types (l.from + l.x) (l.n - l.x) l.cells (l.place + l.x) ≡ defaults_laid l.types l.from l.n l.initial.cells l.place)
