-- `items::item` and `items::items` meet their contracts, a law for each sort. The measure goes by the levels of Fix, with the count above the items. The
-- invariant of the loop over items: once those that are left are written, all are.
use Rattle.std.proofs.Common.{◌+◌, ◌-◌, ◌*◌, get_or}
use Rattle.compile.specs.Codes.{row_at, Left}
use Rattle.compile.proofs.items.+item_items.Given as goal

abbrev pub decreases-item : goal.decreases-item
decreases-item l = 2 * l.depth

abbrev pub decreases-items : goal.decreases-items
decreases-items l = 2 * l.depth + 1

abbrev pub invariant-items-loop-done : goal.invariant-items-loop-done
invariant-items-loop-done l =
    let n = get_or l.s l.at 0 in
    Left l.s l.depth (n - l._done) (row_at l.s l.depth n (l.at + 1)) l.initial.codes l.k l.p l.codes
