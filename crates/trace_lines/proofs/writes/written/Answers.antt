-- `writes::written` meets its contract: the parameter with its values, or nothing.
use Rattle.std.proofs.Common.{arith}
use Rattle.text.specs.ListingLaws.{placed_none, placed_as, placed_on}
use Rattle.trace_lines.specs.Parts.{values_text}
use Rattle.trace_lines.specs.PartsLaws.{write_none, write_some}
use Rattle.trace_lines.proofs.writes.written.Goals as goal

pub returns-in-None : goal.returns-in-None
returns-in-None c = record { placed = placed_as (write_none _ _ c.in-None.is) (placed_none _ _); upper_bound = omega arith }

pub returns-in-Some : goal.returns-in-Some
unfolding values_text
returns-in-Some c =
    let new = placed_on c.put-d.ensures c.worth.ensures.placed in
    let values = placed_on c.put-b.ensures (placed_on c.worth-c.ensures.placed new) in record { placed = placed_as (write_some _ _ c.in-Some.is) (placed_on c.place-a.ensures.placed values); upper_bound = omega (arith, c.place-a.ensures.upper_bound, c.put-b.ensures.end, c.worth-c.ensures.upper_bound, c.put-d.ensures.end, c.worth.ensures.upper_bound) }
