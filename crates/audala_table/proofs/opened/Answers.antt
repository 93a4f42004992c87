-- `opened` meets its contract: the parameters of an opened program are those of its stream.
use Rattle.seating.specs.SeatLaws.{opens_tabled}
use Rattle.audala_table.proofs.opened.Goals as goal

pub returns : goal.returns
returns c = let o = c.in_ok-opened.ensures.3 in (o.few, opens_tabled o)
