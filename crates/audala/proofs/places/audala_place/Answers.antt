-- `audala_place` meets its contract: the place is that of `place`.
use Rattle.audala.proofs.places.audala_place.Goals as goal

pub returns : goal.returns
returns c = c.place-at.ensures.0
