-- `telling::first` meets its contract.
use Rattle.trace_images.proofs.telling.first.Goals as goal

pub returns : goal.returns
returns c = rw c.blank-page.ensures
