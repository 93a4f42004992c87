-- `is_reference` meets its contract.
use Rattle.types.proofs.Laws.TypeLaws.{ref_byte}
use Rattle.types.proofs.is_reference.Goals as goal

pub returns : goal.returns
returns c = ref_byte _
