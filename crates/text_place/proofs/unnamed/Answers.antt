-- `unnamed` meets its contract: names are all right, or the pass over them stopped.
use Rattle.text_place.specs.NamedLaws.{end_told, stop_told}
use Rattle.text_place.proofs.unnamed.Goals as goal

pub returns-in-Ok : goal.returns-in-Ok
returns-in-Ok c = let n = c.numbers in end_told n.result _ _ n.ensures.roles_value _ c.in-Ok.is

pub returns-in-Err : goal.returns-in-Err
returns-in-Err c = let n = c.numbers in stop_told n.result _ _ n.ensures.roles_value _ c.in-Err.is
