-- `prepared` meets its contract: steps and schedule are noted, the room of the schedule is given back, and the commands are written.
use Rattle.std.proofs.Common.{arith}
use Rattle.std.proofs.lemmas.List.{length-replicate}
use Rattle.count_images.proofs.prepared.Goals as goal

pub program-requires : goal.program-requires
program-requires c = c.requires.noted _ (simp length-replicate (omega arith))

pub program-requires-2 : goal.program-requires-2
program-requires-2 c = c.requires.written

pub returns : goal.returns
returns c = record { room = _; codes = _; noted = c.program.ensures; emitted = c.program-2.ensures }
