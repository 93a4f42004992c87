-- `payload` meets its contract: the part from byte 4 on is as long as asked.
use Rattle.std.proofs.Math.Nat.{add-sub_cancel_left}
use Rattle.block.proofs.payload.Goals as goal

pub returns : goal.returns
returns c = simp add-sub_cancel_left
