-- `path::param` meets its contract.
use Rattle.std.proofs.Common.{lt-ltb, le-ltb}
use Rattle.judge.specs.Facts.{param}
use Rattle.judging.proofs.path.param.Goals as goal

pub returns-then-x-look : goal.returns-then-x-look
unfolding param
returns-then-x-look c =
    let h = rw c.look.ensures at c.if-x-look.true in
    simp (param, lt-ltb _ _ h, c.type_at.ensures)

pub returns : goal.returns
unfolding param
returns c = let h = rw c.look.ensures at c.if-x-look.false in simp (param, le-ltb _ _ h)
