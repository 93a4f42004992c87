-- `used_right` meets its contract: the tests are those of `used_right`, in its order.
use Rattle.std.proofs.Common.{◌≤◌, le-leb}
use Rattle.std.proofs.lemmas.Bool.{lt-leb}
use Rattle.block.specs.Block.{used_right}
use Rattle.block.proofs.used_right.Goals as goal

pub returns-then-used-ge1 : goal.returns-then-used-ge1
unfolding used_right
returns-then-used-ge1 c = let l : 1 ≤ c.args.used = c.if-used-ge1.true in rw (c.if-last.true, used_right, le-leb 1 c.args.used l)

pub returns-else-used-ge1 : goal.returns-else-used-ge1
unfolding used_right
returns-else-used-ge1 c = let l = c.if-used-ge1.false in rw (c.if-last.true, used_right, lt-leb)

pub returns-else-last : goal.returns-else-last
unfolding used_right
returns-else-last c = rw (c.if-last.false, used_right)
