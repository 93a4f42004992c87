-- `emit::words::leaf_size` meets its contract: a number for each test's way.
use Rattle.std.proofs.Common.{lt-ltb, le-ltb}
use Rattle.emit.specs.Leaf.{leaf_size}
use Rattle.emit.proofs.words.leaf_size.Goals as goal

pub returns-then-tag-lt-BOOL : goal.returns-then-tag-lt-BOOL
unfolding leaf_size
returns-then-tag-lt-BOOL c = let h = c.if-tag-lt-BOOL.true in rw (leaf_size, lt-ltb _ _ h)

pub returns-then-tag-lt-THIS : goal.returns-then-tag-lt-THIS
unfolding leaf_size
returns-then-tag-lt-THIS c =
    let h = c.if-tag-lt-BOOL.false in let k = c.if-tag-lt-THIS.true in
    rw (leaf_size, le-ltb _ _ h, lt-ltb _ _ k)

pub returns : goal.returns
unfolding leaf_size
returns c =
    let h = c.if-tag-lt-BOOL.false in let k = c.if-tag-lt-THIS.false in
    rw (leaf_size, le-ltb _ _ h, le-ltb _ _ k)
