-- `image_fault` meets its contract: its length before its blocks.
use Rattle.std.proofs.Common.{◌∙◌}
use Rattle.blocks.proofs.ImageWays.{length_wrong, length_agrees, length_blocks}
use Rattle.blocks.proofs.image_fault.Goals as goal

pub returns-then-not-length_right : goal.returns-then-not-length_right
returns-then-not-length_right c =
    let args = c.args in
    length_wrong _ args.image.now _ c.length_right.ensures c.if-not-length_right.true

pub first_fault-requires : goal.first_fault-requires
first_fault-requires c =
    let args = c.args in
    length_blocks _ args.image.now _ c.length_right.ensures c.if-not-length_right.false

pub returns : goal.returns
returns c =
    let args = c.args in
    c.first_fault.ensures ∙ length_agrees _ args.image.now _ c.length_right.ensures c.if-not-length_right.false
