-- `pages::refused` meets its contract: the last line is the whole text.
use Rattle.std.proofs.Common.{arith, []}
use Rattle.trace_images.specs.PageLaws.{paged_blank}
use Rattle.trace_images.proofs.pages.refused.Goals as goal

pub ended-requires : goal.ended-requires
ended-requires c = rw c.blank.ensures (omega arith, omega arith)

pub returns : goal.returns
returns c =
    let out = c.args.out.now in
    rw c.blank.ensures at (c.ended.ensures [] out (rw c.blank.ensures (paged_blank _ out)))
