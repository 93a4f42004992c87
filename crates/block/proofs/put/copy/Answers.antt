-- `put::copy` meets its contract. The loop's invariant: the first i bytes have been written.
use Rattle.std.proofs.Common.{◌+◌, get_or, set, sym, ap, ◌∙◌, take_all}
use Rattle.block.specs.Put.{put}
use Rattle.block.proofs.Laws.PutLaws.{put_nil, put_turn}
use Rattle.block.proofs.put.copy.Goals as goal

pub loop-i-init : goal.loop-i-init
loop-i-init c = sym (put_nil _ _)

pub loop-i-preserved : goal.loop-i-preserved
loop-i-preserved c =
    let s = c.args.src.now in
    let at = c.args.at + c.loop-i.i in
    ap (λ d. set d at (get_or s c.loop-i.i 0)) c.loop-i.invariant ∙ put_turn _ _ s c.loop-i.i c.requires c.loop-i-test.true

pub returns : goal.returns
returns c = c.loop-i.invariant ∙ ap (put _ _) (take_all c.loop-i.i c.args.src.now c.loop-i-test.false)
