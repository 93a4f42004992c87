-- `put::zeros` meets its contract: the part that is filled is what was put there.
use Rattle.std.proofs.Common.{◌≡◌, arith, ap, sym, ◌∙◌, length, replicate}
use Rattle.block.specs.Put.{put}
use Rattle.block.proofs.Laws.PutLaws.{part_put}
use Rattle.block.proofs.put.zeros.Goals as goal

pub returns : goal.returns
returns c =
    let args = c.args in
    let n : length c.fill.new.self ≡ args.n = omega arith in
    let after = c.fill.ensures.after (λ y e. e) in
    part_put args.dst.now c.fill.new.self args.at args.n c.requires n ∙ ap (put args.dst.now args.at) (after ∙ ap (λ k. replicate k 0) (sym c.fill.ensures.len ∙ n))
