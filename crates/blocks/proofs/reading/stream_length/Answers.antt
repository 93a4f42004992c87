-- `reading::stream_length` meets its contract: the last block's used count stands at its byte 2.
use Rattle.std.proofs.Common.{◌≡◌, suc, ◌-◌, arith}
use Rattle.blocks.proofs.ImageLaws.{stream_length}
use Rattle.blocks.proofs.ImageWays.{used_at}
use Rattle.blocks.proofs.reading.stream_length.Goals as goal

pub returns : goal.returns
returns c =
    let args = c.args in let x = args.image.now in let n = args.n in
    let e : suc (n - 1) ≡ n = omega arith in
    omega (arith, stream_length n x c.requires.image_len.0 c.requires.all_right (n - 1) e, used_at x (n - 1), c.pair_at.ensures.0)
