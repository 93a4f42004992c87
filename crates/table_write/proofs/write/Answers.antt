-- `write` meets its contract: the stream of the instances fits the buffer and its blocks the output.
use Rattle.std.proofs.Common.{arith, ◌≡◌, ◌≤◌, sym, length, length-take-le}
use Rattle.table_write.specs.Written.{memory_blocks}
use Rattle.table_write.specs.WrittenWays.{stream_fits, blocks_are, image_is}
use Rattle.table_write.proofs.write.Goals as goal
use Rattle.table_write.proofs.write.Goals.{After-stream-len, After-write_image-w}
use Rattle.std.specs.Prelude.{Ok}

pub stream-len-requires : goal.stream-len-requires
stream-len-requires c = record { filled = c.requires.filled; counts_len_bound = omega (arith, c.requires.filled.most) }

-- the stream fits the buffer
fits : (c : After-stream-len) → c.stream-len.result ≤ length c.stream-len.new.out
fits c =
    let args = c.args in
    omega (
      arith,
      stream_fits args.counts.now args.heads.now args.cells.now args.n c.requires.filled,
      c.stream-len.ensures.value,
      c.stream-len.auto.out,
      c.requires.counts_len_bound.1,
    )

pub slice_bounds-write_image-end : goal.slice_bounds-write_image-end
slice_bounds-write_image-end c = fits (goal.at.slice_bounds-write_image-end c).After-stream-len

pub slice_bounds-write_image-end-2 : goal.slice_bounds-write_image-end-2
slice_bounds-write_image-end-2 c = sym (length-take-le _ _ (fits (goal.at.slice_bounds-write_image-end-2 c).After-stream-len))

-- the blocks that are written
blocks : (c : After-write_image-w)
    → c.write_image-w.result ≡ Ok (memory_blocks c.args.counts.now c.args.heads.now c.args.cells.now c.args.n)
blocks c =
    let args = c.args in let d = c.stream-len in let w = c.write_image-w in let b = c.requires.counts_len_bound in
    blocks_are args.counts.now args.heads.now args.cells.now args.n c.requires.filled _ d.new.out d.result w.result
    args.out.now w.new.out b.1 d.ensures.value d.ensures.out_after b.2 w.ensures.value w.ensures.out_after

pub returns-in_default : goal.returns-in_default
returns-in_default c = let are = blocks (goal.at.returns-in_default c).After-write_image-w in absurd (c.in_default.not-Ok _ are)

pub returns : goal.returns
returns c =
    let are = blocks (goal.at.returns c).After-write_image-w in let told = c.in-Ok.is in
    let args = c.args in let d = c.stream-len in let w = c.write_image-w in let b = c.requires.counts_len_bound in
    record {
      value = cc;
      out_after =
          image_is args.counts.now args.heads.now args.cells.now args.n c.requires.filled _ d.new.out d.result w.result
          args.out.now w.new.out b.1 d.ensures.value d.ensures.out_after b.2 w.ensures.value w.ensures.out_after;
    }
