-- `write_image` meets its contract: a length that is not allowed before a short output, and the image only where neither is.
use Rattle.std.proofs.Common.{◌≡◌, ◌∙◌, ap, sym, refl, arith, length, Ok}
use Rattle.block.specs.Put.{put}
use Rattle.blocks.specs.Images.{image, image_of, pieces, written_into}
use Rattle.blocks.proofs.WriteWays.{right_stream, write_refused, write_short, write_done, write_after}
use Rattle.blocks.proofs.write_image.Goals as goal

pub returns-then-not-stream_right : goal.returns-then-not-stream_right
unfolding written_into
returns-then-not-stream_right c =
    record { value = write_refused _ _ _ _ c.stream_right.ensures c.if-not-stream_right.true; out_after = refl }

pub overflow_mul-n : goal.overflow_mul-n
overflow_mul-n c = omega (arith, right_stream _ _ _ c.stream_right.ensures c.if-not-stream_right.false)

pub returns-then-out-n : goal.returns-then-out-n
unfolding written_into
returns-then-out-n c =
    let n : c.div_ceil-n.result ≡ pieces (length c.args.stream.now) = omega arith in
    record { value = write_short _ _ _ _ c.stream_right.ensures c.if-not-stream_right.false (rw n at c.if-out-n.true); out_after = refl }

pub put_blocks-requires : goal.put_blocks-requires
put_blocks-requires c =
    record { n_in_bounds = omega (arith, right_stream _ _ _ c.stream_right.ensures c.if-not-stream_right.false); n_in_bounds_2 = omega (arith, right_stream _ _ _ c.stream_right.ensures c.if-not-stream_right.false) }

pub shape_of-out : goal.shape_of-out
shape_of-out c = c.put_blocks.auto.out

pub returns : goal.returns
unfolding image
returns c =
    let args = c.args in
    let s = args.stream.now in
    let n : c.div_ceil-n.result ≡ pieces (length s) = omega arith in
    record {
      value = ap Ok n ∙ write_done _ _ _ _ c.stream_right.ensures c.if-not-stream_right.false (rw n at c.if-out-n.false);
      out_after =
          c.put_blocks.ensures ∙ ap (λ k. put args.out.now 0 (image_of s k)) n ∙ write_after s args.out.now ∙ ap (λ k. written_into (Ok k) s args.out.now) (sym n);
    }
