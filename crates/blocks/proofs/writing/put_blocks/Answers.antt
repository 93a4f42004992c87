-- `writing::put_blocks` meets its contract. The loop's invariant: the first k blocks have been written.
use Rattle.std.proofs.Common.{◌≤◌, ◌-◌, ◌≡◌, ◌∙◌, ap, sym, refl, length, arith}
use Rattle.block.specs.Put.{put}
use Rattle.block.proofs.Laws.PutLaws.{put_nil}
use Rattle.blocks.specs.Images.{image_of}
use Rattle.blocks.proofs.ImageLaws.{piece_fits}
use Rattle.blocks.proofs.WriteWays.{blocks_turn}
use Rattle.blocks.proofs.writing.put_blocks.Goals as goal

pub loop-k-init : goal.loop-k-init
unfolding image_of
loop-k-init c = (refl, sym (put_nil _ _))

pub put_block-requires : goal.put_block-requires
put_block-requires c =
    let args = c.args in
    record { at_in_bounds = omega (arith, ap length c.piece.ensures, piece_fits args.stream.now c.loop-k.k); part_len_bound = omega (arith, ap length c.piece.ensures, piece_fits args.stream.now c.loop-k.k) }

pub loop-k-preserved : goal.loop-k-preserved
loop-k-preserved c =
    let args = c.args in let s = args.stream.now in let k = c.loop-k.k in
    let inv = c.loop-k.invariant in (
      c.put_block.auto.out ∙ inv.0,
      blocks_turn s args.out.now _ _ _ k _ c.requires.n_in_bounds.0 c.loop-k-test.true inv.1
          c.piece.ensures c.put_block.ensures,
    )

pub shape_of-out : goal.shape_of-out
shape_of-out c = c.loop-k.invariant.0

pub returns : goal.returns
returns c =
    let args = c.args in
    let e : c.loop-k.k ≡ args.n = omega arith in
    c.loop-k.invariant.1 ∙ ap (λ k. put args.out.now 0 (image_of args.stream.now k)) e
