-- `reading::join` meets its contract. The loop's invariant: the used payloads of the first k blocks have been joined.
use Rattle.std.proofs.Common.{◌≤◌, ◌-◌, ◌≡◌, ◌∙◌, ap, sym, refl, length, arith}
use Rattle.block.specs.Put.{put}
use Rattle.block.proofs.Laws.PutLaws.{put_nil}
use Rattle.blocks.specs.Images.{joined}
use Rattle.blocks.proofs.ImageLaws.{block_whole}
use Rattle.blocks.proofs.ImageWays.{block_at, part_at, joined_fits, join_turn, used_fits}
use Rattle.blocks.proofs.reading.join.Goals as goal

pub loop-k-init : goal.loop-k-init
unfolding joined
loop-k-init c = (refl, sym (put_nil _ _))

pub pair_at-used-requires : goal.pair_at-used-requires
pair_at-used-requires c =
    let args = c.args in
    let x = args.image.now in
    omega (arith, ap length (block_at x c.loop-k.k) ∙ block_whole _ x c.requires.image_len c.loop-k.k c.loop-k-test.true)

pub payload-requires : goal.payload-requires
payload-requires c =
    let args = c.args in
    let x = args.image.now in
    let full = ap length (block_at x c.loop-k.k)
    ∙ block_whole _ x c.requires.image_len c.loop-k.k c.loop-k-test.true in (
      used_fits _ x c.requires.image_len c.requires.all_right c.loop-k.k c.loop-k-test.true _
          c.pair_at-used.ensures.0,
      full,
    )

pub copy-requires : goal.copy-requires
copy-requires c =
    let args = c.args in
    let x = args.image.now in let k = c.loop-k.k in
    let part = part_at x k _ _ c.pair_at-used.ensures.0 c.payload.ensures in
    omega (arith, ap length part, joined_fits _ x c.requires.image_len c.requires.all_right k c.loop-k-test.true)

pub loop-k-preserved : goal.loop-k-preserved
loop-k-preserved c =
    let args = c.args in
    let x = args.image.now in let k = c.loop-k.k in let d = args.buffer.now in
    let inv = c.loop-k.invariant in
    let part = part_at x k _ _ c.pair_at-used.ensures.0 c.payload.ensures in (
      c.copy.auto.dst ∙ inv.0,
      join_turn _ x c.requires.image_len c.requires.all_right k c.loop-k-test.true d _ _ _ c.requires.n_in_bounds
          inv.1 part c.copy.ensures,
    )

pub shape_of-buffer : goal.shape_of-buffer
shape_of-buffer c = c.loop-k.invariant.0

pub returns : goal.returns
returns c =
    let args = c.args in
    let e : c.loop-k.k ≡ args.n = omega arith in
    c.loop-k.invariant.1 ∙ ap (λ k. put args.buffer.now 0 (joined args.image.now k)) e
