-- `reading::first_fault` meets its contract. The loop's invariant: the first k blocks have no fault.
use Rattle.std.proofs.Common.{◌≤◌, ◌-◌, ◌≡◌, ◌∙◌, ap, sym, refl, subst, length, rules, arith}
use Rattle.block.specs.Block.{block_fault}
use Rattle.blocks.specs.Images.{first_fault}
use Rattle.blocks.proofs.ImageLaws.{block_whole}
use Rattle.blocks.proofs.ImageWays.{block_at, first_more, first_stop}
use Rattle.blocks.proofs.reading.first_fault.Goals as goal
use Rattle.std.specs.Prelude.{None}

pub loop-k-init : goal.loop-k-init
unfolding first_fault
loop-k-init c = refl

pub block_fault-requires : goal.block_fault-requires
block_fault-requires c =
    let x = c.args.image.now in
    ap length (block_at x c.loop-k.k)
    ∙ block_whole _ x c.requires c.loop-k.k c.loop-k-test.true

pub returns-in-Some : goal.returns-in-Some
returns-in-Some c =
    let args = c.args in let x = args.image.now in
    let k = c.loop-k.k in
    let here = ap (block_fault k _) (sym (block_at x k)) ∙ sym c.block_fault.ensures ∙ c.in-Some.is in
    sym (first_stop _ x k _ c.loop-k-test.true c.loop-k.invariant here)

pub loop-k-preserved : goal.loop-k-preserved
loop-k-preserved c =
    let args = c.args in
    let x = args.image.now in let k = c.loop-k.k in
    let here = ap (block_fault k _) (sym (block_at x k)) ∙ sym c.block_fault.ensures ∙ c.in_default.is in
    first_more _ x k c.loop-k.invariant here

pub returns : goal.returns
returns c =
    let x = c.args.image.now in
    let e : c.loop-k.k ≡ c.args.n = omega arith in
    sym (subst (λ m. first_fault c.args.n x m ≡ None) e c.loop-k.invariant)
