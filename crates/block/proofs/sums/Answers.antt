-- `sums` meets its contract. The loop's invariant: A is the sum of the bytes passed, B the sum of the running sums, each wrapped.
use Rattle.std.proofs.Common.{◌≡◌, ℕ, ◌-◌, ◌*◌, ◌%◌, ◌∙◌, refl, subst, arith, get_or-take, length-take, length-take-le, ◌<◌}
use Rattle.block.specs.Sums.{byte, sum, sum_a, sum_b}
use Rattle.block.proofs.Laws.SumLaws.{sums_turn}
use Rattle.block.proofs.sums.Goals as goal

pub loop-byte-init : goal.loop-byte-init
unfolding sum
loop-byte-init c = omega arith

pub loop-byte-preserved : goal.loop-byte-preserved
loop-byte-preserved c =
    let s = c.args.block.now in
    let inv = c.loop-byte.invariant in
    let i : c.loop-byte.byte-index < 508 = omega (arith, c.loop-byte-test.true, length-take 508 s) in
    let is : c.from-a.result ≡ byte s c.loop-byte.byte-index = c.from-a.ensures ∙ get_or-take 508 s _ 0 i in
    sums_turn s c.loop-byte.byte-index _ _ _ _ _ inv.0 inv.1 is (omega (arith, is, c.type_inv.block c.loop-byte.byte-index)) refl refl

pub returns : goal.returns
unfolding sum_a sum_b
returns c =
    let loop = c.loop-byte in
    let s = c.args.block.now in
    let e : loop.byte-index ≡ 508 = omega (arith, c.loop-byte-test.false, c.loop-byte.auto.byte-index-end, length-take-le 508 s c.requires) in
    subst (λ (n : ℕ). (loop.a ≡ sum n (λ j. byte s j) % 65536) × (loop.b ≡ sum n (λ j. (n - j) * byte s j) % 65536)) e loop.invariant
