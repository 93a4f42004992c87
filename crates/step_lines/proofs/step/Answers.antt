-- `step` meets its contract.
use Rattle.std.proofs.Common.{arith, refl, ◌∙◌, ◌+◌, ◌-◌, take, drop}
use Rattle.step_lines.specs.RowLinesLaws.{no_lines, more_lines, part_taken, row_placed}
use Rattle.step_lines.proofs.step.Goals as goal

pub loop-i-init : goal.loop-i-init
loop-i-init c = (refl, omega arith, no_lines _ _ (take (c.from-start.result + c.from.result - c.from-start.result) (drop c.from-start.result c.args.list.now)) _ _)

pub line-at-requires : goal.line-at-requires
line-at-requires c =
    let h = c.loop-i.invariant in
    let p = part_taken c.args.list.now c.args.r _ _ c.from-start.ensures c.from.ensures c.requires.0.1 in
    omega (arith, h.0, h.1, p.1, c.loop-i-test.true, c.requires.1)

pub loop-i-preserved : goal.loop-i-preserved
loop-i-preserved c =
    let h = c.loop-i.invariant in (
      c.line-at.auto.out ∙ h.0,
      omega (arith, c.line-at.ensures.upper_bound, h.1),
      more_lines _ _ _ _ _ c.loop-i.i c.loop-i-test.true h.2 c.line-at.ensures.placed,
    )

pub returns : goal.returns
returns c =
    let h = c.loop-i.invariant in
    let p = part_taken c.args.list.now c.args.r _ _ c.from-start.ensures c.from.ensures c.requires.0.1 in
    record {
      placed = row_placed c.args.list.now c.args.r _ c.loop-i.i p.0 c.loop-i-test.false h.2;
      upper_bound = omega (arith, h.1, p.1, c.loop-i.auto.i-end);
    }
