-- `has_step` meets its contract. The loop's invariant: whether a struct from k on has the step says whether any has. The measure is how many structs are left.
use Rattle.std.proofs.Common.{◌≤◌, ◌-◌, arith, ◌≡◌, sym, ap, ◌∙◌}
use Rattle.count_images.specs.Asking.{has_step}
use Rattle.count_images.specs.Laws.AskingLaws.{step_none, step_here, step_past}
use Rattle.count_images.proofs.has_step.Goals as goal

pub loop-k-init : goal.loop-k-init
loop-k-init c =
    let args = c.args in
    let z : args.structs - 0 ≡ args.structs = omega arith in
    (omega arith, ap (has_step args.spans.now args.name 0) z)

pub returns-then-spans-at : goal.returns-then-spans-at
returns-then-spans-at c =
    let args = c.args in
    sym (step_here args.spans.now args.name args.structs c.loop-k.k c.loop-k-test.true c.if-spans-at.true) ∙ c.loop-k.invariant.1

pub loop-k-preserved : goal.loop-k-preserved
loop-k-preserved c =
    let args = c.args in (
      omega arith,
      sym (step_past args.spans.now args.name args.structs c.loop-k.k c.loop-k-test.true c.if-spans-at.false) ∙ c.loop-k.invariant.1,
    )

pub returns : goal.returns
returns c =
    let args = c.args in
    sym (step_none args.spans.now args.name args.structs c.loop-k.k c.loop-k-test.false) ∙ c.loop-k.invariant.1
