-- `count::holding` meets its contract. The loop's invariant: those counted and those still to be counted are all. The measure is how
-- many instances are left.
use Rattle.std.proofs.Common.{◌-◌, ◌≡◌, sym, ap, ◌∙◌, arith}
use Rattle.memory.specs.Choose.{holding}
use Rattle.scheduler.specs.CountWays.{count_done, count_here, count_past}
use Rattle.scheduler.proofs.count.holding.Goals as goal
use Rattle.scheduler.proofs.count.holding.Goals.{then-holds, else-holds}

pub loop-l-init : goal.loop-l-init
loop-l-init c =
    let args = c.args in
    let z : args.n - 0 ≡ args.n = omega arith in
    let e = ap (holding args.heads.now 0) z in
    (omega arith, omega arith, omega arith)

pub loop-l-preserved : goal.loop-l-preserved
loop-l-preserved c =
    let args = c.args in let h = args.heads.now in
    let flag = sym c.holds.ensures in
    elim c.if-holds.branch [
      | then-holds w ↦ (let e = count_here h args.n c.loop-l.l c.loop-l-test.true (flag ∙ w.if-holds.true) in (omega arith, omega arith, omega arith))
      | else-holds w ↦ (let e = count_past h args.n c.loop-l.l c.loop-l-test.true (flag ∙ w.if-holds.false) in (omega arith, omega arith, omega arith))
    ]

pub returns : goal.returns
returns c =
    let args = c.args in
    omega (arith, count_done args.heads.now args.n c.loop-l.l c.loop-l-test.false)
