-- `count::commands` meets its contract. The loop's invariant: those counted and those still to be counted are all. The measure is how many instances
-- are left.
use Rattle.std.proofs.Common.{◌-◌, ◌≡◌, ap, arith}
use Rattle.counting.specs.Counting.{commands_in}
use Rattle.counting.specs.Laws.CommandLaws.{commands_done, commands_next}
use Rattle.counting.proofs.count.commands.Goals as goal

pub loop-l-init : goal.loop-l-init
loop-l-init c =
    let args = c.args in
    let z : args.n - 0 ≡ args.n = omega arith in
    let e = ap (commands_in args.heads.now 0) z in
    (omega arith, omega arith, omega arith)

pub overflow_add-sum : goal.overflow_add-sum
overflow_add-sum c = omega (arith, c.held-sum.ensures.1)

pub loop-l-preserved : goal.loop-l-preserved
loop-l-preserved c =
    let args = c.args in
    let e = commands_next args.heads.now args.n c.loop-l.l c.loop-l-test.true in
    let r = c.held-sum.ensures in
    (omega arith, omega (arith, r.1), omega (arith, r.0, e))

pub returns : goal.returns
returns c =
    let args = c.args in
    omega (arith, commands_done args.heads.now args.n c.loop-l.l c.loop-l-test.false)
