-- `had` meets its contract. The loop's invariant: some struct has the step where one from struct k on has it.
use Rattle.std.proofs.Common.{◌-◌, arith, ◌≡◌, refl, sym, ◌∙◌}
use Rattle.directory.specs.Rows.{rows_from}
use Rattle.read_schedule.specs.PlanWays.{had_none, had_here, had_on}
use Rattle.read_schedule.proofs.had.Goals as goal

pub loop-k-init : goal.loop-k-init
loop-k-init c =
    let whole : c.args.t.now.structs - 0 ≡ c.args.t.now.structs = omega arith in
    rw whole refl

pub returns-then-there : goal.returns-then-there
returns-then-there c =
    let a = c.args in
    sym (c.loop-k.invariant ∙ had_here (rows_from a.t.now.rows.now 0 a.t.now.steps) a.n c.loop-k.k a.t.now.structs (omega arith) (sym c.there.ensures ∙ c.if-there.true))

pub loop-k-preserved : goal.loop-k-preserved
loop-k-preserved c =
    let a = c.args in
    c.loop-k.invariant ∙ had_on (rows_from a.t.now.rows.now 0 a.t.now.steps) a.n c.loop-k.k a.t.now.structs (omega arith) (sym c.there.ensures ∙ c.if-there.false)

pub returns : goal.returns
returns c =
    let a = c.args in
    sym (c.loop-k.invariant ∙ had_none (rows_from a.t.now.rows.now 0 a.t.now.steps) a.n c.loop-k.k a.t.now.structs (omega arith))
