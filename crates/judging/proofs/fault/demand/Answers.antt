-- `fault::demand` meets its contract.
use Rattle.std.proofs.Common.{eq-eqb, ne_eqb}
use Rattle.judge.specs.Facts.{demand}
use Rattle.judging.proofs.fault.demand.Goals as goal
use Rattle.judging.proofs.fault.demand.Goals.{then-fault-ne0-via-then-fault-ne0, then-fault-ne0-via-else-fault-ne0+then-right}

pub returns-then-fault-ne0 : goal.returns-then-fault-ne0
unfolding demand
returns-then-fault-ne0 c =
    elim c.then-fault-ne0.branch [
      | then-fault-ne0-via-then-fault-ne0 w ↦ simp (demand, ne_eqb _ _ w.if-fault-ne0.true)
      | then-fault-ne0-via-else-fault-ne0+then-right w ↦ simp (demand, eq-eqb _ _ w.if-fault-ne0.false, w.if-right.true) w.if-fault-ne0.false
    ]

pub returns : goal.returns
unfolding demand
returns c = simp (demand, c.from.ensures, eq-eqb _ _ c.if-fault-ne0.false, c.if-right.false)
