-- `totals::over` meets its contract: a step has too many commands, goes too deep, or neither.
use Rattle.std.proofs.Common.{lt-ltb, le-ltb}
use Rattle.read_program.specs.Total.{over_by}
use Rattle.read_program.proofs.totals.over.Goals as goal
use Rattle.read_program.proofs.totals.over.Goals.{then-d-gt-STEP_COMMANDS-via-then-d-gt-STEP_COMMANDS, then-d-gt-STEP_COMMANDS-via-else-d-gt-STEP_COMMANDS+then-d-gt-MAX_DEPTH}

pub returns-then-d-gt-STEP_COMMANDS : goal.returns-then-d-gt-STEP_COMMANDS
unfolding over_by
returns-then-d-gt-STEP_COMMANDS c =
    elim c.then-d-gt-STEP_COMMANDS.branch [
      | then-d-gt-STEP_COMMANDS-via-then-d-gt-STEP_COMMANDS w ↦ simp (over_by, lt-ltb _ _ w.if-d-gt-STEP_COMMANDS.true)
      | then-d-gt-STEP_COMMANDS-via-else-d-gt-STEP_COMMANDS+then-d-gt-MAX_DEPTH w ↦
          simp (over_by, le-ltb _ _ w.if-d-gt-STEP_COMMANDS.false, lt-ltb _ _ w.if-d-gt-MAX_DEPTH.true)
    ]

pub returns : goal.returns
unfolding over_by
returns c = simp (over_by, le-ltb _ _ c.if-d-gt-STEP_COMMANDS.false, le-ltb _ _ c.if-d-gt-MAX_DEPTH.false)
