-- `emit::steps::step` meets its contract: a step is its name and its body.
use Rattle.std.proofs.Common.{arith}
use Rattle.emit.specs.Laws.PartsLaws.{part_ready, part_same}
use Rattle.emit.specs.Laws.StepLaws.{step_part}
use Rattle.emit.proofs.steps.step.Goals as goal

pub overflow_add-at : goal.overflow_add-at
overflow_add-at c = omega (arith, step_part _ _ _ c.requires.good)

pub body-requires : goal.body-requires
body-requires c = part_ready (step_part _ _ _ c.requires.good).1 c.requires

pub returns : goal.returns
returns c = part_same (step_part _ _ _ c.requires.good).1 c.body.ensures
