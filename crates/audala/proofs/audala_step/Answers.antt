-- What `step_place` answers, in 32 bits: the part lies in the list's first 1,024 places.
use Rattle.std.proofs.Common.{arith, ap}
use Rattle.step_part.specs.StepPartLaws.{place_fits}
use Rattle.audala.specs.Exported.{exported_part}
use Rattle.audala.proofs.audala_step.Goals as goal

pub overflow_cast-result : goal.overflow_cast-result
overflow_cast-result c =
    let args = c.args in
    let f = rw (← c.step_place-p.ensures) at (place_fits args.image.now args.list.now args.structure args.name) in
    omega (arith, f)

pub overflow_cast-result-2 : goal.overflow_cast-result-2
overflow_cast-result-2 c =
    let args = c.args in
    let f = rw (← c.step_place-p.ensures) at (place_fits args.image.now args.list.now args.structure args.name) in
    omega (arith, f)

pub returns : goal.returns
returns c = rw c.from.ensures (ap exported_part c.step_place-p.ensures)
