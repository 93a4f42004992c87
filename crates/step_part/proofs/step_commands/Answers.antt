-- `step_part::step_commands` meets its contract: the part lies in the list.
use Rattle.std.proofs.Common.{ℕ, ◌+◌, ◌-◌, arith, ◌≡◌, ap, ◌∙◌, take, drop}
use Rattle.step_part.specs.StepPartLaws.{place_fits, place_part}
use Rattle.step_part.proofs.step_commands.Goals as goal

pub overflow_add-end : goal.overflow_add-end
overflow_add-end c =
    let a = c.args in
    let f = rw (← c.step_place-p.ensures) at (place_fits a.image.now a.list.now a.structure a.name) in
    omega (arith, f)

pub offset_bounds-list-start : goal.offset_bounds-list-start
offset_bounds-list-start c =
    let a = c.args in
    let f = rw (← c.step_place-p.ensures) at (place_fits a.image.now a.list.now a.structure a.name) in
    omega (arith, f)

pub slice_bounds-result-end : goal.slice_bounds-result-end
slice_bounds-result-end c =
    let a = c.args in
    let f = rw (← c.step_place-p.ensures) at (place_fits a.image.now a.list.now a.structure a.name) in
    omega (arith, f)

pub returns : goal.returns
returns c =
    let a = c.args in
    let z = c.step_place-p.result in
    let f = rw (← c.step_place-p.ensures) at (place_part a.image.now a.list.now a.structure a.name) in
    let d : z.start + z.len - z.start ≡ z.len = omega arith in
    ap (λ (j : ℕ). take j (drop z.start a.list.now)) d ∙ f
