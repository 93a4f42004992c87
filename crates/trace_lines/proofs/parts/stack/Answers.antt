-- `parts::stack` meets its contract. The loop's invariant: the h lowest cells are written. The measure is how many are left.
use Rattle.std.proofs.Common.{arith, ◌+◌, ◌-◌, ◌*◌, ◌≤◌, ◌≡◌, refl, ◌∙◌}
use Rattle.layout.specs.Layout.{head, height_of}
use Rattle.trace_lines.specs.Parts.{cell_most}
use Rattle.trace_lines.specs.PartsLaws.{cells_none, cells_more, cells_all}
use Rattle.trace_lines.proofs.parts.stack.Goals as goal

pub overflow_cast-high : goal.overflow_cast-high
overflow_cast-high c = omega (arith, c.type_inv.heads (head c.args.l height_of))

pub loop-h-init : goal.loop-h-init
loop-h-init c = (refl, omega arith, omega arith, cells_none _ _ _)

pub bounds-cells-bottom : goal.bounds-cells-bottom
bounds-cells-bottom c = omega (arith, c.loop-h-test.true, c.requires.stack_fits.low, c.requires.stack_fits.wide)

pub cell-at-requires : goal.cell-at-requires
cell-at-requires c =
    record { cell_fits = c.requires.stack_fits.each c.loop-h.h (omega (arith, c.loop-h-test.true)); cell_most_in_bounds = omega (arith, c.loop-h.invariant.0, c.loop-h.invariant.2, c.loop-h-test.true, c.requires.stack_fits.low, c.requires.max_depth_in_bounds) }

pub loop-h-preserved : goal.loop-h-preserved
loop-h-preserved c = (
  c.cell-at.auto.out ∙ c.loop-h.invariant.0,
  omega (arith, c.loop-h-test.true),
  omega (arith, c.cell-at.ensures.upper_bound, c.loop-h.invariant.2),
  cells_more _ _ _ c.loop-h.h c.loop-h.invariant.3 c.cell-at.ensures.placed,
)

pub returns : goal.returns
returns c =
    record { placed = cells_all _ _ _ c.loop-h.invariant.3 c.loop-h.invariant.1 c.loop-h-test.false; upper_bound = omega (arith, c.loop-h.invariant.2, c.requires.stack_fits.low) }
