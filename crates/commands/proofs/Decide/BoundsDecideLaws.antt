-- The test of the limits is exact (01, number 6).
use Rattle.std.specs.Prelude.{true, ◌↔◌, ◌≡◌}
use Rattle.types.specs.Limits.{step_commands, max_commands, max_depth, schedule_items}
use Rattle.program.specs.Tree.{Program}
use Rattle.types.specs.Reflects.{Reflects, reflects_iff, reflects_map, reflects_both, le_reflects}
use Rattle.commands.specs.Bounds.{items_count, step_size, step_depth, program_size, Within}
use Rattle.commands.proofs.Decide.DecideLaws.{every_reflects}
use Rattle.commands.specs.Decide.BoundsDecide.{within}

-- the test decides whether a program keeps to the limits
pub within_reflects : (p : Program) → Reflects (Within p) (within p)
unfolding Within within
within_reflects p =
    reflects_map (λ h. (h.0, h.1.0, h.1.1.0, h.1.1.1)) (λ h. (h.0, (h.1, (h.2, h.3))))
    (reflects_both (every_reflects (every_reflects (λ t. le_reflects (step_size t) step_commands)) p.steps)
    (reflects_both (le_reflects (program_size p) max_commands)
    (reflects_both (every_reflects (every_reflects (λ t. le_reflects (step_depth p t) max_depth)) p.steps)
    (le_reflects (items_count p.schedule) schedule_items))))

-- the test is true exactly where a program keeps to the limits
pub within_exact : (p : Program) → (within p ≡ true) ↔ Within p
within_exact p = reflects_iff (within_reflects p)
