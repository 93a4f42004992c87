-- `Declarations::few_steps` meets its contract: the table has room for the offsets of few structs.
use Rattle.std.proofs.Common.{refl, ap, ◌∙◌, arith}
use Rattle.resolve.specs.Checks.{narrow}
use Rattle.resolve.specs.Laws.FirstLaws.{take_long}
use Rattle.uses.specs.Laws.TablingLaws.{steps_narrowed}
use Rattle.uses.proofs.declared.Declarations.few_steps.Goals as goal

pub slice_bounds-narrow-end : goal.slice_bounds-narrow-end
slice_bounds-narrow-end c = take_long _ _ (omega (arith, c.rows.auto.table, c.requires.1))

pub returns : goal.returns
returns c =
    c.narrow.ensures ∙ ap narrow (steps_narrowed _ _ c.requires.0 c.requires.1 refl c.rows.ensures)
