-- `locate` meets its contract: the image is refused, or the step is looked up in the rows of its program.
use Rattle.std.proofs.Common.{sym, ap, ◌∙◌}
use Rattle.verdict.specs.Verdict.{checked}
use Rattle.load.specs.LoadLaws.{LoadedAs, load_refused, load_value, rows_are}
use Rattle.step_part.specs.StepPart.{spot_at}
use Rattle.step_part.specs.StepPartLaws.{spot_sought, spot_refused, spot_accepted}
use Rattle.step_part.proofs.locate.Goals as goal

pub returns-in-Err : goal.returns-in-Err
returns-in-Err c =
    (rw c.from.ensures at c.nowhere.ensures)
    ∙ spot_refused _ _ _ _ (load_refused c.args.image.now _ (sym c.in-Err.ensures.value))

pub returns : goal.returns
returns c =
    let loads' : LoadedAs c.args.image.now c.in-Ok.p = load_value _ _ (sym c.in-Ok.ensures.value) in
    let l = loads' in let args = c.args in
    c.spotted.ensures
    ∙ ap spot_at c.find.ensures
    ∙ spot_sought l.program _ args.structure args.name (rows_are _ _ l _ c.program-r.ensures.rows_held)
    ∙ spot_accepted (checked args.image.now) args.structure args.name l.program l.accepts
