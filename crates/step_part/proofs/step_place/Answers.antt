-- `step_part::step_place` meets its contract: the image is refused, the list is too short, or the step was looked for.
use Rattle.std.proofs.Common.{sym, ap, ◌∙◌}
use Rattle.step_part.specs.declared.Spot.{Spot}
use Rattle.step_part.specs.StepPartLaws.{place_numbered, place_short, place_room}
use Rattle.step_part.proofs.step_place.Goals as goal

pub returns-then-z-ne0 : goal.returns-then-z-ne0
returns-then-z-ne0 c =
    let args = c.args in
    let e = c.locate-z.ensures in
    e ∙ place_numbered args.image.now args.list.now _ _ (λ h. c.if-z-ne0.true (ap (λ (z : Spot). z.number) e ∙ h))

pub returns-then-list-lt-MAX_COMMANDS : goal.returns-then-list-lt-MAX_COMMANDS
returns-then-list-lt-MAX_COMMANDS c =
    let args = c.args in
    let none = sym (ap (λ (z : Spot). z.number) c.locate-z.ensures) ∙ c.if-z-ne0.false in
    c.nowhere.ensures ∙ place_short args.image.now args.list.now _ _ none c.if-list-lt-MAX_COMMANDS.true

pub returns : goal.returns
returns c =
    let args = c.args in
    let none = sym (ap (λ (z : Spot). z.number) c.locate-z.ensures) ∙ c.if-z-ne0.false in
    c.locate-z.ensures ∙ place_room args.image.now args.list.now _ _ none c.if-list-lt-MAX_COMMANDS.false
