-- `Book::unused` meets its contract.
use Rattle.std.proofs.Common.{refl, ap, ◌∙◌, not, arith, ◌<◌}
use Rattle.resolve.specs.Named.{name_at, names_at, sought}
use Rattle.resolve.specs.Laws.NamedLaws.{found_sought, some_found, none_found}
use Rattle.uses.specs.Layout.{declared_end}
use Rattle.uses.specs.Laws.PartLaws.{up_to, up_to_long}
use Rattle.uses.specs.Laws.SeeingLaws.{met_one, met_none}
use Rattle.uses.proofs.book.Book.unused.Goals as goal

pub returns-then-is_none : goal.returns-then-is_none
returns-then-is_none c =
    let w = up_to_long c.args.locals.now declared_end c.args.met c.requires.locals_len.1 (omega (arith, c.requires.locals_len.0)) in
    met_none _ _ _ _ _ refl
    (omega (arith, none_found _ _ _ (found_sought _ _ _ _ c.lookup.ensures) (c.is_none.ensures ∙ ap not c.if-is_none.true), w))
    c.no_parameter.ensures

pub returns-else-is_none : goal.returns-else-is_none
returns-else-is_none c =
    let w = up_to_long c.args.locals.now declared_end c.args.met c.requires.locals_len.1 (omega (arith, c.requires.locals_len.0)) in
    let p : sought (name_at c.args.self.text.now c.args.at) (names_at c.args.self.text.now (up_to c.args.locals.now declared_end c.args.met)) < c.args.met =
    omega (arith, some_found _ _ _ (found_sought _ _ _ _ c.lookup.ensures) (c.is_none.ensures ∙ ap not c.if-is_none.false), w) in
    c.if-is_none.false ∙ met_one _ _ _ _ refl p
