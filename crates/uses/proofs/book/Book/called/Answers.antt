-- `Book::called` meets its contract: a struct, or a step.
use Rattle.std.proofs.Common.{ap, ◌∙◌}
use Rattle.resolve.specs.Named.{name_at}
use Rattle.uses.specs.Lent.{book_in}
use Rattle.uses.specs.Seeing.{seen_listed}
use Rattle.uses.specs.Laws.SeeingLaws.{among_structs, among_steps}
use Rattle.uses.proofs.book.Book.called.Goals as goal

pub returns-then-role-eq-CALLED_STRUCT : goal.returns-then-role-eq-CALLED_STRUCT
unfolding book_in
returns-then-role-eq-CALLED_STRUCT c =
    let a = c.args in
    c.listed.ensures
    ∙ ap (λ l. seen_listed l (name_at a.self.text.now a.at) a.typ)
    (among_structs (book_in a.self.text.now a.self.tables.now) a.role c.if-role-eq-CALLED_STRUCT.true)

pub returns : goal.returns
unfolding book_in
returns c =
    let a = c.args in
    c.listed-2.ensures
    ∙ ap (λ l. seen_listed l (name_at a.self.text.now a.at) a.typ)
    (among_steps (book_in a.self.text.now a.self.tables.now) a.role c.if-role-eq-CALLED_STRUCT.false)
