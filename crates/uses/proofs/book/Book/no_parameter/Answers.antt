-- `Book::no_parameter` meets its contract.
use Rattle.std.proofs.Common.{◌-◌, ◌<◌, arith, eq-eqb, ◌∙◌}
use Rattle.uses.specs.Lent.{structs_of_table, book_in}
use Rattle.uses.specs.Laws.SeeingLaws.{no_row, off_row}
use Rattle.uses.proofs.book.Book.no_parameter.Goals as goal

pub returns-then-begun-eq0 : goal.returns-then-begun-eq0
returns-then-begun-eq0 c = eq-eqb _ _ c.if-begun-eq0.true ∙ no_row (book_in c.args.self.text.now c.args.self.tables.now) _ _ c.if-begun-eq0.true

pub parameter-requires : goal.parameter-requires
parameter-requires c =
    let h : c.args.begun - 1 < structs_of_table c.args.self.tables.now = omega (arith, c.if-begun-eq0.false, c.requires) in
    (h, c.args.self.booked.rows (c.args.begun - 1) h)

pub returns-else-begun-eq0 : goal.returns-else-begun-eq0
returns-else-begun-eq0 c =
    off_row (book_in c.args.self.text.now c.args.self.tables.now) _ _ c.if-begun-eq0.false _ _ _ c.parameter.ensures c.is_none.ensures
