-- `Book::parameter` meets its contract.
use Rattle.std.proofs.Common.{refl, arith, ◌∙◌}
use Rattle.resolve.specs.Laws.NamedLaws.{found_none, found_some}
use Rattle.uses.specs.Laws.SeeingLaws.{parameter_none, parameter_one, row_names}
use Rattle.uses.proofs.book.Book.parameter.Goals as goal

pub returns-in_err-n : goal.returns-in_err-n
returns-in_err-n c =
    let x = c.args.self.text.now in
    let t = c.args.self.tables.now in
    let b = c.args.self.booked in
    c.from_residual.ensures ∙ parameter_none x t b c.args.k c.requires.0 _ refl
    (omega (arith, found_none _ _ _ c.in_err-n.ensures, row_names x t b c.args.k c.requires.0))

pub returns : goal.returns
returns c =
    let x = c.args.self.text.now in
    let t = c.args.self.tables.now in
    let b = c.args.self.booked in
    let f = found_some _ _ _ c.in_ok-n.ensures in
    parameter_one x t b c.args.k c.requires.0 _ f.0 (omega (arith, f.1, row_names x t b c.args.k c.requires.0))
