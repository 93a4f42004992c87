-- `Book::listed` meets its contract.
use Rattle.std.proofs.Common.{refl, ◌∙◌}
use Rattle.resolve.specs.Laws.NamedLaws.{found_none, found_some}
use Rattle.uses.specs.Laws.SeeingLaws.{listed_none, listed_one}
use Rattle.uses.proofs.book.Book.listed.Goals as goal

pub returns-in_err-n : goal.returns-in_err-n
returns-in_err-n c = c.from_residual.ensures ∙ listed_none _ _ refl refl c.args.typ (found_none _ _ _ c.in_err-n.ensures)

pub returns : goal.returns
returns c = let f = found_some _ _ _ c.in_ok-n.ensures in listed_one _ _ f.0 refl c.args.typ f.1
