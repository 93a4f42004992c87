-- `Book::later` meets its contract.
use Rattle.std.proofs.Common.{◌-◌, ap, ◌∙◌, arith}
use Rattle.uses.specs.Laws.SeeingLaws.{structs_long, later_basic, later_none, later_one}
use Rattle.uses.proofs.book.Book.later.Goals as goal

pub returns-in_err-k : goal.returns-in_err-k
returns-in_err-k c = c.from_residual.ensures ∙ later_basic _ _ _ (omega (arith, c.in_err-k.ensures, c.from.ensures))

pub returns-then-k-self : goal.returns-then-k-self
returns-then-k-self c =
    let e = c.in_ok-k.ensures in
    later_none _ _ _ (omega (arith, e.0, c.from.ensures)) (structs_long c.args.self.text.now c.args.self.tables.now c.args.self.booked)
    (omega (arith, c.if-k-self.true, e.1, c.from.ensures))

pub parameter-requires : goal.parameter-requires
parameter-requires c = (c.if-k-self.false, c.args.self.booked.rows c.in_ok-k.k c.if-k-self.false)

pub returns : goal.returns
returns c =
    let e = c.in_ok-k.ensures in
    let f = e.1 ∙ ap (λ z. c.args.typ - z) c.from.ensures in
    c.parameter.ensures
    ∙ rw f (later_one _ _ _ (omega (arith, e.0, c.from.ensures)) (structs_long c.args.self.text.now c.args.self.tables.now c.args.self.booked)
    (omega (arith, c.if-k-self.false, e.1, c.from.ensures)))
