-- `Book::first` meets its contract: a parameter of the struct at hand, or a living local.
use Rattle.std.proofs.Common.{◌-◌, ◌<◌, sym, ◌∙◌, arith}
use Rattle.uses.specs.Lent.{structs_of_table}
use Rattle.uses.specs.Laws.SeeingLaws.{first_none, first_own, first_alive}
use Rattle.uses.proofs.book.Book.first.Goals as goal

pub local-requires : goal.local-requires
local-requires c =
    let r = c.requires in
    (r.long, omega (arith, r.met, r.living), λ i g h. r.small i (omega (arith, g)) h)

pub returns-then-c-eq0 : goal.returns-then-c-eq0
returns-then-c-eq0 c =
    c.local.ensures ∙ first_none c.args.self.text.now c.args.self.tables.now
    c.args.locals.now c.args.c c.requires _ _
    c.if-c-eq0.true

pub parameter-requires : goal.parameter-requires
parameter-requires c =
    let h : c.args.c.begun - 1 < structs_of_table c.args.self.tables.now = omega
    (arith, c.if-c-eq0.false, c.requires.begun) in
    (h, c.args.self.booked.rows (c.args.c.begun - 1) h)

pub local-requires-in-None : goal.local-requires-in-None
local-requires-in-None c =
    let r = c.requires in
    (r.long, omega (arith, r.met, r.living), λ i g h. r.small i (omega (arith, g)) h)

pub returns-in-Some : goal.returns-in-Some
returns-in-Some c =
    first_own c.args.self.text.now c.args.self.tables.now
    c.args.locals.now c.args.c c.requires _ _
    c.if-c-eq0.false
    (sym c.in-Some.is ∙ c.parameter.ensures)

pub returns-in-None : goal.returns-in-None
returns-in-None c =
    c.local-in-None.ensures ∙ first_alive c.args.self.text.now c.args.self.tables.now
    c.args.locals.now c.args.c c.requires _ _
    c.if-c-eq0.false
    (sym c.in-None.is ∙ c.parameter.ensures)
