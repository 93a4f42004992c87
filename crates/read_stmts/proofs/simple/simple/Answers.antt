-- `simple::simple` meets its contract, by a law for each kind of statement.
use Rattle.std.proofs.Common.{sym, ◌∙◌}
use Rattle.read_stmts.specs.StmtWays.{rule_declare, rule_update, rule_create, rule_none}
use Rattle.read_stmts.proofs.simple.simple.Goals as goal

pub returns-then-b-eq-DECLARE : goal.returns-then-b-eq-DECLARE
returns-then-b-eq-DECLARE c =
    let a = c.args in
    let law = rule_declare a.names.now.ar.now a.names.now.types.now a.s.now a.names.now.own a.c in
    record { by_index = λ w p. c.declare.ensures.value ∙ sym (law w p a.at a.b c.if-b-eq-DECLARE.true); done_behind = c.declare.ensures.done_behind }

pub returns-then-b-eq-UPDATE : goal.returns-then-b-eq-UPDATE
returns-then-b-eq-UPDATE c =
    let a = c.args in
    let law = rule_update a.names.now.ar.now a.names.now.types.now a.s.now a.names.now.own a.c in
    record { by_index = λ w p. c.update.ensures.value ∙ sym (law w p a.at a.b c.if-b-eq-UPDATE.true); done_behind = c.update.ensures.done_behind }

pub returns-then-b-eq-CREATE : goal.returns-then-b-eq-CREATE
returns-then-b-eq-CREATE c =
    let a = c.args in
    let law = rule_create a.names.now.ar.now a.names.now.types.now a.s.now a.names.now.own a.c in
    record { by_index = λ w p. c.create.ensures.value ∙ sym (law w p a.at a.b c.if-b-eq-CREATE.true); done_behind = c.create.ensures.done_behind }

pub returns : goal.returns
returns c =
    let a = c.args in record { by_index = λ w p. sym (rule_none a.names.now.ar.now a.names.now.types.now a.s.now a.names.now.own a.c w p a.at a.b c.requires.fact c.if-b-eq-DECLARE.false c.if-b-eq-UPDATE.false c.if-b-eq-CREATE.false); done_behind = tt }
