-- `emit::stmts::declare` meets its contract: push this and a write behind the expression.
use Rattle.std.proofs.Common.{arith, refl, ◌∙◌}
use Rattle.emit.specs.Laws.PartsLaws.{part_ready, part_room}
use Rattle.emit.specs.Laws.StmtLaws.{declare_facts, declare_wrote, DeclareFacts}
use Rattle.emit.proofs.stmts.declare.Goals as goal

pub overflow_add-at : goal.overflow_add-at
overflow_add-at c =
    let known' : DeclareFacts c.args.ar.now c.args.s.now c.args.at = declare_facts _ _ _ c.requires.good in
    omega (arith, known')

pub expr-p-requires : goal.expr-p-requires
expr-p-requires c =
    let known' : DeclareFacts c.args.ar.now c.args.s.now c.args.at = declare_facts _ _ _ c.requires.good in
    let f = known' in
    part_ready f.part c.requires

pub add-q-requires : goal.add-q-requires
add-q-requires c =
    let known' : DeclareFacts c.args.ar.now c.args.s.now c.args.at = declare_facts _ _ _ c.requires.good in
    let f = known' in
    omega (arith, part_room f.part c.requires c.expr-p.ensures)

pub overflow_add-at-2 : goal.overflow_add-at-2
overflow_add-at-2 c =
    let known' : DeclareFacts c.args.ar.now c.args.s.now c.args.at = declare_facts _ _ _ c.requires.good in
    omega (arith, known')

pub bounds-s-at : goal.bounds-s-at
bounds-s-at c =
    let known' : DeclareFacts c.args.ar.now c.args.s.now c.args.at = declare_facts _ _ _ c.requires.good in
    omega (arith, known')

pub add-requires : goal.add-requires
add-requires c =
    let known' : DeclareFacts c.args.ar.now c.args.s.now c.args.at = declare_facts _ _ _ c.requires.good in
    let f = known' in
    omega (arith, part_room f.part c.requires c.expr-p.ensures, c.add-q.ensures.1, c.add-q.auto.out)

pub returns : goal.returns
returns c =
    let known' : DeclareFacts c.args.ar.now c.args.s.now c.args.at = declare_facts _ _ _ c.requires.good in
    let f = known' in
    declare_wrote f.part c.expr-p.ensures c.coded-v.ensures c.add-q.ensures
    (c.coded-w.ensures ∙ rw c.from.ensures refl) c.add.ensures
