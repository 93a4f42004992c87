-- `emit::stmts::update` meets its contract: the expression stands behind the path's bytes, the path's commands behind it.
use Rattle.std.proofs.Common.{arith}
use Rattle.emit.specs.Laws.PartsLaws.{part_ready, part_rest}
use Rattle.emit.specs.Written.{target_words}
use Rattle.emit.specs.Laws.PathLaws.{path_facts}
use Rattle.emit.specs.Laws.StmtLaws.{update_part, update_wrote}
use Rattle.program.specs.Reader.{read_path}
use Rattle.emit.proofs.stmts.update.Goals as goal

pub bounds-s-at : goal.bounds-s-at
bounds-s-at c =
    let u = update_part _ _ _ c.requires.good in
    omega (arith, path_facts _ _ u.0)

pub overflow_add-at : goal.overflow_add-at
overflow_add-at c =
    let u = update_part _ _ _ c.requires.good in
    omega (arith, path_facts _ _ u.0, c.from-n.ensures)

pub overflow_add-at-2 : goal.overflow_add-at-2
overflow_add-at-2 c =
    let u = update_part _ _ _ c.requires.good in
    omega (arith, path_facts _ _ u.0, c.from-n.ensures)

pub expr-p-requires : goal.expr-p-requires
expr-p-requires c =
    let u = update_part _ _ _ c.requires.good in
    rw c.from-n.ensures (part_ready u.1 c.requires)

pub target-q-requires : goal.target-q-requires
target-q-requires c =
    let a = c.args in
    let u = update_part _ _ _ c.requires.good in
    part_rest target_words (read_path a.s.now a.at) u.1 u.0 c.requires (rw c.from-n.ensures at c.expr-p.ensures)

pub returns : goal.returns
returns c =
    let a = c.args in let u = update_part _ _ _ c.requires.good in
    update_wrote a.ar.now a.s.now a.at u.1 (rw c.from-n.ensures at c.expr-p.ensures) c.target-q.ensures
