-- `simple::create` meets its contract.
use Rattle.std.proofs.Common.{ℕ, Ok, ap, sym, ◌∙◌}
use Rattle.std.proofs.lemmas.Result.{err_from_is_err_and}
use Rattle.program.specs.Reader.{read_make, read_expr}
use Rattle.answers.specs.Answers.{after}
use Rattle.read_stmts.specs.Done.{labelled}
use Rattle.read_stmts.specs.StmtWays.{create_is}
use Rattle.read_stmts.specs.DoneWays.{span_labelled}
use Rattle.read_stmts.proofs.simple.create.Goals as goal

pub returns-in_err-next : goal.returns-in_err-next
returns-in_err-next c =
    let a = c.args in let s = a.s.now in
    let p = err_from_is_err_and c.from_residual.result c.from_residual.ensures.1 in
    let law = create_is a.names.now.ar.now a.names.now.types.now s a.names.now.own a.c a.at (read_make a.names.now.ar.now s (read_expr a.names.now.ar.now s 16) a.at) in
    rw (p.1, p.2) (record { value = ap (after (labelled a.c)) c.in_err-next.ensures.value ∙ sym law; done_behind = tt })

pub returns : goal.returns
returns c =
    let a = c.args in
    let s = a.s.now in
    let law = create_is a.names.now.ar.now a.names.now.types.now s a.names.now.own a.c a.at (read_make a.names.now.ar.now s (read_expr a.names.now.ar.now s 16) a.at) in
    rw c.labelled.ensures (record {
      value = ap (after (labelled a.c)) c.in_ok-next.ensures.value ∙ sym law;
      done_behind = span_labelled s {E = ℕ} a.at a.c (Ok (c.in_ok-next.next, c.in_ok-next.f)) c.in_ok-next.ensures.behind;
    })
