-- `simple::update` meets its contract: the path is not read, or is, with the value behind it.
use Rattle.std.proofs.Common.{◌<◌, ◌^◌, ℕ, Ok, ap, arith, sym, ◌∙◌, length}
use Rattle.std.proofs.lemmas.Result.{err_from_is_err_and}
use Rattle.answers.specs.Answers.{after}
use Rattle.judge.specs.Facts.{updated}
use Rattle.read_stmts.specs.StmtWays.{update_stop, update_is}
use Rattle.read_stmts.specs.DoneWays.{span_updated}
use Rattle.read_stmts.proofs.simple.update.Goals as goal

pub returns-in_err-m : goal.returns-in_err-m
returns-in_err-m c =
    let a = c.args in
    let p = err_from_is_err_and c.from_residual.result c.from_residual.ensures.1 in
    rw (p.1, p.2) (record { value = sym (update_stop a.names.now.ar.now a.names.now.types.now a.s.now a.names.now.own a.c a.at _ (sym c.in_err-m.ensures.value)); done_behind = tt })

pub returns-in_err-next : goal.returns-in_err-next
returns-in_err-next c =
    let a = c.args in let s = a.s.now in
    let p = err_from_is_err_and c.from_residual-in_err-next.result c.from_residual-in_err-next.ensures.1 in
    let law = update_is a.names.now.ar.now a.names.now.types.now s a.names.now.own a.c a.at _ _ _ (sym c.in_ok-m.ensures.value) in
    rw (p.1, p.2) (record { value = ap (after (updated a.c c.in_ok-m.n c.in_ok-m.j)) c.in_err-next.ensures.value ∙ sym law; done_behind = tt })

pub updated-requires : goal.updated-requires
updated-requires c =
    let a = c.args in
    let small : length a.s.now < 2 ^ 63 = omega (arith, c.well_formed.0) in
    omega (arith, c.in_ok-next.ensures.ahead, c.in_ok-m.ensures.path_span)

pub returns : goal.returns
returns c =
    let a = c.args in let s = a.s.now in
    let law = update_is a.names.now.ar.now a.names.now.types.now s a.names.now.own a.c a.at _ _ _ (sym c.in_ok-m.ensures.value) in
    rw c.updated.ensures (record {
      value = ap (after (updated a.c c.in_ok-m.n c.in_ok-m.j)) c.in_ok-next.ensures.value ∙ sym law;
      done_behind = span_updated s {E = ℕ} a.at _ _ a.c _ (Ok (c.in_ok-next.next, c.in_ok-next.f)) c.in_ok-m.ensures.path_span c.in_ok-next.ensures.ahead;
    })
