-- `simple::local` meets its contract: the local is not read, or is, with its value behind it.
use Rattle.std.proofs.Common.{◌-◌, ◌<◌, ◌^◌, ℕ, Ok, ap, arith, sym, ◌∙◌, length}
use Rattle.std.proofs.lemmas.Result.{err_from_is_err_and}
use Rattle.answers.specs.Answers.{after}
use Rattle.judge.specs.Facts.{declared}
use Rattle.read_stmts.specs.StmtWays.{local_stop, local_is}
use Rattle.read_stmts.specs.DoneWays.{span_declared}
use Rattle.read_stmts.proofs.simple.local.Goals as goal

pub returns-in_err-x : goal.returns-in_err-x
returns-in_err-x c =
    let a = c.args in
    let p = err_from_is_err_and c.from_residual.result c.from_residual.ensures.1 in
    rw (p.1, p.2) (record { value = sym (local_stop a.names.now.ar.now a.names.now.types.now a.s.now a.names.now.own a.c a.at a.t _ (sym c.in_err-x.ensures.value)); done_behind = tt })

pub returns-in_err-next : goal.returns-in_err-next
returns-in_err-next c =
    let a = c.args in let s = a.s.now in
    let p = err_from_is_err_and c.from_residual-in_err-next.result c.from_residual-in_err-next.ensures.1 in
    let law = local_is a.names.now.ar.now a.names.now.types.now s a.names.now.own a.c a.at a.t _ _ (sym c.in_ok-x.ensures.value) in
    rw (p.1, p.2) (record { value = ap (after (declared a.c a.t (c.in_ok-x.x - 8))) c.in_err-next.ensures.value ∙ sym law; done_behind = tt })

pub overflow_sub-local : goal.overflow_sub-local
overflow_sub-local c = omega (arith, c.in_ok-x.ensures.byte_span)

pub declared-requires : goal.declared-requires
declared-requires c =
    let a = c.args in
    let small : length a.s.now < 2 ^ 63 = omega (arith, c.well_formed.0) in
    let span = c.in_ok-x.ensures.byte_span in
    omega (arith, c.in_ok-next.ensures.ahead, c.requires.1)

pub returns : goal.returns
returns c =
    let a = c.args in let s = a.s.now in
    let span = c.in_ok-x.ensures.byte_span in
    let law = local_is a.names.now.ar.now a.names.now.types.now s a.names.now.own a.c a.at a.t _ _ (sym c.in_ok-x.ensures.value) in
    rw c.declared.ensures (record {
      value = ap (after (declared a.c a.t (c.in_ok-x.x - 8))) c.in_ok-next.ensures.value ∙ sym law;
      done_behind = span_declared s {E = ℕ} a.at _ a.c a.t _ (Ok (c.in_ok-next.next, c.in_ok-next.f)) span.0 c.in_ok-next.ensures.ahead;
    })
