-- `path::follow` meets its contract. The loop's invariant: what is left, read from the value reached, leads where the whole does.
use Rattle.std.proofs.Common.{◌+◌, ◌-◌, arith, ◌≡◌, sym, ◌∙◌}
use Rattle.std.proofs.lemmas.Result.{err_from_is_err_and}
use Rattle.read_exprs.specs.PathWays.{row_none, row_stop, row_more}
use Rattle.read_exprs.proofs.path.follow.Goals as goal

pub returns-in_err-x : goal.returns-in_err-x
returns-in_err-x c =
    let a = c.args in let loop = c.loop-i in
    let more : a.n - loop.i ≡ 0 → ⊥ = λ z. omega arith in
    let p = err_from_is_err_and c.from_residual.result c.from_residual.ensures.1 in
    rw (p.1, p.2) (record { value = sym (loop.invariant.1 ∙ row_stop a.s.now a.names.now.ar.now a.names.now.types.now loop.value (a.n - loop.i) (a.c + loop.i) loop.next more _ (sym c.in_err-x.ensures.value)); path_span = tt })

pub loop-i-preserved : goal.loop-i-preserved
loop-i-preserved c =
    let a = c.args in
    let loop = c.loop-i in
    let more : a.n - loop.i ≡ 0 → ⊥ = λ z. omega arith in
    let span = c.in_ok-x.ensures.byte_span in
    let one : a.n - (loop.i + 1) ≡ a.n - loop.i - 1 = omega arith in
    let on : a.c + (loop.i + 1) ≡ a.c + loop.i + 1 = omega arith in (
      omega (arith, loop.invariant.0, span),
      rw (c.lead_by-value.ensures, one, on)
          (loop.invariant.1 ∙ row_more a.s.now a.names.now.ar.now a.names.now.types.now loop.value (a.n - loop.i) (a.c + loop.i) loop.next more _ _ (sym c.in_ok-x.ensures.value)),
    )

pub returns : goal.returns
returns c =
    let a = c.args in let loop = c.loop-i in
    let none : a.n - loop.i ≡ 0 = omega arith in
    let all : a.n + a.c ≡ a.c + loop.i = omega arith in
    record {
      value = rw all (sym (loop.invariant.1 ∙ row_none a.s.now a.names.now.ar.now a.names.now.types.now loop.value (a.n - loop.i) (a.c + loop.i) loop.next none));
      path_span = omega (arith, loop.invariant.0);
    }
