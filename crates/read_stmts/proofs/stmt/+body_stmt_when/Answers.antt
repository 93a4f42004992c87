-- `stmt::body`, `stmt::stmt` and `stmt::when` meet their contracts, by a law for each way through them. The unread bytes fall. The loop's
-- invariant: the statements left, behind what is totalled up of the others, come to what all of them do.
use Rattle.std.proofs.Common.{◌+◌, ◌-◌, ℕ, Ok, ◌^◌, ◌<◌, arith, ◌≡◌, refl, ap, sym, ◌∙◌, length}
use Rattle.program.specs.Reader.{read_stmt}
use Rattle.std.proofs.lemmas.Result.{err_from_is_err_and}
use Rattle.types.specs.Refusals.{numbered}
use Rattle.answers.specs.Answers.{after}
use Rattle.judge.specs.Facts.{branched}
use Rattle.read_stmts.specs.StmtWays.{when_stop, when_is, body_stop, stmt_out, stmt_simple, stmt_deep, stmt_when}
use Rattle.read_stmts.specs.RowWays.{row_ends, row_refused, row_goes, body_row, nothing_read, more_read}
use Rattle.read_stmts.specs.DoneWays.{behind_ahead, span_branched}
use Rattle.read_stmts.proofs.stmt.+body_stmt_when.Goals as goal

pub body-returns-in_err-n : goal.body-returns-in_err-n
body-returns-in_err-n t c =
    let a = c.args in let s = a.s.now in
    let p = err_from_is_err_and c.from_residual.result c.from_residual.ensures.1 in
    rw (p.1, p.2) (record { value = sym (body_stop a.names.now.ar.now a.names.now.types.now s a.names.now.own a.c (read_stmt a.names.now.ar.now s a.depth) a.at _ (sym c.in_err-n.ensures.value)); done_body = tt })

pub body-loop-i-init : goal.body-loop-i-init
body-loop-i-init t c =
    let a = c.args in
    let span = c.in_ok-n.ensures.byte_span in
    let whole : c.in_ok-n.n - 0 ≡ c.in_ok-n.n = omega arith in
    (rw c.nothing-done.ensures (nothing_read a.s.now a.c _ span.1), rw whole refl)

pub body-stmt-requires : goal.body-stmt-requires
body-stmt-requires t c =
    let span = c.in_ok-n.ensures.byte_span in
    (omega (arith, c.requires, c.loop-i.invariant.0.within), c.requires)

pub body-returns-in_err-behind : goal.body-returns-in_err-behind
body-returns-in_err-behind t c =
    let a = c.args in let s = a.s.now in
    let loop = c.loop-i in let read = read_stmt a.names.now.ar.now s a.depth in
    let n = c.in_ok-n.n in
    let more : n - loop.i ≡ 0 → ⊥ = λ z. omega arith in
    let p = err_from_is_err_and c.from_residual-in_err-behind.result c.from_residual-in_err-behind.ensures.1 in
    let all = body_row a.names.now.ar.now a.names.now.types.now s a.names.now.own read a.c _ a.at _ _ c.nothing-done.ensures (sym c.in_ok-n.ensures.value) in
    let law = row_refused a.names.now.ar.now a.names.now.types.now s a.names.now.own read loop.done (n - loop.i) loop.next more _ (sym c.in_err-behind.ensures.value) in
    rw (p.1, p.2) (record { value = sym (loop.invariant.1 ∙ law) ∙ all; done_body = tt })

pub body-followed-done-requires : goal.body-followed-done-requires
body-followed-done-requires t c =
    let a = c.args in
    let small : length a.s.now < 2 ^ 63 = omega (arith, c.well_formed.0) in
    omega (arith, c.loop-i.invariant.0.within, c.in_ok-behind.ensures.done_ahead)

pub body-loop-i-preserved : goal.body-loop-i-preserved
body-loop-i-preserved t c =
    let a = c.args in
    let s = a.s.now in let loop = c.loop-i in let read = read_stmt a.names.now.ar.now s a.depth in
    let n = c.in_ok-n.n in
    let e = sym c.in_ok-behind.ensures.value in
    let more : n - loop.i ≡ 0 → ⊥ = λ z. omega arith in
    let one : n - (loop.i + 1) ≡ n - loop.i - 1 = omega arith in
    rw (c.followed-done.ensures, one) (
      more_read a.names.now.ar.now a.names.now.types.now s a.names.now.own read loop.done (n - loop.i) loop.next _ _ _ e c.in_ok-behind.ensures.done_ahead loop.invariant.0,
      loop.invariant.1 ∙ row_goes a.names.now.ar.now a.names.now.types.now s a.names.now.own read loop.done (n - loop.i) loop.next more _ _ e,
    )

pub body-returns : goal.body-returns
body-returns t c =
    let a = c.args in let s = a.s.now in
    let loop = c.loop-i in let read = read_stmt a.names.now.ar.now s a.depth in
    let n = c.in_ok-n.n in
    let none : n - loop.i ≡ 0 = omega arith in
    let span = c.in_ok-n.ensures.byte_span in
    let all = body_row a.names.now.ar.now a.names.now.types.now s a.names.now.own read a.c _ a.at _ _ c.nothing-done.ensures (sym c.in_ok-n.ensures.value) in
    let law = row_ends a.names.now.ar.now a.names.now.types.now s a.names.now.own read loop.done (n - loop.i) loop.next none loop.invariant.0.low in
    record { value = sym (loop.invariant.1 ∙ law) ∙ all; done_body = rw span.0 at loop.invariant.0.within }

pub stmt-returns-then-s-at : goal.stmt-returns-then-s-at
stmt-returns-then-s-at t c =
    let a = c.args in
    record { value = sym (stmt_out a.names.now.ar.now a.names.now.types.now a.s.now a.names.now.own a.c a.depth a.at c.if-s-at.true); done_ahead = tt }

pub stmt-simple-requires : goal.stmt-simple-requires
stmt-simple-requires t c = record { ar_len_bound = c.requires; fact = c.if-b-ne-WHEN.true }

pub stmt-returns-then-b-ne-WHEN : goal.stmt-returns-then-b-ne-WHEN
stmt-returns-then-b-ne-WHEN t c =
    let a = c.args in
    let s = a.s.now in record { value = stmt_simple a.names.now.ar.now a.names.now.types.now s a.names.now.own a.c a.depth a.at c.if-s-at.false (numbered c.simple.result) c.simple.ensures.by_index; done_ahead = behind_ahead s a.at c.simple.result c.simple.ensures.done_behind }

pub stmt-returns-then-depth-eq0 : goal.stmt-returns-then-depth-eq0
stmt-returns-then-depth-eq0 t c =
    let a = c.args in record { value = sym (stmt_deep a.names.now.ar.now a.names.now.types.now a.s.now a.names.now.own a.c a.depth a.at c.if-s-at.false c.if-b-ne-WHEN.false c.if-depth-eq0.true); done_ahead = tt }

pub stmt-when-requires : goal.stmt-when-requires
stmt-when-requires t c = (omega (arith, c.requires), c.requires)

pub stmt-returns : goal.stmt-returns
stmt-returns t c =
    let a = c.args in let s = a.s.now in
    let law = stmt_when a.names.now.ar.now a.names.now.types.now s a.names.now.own a.c a.depth a.at c.if-s-at.false c.if-b-ne-WHEN.false c.if-depth-eq0.false in
    record { value = c.when.ensures.value ∙ sym law; done_ahead = behind_ahead s a.at c.when.result c.when.ensures.done_behind }

pub when-expr-requires : goal.when-expr-requires
when-expr-requires t c = c.requires

pub when-returns-in_err-m : goal.when-returns-in_err-m
when-returns-in_err-m t c =
    let a = c.args in
    let s = a.s.now in
    let p = err_from_is_err_and c.from_residual.result c.from_residual.ensures.1 in
    rw (p.1, p.2) (record { value = sym (when_stop a.names.now.ar.now a.names.now.types.now s a.names.now.own a.c (read_stmt a.names.now.ar.now s a.depth) a.at _ (sym c.in_err-m.ensures.value)); done_behind = tt })

pub when-body-requires : goal.when-body-requires
when-body-requires t c = let p = c.requires in let h = c.in_ok-m.ensures.ahead in (omega (arith, p), p)

pub when-returns-in_err-next : goal.when-returns-in_err-next
when-returns-in_err-next t c =
    let a = c.args in let s = a.s.now in
    let p = err_from_is_err_and c.from_residual-in_err-next.result c.from_residual-in_err-next.ensures.1 in
    let law = when_is a.names.now.ar.now a.names.now.types.now s a.names.now.own a.c (read_stmt a.names.now.ar.now s a.depth) a.at _ _ (sym c.in_ok-m.ensures.value) in
    rw (p.1, p.2) (record { value = ap (after (branched a.c c.in_ok-m.f)) c.in_err-next.ensures.value ∙ sym law; done_behind = tt })

pub when-branched-requires : goal.when-branched-requires
when-branched-requires t c =
    let small : length c.args.s.now < 2 ^ 63 = omega (arith, c.well_formed.0) in
    omega (arith, c.in_ok-m.ensures.ahead, c.in_ok-next.ensures.done_body)

pub when-returns : goal.when-returns
when-returns t c =
    let a = c.args in let s = a.s.now in
    let law = when_is a.names.now.ar.now a.names.now.types.now s a.names.now.own a.c (read_stmt a.names.now.ar.now s a.depth) a.at _ _ (sym c.in_ok-m.ensures.value) in
    rw c.branched.ensures (record {
      value = ap (after (branched a.c c.in_ok-m.f)) c.in_ok-next.ensures.value ∙ sym law;
      done_behind = span_branched s {E = ℕ} a.at _ a.c _ (Ok (c.in_ok-next.next, c.in_ok-next.b)) c.in_ok-m.ensures.ahead c.in_ok-next.ensures.done_body;
    })
