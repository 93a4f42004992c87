-- `expr::construct` and `expr::expr` meet their contracts, by a law for each way through them. The unread bytes fall. The invariant of the
-- arguments' loop: those left, behind what was computed of the others, come to what all of them do.
use Rattle.std.proofs.Common.{ℕ, Ok, ◌-◌, ◌^◌, ◌<◌, arith, ◌≡◌, refl, ap, sym, ◌∙◌, length}
use Rattle.std.proofs.lemmas.Result.{err_from_is_err_and}
use Rattle.types.specs.Refusals.{numbered}
use Rattle.program.specs.Reader.{read_expr}
use Rattle.read_exprs.specs.FormWays.{op_form}
use Rattle.judge.specs.Facts.{constructed, negated, combined}
use Rattle.answers.specs.Answers.{after}
use Rattle.read_exprs.specs.ExprWays.{args_end, args_stop, args_more, args_read, make_stop, make_row, expr_out, expr_deep, is_not, is_make}
use Rattle.read_exprs.specs.ExprWays.{is_leaf, is_none, is_stop, is_op}
use Rattle.read_exprs.specs.SpanWays.{behind_ahead, span_not, no_args_read, span_make, span_op}
use Rattle.read_exprs.proofs.expr.+construct_expr.Goals as goal

pub construct-returns-in_err-k : goal.construct-returns-in_err-k
construct-returns-in_err-k t c =
    let a = c.args in let s = a.s.now in
    let p = err_from_is_err_and c.from_residual.result c.from_residual.ensures.1 in
    rw (p.1, p.2) (record { value = sym (make_stop a.names.now.ar.now a.names.now.types.now s a.names.now.own a.live (read_expr a.names.now.ar.now s a.depth) 0 a.at _ (sym c.in_err-k.ensures.value)); behind = tt })

pub construct-loop-x-init : goal.construct-loop-x-init
construct-loop-x-init t c =
    let span = c.in_ok-k.ensures.byte_span in
    let whole : c.look-n.result - 0 ≡ c.look-n.result = omega arith in
    rw c.no_args-all.ensures (no_args_read c.args.s.now _ span.1, rw whole refl)

pub construct-expr-requires : goal.construct-expr-requires
construct-expr-requires t c =
    let span = c.in_ok-k.ensures.byte_span in
    (omega (arith, c.requires, c.loop-x.invariant.0.within), c.requires)

pub construct-returns-in_err-behind : goal.construct-returns-in_err-behind
construct-returns-in_err-behind t c =
    let a = c.args in
    let s = a.s.now in let loop = c.loop-x in let read = read_expr a.names.now.ar.now s a.depth in
    let p = err_from_is_err_and c.from_residual-in_err-behind.result c.from_residual-in_err-behind.ensures.1 in
    let opened = sym c.in_ok-k.ensures.value in
    let law = loop.invariant.1
    ∙ args_stop a.names.now.ar.now a.names.now.types.now s a.names.now.own a.live read c.in_ok-k.k _ loop.x loop.all loop.next (omega arith) _
    (sym c.in_err-behind.ensures.value) in
    let all = make_row a.names.now.ar.now a.names.now.types.now s a.names.now.own a.live read 0 a.at _ _ opened in
    rw (p.1, p.2) (record { value = ap (after (constructed c.in_ok-k.k)) (sym (rw (c.look-n.ensures, c.from.ensures) at law)) ∙ all; behind = tt })

pub construct-appended-all-requires : goal.construct-appended-all-requires
construct-appended-all-requires t c =
    let a = c.args in
    let small : length a.s.now < 2 ^ 63 = omega (arith, c.well_formed.0) in
    let ahead = c.in_ok-behind.ensures.ahead in
    let read = c.loop-x.invariant.0.within in
    omega arith

pub construct-loop-x-preserved : goal.construct-loop-x-preserved
construct-loop-x-preserved t c =
    let k = c.in_ok-k.k in
    let a = c.args in let s = a.s.now in let loop = c.loop-x in
    let read = read_expr a.names.now.ar.now s a.depth in
    let ahead = c.in_ok-behind.ensures.ahead in
    let e = sym c.in_ok-behind.ensures.value in
    rw (c.appended-all.ensures, c.type_at-t.ensures) (
      args_read a.names.now.ar.now a.names.now.types.now s a.names.now.own a.live read k c.look-n.result loop.x loop.all
          loop.next _ _ _ e ahead loop.invariant.0,
      loop.invariant.1 ∙ args_more a.names.now.ar.now a.names.now.types.now s a.names.now.own a.live read k c.look-n.result loop.x loop.all loop.next
          (omega arith) _ _ e,
    )

pub construct-constructed-requires : goal.construct-constructed-requires
construct-constructed-requires t c =
    let a = c.args in
    let small : length a.s.now < 2 ^ 63 = omega (arith, c.well_formed.0) in
    let span = c.in_ok-k.ensures.byte_span in
    let read = c.loop-x.invariant.0.within in
    omega (arith, c.requires)

pub construct-returns : goal.construct-returns
construct-returns t c =
    let a = c.args in
    let s = a.s.now in let loop = c.loop-x in let read = read_expr a.names.now.ar.now s a.depth in
    let span = c.in_ok-k.ensures.byte_span in
    let opened = sym c.in_ok-k.ensures.value in
    let law = loop.invariant.1
    ∙ args_end a.names.now.ar.now a.names.now.types.now s a.names.now.own a.live read c.in_ok-k.k _ loop.x loop.all loop.next (omega arith)
    loop.invariant.0.high loop.invariant.0.untyped in
    let all = make_row a.names.now.ar.now a.names.now.types.now s a.names.now.own a.live read 0 a.at _ _ opened in
    record {
      value = rw c.constructed.ensures (ap (after (constructed c.in_ok-k.k)) (sym (rw (c.look-n.ensures, c.from.ensures) at law)) ∙ all);
      behind = rw c.constructed.ensures (span_make s ℕ a.at _ _ _ loop.x loop.all span.0 loop.invariant.0);
    }

pub expr-returns-then-s-at : goal.expr-returns-then-s-at
expr-returns-then-s-at t c =
    let a = c.args in
    record { value = sym (expr_out a.names.now.ar.now a.names.now.types.now a.s.now a.names.now.own a.live a.depth a.at c.if-s-at.true); ahead = tt }

pub expr-returns-then-depth-eq0 : goal.expr-returns-then-depth-eq0
expr-returns-then-depth-eq0 t c =
    let a = c.args in
    record { value = sym (expr_deep a.names.now.ar.now a.names.now.types.now a.s.now a.names.now.own a.live a.depth a.at c.if-depth-eq0.true c.if-s-at.false); ahead = tt }

pub expr-expr-requires : goal.expr-expr-requires
expr-expr-requires t c = (omega (arith, c.requires), c.requires)

pub expr-returns-in_err-m : goal.expr-returns-in_err-m
expr-returns-in_err-m t c =
    let a = c.args in let s = a.s.now in
    let p = err_from_is_err_and c.from_residual.result c.from_residual.ensures.1 in
    let law = is_not a.names.now.ar.now a.names.now.types.now s a.names.now.own a.live a.depth a.at c.if-depth-eq0.false c.if-s-at.false c.if-b-eq-INV.true in
    rw (p.1, p.2) (record { value = ap (after negated) c.in_err-m.ensures.value ∙ sym law; ahead = tt })

pub expr-negated-requires : goal.expr-negated-requires
expr-negated-requires t c =
    let a = c.args in
    let small : length a.s.now < 2 ^ 63 = omega (arith, c.well_formed.0) in
    omega (arith, c.in_ok-m.ensures.ahead)

pub expr-returns-then-b-eq-INV : goal.expr-returns-then-b-eq-INV
expr-returns-then-b-eq-INV t c =
    let a = c.args in let s = a.s.now in
    let law = is_not a.names.now.ar.now a.names.now.types.now s a.names.now.own a.live a.depth a.at c.if-depth-eq0.false c.if-s-at.false c.if-b-eq-INV.true in
    rw c.negated.ensures (record { value = ap (after negated) c.in_ok-m.ensures.value ∙ sym law; ahead = span_not s {E = ℕ} a.at (Ok (c.in_ok-m.m, c.in_ok-m.f)) c.in_ok-m.ensures.ahead })

pub expr-construct-requires : goal.expr-construct-requires
expr-construct-requires t c = (omega (arith, c.requires), c.requires)

pub expr-returns-then-b-eq-MAKE : goal.expr-returns-then-b-eq-MAKE
expr-returns-then-b-eq-MAKE t c =
    let a = c.args in let s = a.s.now in
    let law = is_make a.names.now.ar.now a.names.now.types.now s a.names.now.own a.live a.depth a.at c.if-depth-eq0.false c.if-s-at.false c.if-b-eq-MAKE.true in
    record { value = c.construct.ensures.value ∙ sym law; ahead = behind_ahead s a.at c.construct.result c.construct.ensures.behind }

pub expr-leaf-requires : goal.expr-leaf-requires
expr-leaf-requires t c =
    record { at_in_bounds = (omega arith, c.requires.1); fact = ((c.if-b-eq-INV.false, c.if-b-eq-MAKE.false), c.if-b-lt-EQ.true) }

pub expr-returns-then-b-lt-EQ : goal.expr-returns-then-b-lt-EQ
expr-returns-then-b-lt-EQ t c =
    let a = c.args in
    let s = a.s.now in
    record {
      value = is_leaf a.names.now.ar.now a.names.now.types.now s a.names.now.own a.live a.depth a.at c.if-depth-eq0.false c.if-s-at.false (numbered c.leaf.result) c.leaf.ensures.by_index;
      ahead = behind_ahead s a.at c.leaf.result c.leaf.ensures.behind;
    }

pub expr-returns-then-b-gt-OR : goal.expr-returns-then-b-gt-OR
expr-returns-then-b-gt-OR t c =
    let a = c.args in record { value = sym (is_none a.names.now.ar.now a.names.now.types.now a.s.now a.names.now.own a.live a.depth a.at c.if-depth-eq0.false c.if-s-at.false c.if-b-gt-OR.true); ahead = tt }

pub expr-expr-requires-2 : goal.expr-expr-requires-2
expr-expr-requires-2 t c = (omega (arith, c.requires), c.requires)

pub expr-returns-in_err-m-2 : goal.expr-returns-in_err-m-2
expr-returns-in_err-m-2 t c =
    let a = c.args in let s = a.s.now in
    let p = err_from_is_err_and c.from_residual-in_err-m-2.result c.from_residual-in_err-m-2.ensures.1 in
    let law = is_stop a.names.now.ar.now a.names.now.types.now s a.names.now.own a.live a.depth a.at c.if-depth-eq0.false c.if-s-at.false c.if-b-lt-EQ.false
    c.if-b-gt-OR.false _ (sym c.in_err-m-2.ensures.value) in
    rw (p.1, p.2) (record { value = sym law; ahead = tt })

pub expr-returns-in_err-next : goal.expr-returns-in_err-next
expr-returns-in_err-next t c =
    let a = c.args in let s = a.s.now in
    let p = err_from_is_err_and c.from_residual-in_err-next.result c.from_residual-in_err-next.ensures.1 in
    let o = op_form _ c.if-b-lt-EQ.false c.if-b-gt-OR.false in
    let law = is_op a.names.now.ar.now a.names.now.types.now s a.names.now.own a.live a.depth a.at c.if-depth-eq0.false c.if-s-at.false o.0 o.1 _ _ (sym c.in_ok-m-2.ensures.value) in
    rw (p.1, p.2) (record { value = ap (after (combined o.0 c.in_ok-m-2.f)) c.in_err-next.ensures.value ∙ sym law; ahead = tt })

pub expr-combined-requires : goal.expr-combined-requires
expr-combined-requires t c =
    let a = c.args in
    let small : length a.s.now < 2 ^ 63 = omega (arith, c.well_formed.0) in
    omega (arith, c.in_ok-m-2.ensures.ahead, c.in_ok-next.ensures.ahead)

pub expr-returns : goal.expr-returns
expr-returns t c =
    let a = c.args in let s = a.s.now in
    let o = op_form _ c.if-b-lt-EQ.false c.if-b-gt-OR.false in
    let law = is_op a.names.now.ar.now a.names.now.types.now s a.names.now.own a.live a.depth a.at c.if-depth-eq0.false c.if-s-at.false o.0 o.1 _ _ (sym c.in_ok-m-2.ensures.value) in
    rw (c.combined.ensures o.0 o.1) (record {
      value = ap (after (combined o.0 c.in_ok-m-2.f)) c.in_ok-next.ensures.value ∙ sym law;
      ahead = span_op s {E = ℕ} a.at _ o.0 _ (Ok (c.in_ok-next.next, c.in_ok-next.g)) c.in_ok-m-2.ensures.ahead c.in_ok-next.ensures.ahead;
    })
