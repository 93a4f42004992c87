use Rattle.std.proofs.Common.{arith, refl, ◌≡◌, length}
use Rattle.std.proofs.lemmas.Result.{err_from_is_err_and}
use Rattle.numbers.specs.ScanLaws.{ended_byte, ended_line, line_read, reached_next, reached_stop, reached_all}
use Rattle.numbers.proofs.scan.Goals as goal

pub returns-in_err-next : goal.returns-in_err-next
returns-in_err-next c =
    let p = err_from_is_err_and c.from_residual.result c.from_residual.ensures.1 in
    let i = c.loop-i.i in
    let both = reached_stop c.loop-i.invariant.0 (omega (arith, c.loop-i-test.true)) (ended_byte c.args.text.now i c.loop-i-test.true) c.from.ensures
    c.in_err-next.ensures.value c.in_err-next.ensures.out_after in
    record { value = rw (p.1, p.2) both.0; bound = rw p.1 tt; out_after = both.1 }

pub loop-i-preserved : goal.loop-i-preserved
loop-i-preserved c =
    let i = c.loop-i.i in
    let r = reached_next c.loop-i.invariant.0 (omega (arith, c.loop-i-test.true)) (ended_byte c.args.text.now i c.loop-i-test.true) c.from.ensures
    c.in_ok-next.ensures.value c.in_ok-next.ensures.out_after c.turned.auto.out in
    (r, omega (arith, c.in_ok-next.ensures.bound, c.loop-i.invariant.0.kept))

pub returns-in_err-count : goal.returns-in_err-count
returns-in_err-count c =
    let p = err_from_is_err_and c.from_residual-in_err-count.result c.from_residual-in_err-count.ensures.1 in
    let r = c.loop-i.invariant.0 in
    let e : c.loop-i.i ≡ length c.args.text.now = omega (arith, c.loop-i-test.false, c.loop-i.auto.i-end) in
    let both = reached_stop (rw e at r) (omega arith) (ended_line c.args.text.now (length c.args.text.now) refl) line_read
    c.in_err-count.ensures.value c.in_err-count.ensures.out_after in
    record { value = rw (p.1, p.2) both.0; bound = rw p.1 tt; out_after = both.1 }

pub returns : goal.returns
returns c =
    let r = c.loop-i.invariant.0 in
    let e : c.loop-i.i ≡ length c.args.text.now = omega (arith, c.loop-i-test.false, c.loop-i.auto.i-end) in
    let both = reached_all (rw e at r) refl c.in_ok-count.ensures.value c.in_ok-count.ensures.out_after c.turned-2.auto.out in
    record { value = both.0; bound = omega (arith, c.in_ok-count.ensures.bound, r.kept); out_after = both.1 }
