-- `row` meets its contract. The invariant: once the types that are left are read and stand, all do.
use Rattle.std.proofs.Common.{◌+◌, ◌-◌, ◌≡◌, arith, refl, sym, ◌∙◌, length-set}
use Rattle.std.proofs.lemmas.Result.{err_from_is_err_and}
use Rattle.read_params.specs.ParamsLeft.{row_all, row_none, row_stops, row_next}
use Rattle.read_params.proofs.row.Goals as goal

pub loop-i-init : goal.loop-i-init
loop-i-init c =
    let a = c.args in
    let n : a.n - 0 ≡ a.n = omega arith in
    let room : a.room - 0 ≡ a.room = omega arith in
    let place : a.place + 0 ≡ a.place = omega arith in
    (omega arith, omega (arith, c.requires), refl, rw (n, room, place) (row_all _ _ _ _ _ _ _))

pub shape_of-types-in_err-b : goal.shape_of-types-in_err-b
shape_of-types-in_err-b c = c.loop-i.invariant.2

pub returns-in_err-b : goal.returns-in_err-b
returns-in_err-b c =
    let more : c.args.n - c.loop-i.i ≡ 0 → ⊥ = λ z. omega arith in
    let p = err_from_is_err_and c.from_residual.result c.from_residual.ensures.1 in
    let q = row_stops c.loop-i.invariant.3 more _ (sym c.in_err-b.ensures.value) c.loop-i.types in
    rw (p.1, p.2) (record { value = q.0; place_span = tt; row_kept = q.1 })

pub loop-i-preserved : goal.loop-i-preserved
loop-i-preserved c =
    let a = c.args in
    let i = c.loop-i.i in
    let h = c.loop-i.invariant in
    let span = c.in_ok-b.ensures.byte_span in
    let n : a.n - (i + 1) ≡ a.n - i - 1 = omega arith in
    let room : a.room - (i + 1) ≡ a.room - i - 1 = omega arith in
    let place : a.place + (i + 1) ≡ a.place + i + 1 = omega arith in (
      omega (arith, span, h.0),
      omega (arith, span),
      simp length-set h.2,
      rw (n, room, place) (row_next h.3 (λ z. omega arith) (λ z. omega (arith, c.requires)) _ _ (sym c.in_ok-b.ensures.value)),
    )

pub clear-requires : goal.clear-requires
clear-requires c = omega (arith, c.requires, c.loop-i.invariant.2)

pub shape_of-types : goal.shape_of-types
shape_of-types c = c.clear.auto.types ∙ c.loop-i.invariant.2

pub returns : goal.returns
returns c =
    let a = c.args in
    let h = c.loop-i.invariant in
    let none : a.n - c.loop-i.i ≡ 0 = omega arith in
    let end : c.loop-i.i ≡ a.n = omega arith in
    let q = row_none h.3 none c.clear.new.types (rw end c.clear.ensures) in
    record { value = q.0; place_span = (h.0, h.1); row_kept = q.1 }
