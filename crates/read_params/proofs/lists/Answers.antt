-- `lists` meets its contract. The invariant: once the lists that are left are read and stand, all do.
use Rattle.std.proofs.Common.{◌+◌, ◌-◌, ◌≡◌, arith, refl, sym, ◌∙◌}
use Rattle.std.proofs.lemmas.Result.{err_from_is_err_and}
use Rattle.read_params.specs.ParamsLeft.{lists_all, lists_none, lists_stop, lists_next}
use Rattle.read_params.proofs.lists.Goals as goal

pub loop-k-init : goal.loop-k-init
loop-k-init c =
    let n : c.args.n - 0 ≡ c.args.n = omega arith in
    (omega arith, omega (arith, c.requires), refl, refl, rw n (lists_all _ _ _ _ _ _ _))

pub list-requires : goal.list-requires
list-requires c =
    let h = c.loop-k.invariant in
    omega (arith, c.requires, h.2, h.3)

pub shape_of-counts-in_err-next : goal.shape_of-counts-in_err-next
shape_of-counts-in_err-next c = c.list.auto.counts ∙ c.loop-k.invariant.2

pub shape_of-types-in_err-next : goal.shape_of-types-in_err-next
shape_of-types-in_err-next c = c.list.auto.types ∙ c.loop-k.invariant.3

pub returns-in_err-next : goal.returns-in_err-next
returns-in_err-next c =
    let h = c.loop-k.invariant in
    let more : c.args.n - c.loop-k.k ≡ 0 → ⊥ = λ z. omega arith in
    let p = err_from_is_err_and c.from_residual.result c.from_residual.ensures.1 in
    let q = lists_stop h.4 more _ (sym c.in_err-next.ensures.value) c.list.new.counts c.list.new.types in
    rw (p.1, p.2) (record { value = q.0; place_span = tt; lists_kept = q.1 })

pub loop-k-preserved : goal.loop-k-preserved
loop-k-preserved c =
    let h = c.loop-k.invariant in
    let more : c.args.n - c.loop-k.k ≡ 0 → ⊥ = λ z. omega arith in
    let one : c.args.n - (c.loop-k.k + 1) ≡ c.args.n - c.loop-k.k - 1 = omega arith in
    let span = c.in_ok-next.ensures.place_span in (
      omega (arith, span, h.0),
      omega (arith, span),
      c.list.auto.counts ∙ h.2,
      c.list.auto.types ∙ h.3,
      rw one (lists_next h.4 more _ (sym c.in_ok-next.ensures.value) _ _ c.in_ok-next.ensures.list_kept),
    )

pub shape_of-counts : goal.shape_of-counts
shape_of-counts c = c.loop-k.invariant.2

pub shape_of-types : goal.shape_of-types
shape_of-types c = c.loop-k.invariant.3

pub returns : goal.returns
returns c =
    let h = c.loop-k.invariant in
    let none : c.args.n - c.loop-k.k ≡ 0 = omega arith in
    let q = lists_none h.4 none in
    record { value = q.0; place_span = (h.0, h.1); lists_kept = q.1 }
