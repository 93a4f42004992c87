-- `totals::of_struct` meets its contract: how many steps is not read, or is, with them behind it. The loop's invariant: the steps left, behind
-- what was totalled up of the others, come to what all of them do.
use Rattle.std.proofs.Common.{◌+◌, ◌-◌, arith, ◌≡◌, refl, sym, ◌∙◌}
use Rattle.std.proofs.lemmas.Result.{err_from_is_err_and}
use Rattle.program.specs.Reader.{read_steps}
use Rattle.judge.specs.ProgramFacts.{struct_totals}
use Rattle.read_program.specs.Total.{with}
use Rattle.read_program.specs.TotalWays.{steps_stop, steps_all, steps_end, steps_refused, steps_more, value_told, refused_told}
use Rattle.read_program.proofs.totals.of_struct.Goals as goal

pub returns-in_err-n : goal.returns-in_err-n
returns-in_err-n c =
    let a = c.args in
    let p = err_from_is_err_and c.from_residual.result c.from_residual.ensures.1 in
    rw (p.1, p.2) (record { told = steps_stop a.ar.now a.types.now a.s.now a.k a.at (with a.t a.rows.now) _ _ (sym c.in_err-n.ensures.value); bounded = tt; leads = tt })

pub loop-i-init : goal.loop-i-init
loop-i-init c =
    let span = c.in_ok-n.ensures.byte_span in
    let whole : c.in_ok-n.n - 0 ≡ c.in_ok-n.n = omega arith in
    ((refl, (omega (arith, c.requires.low), span.1), omega (arith, span)), rw whole refl, c.requires.led)

pub step-requires : goal.step-requires
step-requires c =
    let inv = c.loop-i.invariant.0 in
    let free = c.requires.low.1 in
    record { ar_len_bound = c.requires.ar_len_bound; low = (inv.1.0, (omega (arith, inv.0, inv.2, free), omega (arith, inv.2, free))); led = c.loop-i.invariant.2 }

pub shape_of-rows-in_err-behind : goal.shape_of-rows-in_err-behind
shape_of-rows-in_err-behind c = c.step.auto.rows ∙ c.loop-i.invariant.0.0

pub returns-in_err-behind : goal.returns-in_err-behind
returns-in_err-behind c =
    let a = c.args in let s = a.s.now in let loop = c.loop-i in
    let n = c.in_ok-n.n in
    let T = with a.t a.rows.now in
    let more : n - loop.i ≡ 0 → ⊥ = λ z. omega arith in
    let p = err_from_is_err_and c.from_residual-in_err-behind.result c.from_residual-in_err-behind.ensures.1 in
    let all = steps_all a.ar.now a.types.now s a.k a.at T _ _ (sym c.in_ok-n.ensures.value) in
    let law = steps_refused a.ar.now a.types.now s a.k loop.all loop.rows (n - loop.i) loop.next more _ (sym c.in_err-behind.ensures.told.0) in
    rw (p.1, p.2) (record { told = refused_told (λ ts. struct_totals a.ar.now a.types.now a.k ts T) (read_steps a.ar.now s a.at) _ _ (all ∙ loop.invariant.1 ∙ law); bounded = tt; leads = tt })

pub loop-i-preserved : goal.loop-i-preserved
loop-i-preserved c =
    let a = c.args in let loop = c.loop-i in
    let n = c.in_ok-n.n in
    let more : n - loop.i ≡ 0 → ⊥ = λ z. omega arith in
    let one : n - (loop.i + 1) ≡ n - loop.i - 1 = omega arith in
    let bounded = c.in_ok-behind.ensures.bounded in (
      (c.step.auto.rows ∙ loop.invariant.0.0, (bounded.0, bounded.1), omega (arith, bounded.2, loop.invariant.0.2)),
      rw one (loop.invariant.1
          ∙ steps_more a.ar.now a.types.now a.s.now a.k loop.all loop.rows (n - loop.i) loop.next more _ _ _ c.in_ok-behind.ensures.told),
      c.in_ok-behind.ensures.leads,
    )

pub shape_of-rows : goal.shape_of-rows
shape_of-rows c = c.loop-i.invariant.0.0

pub returns : goal.returns
returns c =
    let a = c.args in let s = a.s.now in let loop = c.loop-i in
    let n = c.in_ok-n.n in
    let T = with a.t a.rows.now in
    let none : n - loop.i ≡ 0 = omega arith in
    let all = steps_all a.ar.now a.types.now s a.k a.at T _ _ (sym c.in_ok-n.ensures.value) in
    let law = steps_end a.ar.now a.types.now s a.k loop.all loop.rows (n - loop.i) loop.next none in
    record {
      told = value_told (λ ts. struct_totals a.ar.now a.types.now a.k ts T) (read_steps a.ar.now s a.at) _ _ _ (all ∙ loop.invariant.1 ∙ law);
      bounded = (loop.invariant.0.1.0, loop.invariant.0.1.1, omega (arith, loop.invariant.0.2));
      leads = loop.invariant.2;
    }
