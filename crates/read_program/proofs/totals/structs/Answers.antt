-- `totals::structs` meets its contract. The loop's invariant: the steps of the structs left, behind what was totalled up of the others, come
-- to what all of them do.
use Rattle.std.proofs.Common.{◌+◌, ◌-◌, arith, ◌≡◌, refl, sym, ◌∙◌, [], ◌∷◌}
use Rattle.std.proofs.lemmas.Result.{err_from_is_err_and}
use Rattle.program.specs.Reader.{many, read_steps}
use Rattle.judge.specs.ProgramFacts.{step_totals}
use Rattle.read_program.specs.Total.{with}
use Rattle.read_program.specs.OwnLaws.{led_next}
use Rattle.read_program.specs.TotalWays.{structs_end, structs_refused, structs_more, value_told, refused_told}
use Rattle.read_program.proofs.totals.structs.Goals as goal

pub loop-k-init : goal.loop-k-init
loop-k-init c =
    let low = c.requires.low in
    let whole : c.args.n - 0 ≡ c.args.n = omega arith in
    ((refl, (low.0, low.1), omega arith), rw whole refl, c.requires.led)

pub of_struct-requires : goal.of_struct-requires
of_struct-requires c =
    let pre = c.requires.ar_len_bound in let inv = c.loop-k.invariant.0 in
    let free = c.requires.low.2 in
    record { ar_len_bound = (pre.0, pre.1, omega (arith, pre.2)); low = (inv.1.0, (omega (arith, inv.0, inv.2, free), omega (arith, inv.2, free))); led = c.loop-k.invariant.2 }

pub shape_of-rows-in_err-behind : goal.shape_of-rows-in_err-behind
shape_of-rows-in_err-behind c = c.of_struct.auto.rows ∙ c.loop-k.invariant.0.0

pub returns-in_err-behind : goal.returns-in_err-behind
returns-in_err-behind c =
    let a = c.args in let s = a.s.now in let loop = c.loop-k in
    let more : a.n - loop.k ≡ 0 → ⊥ = λ z. omega arith in
    let p = err_from_is_err_and c.from_residual.result c.from_residual.ensures.1 in
    let law = structs_refused a.ar.now a.types.now s loop.k loop.all loop.rows (a.n - loop.k) loop.next more _ (sym c.in_err-behind.ensures.told.0) in
    rw (p.1, p.2) (record { told = refused_told (λ tss. step_totals a.ar.now a.types.now 0 tss (with a.t a.rows.now)) (many [] ◌∷◌ (read_steps a.ar.now s) a.n a.at) _ _ (loop.invariant.1 ∙ law); bounded = tt })

pub loop-k-preserved : goal.loop-k-preserved
loop-k-preserved c =
    let a = c.args in let loop = c.loop-k in
    let more : a.n - loop.k ≡ 0 → ⊥ = λ z. omega arith in
    let one : a.n - (loop.k + 1) ≡ a.n - loop.k - 1 = omega arith in
    let bounded = c.in_ok-behind.ensures.bounded in (
      (c.of_struct.auto.rows ∙ loop.invariant.0.0, (bounded.0, bounded.1), omega (arith, bounded.2, loop.invariant.0.2)),
      rw one (loop.invariant.1
          ∙ structs_more a.ar.now a.types.now a.s.now loop.k loop.all loop.rows (a.n - loop.k) loop.next more _ _ _ c.in_ok-behind.ensures.told),
      led_next loop.k _ c.in_ok-behind.ensures.leads,
    )

pub shape_of-rows : goal.shape_of-rows
shape_of-rows c = c.loop-k.invariant.0.0

pub returns : goal.returns
returns c =
    let a = c.args in let s = a.s.now in let loop = c.loop-k in
    let none : a.n - loop.k ≡ 0 = omega arith in
    let law = structs_end a.ar.now a.types.now s loop.k loop.all loop.rows (a.n - loop.k) loop.next none in
    record {
      told = value_told (λ tss. step_totals a.ar.now a.types.now 0 tss (with a.t a.rows.now)) (many [] ◌∷◌ (read_steps a.ar.now s) a.n a.at) _ _ _ (loop.invariant.1 ∙ law);
      bounded = (loop.invariant.0.1.0, loop.invariant.0.1.1, omega (arith, loop.invariant.0.2));
    }
