-- `spans::clear` meets its contract. The invariant: to clear the pairs that are left gives what is to come out.
use Rattle.std.proofs.Common.{◌+◌, ◌-◌, ◌*◌, ◌≡◌, arith, sym, ◌∙◌}
use Rattle.types.specs.Limits.{step_names}
use Rattle.compile.specs.SpansLaws.{cleared_none, cleared_one}
use Rattle.compile.proofs.spans.clear.Goals as goal

pub loop-i-preserved : goal.loop-i-preserved
loop-i-preserved c =
    let h = c.loop-i.invariant in
    let left = step_names * c.args.n - c.loop-i.i in
    let one : left - 1 ≡ step_names * c.args.n - (c.loop-i.i + 1) = omega arith in
    let on : 2 * c.loop-i.i + 2 ≡ 2 * (c.loop-i.i + 1) = omega arith in (
      c.pair.auto.spans ∙ h.0,
      rw (c.pair.ensures, ← one, ← on) (sym (cleared_one left (2 * c.loop-i.i) c.loop-i.spans (λ e. omega arith)) ∙ h.1),
    )

pub returns : goal.returns
returns c =
    let h = c.loop-i.invariant in
    sym (cleared_none (step_names * c.args.n - c.loop-i.i) (2 * c.loop-i.i) c.loop-i.spans (omega arith)) ∙ h.1
