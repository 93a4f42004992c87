-- `looked::local` meets its contract.
use Rattle.std.proofs.Common.{arith, ◌+◌, ◌-◌, refl, ◌∙◌}
use Rattle.uses.specs.Laws.SeeingLaws.{alive_none, alive_one, alive_long}
use Rattle.uses.specs.Laws.PartLaws.{up_to}
use Rattle.resolve.specs.Named.{name_at}
use Rattle.resolve.specs.Laws.NamedLaws.{found_none, found_some}
use Rattle.types.specs.Limits.{max_locals}
use Rattle.uses.specs.Layout.{living_end}
use Rattle.uses.proofs.looked.local.Goals as goal

pub returns-in_err-k : goal.returns-in_err-k
returns-in_err-k c =
    let x = c.args.text.now in
    let l = c.args.locals.now in
    let y = name_at x c.args.at in
    c.from_residual.ensures ∙ alive_none x l c.args.n c.requires.0 c.requires.1 y refl
    (omega (arith, found_none x y (up_to l living_end c.args.n) c.in_err-k.ensures, alive_long x l c.args.n c.requires.0 c.requires.1 y refl))

pub overflow_add-result-3 : goal.overflow_add-result-3
overflow_add-result-3 c =
    omega (
      arith,
      c.requires.2 (living_end - c.args.n + c.in_ok-k.k + max_locals)
          (omega (arith, c.requires.1)) (omega (arith, c.requires.1, (found_some _ _ _ c.in_ok-k.ensures).1, alive_long c.args.text.now c.args.locals.now c.args.n c.requires.0 c.requires.1 (name_at c.args.text.now c.args.at) refl)),
    )

pub overflow_cast-result : goal.overflow_cast-result
overflow_cast-result c =
    omega (
      arith,
      c.requires.2 (living_end - c.args.n + c.in_ok-k.k + max_locals)
          (omega (arith, c.requires.1)) (omega (arith, c.requires.1, (found_some _ _ _ c.in_ok-k.ensures).1, alive_long c.args.text.now c.args.locals.now c.args.n c.requires.0 c.requires.1 (name_at c.args.text.now c.args.at) refl)),
    )

pub returns : goal.returns
returns c =
    alive_one c.args.text.now c.args.locals.now c.args.n
    c.requires.0 c.requires.1 _ (found_some _ _ _ c.in_ok-k.ensures).0
    (omega (arith, (found_some _ _ _ c.in_ok-k.ensures).1, alive_long c.args.text.now c.args.locals.now c.args.n c.requires.0 c.requires.1 (name_at c.args.text.now c.args.at) refl))
