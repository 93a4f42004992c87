-- `clear` meets its contract.
use Rattle.std.proofs.Common.{◌+◌, ◌-◌, ◌≡◌, arith, refl, ◌∙◌, length, take, drop, length-take, length-drop}
use Rattle.read_params.specs.ParamsWays.{zeros_kept}
use Rattle.read_params.proofs.clear.Goals as goal

pub returns : goal.returns
returns c =
    let a = c.args in
    let len : length (take (a.place + a.room - a.place) (drop a.place a.types.now)) ≡ a.place + a.room - a.place = simp (length-take, length-drop) (omega (arith, c.requires)) in
    zeros_kept a.room a.place _ a.types.now c.fill.new.self c.requires (omega arith) (c.fill.ensures.after (λ y h. h) ∙ rw len refl)
