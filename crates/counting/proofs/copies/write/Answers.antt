-- `copies::write` meets its contract. The loop's invariant: the first i values have been written.
use Rattle.std.proofs.Common.{◌+◌, ◌∙◌, ap, get_or, set, take_all, refl}
use Rattle.std.proofs.lemmas.List.Edits.{sets}
use Rattle.counting.specs.Laws.CopyLaws.{turn_copied}
use Rattle.counting.proofs.copies.write.Goals as goal

pub loop-i-init : goal.loop-i-init
loop-i-init g c = refl

pub loop-i-preserved : goal.loop-i-preserved
loop-i-preserved g c =
    let at = c.args.at + c.loop-i.i in
    let value = c.index-src-i in
    ap (λ x. set c.loop-i.dst at x) value.is
    ∙ ap (λ d. set d at (get_or c.args.src.now c.loop-i.i value.result)) c.loop-i.invariant
    ∙ turn_copied _ _ c.args.src.now c.loop-i.i value.result c.loop-i-test.true

pub returns : goal.returns
returns g c = c.loop-i.invariant ∙ ap (sets _ _) (take_all c.loop-i.i c.args.src.now c.loop-i-test.false)
