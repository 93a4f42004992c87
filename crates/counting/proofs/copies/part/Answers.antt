-- `copies::part` meets its contract. The loop's invariant: the first i values stand in their places.
use Rattle.std.proofs.Common.{◌*◌, ◌∙◌, ap, get_or, set, drop, refl, sym, arith, length-drop, get_or-drop}
use Rattle.std.proofs.lemmas.List.{length-replicate}
use Rattle.counting.specs.Laws.CopyLaws.{turn_read, part_read}
use Rattle.counting.proofs.copies.part.Goals as goal

pub loop-i-init : goal.loop-i-init
loop-i-init g c = refl

pub loop-i-preserved : goal.loop-i-preserved
loop-i-preserved g c =
    let from = g.row.N * c.args.l in
    let s = c.args.src.now in
    let i = c.loop-i.i in
    let value = c.index-src-from in
    ap (λ x. set c.loop-i.kept i x) (value.is ∙ sym (get_or-drop from s i value.result))
    ∙ ap (λ d. set d i (get_or (drop from s) i value.result)) c.loop-i.invariant
    ∙ turn_read _ (drop from s) i value.result (omega (arith, length-drop from s, c.requires, c.loop-i-test.true))

pub returns : goal.returns
returns g c =
    c.loop-i.invariant
    ∙ part_read _ c.args.src.now g.row.N c.loop-i.i (g.row.N * c.args.l) (length-replicate g.row.N _) (omega (arith, c.loop-i.auto.i-end, c.loop-i-test.false)) c.requires
