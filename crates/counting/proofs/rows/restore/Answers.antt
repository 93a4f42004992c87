-- `rows::restore` meets its contract: four copies and a store.
use Rattle.std.proofs.Common.{ℕ, List, arith, ◌*◌, ap, ◌∙◌, set}
use Rattle.std.proofs.lemmas.List.Edits.{sets}
use Rattle.layout.specs.Layout.{head_size, row_size}
use Rattle.counting.proofs.rows.restore.Goals as goal

pub write-requires : goal.write-requires
write-requires c =
    let b = c.requires.l_lt_max_instances in omega (arith, b.3.fresh, b.1, c.requires.heads_len.0)

pub write-requires-2 : goal.write-requires-2
write-requires-2 c =
    let b = c.requires.l_lt_max_instances in omega (arith, b.3.actor, b.0, c.requires.heads_len.0, c.write.auto.dst)

pub write-requires-3 : goal.write-requires-3
write-requires-3 c = let b = c.requires.l_lt_max_instances in omega (arith, b.3.other, b.1, c.requires.heads_len.1)

pub write-requires-4 : goal.write-requires-4
write-requires-4 c =
    let b = c.requires.l_lt_max_instances in omega (arith, b.3.row, b.0, c.requires.heads_len.1, c.write-3.auto.dst)

pub returns : goal.returns
returns c =
    let args = c.args in (
      c.write-2.ensures ∙ ap (λ (h : List ℕ). sets h (head_size * args.l) args.s.actor) c.write.ensures,
      ap (λ (x : List ℕ). set x args.s.at args.s.cell) (c.write-4.ensures ∙ ap (λ (x : List ℕ). sets x (row_size * args.l) args.s.row) c.write-3.ensures),
    )
