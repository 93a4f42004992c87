-- `filled` meets its contract: the part after the used one ends before the sums.
use Rattle.std.proofs.Common.{◌≡◌, ℕ, ◌+◌, ◌-◌, ◌≤◌, take, drop, arith, ap, sym, ◌∙◌, refl}
use Rattle.std.proofs.lemmas.List.{drop-take}
use Rattle.block.specs.Block.{used, unused_part}
use Rattle.block.proofs.Laws.BlockLaws.{used_small, zeros_told}
use Rattle.block.proofs.filled.Goals as goal

pub slice_bounds-zeros-count : goal.slice_bounds-zeros-count
slice_bounds-zeros-count c =
    let u : c.pair_at-used.result ≤ 504 = used_small _ _ (sym c.used_right.ensures ∙ c.if-used_right.true) in omega arith

pub slice_bounds-zeros-start : goal.slice_bounds-zeros-start
slice_bounds-zeros-start c =
    let u : c.pair_at-used.result ≤ 504 = used_small _ _ (sym c.used_right.ensures ∙ c.if-used_right.true) in omega arith

pub returns-then-used_right : goal.returns-then-used_right
unfolding used unused_part
returns-then-used_right c =
    let u : c.pair_at-used.result ≤ 504 = used_small _ _ (sym c.used_right.ensures ∙ c.if-used_right.true) in
    let b = c.args.block.now in
    let f = 4 + c.pair_at-used.result in
    let whole : 508 ≡ f + (508 - f) = omega arith in
    let rest : drop f (take 508 b) ≡ take (508 - f) (drop f b) =
    ap (λ (n : ℕ). drop f (take n b)) whole ∙ drop-take f (508 - f) b in
    rw (← c.pair_at-used.ensures.0, ← c.used_right.ensures, c.if-used_right.true, rest) (zeros_told _ _ c.zeros.ensures)

pub returns-else-used_right : goal.returns-else-used_right
unfolding used unused_part
returns-else-used_right c = rw (← c.pair_at-used.ensures.0, ← c.used_right.ensures, c.if-used_right.false) refl
