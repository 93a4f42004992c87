-- `apply_word` meets its contract, one return for each type.
use Rattle.std.proofs.Common.{ℕ, ◌≡◌, arith, ◌∙◌}
use Rattle.types.specs.Types.{type_of}
use Rattle.types.specs.Values.{value_of}
use Rattle.operators.specs.Words.{apply_word}
use Rattle.operators.proofs.Laws.WordLaws.{type_struct}
use Rattle.arithmetic.proofs.apply_word.Goals as goal

pub returns-in-0 : goal.returns-in-0
unfolding apply_word type_of value_of
returns-in-0 c = c.apply_int.ensures ∙ rw (c.from-op.ensures, c.in-0.is)

pub returns-in-1 : goal.returns-in-1
unfolding apply_word type_of value_of
returns-in-1 c = c.apply_nat.ensures ∙ rw (c.from-op.ensures, c.in-1.is)

pub returns-in-2 : goal.returns-in-2
unfolding apply_word type_of value_of
returns-in-2 c = c.apply_bool.ensures ∙ rw (c.from-op.ensures, c.in-2.is)

pub returns-in_default : goal.returns-in_default
unfolding apply_word value_of
returns-in_default c =
    let k : ℕ = c.args.kind in
    c.apply_label.ensures
    ∙ rw (c.from-op.ensures, type_struct (λ (e : k ≡ 0). omega arith) (λ (e : k ≡ 1). omega arith) (λ (e : k ≡ 2). omega arith))
