-- `name` meets its contract.
use Rattle.std.proofs.Common.{arith, ap, sym, ◌∙◌, drop, length-drop, length-take-le}
use Rattle.std.proofs.lemmas.List.{take_rest}
use Rattle.std.proofs.lemmas.List.Sums.{prefix_len-le-length}
use Rattle.tokens.specs.Kinds.{kind}
use Rattle.std.specs.List.{prefix_len}
use Rattle.tokens.specs.Scanning.{named}
use Rattle.tokens.specs.Tokens.{name_byte}
use Rattle.lexer.specs.FrontSpots.{name_spot, take_first}
use Rattle.lexer.proofs.name.Goals as goal

pub overflow_add-more : goal.overflow_add-more
overflow_add-more c = omega (arith, c.names-more.ensures ∙ ap (prefix_len name_byte) (take_rest _ 1), prefix_len-le-length name_byte (drop 1 c.args.text.now), length-drop 1 c.args.text.now)

pub slice_bounds-kind-end : goal.slice_bounds-kind-end
slice_bounds-kind-end c = sym (length-take-le _ _ (omega (arith, c.requires, c.names-more.ensures ∙ ap (prefix_len name_byte) (take_rest _ 1), prefix_len-le-length name_byte (drop 1 c.args.text.now), length-drop 1 c.args.text.now)))

pub returns : goal.returns
returns c =
    name_spot _ _ _ _ (c.names-more.ensures ∙ ap (prefix_len name_byte) (take_rest _ 1))
    (c.kind.ensures ∙ ap (λ s. kind (named s)) (take_first _ _ c.requires))
