-- `words::only` meets its contract.
use Rattle.std.proofs.Common.{sym, ◌∙◌}
use Rattle.lexer.specs.WordFirst.{one_word}
use Rattle.lexer.proofs.words.only.Goals as goal

pub returns-then-same : goal.returns-then-same
unfolding one_word
returns-then-same c = rw (one_word, sym c.same.ensures ∙ c.if-same.true)

pub returns-else-same : goal.returns-else-same
unfolding one_word
returns-else-same c = rw (one_word, sym c.same.ensures ∙ c.if-same.false)
