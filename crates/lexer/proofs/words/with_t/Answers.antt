-- `words::with_t` meets its contract: three tests, one after the other.
use Rattle.std.proofs.Common.{sym, ◌∙◌}
use Rattle.tokens.specs.Tokens.{word_spelling}
use Rattle.tokens.specs.TokenNumbers.{word_number}
use Rattle.tokens.specs.Kinds.{word_kind}
use Rattle.lexer.specs.WordFirst.{t_word}
use Rattle.lexer.proofs.words.with_t.Goals as goal

pub returns-then-same : goal.returns-then-same
unfolding t_word word_spelling word_kind word_number
returns-then-same c = rw (t_word, sym c.same.ensures ∙ c.if-same.true)

pub returns-then-same-2 : goal.returns-then-same-2
unfolding t_word word_spelling word_kind word_number
returns-then-same-2 c = rw (t_word, sym c.same.ensures ∙ c.if-same.false, sym c.same-else-same.ensures ∙ c.if-same-2.true)

pub returns-else-same-2 : goal.returns-else-same-2
unfolding t_word word_spelling word_kind word_number
returns-else-same-2 c =
    rw (t_word, sym c.same.ensures ∙ c.if-same.false, sym c.same-else-same.ensures ∙ c.if-same-2.false)
    c.only.ensures
