-- `bytes::closing` meets its contract: two bytes more than stand before the first close, or none.
use Rattle.lexer.specs.RunLaws.{closing_first, closing_none}
use Rattle.lexer.proofs.bytes.closing.Goals as goal

pub returns-in_err-close_place-clause-value : goal.returns-in_err-close_place-clause-value
returns-in_err-close_place-clause-value c = rw c.from_residual.ensures (closing_none _ (c.close_place.ensures.none c.in_err-close_place.was))

pub returns-clause-value : goal.returns-clause-value
returns-clause-value c =
    let found = c.in_ok-close_place.ensures.some in closing_first _ _ found.0 found.1 found.2
