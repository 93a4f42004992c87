-- `spans::of_rows` meets its contract: the pairs are cleared, and the rows noted.
use Rattle.std.proofs.Common.{ap, ◌∙◌}
use Rattle.compile.specs.Spans.{spans_of, noted}
use Rattle.compile.proofs.spans.of_rows.Goals as goal

pub returns : goal.returns
unfolding spans_of
returns c = c.note.ensures ∙ ap (noted _) c.clear.ensures
