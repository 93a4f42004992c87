-- `emit::words::null_word` meets its contract: the default of a type stands in `types`.
use Rattle.std.proofs.Common.{◌∙◌}
use Rattle.emit.specs.Laws.LeafLaws.{null_is}
use Rattle.emit.proofs.words.null_word.Goals as goal

pub returns : goal.returns
returns c = null_is _ _ _ _ c.from.ensures (c.from-2.ensures ∙ c.default_word-v.ensures) c.coded.ensures
