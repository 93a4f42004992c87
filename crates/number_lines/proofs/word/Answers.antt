-- `word` meets its contract: separator, sign and digits stand one behind the other.
use Rattle.std.proofs.Common.{arith}
use Rattle.text.specs.ListingLaws.{placed_on}
use Rattle.number_lines.specs.Lines.{word_text}
use Rattle.number_lines.proofs.word.Goals as goal

pub returns : goal.returns
unfolding word_text
returns c =
    let p = rw c.separator.ensures.text at c.put-a.ensures in let q = rw c.sign.ensures.text at c.put-b.ensures in
    record { placed = placed_on p (placed_on q c.decimal.ensures.placed); upper_bound = omega (arith, c.separator.ensures.short, c.sign.ensures.short, c.put-a.ensures.end, c.put-b.ensures.end, c.decimal.ensures.upper_bound) }
