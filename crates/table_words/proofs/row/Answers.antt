-- `row` meets its contract: label, struct and values are written one behind the other.
use Rattle.table_words.specs.TableWordsLaws.{row_written}
use Rattle.table_words.proofs.row.Goals as goal

pub returns : goal.returns
returns c =
    let args = c.args in record { value = row_written args.counts.now args.types.now args.s.now args.out.now args.l args.at args.n c.byte-k.ensures.0 c.byte-c.ensures.0 c.put.ensures c.put-2.ensures c.values.ensures; upper_bound = c.byte-c.ensures.1 }
