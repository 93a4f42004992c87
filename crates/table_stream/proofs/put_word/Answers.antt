-- `put_word` meets its contract: four bytes one behind the other.
use Rattle.table_stream.specs.TableStreamLaws.{word_put}
use Rattle.table_stream.proofs.put_word.Goals as goal

pub returns : goal.returns
returns c =
    let args = c.args in
    word_put args.out.now args.at args.w c.put_word.ensures c.put.ensures c.put-2.ensures c.put-3.ensures
    c.put-4.ensures
