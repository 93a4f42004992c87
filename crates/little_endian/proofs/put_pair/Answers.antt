-- `put_pair` meets its contract: the lowest bytes are copied over a part.
use Rattle.std.proofs.Common.{arith, ap, ◌∙◌}
use Rattle.std.proofs.lemmas.List.Edits.{sets}
use Rattle.little_endian.specs.NumberLaws.{pair_low, part_stored}
use Rattle.little_endian.proofs.put_pair.Goals as goal

pub returns : goal.returns
returns c =
    let args = c.args in
    part_stored args.out.now c.copy_from_slice.new.self args.at 2 (omega arith) (omega arith)
    ∙ ap (sets args.out.now args.at) (c.copy_from_slice.ensures.after ∙ c.to_le_bytes.ensures ∙ pair_low args.n)
