-- `choice::picked_of` meets its contract: what the search finds among the records is the holder.
use Rattle.std.proofs.Common.{◌%◌, ◌<◌, ◌∙◌, ap, sym, subst}
use Rattle.holders.specs.Records.{holder_in}
use Rattle.holders.proofs.RecordsLaws.{picked_in}
use Rattle.trace_lines.proofs.choice.picked_of.Goals as goal

pub returns : goal.returns
returns c =
    let args = c.args in let same = c.requires.2 in
    c.holder_of.ensures ∙ ap (λ m. holder_in c.records-rs.result args.n args.from (args.turn % m)) same
    ∙ sym (picked_in args.heads.now c.records-rs.ensures args.from args.turn (subst (λ m. 0 < m) same c.requires.3))
