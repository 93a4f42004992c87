use Rattle.std.proofs.Common.{◌∙◌, sym, rules}
use Rattle.cases.specs.CasesLaws.{bytes_none, bytes_more}
use Rattle.cases.proofs.bytes.Goals as goal

pub loop-b-preserved : goal.loop-b-preserved
loop-b-preserved c =
    let l = c.loop-b in let more = c.digested-digest.ensures in
    (more.1, bytes_more c.args.s.now l.b-index l.digest _ c.loop-b-test.true (search rules) ∙ l.invariant.1)

pub returns : goal.returns
returns c = let l = c.loop-b in sym (bytes_none c.args.s.now l.b-index l.digest c.loop-b-test.false) ∙ l.invariant.1
