use Rattle.std.proofs.Common.{◌∙◌, sym}
use Rattle.cases.specs.CasesLaws.{list_none, list_more}
use Rattle.cases.proofs.digest.Goals as goal

pub loop-w-preserved : goal.loop-w-preserved
loop-w-preserved c =
    let l = c.loop-w in let more = c.word-digest.ensures in
    (more.1, list_more c.args.list.now l.w-index l.digest _ c.loop-w-test.true more.0 ∙ l.invariant.1)

pub returns : goal.returns
returns c = let l = c.loop-w in sym (list_none c.args.list.now l.w-index l.digest c.loop-w-test.false) ∙ l.invariant.1
