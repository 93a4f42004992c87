-- `begin::begin_one` meets its contract: a law of each way out.
use Rattle.std.proofs.Common.{◌∙◌, sym}
use Rattle.scheduler.specs.BeginWays.{one_not_meant, one_without, one_with}
use Rattle.scheduler.proofs.begin.begin_one.Goals as goal

pub returns-then-not-means : goal.returns-then-not-means
returns-then-not-means c =
    let args = c.args in
    sym (one_not_meant args.spans.now args.c args.heads.now args.l c.head-k.ensures.0 (sym c.means.ensures ∙ c.if-not-means.true))

pub returns-then-a-e : goal.returns-then-a-e
returns-then-a-e c =
    let args = c.args in
    c.begin.ensures
    ∙ sym (one_with args.spans.now args.c args.heads.now args.l c.head-k.ensures.0 (sym c.means.ensures ∙ c.if-not-means.false)
    c.if-a-e.true)

pub returns-else-a-e : goal.returns-else-a-e
returns-else-a-e c =
    let args = c.args in
    sym (one_without args.spans.now args.c args.heads.now args.l c.head-k.ensures.0 (sym c.means.ensures ∙ c.if-not-means.false)
    c.if-a-e.false)
