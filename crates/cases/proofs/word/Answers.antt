use Rattle.std.proofs.Common.{arith, ◌+◌, ◌-◌, ◌≡◌, ◌∙◌, sym}
use Rattle.cases.specs.CasesLaws.{word_none, word_more}
use Rattle.cases.proofs.word.Goals as goal

pub loop-preserved : goal.loop-preserved
loop-preserved c =
    let l = c.loop in let e : 8 - (l.counter + 1) ≡ 8 - l.counter - 1 = omega arith in (
      c.digested-digest.ensures.1,
      rw e (word_more (8 - l.counter) l.digest l.left _ (omega (arith, c.loop-test.true)) c.digested-digest.ensures.0) ∙ l.invariant.1,
    )

pub returns : goal.returns
returns c =
    let l = c.loop in
    (sym (word_none (8 - l.counter) l.digest l.left (omega (arith, c.loop-test.false))) ∙ l.invariant.1, l.invariant.0)
