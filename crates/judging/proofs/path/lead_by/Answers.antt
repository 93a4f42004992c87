-- `path::lead_by` meets its contract.
use Rattle.std.proofs.Common.{eq-eqb, ne_eqb, le-leb}
use Rattle.std.proofs.lemmas.Bool.{lt-leb}
use Rattle.judge.specs.Facts.{lead_by}
use Rattle.judging.proofs.path.lead_by.Goals as goal

pub returns-then-j-ne0 : goal.returns-then-j-ne0
unfolding lead_by
returns-then-j-ne0 c = simp (lead_by, ne_eqb _ _ c.if-j-ne0.true)

pub returns-then-j-lt-STRUCT : goal.returns-then-j-lt-STRUCT
unfolding lead_by
returns-then-j-lt-STRUCT c = simp (lead_by, eq-eqb _ _ c.if-j-ne0.false, lt-leb _ _ c.if-j-lt-STRUCT.true, c.from.ensures)

pub returns : goal.returns
unfolding lead_by
returns c = simp (lead_by, eq-eqb _ _ c.if-j-ne0.false, le-leb _ _ c.if-j-lt-STRUCT.false, c.param.ensures, c.from-2.ensures)
