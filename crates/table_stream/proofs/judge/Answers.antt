-- `judge` meets its contract: test by test.
use Rattle.std.proofs.Common.{lt-ltb, le-ltb, eq-eqb, ne_eqb}
use Rattle.table_stream.specs.TableStream.{judged}
use Rattle.table_stream.proofs.judge.Goals as goal
use Rattle.table_stream.proofs.judge.Goals.{then-k-words-via-then-k-words, then-k-words-via-else-k-words+then-back-words}

pub returns-then-room-n : goal.returns-then-room-n
unfolding judged
returns-then-room-n c = rw (judged, lt-ltb _ _ c.if-room-n.true)

pub returns-then-k-words : goal.returns-then-k-words
unfolding judged
returns-then-k-words c =
    let e = c.agreed-k.ensures in
    elim c.then-k-words.branch [
      | then-k-words-via-then-k-words w ↦
          rw (judged, le-ltb _ _ c.if-room-n.false, ← e, ne_eqb _ _ w.if-k-words.true) (rw e)
      | then-k-words-via-else-k-words+then-back-words w ↦
          rw (judged, le-ltb _ _ c.if-room-n.false, ← e, eq-eqb _ _ w.if-k-words.false, ne_eqb _ _ w.if-back-words.true, w.if-k-words.false)
    ]

pub returns : goal.returns
unfolding judged
returns c =
    let e = c.agreed-k.ensures in
    rw (judged, le-ltb _ _ c.if-room-n.false, ← e, eq-eqb _ _ c.if-k-words.false, eq-eqb _ _ c.if-back-words.false)
