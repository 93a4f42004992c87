-- `interpreter::turns::run` meets its contract. The loop's invariant: a run that has come to where the loop begins has come to where it stands.
-- The measure is the turns that are left.
use Rattle.std.proofs.Common.{refl, sym, ◌∙◌}
use Rattle.holders.specs.Records.{idle}
use Rattle.interpreter.specs.Laws.RunWays.{begun_standing, stays_on, stays_rows, stays_turning, passed_standing}
use Rattle.interpreter.specs.Laws.RunWays.{passed_over, passed_over_less, passed_more, passed_more_less}
use Rattle.interpreter.proofs.turns.run.Goals as goal

pub settle-settled-requires : goal.settle-settled-requires
settle-settled-requires c = begun_standing c.requires

pub passages-init : goal.passages-init
passages-init c = (refl, refl, λ z s. s)

pub records-rs-requires : goal.records-rs-requires
records-rs-requires c =
    let stays = stays_on (c.settle-settled.ensures c.args.cells.now) idle c.going_at-next.ensures c.passages.invariant.2 in
    stays_rows stays (sym c.is_some.ensures ∙ c.passages-test.true) c.requires

pub take_turns-next-requires : goal.take_turns-next-requires
take_turns-next-requires c =
    let stays = stays_on (c.settle-settled.ensures c.args.cells.now) idle c.going_at-next.ensures c.passages.invariant.2 in
    stays_turning stays (sym c.is_some.ensures ∙ c.passages-test.true) c.requires c.records-rs.ensures

pub settle-moved-requires : goal.settle-moved-requires
settle-moved-requires c =
    let stays = stays_on (c.settle-settled.ensures c.args.cells.now) idle c.going_at-next.ensures c.passages.invariant.2 in
    passed_standing stays (sym c.is_some.ensures ∙ c.passages-test.true) c.requires c.take_turns-next.ensures c.if-next-eq0.true

pub passages-smaller-then-next-eq0 : goal.passages-smaller-then-next-eq0
passages-smaller-then-next-eq0 c =
    let stays = stays_on (c.settle-settled.ensures c.args.cells.now) idle c.going_at-next.ensures c.passages.invariant.2 in
    passed_more_less stays (sym c.is_some.ensures ∙ c.passages-test.true) c.take_turns-next.ensures c.if-next-eq0.true
    c.settle-moved.result idle c.going_at-next-then-next-eq0.ensures

pub passages-preserved-then-next-eq0 : goal.passages-preserved-then-next-eq0
passages-preserved-then-next-eq0 c = (
  c.settle-moved.auto.heads ∙ c.take_turns-next.auto.heads ∙ c.passages.invariant.0,
  c.take_turns-next.auto.cells ∙ c.passages.invariant.1,
  λ z s. passed_more (c.passages.invariant.2 z s) (sym c.is_some.ensures ∙ c.passages-test.true) c.take_turns-next.ensures c.if-next-eq0.true
      c.settle-moved.result idle c.going_at-next-then-next-eq0.ensures (c.settle-moved.ensures _),
)

pub passages-smaller : goal.passages-smaller
passages-smaller c =
    let stays = stays_on (c.settle-settled.ensures c.args.cells.now) idle c.going_at-next.ensures c.passages.invariant.2 in
    passed_over_less stays (sym c.is_some.ensures ∙ c.passages-test.true) c.take_turns-next.ensures

pub passages-preserved : goal.passages-preserved
passages-preserved c = (
  c.take_turns-next.auto.heads ∙ c.passages.invariant.0,
  c.take_turns-next.auto.cells ∙ c.passages.invariant.1,
  λ z s. passed_over (c.passages.invariant.2 z s) (sym c.is_some.ensures ∙ c.passages-test.true) c.take_turns-next.ensures c.if-next-eq0.false,
)

pub returns : goal.returns
returns c =
    let stays = stays_on (c.settle-settled.ensures c.args.cells.now) idle c.going_at-next.ensures c.passages.invariant.2 in
    stays.over (sym c.is_some.ensures ∙ c.passages-test.false)
