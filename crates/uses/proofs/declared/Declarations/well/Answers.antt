-- `Declarations::well` meets its contract: one law for each test that fails, and one for the last.
use Rattle.std.proofs.Common.{arith}
use Rattle.resolve.specs.Laws.FirstLaws.{take_long}
use Rattle.uses.specs.Laws.TablingLaws.{well_many, well_same, well_wide, well_rowless, well_long, well_named}
use Rattle.uses.proofs.declared.Declarations.well.Goals as goal

pub returns-then-s-gt-MAX_STRUCTS : goal.returns-then-s-gt-MAX_STRUCTS
returns-then-s-gt-MAX_STRUCTS c =
    let pre = c.requires in well_many pre.0 pre.1 c.if-s-gt-MAX_STRUCTS.true

pub slice_bounds-distinct-end : goal.slice_bounds-distinct-end
slice_bounds-distinct-end c =
    take_long _ _ (omega (arith, c.requires.0.long, c.if-s-gt-MAX_STRUCTS.false))

pub returns-then-not-distinct : goal.returns-then-not-distinct
returns-then-not-distinct c =
    let pre = c.requires in
    well_same pre.0 pre.1 c.if-s-gt-MAX_STRUCTS.false c.distinct.ensures c.if-not-distinct.true

pub returns-then-n-gt-ROWS_ROOM : goal.returns-then-n-gt-ROWS_ROOM
returns-then-n-gt-ROWS_ROOM c =
    let pre = c.requires in
    well_wide pre.0 pre.1 c.if-s-gt-MAX_STRUCTS.false c.distinct.ensures c.if-not-distinct.false c.if-n-gt-ROWS_ROOM.true

pub returns-then-not-rows_ok : goal.returns-then-not-rows_ok
returns-then-not-rows_ok c =
    let pre = c.requires in
    well_rowless pre.0 pre.1 c.if-s-gt-MAX_STRUCTS.false c.distinct.ensures c.if-not-distinct.false c.if-n-gt-ROWS_ROOM.false
    c.rows_ok.ensures c.if-not-rows_ok.true

pub few_steps-requires : goal.few_steps-requires
few_steps-requires c =
    let pre = c.requires in (pre.0.count, c.if-s-gt-MAX_STRUCTS.false)

pub returns-then-not-few_steps : goal.returns-then-not-few_steps
returns-then-not-few_steps c =
    let pre = c.requires in
    well_long pre.0 pre.1 c.if-s-gt-MAX_STRUCTS.false c.distinct.ensures c.if-not-distinct.false c.if-n-gt-ROWS_ROOM.false
    c.rows_ok.ensures c.if-not-rows_ok.false c.few_steps.ensures c.if-not-few_steps.true

pub returns : goal.returns
returns c =
    let pre = c.requires in
    well_named pre.0 pre.1 c.if-s-gt-MAX_STRUCTS.false c.distinct.ensures c.if-not-distinct.false c.if-n-gt-ROWS_ROOM.false
    c.rows_ok.ensures c.if-not-rows_ok.false c.few_steps.ensures c.if-not-few_steps.false
