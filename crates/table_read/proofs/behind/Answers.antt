-- `behind` meets its contract: a record is refused, the stream goes on, a reference is wrong, the table is right.
use Rattle.std.proofs.Common.{refl}
use Rattle.std.proofs.lemmas.Result.{err_from_is_err_and}
use Rattle.table_read.specs.Params.{Tables}
use Rattle.table_read.specs.Laws.TableWays.{Got, got, behind_refused, behind_more, behind_structs, behind_wrong, behind_right}
use Rattle.table_read.proofs.behind.Goals as goal
use Rattle.table_read.proofs.behind.Goals.{In_ok-end}

-- A record is refused ------------------------------------------------------------

pub returns-in_err-end : goal.returns-in_err-end
returns-in_err-end c =
    let p = err_from_is_err_and c.from_residual.result c.from_residual.ensures.1 in
    let q = behind_refused c.args.p.counts.now c.args.p.types.now c.args.s.now c.args.n _ _ _ _ _ refl c.in_err-end.ensures.records_laid in
    record { value = rw (p.1, p.2, q) refl; table_laid = rw q tt }

-- They are read ------------------------------------------------------------------

gets : (c : In_ok-end)
    → Got c.args.p.counts.now c.args.p.types.now c.args.s.now c.args.n c.args.heads.now c.args.cells.now c.in_ok-end.end
    c.records.new.heads c.records.new.cells
gets c = got _ _ _ _ _ _ _ _ c.nulls.ensures.heads_after c.nulls.ensures.cells_after _ _ _ refl c.in_ok-end.ensures.records_laid

tables : (c : In_ok-end) → Tables c.args.p.counts.now c.args.p.types.now
tables c = record { few = c.args.p.few; long = c.args.p.long; each = c.args.p.each }

pub returns-then-end-s : goal.returns-then-end-s
returns-then-end-s c =
    let q = behind_more (gets (goal.at.returns-then-end-s c).In_ok-end) c.if-end-s.true in record { value = rw q refl; table_laid = rw q tt }

pub rows_refer-requires-clause-structs : goal.rows_refer-requires-clause-structs
rows_refer-requires-clause-structs c =
    let r = (goal.at.rows_refer-requires-clause-structs c).In_ok-end in
    let pre = c.requires in behind_structs (gets r) (tables r) r.args.p.bytes pre.heads_len.0 pre.heads_len.1 pre.in_bounds.1

pub returns-then-not-rows_refer : goal.returns-then-not-rows_refer
returns-then-not-rows_refer c =
    let r = (goal.at.returns-then-not-rows_refer c).In_ok-end in
    let pre = c.requires in
    let q = behind_wrong (gets r) (tables r) r.args.p.bytes pre.heads_len.0 pre.heads_len.1 pre.in_bounds.1 c.if-end-s.false
    c.rows_refer.result c.rows_refer.ensures c.if-not-rows_refer.true in
    record { value = rw q refl; table_laid = rw q tt }

pub returns : goal.returns
returns c =
    let r = (goal.at.returns c).In_ok-end in
    let pre = c.requires in
    let both = behind_right (gets r) (tables r) r.args.p.bytes pre.heads_len.0 pre.heads_len.1 pre.in_bounds.1 c.if-end-s.false
    c.rows_refer.result c.rows_refer.ensures c.if-not-rows_refer.false in
    record { value = both.0; table_laid = both.1 }
