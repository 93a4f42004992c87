-- `Declarations::rows` meets its contract. The loop's invariant: the rows that are left complete the table.
use Rattle.std.proofs.Common.{arith, ap, ◌∙◌}
use Rattle.std.proofs.lemmas.List.Edits.{sets}
use Rattle.resolve.specs.Tables.{offsets}
use Rattle.resolve.specs.Laws.TableLaws.{lays_start, lays_end, lays_kept}
use Rattle.uses.specs.Among.{bytes_at}
use Rattle.uses.specs.Laws.AmongLaws.{bytes_long, lays_byte, offsets_declared}
use Rattle.uses.proofs.declared.Declarations.rows.Goals as goal

pub loop-at-init : goal.loop-at-init
loop-at-init c =
    let args = c.args in
    lays_start (bytes_at args.self.roles.now args.self.places.now) args.table.now args.role

pub add-k-requires : goal.add-k-requires
add-k-requires c = omega (arith, c.loop-at-test.true, c.loop-at.invariant.few)

pub counted-n-requires : goal.counted-n-requires
counted-n-requires c = omega (arith, c.loop-at-test.true, c.loop-at.invariant.less)

pub loop-at-preserved : goal.loop-at-preserved
loop-at-preserved c =
    lays_byte _ _ c.loop-at.invariant c.loop-at-test.true c.byte-b.ensures c.add-k.ensures.value c.add-k.ensures.table_after
    c.counted-n.ensures

pub shape_of-table : goal.shape_of-table
shape_of-table c = lays_kept c.loop-at.invariant c.put.ensures

pub returns : goal.returns
returns c =
    let long = bytes_long c.args.self.roles.now c.args.self.places.now in
    lays_end c.loop-at.invariant (omega (arith, long, c.loop-at-test.false)) c.put.ensures
    ∙ ap (λ l. sets c.args.table.now 0 (offsets c.args.role (bytes_at c.args.self.roles.now l))) c.args.self.gathered
    ∙ ap (sets _ 0) (offsets_declared _ _ c.requires.0 c.requires.1)
