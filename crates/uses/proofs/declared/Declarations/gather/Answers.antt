-- `Declarations::gather` meets its contract. The loop's invariant: the places that are left complete the table.
use Rattle.std.proofs.Common.{arith, ap, ◌∙◌, length}
use Rattle.std.proofs.lemmas.List.Edits.{sets}
use Rattle.tokens.specs.Tokens.{between}
use Rattle.resolve.specs.Laws.TableLaws.{gathers_start, gathers_count, gathers_stored}
use Rattle.uses.specs.Among.{among}
use Rattle.uses.specs.Laws.AmongLaws.{among_behind, picks_left, picks_on, among_declared}
use Rattle.uses.proofs.declared.Declarations.gather.Goals as goal

pub loop-at-init : goal.loop-at-init
loop-at-init c =
    let args = c.args in
    gathers_start (among_behind args.low args.high args.self.roles.now args.self.places.now) args.table.now

pub add-n-requires : goal.add-n-requires
add-n-requires c = omega (arith, c.loop-at-test.true, c.loop-at.invariant.few)

pub loop-at-preserved : goal.loop-at-preserved
loop-at-preserved c =
    picks_on _ _ _ _ c.loop-at.invariant c.loop-at-test.true
    (c.between-is.ensures ∙ ap (between _ _) c.byte.ensures) c.add-n.ensures.value c.add-n.ensures.table_after

pub shape_of-table : goal.shape_of-table
shape_of-table c = c.loop-at.invariant.kept

pub returns : goal.returns
returns c =
    let e = ap (among _ _ _) c.args.self.gathered ∙ among_declared _ _ _ c.requires in
    let inv = c.loop-at.invariant in
    let left = picks_left _ _ _ _ c.loop-at-test.false in
    record {
      value = gathers_count inv left ∙ ap length e;
      table_after = gathers_stored inv left ∙ ap (sets _ 0) e;
    }
