-- `declarations::types` meets its contract. The loop's invariant: the types that are left complete the table.
use Rattle.std.proofs.Common.{arith}
use Rattle.std.proofs.lemmas.Bool.{false≢true}
use Rattle.resolve.specs.Laws.CheckLaws.{typing_start, typing_not, typing_on, typing_end, typing_stored, of_type}
use Rattle.resolve.proofs.declarations.types.Goals as goal

pub loop-i-init : goal.loop-i-init
loop-i-init c = typing_start _ _ _ _ _ _

pub returns-then-b-from : goal.returns-then-b-from
returns-then-b-from c =
    record { value = typing_not _ _ _ _ _ _ _ _ c.loop-i.invariant c.loop-i-test.true _ (of_type _ _ c.type_byte-b.ensures c.type_kind.ensures c.byte.ensures) (omega (arith, c.if-b-from.true, c.from.ensures)); table_after = λ e. absurd (false≢true e) }

pub loop-i-preserved : goal.loop-i-preserved
loop-i-preserved c =
    typing_on _ _ _ _ _ _ _ _ c.loop-i.invariant c.loop-i-test.true _
    (of_type _ _ c.type_byte-b.ensures c.type_kind.ensures c.byte.ensures)
    (omega (arith, c.if-b-from.false, c.from.ensures)) c.put.ensures

pub shape_of-table : goal.shape_of-table
shape_of-table c = c.loop-i.invariant.kept

pub returns : goal.returns
returns c =
    record { value = typing_end _ _ _ _ _ _ _ _ c.loop-i.invariant c.loop-i-test.false; table_after = λ e. typing_stored _ _ _ _ _ _ _ _ c.loop-i.invariant c.loop-i-test.false }
