-- `tables::distinct` meets its contract. The loop's invariant: no name before i stands again behind it.
use Rattle.std.proofs.Common.{◌≡◌, ℕ, ◌+◌, ◌-◌, List, length, take, drop, refl, sym, ◌∙◌, arith, length-take, length-drop}
use Rattle.resolve.specs.Laws.NamedLaws.{found_sought, some_found, none_found}
use Rattle.resolve.specs.Laws.TableLaws.{differ_not, differ_on, differ_end}
use Rattle.resolve.proofs.tables.distinct.Goals as goal

long : (l : List ℕ) (n : ℕ) → length (take (length l - n) (drop n l)) ≡ length l - n
long l n = simp (length-take, length-drop) (omega arith)

pub loop-i-init : goal.loop-i-init
loop-i-init c = record { inner = omega arith; rest = refl }

pub returns-then-is_some : goal.returns-then-is_some
returns-then-is_some c =
    differ_not c.loop-i.invariant c.loop-i-test.true refl
    (omega (arith, some_found _ _ _ (found_sought _ _ _ _ c.lookup.ensures) (sym c.is_some.ensures ∙ c.if-is_some.true), long c.args.table.now (c.loop-i.i + 1)))

pub loop-i-preserved : goal.loop-i-preserved
loop-i-preserved c =
    differ_on c.loop-i.invariant c.loop-i-test.true refl
    (omega (arith, none_found _ _ _ (found_sought _ _ _ _ c.lookup.ensures) (sym c.is_some.ensures ∙ c.if-is_some.false), long c.args.table.now (c.loop-i.i + 1)))

pub returns : goal.returns
returns c = differ_end c.loop-i.invariant c.loop-i-test.false
