-- `tabling::fill` meets its contract: more declarations than a stream has numbers for, or all of them.
use Rattle.std.proofs.Common.{refl, arith}
use Rattle.std.proofs.lemmas.Bool.{false≢true}
use Rattle.resolve.specs.Laws.FirstLaws.{take_long}
use Rattle.uses.specs.Laws.TablingLaws.{front_held}
use Rattle.uses.specs.Laws.TabledLaws.{fill_many}
use Rattle.uses.proofs.tabling.fill.Goals as goal

pub returns-then-n-gt-ALL_MANY : goal.returns-then-n-gt-ALL_MANY
returns-then-n-gt-ALL_MANY c =
    record {
      value = fill_many _ _ c.requires.1 c.all-n.ensures.value c.if-n-gt-ALL_MANY.true;
      tabled = λ e. absurd (false≢true e);
      table_len_unchanged = refl;
    }

pub slice_bounds-declarations-end : goal.slice_bounds-declarations-end
slice_bounds-declarations-end c = take_long _ _ (omega (arith, c.all-n.auto.table, c.if-n-gt-ALL_MANY.false))

pub invariant_of-declarations : goal.invariant_of-declarations
invariant_of-declarations c = record { gathered = front_held _ _ c.all-n.ensures.value c.all-n.ensures.table_after c.if-n-gt-ALL_MANY.false }
