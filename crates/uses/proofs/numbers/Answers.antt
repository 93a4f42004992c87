-- `numbers` meets its contract.
use Rattle.std.proofs.Common.{arith, refl}
use Rattle.uses.specs.Lent.{Counted}
use Rattle.uses.specs.Laws.NumberedLaws.{numbers_none, numbers_passed, stops_first, stops_passed, counted_with}
use Rattle.uses.specs.Stopping.{stop_in}
use Rattle.uses.proofs.numbers.Goals as goal

pub returns-then-not-fill : goal.returns-then-not-fill
unfolding Counted stop_in
returns-then-not-fill c =
    record {
      result_after = numbers_none c.args.text.now c.args.roles.now c.fill.ensures.value _ _ c.if-not-fill.true;
      counted = tt;
      roles_value = (stops_first c.args.text.now c.args.roles.now c.fill.ensures.value c.if-not-fill.true, omega arith);
    }

pub uses-requires : goal.uses-requires
uses-requires c =
    let fronts = c.requires.roles_len in
    record {
      locals_len = refl;
      roles_len = (fronts.0, fronts.1, c.requires.roles_in_bounds.0);
    }

pub returns : goal.returns
returns c =
    let tabled = c.fill.ensures.tabled c.if-not-fill.false in
    record {
      result_after = numbers_passed c.args.text.now c.args.roles.now c.fill.ensures.value _ _ _ c.if-not-fill.false tabled.book
          c.uses.ensures.result_after;
      counted = counted_with _ _ _ c.uses.ensures.counted tabled;
      roles_value = (
        stops_passed c.args.text.now c.args.roles.now c.fill.ensures.value _ _ c.if-not-fill.false tabled.book
            c.uses.ensures.roles_value.0,
        c.uses.ensures.roles_value.1,
      );
    }
