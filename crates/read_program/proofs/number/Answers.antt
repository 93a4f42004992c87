-- `number` meets its contract.
use Rattle.std.proofs.Common.{◌∙◌, eq-eqb, ne_eqb, lt-ltb, le-ltb}
use Rattle.judge.specs.ProgramFacts.{exceeded, totals_number}
use Rattle.read_program.proofs.number.Goals as goal
use Rattle.read_program.proofs.number.Goals.{then-t-ne0-via-then-t-ne0, then-t-ne0-via-else-t-ne0+then-t-gt-MAX_COMMANDS}
use Rattle.read_program.proofs.number.Goals.{then-t-ne0-via-else-t-ne0+else-t-gt-MAX_COMMANDS+then-p-gt-SCHEDULE_ITEMS}

pub returns-then-t-ne0 : goal.returns-then-t-ne0
unfolding totals_number exceeded
returns-then-t-ne0 c = c.from.ensures ∙
    elim c.then-t-ne0.branch [
      | then-t-ne0-via-then-t-ne0 w ↦ simp (totals_number, exceeded, ne_eqb _ _ w.if-t-ne0.true)
      | then-t-ne0-via-else-t-ne0+then-t-gt-MAX_COMMANDS w ↦
          simp (totals_number, exceeded, eq-eqb _ _ w.if-t-ne0.false, lt-ltb _ _ w.if-t-gt-MAX_COMMANDS.true)
      | then-t-ne0-via-else-t-ne0+else-t-gt-MAX_COMMANDS+then-p-gt-SCHEDULE_ITEMS w ↦
          simp (totals_number, exceeded, eq-eqb _ _ w.if-t-ne0.false, le-ltb _ _ w.if-t-gt-MAX_COMMANDS.false, lt-ltb _ _ w.if-p-gt-SCHEDULE_ITEMS.true)
    ]

pub returns : goal.returns
unfolding totals_number exceeded
returns c =
    simp (
      totals_number,
      exceeded,
      eq-eqb _ _ c.if-t-ne0.false,
      le-ltb _ _ c.if-t-gt-MAX_COMMANDS.false,
      le-ltb _ _ c.if-p-gt-SCHEDULE_ITEMS.false,
      c.worst.ensures,
    )
