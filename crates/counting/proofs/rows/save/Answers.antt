-- `rows::save` meets its contract: each part is read.
use Rattle.std.proofs.Common.{ℕ, ap, get_or}
use Rattle.counting.proofs.rows.save.Goals as goal

pub returns : goal.returns
returns c =
    let at = c.stored_at-at.ensures in (
      record {
        actor = c.part-actor.ensures;
        fresh = c.part-fresh.ensures;
        row = c.part-row.ensures;
        other = c.part-other.ensures;
        at = at.0;
        cell = ap (λ (r : ℕ). get_or c.args.cells.now r 0) at.0;
      },
      at.1,
    )
