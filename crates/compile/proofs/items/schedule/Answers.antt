-- `items::schedule` meets its contract: the items, and the end behind them.
use Rattle.std.proofs.Common.{arith}
use Rattle.emit.specs.Laws.PartsLaws.{part_ready, part_room, part_last}
use Rattle.compile.specs.WalkLaws.{schedule_part}
use Rattle.compile.specs.LaidLaws.{schedule_laid}
use Rattle.compile.proofs.items.schedule.Goals as goal

pub items-p-requires : goal.items-p-requires
items-p-requires c = part_ready (schedule_part _ _ c.requires.good) c.requires

pub add-requires : goal.add-requires
add-requires c = omega (arith, part_room (schedule_part _ _ c.requires.good) c.requires c.items-p.ensures)

pub returns : goal.returns
returns c =
    let a = c.args in let w = c.add.ensures in
    let o = part_last 1025 (schedule_part _ _ c.requires.good) c.items-p.ensures w.0 w.1 w.2 in
    record { wrote = o; laid_program = schedule_laid a.s.now a.at _ _ _ c.requires o }
