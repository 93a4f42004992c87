-- `room` meets its contract: a test after the other.
use Rattle.std.proofs.Common.{sym}
use Rattle.run_images.specs.StageLaws.{short_output, short_list, many_bytes, room_enough}
use Rattle.run_images.proofs.room.Goals as goal
use Rattle.run_images.proofs.room.Goals.{then-output-lt-OUTPUT-via-then-output-lt-OUTPUT}
use Rattle.run_images.proofs.room.Goals.{then-output-lt-OUTPUT-via-else-output-lt-OUTPUT+then-list-lt-MAX_COMMANDS}

pub returns-then-output-lt-OUTPUT : goal.returns-then-output-lt-OUTPUT
returns-then-output-lt-OUTPUT c =
    let a = c.args in
    elim c.then-output-lt-OUTPUT.branch [
      | then-output-lt-OUTPUT-via-then-output-lt-OUTPUT w ↦ sym (short_output a.output a.list a.turns w.if-output-lt-OUTPUT.true)
      | then-output-lt-OUTPUT-via-else-output-lt-OUTPUT+then-list-lt-MAX_COMMANDS w ↦
          sym (short_list a.output a.list a.turns w.if-output-lt-OUTPUT.false w.if-list-lt-MAX_COMMANDS.true)
    ]

pub returns-then-turns-gt-MAX_TURNS : goal.returns-then-turns-gt-MAX_TURNS
returns-then-turns-gt-MAX_TURNS c =
    sym (many_bytes _ _ _ c.if-output-lt-OUTPUT.false c.if-list-lt-MAX_COMMANDS.false c.if-turns-gt-MAX_TURNS.true)

pub returns : goal.returns
returns c =
    sym (room_enough _ _ _ c.if-output-lt-OUTPUT.false c.if-list-lt-MAX_COMMANDS.false c.if-turns-gt-MAX_TURNS.false)
