-- The number that a call reports is its run's (02 §9).
use Rattle.std.specs.Prelude.{ℕ, ◌≡◌, ◌⊎◌, List}
use Rattle.program.specs.Tree.{Program}
use Rattle.table.specs.Table.{Record}
use Rattle.run.specs.Entry.{run_report}
use Rattle.sound.proofs.Laws.NeverStuckLaws.{never_stuck_numbers}
use Rattle.claims.specs.Call.{Call}

pub report_numbers : (x y es out list : List ℕ) (p : Program) (rs : List Record) → Call x y es out list p rs
    → ((run_report x y es out list).number ≡ 0)
    ⊎ (((run_report x y es out list).number ≡ 33) ⊎ (((run_report x y es out list).number ≡ 34) ⊎ ((run_report x y es out list).number ≡ 35)))
report_numbers x y es out list p rs c = rw c.answered.reported (never_stuck_numbers c.never_stuck)
