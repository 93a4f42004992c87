-- What the walk has of the steps of a struct that were read (01, 'Program stream'): a count, and that many steps.
use Rattle.std.specs.Prelude.{ℕ, ◌+◌, ◌<◌, List, [], length, get_or}
use Rattle.types.specs.Limits.{max_steps}
use Rattle.program.specs.Reader.{read_steps}
use Rattle.commands.specs.ProgramWords.{steps_words}
use Rattle.emit.specs.Written.{Good, steps_at}
use Rattle.emit.specs.Parts.{Part}
use Rattle.emit.specs.Laws.PartsLaws.{same_part}
use Rattle.emit.specs.Laws.ReadLaws.{counted_value}

pub count_part : (ar s : List ℕ) (at : ℕ) → Good (read_steps ar s at)
    → (at < length s) × Part steps_words (read_steps ar s at) steps_words (steps_at ar s (get_or s at 0) (at + 1)) []
unfolding read_steps
count_part ar s at g = let v = counted_value s 0 max_steps (λ n m. steps_at ar s n m) at g in (v.0, same_part steps_words v.1 g)
