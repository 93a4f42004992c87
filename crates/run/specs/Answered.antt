-- What the run entry answers (01, 'Numbers from the state', 'What contracts here say'), said of a number, turns, holders and a last table
-- without the machine that comes to them.
use Rattle.std.specs.Prelude.{ℕ, ◌*◌, ◌≡◌, List, ◌++◌, length, drop}
use Rattle.block.specs.Block.{block_size}
use Rattle.blocks.specs.Images.{image, pieces}
use Rattle.program.specs.Tree.{Program}
use Rattle.commands.specs.Bounds.{program_depth}
use Rattle.table.specs.Table.{Record, enc_table}
use Rattle.run.specs.Entry.{report, run_report, run_output, run_list}
use Rattle.verdict.specs.Verdict.{listed as listed_commands}

-- number, turns, blocks, depth and holders; the table's image and behind it the bytes that were there; the commands and behind them the
-- places that were there
pub record Answered (x y es out list : List ℕ) (p : Program) (n t k : ℕ) (rs : List Record) : Type 0 where
  pub reported : run_report x y es out list ≡ report n t (pieces (length (enc_table rs))) (program_depth p) k
  pub written : run_output x y es out list ≡ image (enc_table rs) ++ drop (block_size * pieces (length (enc_table rs))) out
  pub listed : run_list x y es out list ≡ listed_commands p list
