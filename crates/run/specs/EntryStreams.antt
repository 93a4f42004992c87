-- What the entries come to on the images of streams, read off the streams alone (01, 'Blocks' and 'Numbers from the state').
use Rattle.std.specs.Prelude.{ℕ, List, [], length, ltb}
use Rattle.types.specs.Limits.{max_turns}
use Rattle.types.specs.Numbers.{many_turns}
use Rattle.types.specs.Stages.{Stage.went, Stage.stopped, on, asked}
use Rattle.blocks.specs.Images.{pieces}
use Rattle.program.specs.Tree.{Program}
use Rattle.program.specs.Reader.{read}
use Rattle.commands.specs.Bounds.{program_depth}
use Rattle.table.specs.TableReader.{table_of_stream}
use Rattle.run.specs.Run.{Outcome, Outcome.stopped as ended, Outcome.jammed, run}
use Rattle.run.specs.Holders.{holders}
use Rattle.run.specs.Begin.{begin}
use Rattle.verdict.specs.Verdict.{of_read}
use Rattle.run.specs.Entry.{Begun, begun, no_number, Report, report, last_stream}

-- number, turns, depth, holders, and the stream of the table as it stands, which is empty where nothing is written
pub record Summary : Type 0 where
  pub number : ℕ
  pub turns : ℕ
  pub depth : ℕ
  pub left : List ℕ
  pub holding : ℕ

abbrev pub summary : ℕ → ℕ → ℕ → ℕ → List ℕ → Summary
summary n t d k s = record { number = n; turns = t; depth = d; left = s; holding = k }

unfoldable pub of_outcome : Program → Outcome → Summary
of_outcome p (ended n t m) = summary n t (program_depth p) (length (holders m)) (last_stream p m)
of_outcome p jammed = summary no_number 0 0 0 []

unfoldable pub summed : Begun → List ℕ → Summary
summed (stopped n) es = summary n 0 0 0 []
summed (went (p, rs)) es = of_outcome p (run p (begin p rs) es)

-- as many blocks as the stream has pieces
abbrev pub reported : Summary → Report
reported z = report z.number z.turns (pieces (length z.left)) z.depth z.holding

-- program stream and table stream
unfoldable pub streams : List ℕ → List ℕ → Begun
streams s t = on (of_read (read s)) λ p. on (table_of_stream p.params t) λ rs. begun p rs

-- with turn bytes, where output and list have room
unfoldable pub begins_streams : List ℕ → List ℕ → List ℕ → Begun
begins_streams s t es = on (streams s t) λ q. asked (ltb max_turns (length es)) many_turns (went q)
