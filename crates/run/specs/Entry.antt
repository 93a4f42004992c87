-- The run's entry on images (01, 'Numbers from the input', 'Numbers from the state', 'What contracts here say'): from a
-- program image, a table image, turn bytes and the lengths lent to number, depth, list places, turns, blocks and bytes.
use Rattle.std.specs.Prelude.{ℕ, ◌*◌, List, ◌++◌, length, drop, ltb, Option, Some, None}
use Rattle.types.specs.Limits.{table_blocks, max_commands, max_turns}
use Rattle.types.specs.Numbers.{no_room, many_turns}
use Rattle.types.specs.Stages.{Stage, Stage.went, Stage.stopped, on, asked}
use Rattle.types.specs.Types.{Ty}
use Rattle.block.specs.Block.{block_size}
use Rattle.blocks.specs.Images.{fault, stream, image, pieces, table_number as table_block_number}
use Rattle.program.specs.Tree.{Program}
use Rattle.commands.specs.Bounds.{program_depth}
use Rattle.verdict.specs.Verdict.{checked, listed}
use Rattle.table.specs.Table.{Record, enc_table}
use Rattle.table.specs.TableReader.{TableAnswer, table_of_stream}
use Rattle.machine.specs.Machine.{Machine}
use Rattle.run.specs.Run.{Outcome, Outcome.stopped as ended, Outcome.jammed, run}
use Rattle.run.specs.Begin.{begin, table_of}
use Rattle.run.specs.Holders.{holders}
use Rattle.block.specs.declared.Fault.{Fault}

abbrev pub no_number : ℕ
no_number = 255

-- A run ----------------------------------------------------------------------------

-- 9 to 12 of a table image, under the types of its program's parameters: its blocks before its stream
unfoldable pub of_table_image : List (List Ty) → Option Fault → List ℕ → TableAnswer
of_table_image pss (Some f) y = stopped (table_block_number f)
of_table_image pss None y = table_of_stream pss (stream y)

abbrev pub tabled : List (List Ty) → List ℕ → TableAnswer
tabled pss y = of_table_image pss (fault table_blocks y) y

-- a program and the records of its table, or the number of a refusal
abbrev pub Begun : Type 0
Begun = Stage (Program × List Record)

abbrev pub begun : Program → List Record → Begun
begun p rs = went (p, rs)

abbrev pub not_begun : ℕ → Begun
not_begun n = stopped n

unfoldable pub with_table : List ℕ → Program → Begun
with_table y p = on (tabled p.params y) λ rs. begun p rs

-- 1 to 12: program image and table image
unfoldable pub images : List ℕ → List ℕ → Begun
images x y = on (checked x) (with_table y)

-- 13 of output and list and 14 of the turn bytes, after a program and its table
unfoldable pub with_room : List ℕ → List ℕ → List ℕ → Program × List Record → Begun
with_room es out list q =
    asked (ltb (length out) (block_size * table_blocks)) no_room
    (asked (ltb (length list) max_commands) no_room (asked (ltb max_turns (length es)) many_turns (went q)))

-- program image, table image, turn bytes, output, list
unfoldable pub begins : List ℕ → List ℕ → List ℕ → List ℕ → List ℕ → Begun
begins x y es out list = on (images x y) (with_room es out list)

-- what a run answers: number, commands taken, blocks written, depth, and how many instances hold commands where it ends (02, 'Holders kept
-- as a number')
pub record Report : Type 0 where
  pub number : ℕ
  pub turns : ℕ
  pub blocks : ℕ
  pub depth : ℕ
  pub holding : ℕ

abbrev pub report : ℕ → ℕ → ℕ → ℕ → ℕ → Report
report n t b d k = record { number = n; turns = t; blocks = b; depth = d; holding = k }

-- the table as it stands, as a stream
abbrev pub last_stream : Program → Machine → List ℕ
last_stream p m = enc_table (table_of p m)

unfoldable pub report_of : Program → Outcome → Report
report_of p (ended n t m) = report n t (pieces (length (last_stream p m))) (program_depth p) (length (holders m))
-- no run of an accepted program comes to it (demand 3): a number that 01 does not use
report_of p jammed = report no_number 0 0 0 0

unfoldable pub output_of : Program → Outcome → List ℕ → List ℕ
output_of p (ended n t m) out = image (last_stream p m) ++ drop (block_size * pieces (length (last_stream p m))) out
output_of p jammed out = out

unfoldable pub run_report_by : Begun → List ℕ → Report
run_report_by (stopped n) es = report n 0 0 0 0
run_report_by (went (p, rs)) es = report_of p (run p (begin p rs) es)

unfoldable pub run_output_by : Begun → List ℕ → List ℕ → List ℕ
run_output_by (stopped n) es out = out
run_output_by (went (p, rs)) es out = output_of p (run p (begin p rs) es) out

unfoldable pub run_list_by : Begun → List ℕ → List ℕ
run_list_by (stopped n) list = list
run_list_by (went (p, rs)) list = listed p list

-- the report, the output's bytes and the list's places after a run
unfoldable pub run_report : List ℕ → List ℕ → List ℕ → List ℕ → List ℕ → Report
run_report x y es out list = run_report_by (begins x y es out list) es

unfoldable pub run_output : List ℕ → List ℕ → List ℕ → List ℕ → List ℕ → List ℕ
run_output x y es out list = run_output_by (begins x y es out list) es out

unfoldable pub run_list : List ℕ → List ℕ → List ℕ → List ℕ → List ℕ → List ℕ
run_list x y es out list = run_list_by (begins x y es out list) list
