-- What a run on images comes to (01, 'Numbers from the input', 'Numbers from the state'): what is played of a machine that is seated, and what is
-- answered. 13 and 14 stand after all others, so that a stage speaks of what program and table come to without them.
use Rattle.std.specs.Prelude.{ℕ, ◌*◌, ◌≡◌, true, false, List, ltb, Result, Ok, Err}
use Rattle.types.specs.Limits.{table_blocks, max_commands, max_turns}
use Rattle.types.specs.Numbers.{no_room, many_turns}
use Rattle.block.specs.Block.{block_size}
use Rattle.types.specs.Stages.{on}
use Rattle.program.specs.Tree.{Program}
use Rattle.verdict.specs.Verdict.{listed}
use Rattle.machine.specs.Machine.{Machine}
use Rattle.run.specs.Run.{run}
use Rattle.run.specs.Entry.{Begun, with_table, with_room, report_of, output_of, run_report_by, run_output_by, run_list_by}
use Rattle.layout.specs.State.{State}
use Rattle.interpreter.specs.Running.{Ended}
use Rattle.seating.specs.declared.Opened.{Opened}
use Rattle.seating.specs.Seated.{Opens}
use Rattle.run_images.specs.declared.Report.{Report}
use Rattle.run_images.specs.Answer.{answer}

-- What a caller lends ---------------------------------------------------------------------

-- 13 for a short output or a short list, 14 for too many turn bytes
unfoldable pub room_told : ℕ → ℕ → ℕ → Result (Unit {0}) ℕ
room_told output list turns = elim (ltb output (block_size * table_blocks)) [
  | true ↦ Err no_room
  | false ↦ elim (ltb list max_commands) [ true ↦ Err no_room | false ↦ elim (ltb max_turns turns) [ true ↦ Err many_turns | false ↦ Ok tt ] ]
]

-- Its run --------------------------------------------------------------------------------

-- m was run with the bytes es: memory z holds the last machine, and the list the commands
pub record Played (counts es list : List ℕ) (p : Program) (m : Machine) (number taken : ℕ) (z : State) (list' : List ℕ) : Type 0 where
  pub items : List ℕ
  pub spans : List ℕ
  pub ended : Ended p counts list' items spans m es number taken z
  pub listed : list' ≡ listed p list

-- what a run of m with the bytes es is answered by, and what it leaves in the output
pub record Came (p : Program) (m : Machine) (es out : List ℕ) (r : Report) (out' : List ℕ) : Type 0 where
  pub reported : r ≡ answer (report_of p (run p m es))
  pub written : out' ≡ output_of p (run p m es) out

-- The whole call -------------------------------------------------------------------------

-- what is answered, and what output and list hold then, where program and table come to b
pub record Answers (b : Begun) (es out list : List ℕ) (r : Report) (out' list' : List ℕ) : Type 0 where
  pub reported : r ≡ answer (run_report_by (on b (with_room es out list)) es)
  pub written : out' ≡ run_output_by (on b (with_room es out list)) es out
  pub listed : list' ≡ run_list_by (on b (with_room es out list)) list

-- whatever program is opened
abbrev pub Begins : Opened → List ℕ → List ℕ → List ℕ → List ℕ → List ℕ → List ℕ → Report → List ℕ → List ℕ → Type 0
Begins o s rows y es out list r out' list' = (p : Program) → Opens o s rows p → Answers (with_table y p) es out list r out' list'
