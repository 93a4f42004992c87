-- What a run comes to, by the published rules alone (01, 'Table and turns', 'Numbers from the state'), whatever configuration it begins with:
-- its number, its turns, how many instances hold commands, and the table that the last state stands at.
use Rattle.std.specs.Prelude.{ℕ, ◌≡◌, List, map, length, drop}
use Rattle.program.specs.Tree.{Program}
use Rattle.table.specs.Table.{Record}
use Rattle.machine.specs.Published.{Env.env, structs, Inst, Inst.inst, State, State.state}
use Rattle.run.specs.Turns.{holds_coms, labels_from}
use Rattle.run.specs.Runs.{Config, Config.config, Runs}

-- an instance as a record: its struct and its parameters' values
abbrev pub to_record : Inst → Record
to_record (inst k c χ (env ps ls)) = record { struct = k; values = ps }

-- the instances from label S on
unfoldable pub table_in : Program → State → List Record
table_in p (state s σ b) = map to_record (drop (structs p) σ)

-- how many instances of a state hold commands
abbrev pub holding_in : State → ℕ
holding_in (state s σ b) = length (labels_from 0 (map holds_coms σ))

-- a run of a program from a configuration, with these bytes, comes to a number, after so many turns, where k instances hold commands, with a last
-- table; on the table rs it is the run from `initially p rs`
pub data Comes (p : Program) (c : Config) (es : List ℕ) (n t k : ℕ) (rs : List Record) : Type 0 where
  comes : {a : ℕ} {st : State} → Runs p c es n t (config a st) → k ≡ holding_in st → rs ≡ table_in p st → Comes p c es n t k rs
