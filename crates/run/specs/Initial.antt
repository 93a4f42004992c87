-- The initial state of the published semantics (000, definition 6) with the records of a table (01, 'Table and turns'): a run on a table begins
-- with it.
use Rattle.std.specs.Prelude.{ℕ, suc, List, [], ◌∷◌, ◌++◌, map}
use Rattle.types.specs.Types.{Ty}
use Rattle.types.specs.Values.{Val, default}
use Rattle.program.specs.Tree.{Program}
use Rattle.commands.specs.Commands.{Coms.nil}
use Rattle.table.specs.Table.{Record}
use Rattle.machine.specs.Published.{fresh_env, of_items, Inst, Inst.inst, State, State.state}
use Rattle.run.specs.Runs.{Config, Config.config}

-- ⟨k, ε, ε, ξ⟩ with parameters of these values
abbrev pub idle : ℕ → List Val → Inst
idle k vs = inst k nil [] (fresh_env vs)

-- label k is the null instance of struct k, which holds defaults
unfoldable pub null_insts : ℕ → List (List Ty) → List Inst
null_insts k [] = []
null_insts k (ts ∷ tss) = idle k (map default ts) ∷ null_insts (suc k) tss

-- record i is label S + i
abbrev pub of_record : Record → Inst
of_record r = idle r.struct r.values

unfoldable pub first_insts : Program → List Record → List Inst
first_insts p rs = null_insts 0 p.params ++ map of_record rs

-- ⟨Sc, σ, ε⟩
unfoldable pub initial : Program → List Record → State
initial p rs = state (of_items p.schedule) (first_insts p rs) []

-- "a run starts counting at label 0" (02, 'Turns that go round')
abbrev pub initially : Program → List Record → Config
initially p rs = config 0 (initial p rs)
