-- The machine that a run begins with (000, definition 6; 01, 'Table and turns'; 02, 'Turns that go round'), and the table that a machine stands
-- at.
use Rattle.std.specs.Prelude.{ℕ, suc, List, [], ◌∷◌, ◌++◌, map, drop}
use Rattle.types.specs.Types.{Ty}
use Rattle.types.specs.Values.{Val, default}
use Rattle.program.specs.Tree.{Program}
use Rattle.table.specs.Table.{Record}
use Rattle.machine.specs.Published.{Env, Env.env, fresh_env, of_items, structs}
use Rattle.machine.specs.Machine.{Instance, Machine, machine}

-- an instance with these parameters: no commands, an empty stack, no local written
abbrev pub resting : ℕ → List Val → Instance
resting k vs = record { struct = k; code = []; stack = []; env = fresh_env vs; written = [] }

-- the null instances of the structs from k on hold defaults
unfoldable pub nulls : ℕ → List (List Ty) → List Instance
nulls k [] = []
nulls k (ts ∷ tss) = resting k (map default ts) ∷ nulls (suc k) tss

-- labels 0 to S − 1 are the null instances, record i is label S + i
unfoldable pub first_instances : Program → List Record → List Instance
first_instances p rs = nulls 0 p.params ++ map (λ r. resting r.struct r.values) rs

-- the accepted table, the whole schedule, an empty stability stack, and counting from label 0
unfoldable pub begin : Program → List Record → Machine
begin p rs = machine (of_items p.schedule) (first_instances p rs) [] 0

-- the table as it stands: every instance but the null ones, in label order, with its parameters
abbrev pub params_in : Env → List Val
params_in (env ps ls) = ps

unfoldable pub record_of : Instance → Record
record_of i = record { struct = i.struct; values = params_in i.env }

unfoldable pub table_of : Program → Machine → List Record
table_of p m = map record_of (drop (structs p) m.instances)
