-- What the laws of memory speak of (01, 'Table and turns'): a row that two memories share, an instance that its row has room for,
-- a program within the limits that the layout rests on, what a command does by its note, and memory after an act.
use Rattle.std.specs.Prelude.{ℕ, ◌+◌, ◌*◌, ◌<◌, ◌≤◌, ◌≡◌, List, ◌∷◌, map, length, get_or}
use Rattle.std.proofs.Math.Option.{some}
use Rattle.std.proofs.Math.ListN.{get_elem?}
use Rattle.types.specs.Limits.{max_structs, max_depth, first_local, variables}
use Rattle.types.specs.Types.{code}
use Rattle.types.specs.Values.{Val, word}
use Rattle.program.specs.Tree.{Program}
use Rattle.program.specs.Encoding.{op_code}
use Rattle.commands.specs.Bounds.{program_depth}
use Rattle.commands.specs.Noted.{Note, Note.n_push, Note.n_this, Note.n_not, Note.n_rd, Note.n_wr, Note.n_get, Note.n_set, Note.n_cons, Note.n_op}
use Rattle.commands.specs.Noted.{Note.n_if, now_written}
use Rattle.machine.specs.Published.{Sched, lookup, structs}
use Rattle.machine.specs.Machine.{Instance, Machine, with_written, Out, Out.next, Out.refused, Out.stuck, perform}
use Rattle.layout.specs.Layout.{head_size, row_size, cell}
use Rattle.layout.specs.State.{State, with_cells, refused as refusing}
use Rattle.memory.specs.Act.{gone, do_push, do_this, do_not, do_if, do_op, do_rd, do_wr, do_cons}
use Rattle.memory.specs.Stands.{Stands}

-- the numbers and cells of instance l are the same in both
pub record Same (z z' : State) (l : ℕ) : Type 0 where
  pub heads : (a : ℕ) → head_size * l ≤ a → a < head_size * l + head_size → get_or z'.heads a 0 ≡ get_or z.heads a 0
  pub cells : (a : ℕ) → row_size * l ≤ a → a < row_size * l + row_size → get_or z'.cells a 0 ≡ get_or z.cells a 0

-- its stack and its variables have room in a row
pub record Slim (i : Instance) : Type 0 where
  pub low : length i.stack ≤ max_depth
  pub near : (v : ℕ) (x : Val) → lookup i.env v ≡ some x → v < variables

abbrev pub AllSlim : List Instance → Type 0
AllSlim is = (l : ℕ) (i : Instance) → get_elem? is l ≡ some i → Slim i

-- the limits of an accepted program that the layout rests on; `counts` has the parameter count of each struct
pub record Bounded (p : Program) (counts : List ℕ) : Type 0 where
  pub deep : program_depth p ≤ max_depth
  pub few : structs p ≤ max_structs
  pub steps : length p.steps ≡ structs p
  pub counted : counts ≡ map length p.params

-- instance l goes on at the command n with h values on its stack, and the cells are cs
abbrev pub moved : State → List ℕ → ℕ → ℕ → ℕ → State
moved z cs l h n = gone (with_cells z cs) l h n

-- a command of instance l, by its note
abbrev pub does : List ℕ → ℕ → State → Note → State
does counts l z (n_push t v) = do_push counts l z (cell (code t) (word v))
does counts l z n_this = do_this counts l z
does counts l z n_not = do_not counts l z
does counts l z (n_rd k x) = do_rd counts l z x
does counts l z (n_wr k x) = do_wr counts l z x
does counts l z (n_get t x) = do_rd counts l z (first_local + x)
does counts l z (n_set d t x) = do_wr counts l z (first_local + x)
does counts l z (n_cons k) = do_cons counts l z k
does counts l z (n_op o) = do_op counts l z (op_code o)
does counts l z (n_if n) = do_if counts l z n

-- the kind of a command, and its operand (of a push, its value's word)
abbrev pub kind_of : Note → ℕ
kind_of (n_push t v) = 1
kind_of n_this = 2
kind_of n_not = 7
kind_of (n_rd k x) = 3
kind_of (n_wr k x) = 4
kind_of (n_get t x) = 3
kind_of (n_set d t x) = 4
kind_of (n_cons k) = 5
kind_of (n_op o) = 8
kind_of (n_if n) = 6

abbrev pub operand_of : Note → ℕ
operand_of (n_push t v) = word v
operand_of n_this = 0
operand_of n_not = 0
operand_of (n_rd k x) = x
operand_of (n_wr k x) = x
operand_of (n_get t x) = first_local + x
operand_of (n_set d t x) = first_local + x
operand_of (n_cons k) = k
operand_of (n_op o) = op_code o
operand_of (n_if n) = n

-- the memory z' after an act from z that comes to an outcome: it holds the next machine, or only the number is new
abbrev pub After : List ℕ → (ℕ → Sched → Type 0) → State → State → Out → Type 0
After list P z z' (next m) = Stands list P m z'
After list P z z' (refused n) = z' ≡ refusing n z
After list P z z' stuck = ⊥

-- the command n of instance l, with the commands c behind it, comes to the same in memory
abbrev pub Goes : Program → List ℕ → Machine → List ℕ → (ℕ → Sched → Type 0) → State → ℕ → Instance → List Note → Note → Type 0
Goes p counts m list P z l i c n =
    i.code ≡ n ∷ c → After list P z (does counts l z n) (perform p m l (with_written i (now_written n i.written)) n c)
