-- Demand 3 is not empty, locals and operators (01, 'The words of demand 3'): a run of an accepted program that reads a parameter of
-- an instance of another struct, adds, declares a local, reads it, updates it and compares it, and ends with 0.
use Rattle.std.specs.Prelude.{ℕ, ◌≡◌, refl, true, false, List, [], ◌∷◌, drop, replicate, pos}
use Rattle.std.proofs.Common.{arith}
use Rattle.std.proofs.Math.Option.{Option, none, some}
use Rattle.types.specs.Limits.{first_local}
use Rattle.types.specs.Types.{Ty.int, Ty.bool, Ty.ref}
use Rattle.types.specs.Values.{Val, Val.int_val, Val.bool_val, Val.label}
use Rattle.program.specs.Tree.{Var.par, Var.loc, Op.op_lt, Op.op_add, Expr.path, Expr.int_lit, Expr.op, Stmt.when, Stmt.declare, Stmt.update, Stmts}
use Rattle.program.specs.Tree.{Stmts.end, Stmts.next, Item.call, Items.stop, Items.item, Program, args, size, items}
use Rattle.program.specs.Encoding.{enc_path, enc_expr, enc_exprs, enc_stmt, enc_stmts, enc_item, enc_items, enc_step, enc_program}
use Rattle.commands.specs.Noted.{Note, Note.n_push, Note.n_this, Note.n_rd, Note.n_wr, Note.n_get, Note.n_set, Note.n_op, Note.n_if}
use Rattle.table.specs.Table.{Record, struct_at, HeldTable, References, TableRight}
use Rattle.machine.specs.Published.{Env.env}
use Rattle.machine.specs.Machine.{Tagged, tagged, Instance, Machine}
use Rattle.machine.specs.Stops.{ended}
use Rattle.run.specs.Run.{Outcome.stopped, run}
use Rattle.run.specs.Visits.{Visits}
use Rattle.run.specs.Begin.{begin, table_of}
use Rattle.run.proofs.Rows.RowsOpen.{running}
use Rattle.commands.specs.Accepted.{Accepted}
use Rattle.sound.specs.NeverStuck.{Demand3}
use Rattle.sound.proofs.Laws.NeverStuckLaws.{demand3}
use Rattle.run.proofs.Laws.RunAgreesVisits.{run_visits}
use Rattle.sound.specs.After.{onward, act_on, after}
use Rattle.sound.proofs.Exhibits.ExhibitTurns.{by_stream, code_at, stack_at, value_at, came_stopped, Turn, turn_at}

-- The run --------------------------------------------------------------------------

-- Int l := p1.p0 + p0; l := l + 1; if l < 10 { p0 := l }
abbrev pub body : Stmts
body =
    next (declare int 0 (op op_add (path (par 1) (0 ∷ [])) (path (par 0) [])))
    (next (update (loc 0) [] (op op_add (path (loc 0) []) (int_lit 1)))
    (next (when (op op_lt (path (loc 0) []) (int_lit 10)) (next (update (par 0) [] (path (loc 0) [])) end)) end))

-- struct 0 has an Int and a reference to struct 1, struct 1 an Int; the step of struct 0 is run once
abbrev pub adding : Program
adding = record {
  params = (int ∷ ref 1 ∷ []) ∷ (int ∷ []) ∷ [];
  steps = (record { name = 0; body = body } ∷ []) ∷ [] ∷ [];
  schedule = item (call 0) stop;
}

-- it is accepted
pub adding_accepted : Accepted adding
unfolding running args size items enc_path enc_expr enc_exprs enc_stmt enc_stmts enc_item enc_items enc_step enc_program
adding_accepted = by_stream adding refl refl

-- label 2 is of struct 1 and holds 4; label 3 is of struct 0, holds 3 and refers to it
abbrev pub table : List Record
table = record { struct = 1; values = int_val (pos 4) ∷ [] } ∷ record { struct = 0; values = int_val (pos 3) ∷ label 2 ∷ [] } ∷ []

-- the second of the two holders, label 3, takes the first turns, and the null instance 0 those after
abbrev pub turns : List ℕ
turns = replicate 46 1

abbrev pub start_machine : Machine
start_machine = begin adding table

-- the table is right for it
pub table_right : TableRight adding.params table
unfolding HeldTable References struct_at TableRight
table_right = (
  (omega arith, ((omega arith, (omega arith, tt)), ((omega arith, (omega arith, (omega arith, tt))), tt))),
  ((tt, tt), ((tt, (refl, tt)), tt)),
)

-- demand 3 holds of this very run
pub adding_never_stuck : Demand3 adding table turns
adding_never_stuck = demand3 adding_accepted table table_right turns

-- Its turns ------------------------------------------------------------------------

abbrev Taken : Note → Type 0
Taken n = Turn adding start_machine turns 3 n

-- the commands of the step
abbrev code : List Note
code =
    n_this ∷ n_rd 0 1 ∷ n_rd 1 0 ∷ n_this ∷ n_rd 0 0 ∷ n_op op_add ∷ n_this ∷ n_set true int 0
    ∷ n_this ∷ n_get int 0 ∷ n_push int (int_val (pos 1)) ∷ n_op op_add ∷ n_this ∷ n_set false int 0
    ∷ n_this ∷ n_get int 0 ∷ n_push int (int_val (pos 10)) ∷ n_op op_lt ∷ n_if 4
    ∷ n_this ∷ n_get int 0 ∷ n_this ∷ n_wr 0 0 ∷ []

-- the record at the command k, with this stack, this value of its local and these locals written
abbrev record_at : ℕ → List Tagged → Option Val → List ℕ → Instance
record_at k χ v w = record {
  struct = 0;
  code = drop k code;
  stack = χ;
  env = env (int_val (pos 3) ∷ label 2 ∷ []) (v ∷ replicate 7 none);
  written = w;
}

abbrev an_int : ℕ → Tagged
an_int n = tagged int (int_val (pos n))

abbrev holding : ℕ → Option Val
holding n = some (int_val (pos n))

abbrev own : Tagged
own = tagged (ref 0) (label 3)

-- the rd of p0 is of struct 1: label 2 stands on the stack, and its 4 takes its place
pub reads_other : (t : Taken (n_rd 1 0))
    × (stack_at t.before 3 ≡ some (tagged (ref 1) (label 2) ∷ []))
    × (stack_at t.behind 3 ≡ some (an_int 4 ∷ []))
unfolding running onward act_on after
reads_other = (turn_at adding start_machine turns 3 3 {i = record_at 2 (tagged (ref 1) (label 2) ∷ []) none []} refl refl refl, refl, refl)

-- 4 + 3
pub adds : (t : Taken (n_op op_add))
    × (stack_at t.before 3 ≡ some (an_int 3 ∷ an_int 4 ∷ []))
    × (stack_at t.behind 3 ≡ some (an_int 7 ∷ []))
unfolding running onward act_on after
adds = (turn_at adding start_machine turns 6 3 {i = record_at 5 (an_int 3 ∷ an_int 4 ∷ []) none []} refl refl refl, refl, refl)

-- the declaration's wr: the local has no value before it, and 7 after it
pub declares : (t : Taken (n_set true int 0))
    × (value_at t.before 3 first_local ≡ some none)
    × (value_at t.behind 3 first_local ≡ some (holding 7))
unfolding running onward act_on after
declares = (turn_at adding start_machine turns 8 3 {i = record_at 7 (own ∷ an_int 7 ∷ []) none []} refl refl refl, refl, refl)

-- the local is read
pub gets : (t : Taken (n_get int 0)) × (stack_at t.behind 3 ≡ some (an_int 7 ∷ []))
unfolding running onward act_on after
gets = (turn_at adding start_machine turns 10 3 {i = record_at 9 (own ∷ []) (holding 7) (0 ∷ [])} refl refl refl, refl)

-- and updated
pub updates : (t : Taken (n_set false int 0)) × (value_at t.behind 3 first_local ≡ some (holding 8))
unfolding running onward act_on after
updates = (turn_at adding start_machine turns 14 3 {i = record_at 13 (own ∷ an_int 8 ∷ []) (holding 7) (0 ∷ [])} refl refl refl, refl)

-- 8 < 10, and the record goes into the if's body
pub compares : (t : Taken (n_op op_lt))
    × (stack_at t.before 3 ≡ some (an_int 10 ∷ an_int 8 ∷ []))
    × (stack_at t.behind 3 ≡ some (tagged bool (bool_val true) ∷ []))
unfolding running onward act_on after
compares = (turn_at adding start_machine turns 18 3 {i = record_at 17 (an_int 10 ∷ an_int 8 ∷ []) (holding 8) (0 ∷ [])} refl refl refl, refl, refl)

pub goes_in : (t : Taken (n_if 4)) × (code_at t.behind 3 ≡ some t.rest)
unfolding running onward act_on after
goes_in = (turn_at adding start_machine turns 19 3 {i = record_at 18 (tagged bool (bool_val true) ∷ []) (holding 8) (0 ∷ [])} refl refl refl, refl)

-- the record of struct 1, and the other with 8
abbrev added_table : List Record
added_table = record { struct = 1; values = int_val (pos 4) ∷ [] } ∷ record { struct = 0; values = int_val (pos 8) ∷ label 2 ∷ [] } ∷ []

-- the run ends with 0 after 46 turns, and leaves that table
pub ends : (z : Machine) × ((fs : List ℕ) × Visits adding start_machine turns z fs)
    × (run adding start_machine turns ≡ stopped ended 46 z)
    × (table_of adding z ≡ added_table)
unfolding running
ends =
    let (z, e, q) = came_stopped adding (run adding start_machine turns) {n = ended} {t = 46} {rs = added_table} refl in
    (z, (drop 46 turns, (run_visits adding start_machine turns e).0), e, q)
