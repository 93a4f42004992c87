-- Demand 3 is not empty, the other side (01, 'The words of demand 3'): a run of an accepted program that constructs, goes both ways
-- through an if, drops a null instance's write, goes round in a Fix, and ends with 0.
use Rattle.std.specs.Prelude.{ℕ, suc, ◌≡◌, refl, true, false, List, [], ◌∷◌, length, drop, replicate, pos}
use Rattle.std.proofs.Common.{arith}
use Rattle.std.proofs.Math.Option.{some}
use Rattle.types.specs.Types.{Ty.int, Ty.bool, Ty.ref}
use Rattle.types.specs.Values.{Val.int_val, Val.bool_val, Val.label}
use Rattle.program.specs.Tree.{Var.par, Expr.path, Expr.int_lit, Expr.bool_lit, Expr.self, Exprs.none, Exprs.more, Stmt.when, Stmt.update, Stmt.create, Stmts}
use Rattle.program.specs.Tree.{Stmts.end, Stmts.next, Item.call, Item.fix, Items.stop, Items.item, Program, args, size, items}
use Rattle.program.specs.Encoding.{enc_path, enc_expr, enc_exprs, enc_stmt, enc_stmts, enc_item, enc_items, enc_step, enc_program}
use Rattle.commands.specs.Noted.{Note, Note.n_push, Note.n_this, Note.n_wr, Note.n_cons, Note.n_if}
use Rattle.table.specs.Table.{Record, struct_at, HeldTable, References, TableRight}
use Rattle.machine.specs.Published.{fresh_env, StepCall.global, Sched.done, Sched.start, Sched.active}
use Rattle.machine.specs.Machine.{tagged, Instance, Machine, Moved.next, move}
use Rattle.run.specs.Holders.{holders}
use Rattle.machine.specs.Stops.{ended}
use Rattle.run.specs.Run.{Outcome.stopped, run}
use Rattle.run.specs.Visits.{Visits}
use Rattle.run.specs.Begin.{begin, table_of}
use Rattle.run.proofs.Rows.RowsOpen.{running}
use Rattle.commands.specs.Accepted.{Accepted}
use Rattle.sound.specs.NeverStuck.{Demand3}
use Rattle.sound.proofs.Laws.NeverStuckLaws.{demand3}
use Rattle.run.proofs.Laws.RunAgreesVisits.{run_visits}
use Rattle.sound.specs.After.{onward, act_on, after, after_visited}
use Rattle.sound.proofs.Exhibits.ExhibitTurns.{by_stream, code_at, stack_at, value_at, came_stopped, Turn, at_act, turn_at}

-- The run --------------------------------------------------------------------------

-- if p1 { construct 1 (7, this); p1 := false }; p0 := 2
abbrev pub body : Stmts
body =
    next
    (when (path (par 1) [])
    (next (create 1 (more (int_lit 7) (more self none))) (next (update (par 1) [] (bool_lit 0)) end)))
    (next (update (par 0) [] (int_lit 2)) end)

-- struct 0 has an Int and a Bool, struct 1 an Int and a reference to struct 0; the step of struct 0 stands in a Fix
abbrev pub settling : Program
settling = record {
  params = (int ∷ bool ∷ []) ∷ (int ∷ ref 0 ∷ []) ∷ [];
  steps = (record { name = 0; body = body } ∷ []) ∷ [] ∷ [];
  schedule = item (fix (item (call 0) stop)) stop;
}

-- one record, label 2, after the null instances 0 and 1
abbrev pub table : List Record
table = record { struct = 0; values = int_val (pos 5) ∷ bool_val true ∷ [] } ∷ []

-- zeros: the holders take turns
abbrev pub turns : List ℕ
turns = replicate 32 0

abbrev pub start_machine : Machine
start_machine = begin settling table

-- It is accepted -------------------------------------------------------------------

-- its stream is read to it, so its counts are right; no number of its limits, names and types comes out
pub settling_accepted : Accepted settling
unfolding running args size items enc_path enc_expr enc_exprs enc_stmt enc_stmts enc_item enc_items enc_step enc_program
settling_accepted = by_stream settling refl refl

-- the table is right for it
pub table_right : TableRight settling.params table
unfolding HeldTable References struct_at TableRight
table_right = ((omega arith, ((omega arith, (omega arith, (tt, tt))), tt)), ((tt, (tt, tt)), tt))

-- demand 3 holds of this very run
pub accepted_never_stuck : Demand3 settling table turns
accepted_never_stuck = demand3 settling_accepted table table_right turns

-- Its machines ---------------------------------------------------------------------

abbrev Taken : ℕ → Note → Type 0
Taken l n = Turn settling start_machine turns l n

abbrev after_acts : ℕ → Machine
after_acts k = at_act settling start_machine turns k

-- the record before its construct, and the null instance before its last write
abbrev constructing : Instance
constructing = record {
  struct = 0;
  code = n_cons 1 ∷ n_push bool (bool_val false) ∷ n_this ∷ n_wr 0 1 ∷ n_push int (int_val (pos 2)) ∷ n_this ∷ n_wr 0 0 ∷ [];
  stack = tagged (ref 0) (label 2) ∷ tagged int (int_val (pos 7)) ∷ [];
  env = fresh_env (int_val (pos 5) ∷ bool_val true ∷ []);
  written = [];
}

abbrev writing : Instance
writing = record {
  struct = 0;
  code = n_wr 0 0 ∷ [];
  stack = tagged (ref 0) (label 0) ∷ tagged int (int_val (pos 2)) ∷ [];
  env = fresh_env (int_val (pos 0) ∷ bool_val false ∷ []);
  written = [];
}

-- a construct: there is one instance more
pub constructs : (t : Taken 2 (n_cons 1)) × (length t.behind.instances ≡ suc (length t.before.instances))
unfolding running onward act_on after
constructs = (turn_at settling start_machine turns 13 2 {i = constructing} refl refl refl, refl)

-- the record goes into the if's body
pub goes_in : (t : Taken 2 (n_if 6)) × (stack_at t.before 2 ≡ some (tagged bool (bool_val true) ∷ [])) × (code_at t.behind 2 ≡ some t.rest)
unfolding running onward act_on after
goes_in = (turn_at settling start_machine turns 7 2 refl refl refl, refl, refl)

-- the null instance leaves it out
pub leaves_out : (t : Taken 0 (n_if 6)) × (stack_at t.before 0 ≡ some (tagged bool (bool_val false) ∷ []))
    × (code_at t.behind 0 ≡ some (drop 6 t.rest))
unfolding running onward act_on after
leaves_out = (turn_at settling start_machine turns 6 0 refl refl refl, refl, refl)

-- the null instance's write of 2 to its own p0 is dropped: p0 is 0 still, and stability is what it was
pub write_dropped : (t : Taken 0 (n_wr 0 0))
    × (stack_at t.before 0 ≡ some (tagged (ref 0) (label 0) ∷ tagged int (int_val (pos 2)) ∷ []))
    × (value_at t.before 0 0 ≡ some (some (int_val (pos 0))))
    × (value_at t.behind 0 0 ≡ some (some (int_val (pos 0))))
    × (t.before.stability ≡ true ∷ [])
    × (t.behind.stability ≡ true ∷ [])
unfolding running onward act_on after
write_dropped = (turn_at settling start_machine turns 12 0 {i = writing} refl refl refl, refl, refl, refl, refl, refl)

-- the Fix is met with a false entry, and begins again
pub goes_round : (m : Machine) × (z : Machine)
    × ((fs : List ℕ) × Visits settling start_machine turns m fs)
    × ((fs : List ℕ) × Visits settling start_machine turns z fs)
    × (holders m ≡ [])
    × (m.sched ≡ active (start (global 0) done) done)
    × (m.stability ≡ false ∷ [])
    × (move settling m ≡ next z)
    × (z.sched ≡ start (global 0) (active (start (global 0) done) done))
    × (z.stability ≡ true ∷ [])
unfolding running onward act_on after
goes_round = (
  after_acts 20,
  after_acts 21,
  after_visited settling 20 start_machine turns,
  after_visited settling 21 start_machine turns,
  refl,
  refl,
  refl,
  refl,
  refl,
  refl,
)

-- the record, settled, and the instance that the run constructs
abbrev settled_table : List Record
settled_table =
    record { struct = 0; values = int_val (pos 2) ∷ bool_val false ∷ [] } ∷ record { struct = 1; values = int_val (pos 7) ∷ label 2 ∷ [] } ∷ []

-- the run ends with 0 after 30 turns, and leaves that table
pub ends : (z : Machine) × ((fs : List ℕ) × Visits settling start_machine turns z fs)
    × (run settling start_machine turns ≡ stopped ended 30 z)
    × (table_of settling z ≡ settled_table)
unfolding running
ends =
    let (z, e, q) = came_stopped settling (run settling start_machine turns) {n = ended} {t = 30} {rs = settled_table} refl in
    (z, (drop 30 turns, (run_visits settling start_machine turns e).0), e, q)

-- so these are the number and the turns that demand 3 speaks of
pub ends_never_stuck : (accepted_never_stuck.number ≡ ended) × (accepted_never_stuck.turns ≡ 30) × (accepted_never_stuck.last ≡ ends.0)
ends_never_stuck = let r = accepted_never_stuck.returns in let e = ends.2 in (cc, cc, cc)
