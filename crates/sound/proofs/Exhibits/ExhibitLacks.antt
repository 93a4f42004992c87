-- Demand 3 asks more than that a run comes to a number (01, 'The words of demand 3'): three runs do, and it fails of each. The lacking
-- command is never chosen; a local was written in another passage; an operand is of its type by what put it there and not as a value.
use Rattle.std.specs.Prelude.{ℕ, ◌≡◌, refl, true, false, List, [], ◌∷◌, length, replicate, pos}
use Rattle.std.proofs.Common.{arith, ap, sym, subst}
use Rattle.std.proofs.Math.Option.{Option, none, some}
use mathlib.Core.List.Memᴰ
use Rattle.std.proofs.Math.ListN.{get_elem?}
use Rattle.types.specs.Types.{Ty.int, Ty.bool, Ty.ref}
use Rattle.types.specs.Values.{Val, Val.int_val, Val.bool_val, Val.label}
use Rattle.program.specs.Tree.{Var.par, Var.loc, Op.op_add, Expr.inv, Expr.path, Expr.int_lit, Expr.bool_lit, Expr.op, Stmt.when, Stmt.declare, Stmt.update}
use Rattle.program.specs.Tree.{Stmts, Stmts.end, Stmts.next, Item.call, Items.stop, Items.item, Program, args, size, items}
use Rattle.program.specs.Counts.{Counts}
use Rattle.program.specs.Encoding.{enc_path, enc_expr, enc_exprs, enc_stmt, enc_stmts, enc_item, enc_items, enc_step, enc_program}
use Rattle.program.specs.Reader.{Result.ok, read}
use Rattle.program.proofs.Laws.ProgramLaws.{program_law}
use Rattle.commands.specs.Noted.{Note.n_this, Note.n_not, Note.n_rd, Note.n_wr, Note.n_get, Note.n_op}
use Rattle.commands.specs.Numbers.{wrong_names, wrong_types}
use Rattle.commands.proofs.Exhibits.{program, negated, refused_8}
use Rattle.table.specs.Table.{Record, struct_at, HeldTable, References, TableRight}
use Rattle.machine.specs.Published.{Env.env, fresh_env}
use Rattle.machine.specs.Machine.{Tagged, tagged, Instance, Machine}
use Rattle.machine.specs.Stops.{ended, out_of_turns}
use Rattle.run.specs.Run.{Outcome.stopped, run}
use Rattle.run.specs.Begin.{begin}
use Rattle.run.proofs.Rows.RowsOpen.{running}
use Rattle.sound.specs.Needs.{ValueAmong}
use Rattle.commands.specs.Accepted.{Accepted}
use Rattle.sound.specs.NeverStuck.{Demand3}
use Rattle.sound.specs.After.{onward, act_on, after, after_visited}
use Rattle.sound.specs.Exhibits.{Lacks, Fails, negating}
use Rattle.sound.proofs.Exhibits.{lacks_refutes, no_record, not_of_int}
use Rattle.sound.proofs.Exhibits.ExhibitTurns.{by_stream, came_stopped}

-- a run comes to a number after so many turns
abbrev pub Stops : Program → List Record → List ℕ → ℕ → ℕ → Type 0
Stops p rs es n t = (z : Machine) × (run p (begin p rs) es ≡ stopped n t z)

-- Chosen or not ------------------------------------------------------------------

-- p1 := not 1: the null instance has taken its push, and no byte is left that would choose its not
abbrev pub one : List ℕ
one = 0 ∷ []

pub unchosen_stops : Stops (program negated) [] one out_of_turns 1
unfolding running onward act_on after
unchosen_stops = (after (program negated) 2 (begin (program negated) []) one, refl)

pub unchosen_lacks : Lacks (program negated) [] one
unfolding running onward act_on after
unchosen_lacks = record {
  place = after (program negated) 2 (begin (program negated) []) one;
  left = (after_visited (program negated) 2 (begin (program negated) []) one).0;
  visited = (after_visited (program negated) 2 (begin (program negated) []) one).1;
  holder = 0;
  instance = negating;
  there = refl;
  command = n_not;
  rest = n_this ∷ n_wr 0 1 ∷ [];
  holds = refl;
  lacks = λ (x, (χ, e), f). not_of_int x χ e f.0;
}

-- the program is refused with 8; its run comes to 33 after one turn, and demand 3 fails of it
pub fails_unchosen : Fails wrong_types (program negated) [] one
unfolding running
fails_unchosen = (refused_8.0.0, refl, no_record negated, lacks_refutes unchosen_lacks)

-- In the same passage ------------------------------------------------------------

-- if not p1 { Int l := 1; p1 := true }; p0 := l
abbrev pub outlasting : Stmts
outlasting =
    next (when (inv (path (par 1) [])) (next (declare int 0 (int_lit 1)) (next (update (par 1) [] (bool_lit 1)) end)))
    (next (update (par 0) [] (path (loc 0) [])) end)

-- one struct, with an Int and a Bool; its step is run twice
abbrev pub twice : Program
twice = record {
  params = (int ∷ bool ∷ []) ∷ [];
  steps = (record { name = 0; body = outlasting } ∷ []) ∷ [];
  schedule = item (call 0) (item (call 0) stop);
}

-- one record, label 1, after the null instance 0
abbrev pub single : List Record
single = record { struct = 0; values = int_val (pos 5) ∷ bool_val false ∷ [] } ∷ []

abbrev pub fifty : List ℕ
fifty = replicate 50 0

-- the null instance writes its local in each passage, the record in the first alone
pub outlasting_stops : Stops twice single fifty ended 50
unfolding running
outlasting_stops =
    let left : List Record = record { struct = 0; values = int_val (pos 1) ∷ bool_val true ∷ [] } ∷ [] in
    let (z, e, q) = came_stopped twice (run twice (begin twice single) fifty) {n = ended} {t = 50} {rs = left} refl in
    (z, e)

-- in its second passage the record's rd of the local finds the value of its first
pub outlasting_lacks : Lacks twice single fifty
unfolding running onward act_on after
outlasting_lacks = record {
  place = after twice 40 (begin twice single) fifty;
  left = (after_visited twice 40 (begin twice single) fifty).0;
  visited = (after_visited twice 40 (begin twice single) fifty).1;
  holder = 1;
  instance = record {
    struct = 0;
    code = n_get int 0 ∷ n_this ∷ n_wr 0 0 ∷ [];
    stack = tagged (ref 0) (label 1) ∷ [];
    env = env (int_val (pos 1) ∷ bool_val true ∷ []) (some (int_val (pos 1)) ∷ replicate 7 none);
    written = [];
  };
  there = refl;
  command = n_get int 0;
  rest = n_this ∷ n_wr 0 0 ∷ [];
  holds = refl;
  lacks = λ n. Memᴰ.not-nil n.3.0;
}

single_right : TableRight twice.params single
unfolding HeldTable References struct_at TableRight
single_right = ((omega arith, ((omega arith, (omega arith, (tt, tt))), tt)), ((tt, (tt, tt)), tt))

twice_counts : Counts twice
unfolding running args size items enc_path enc_expr enc_exprs enc_stmt enc_stmts enc_item enc_items enc_step enc_program
twice_counts =
    let r : read (enc_program twice) ≡ ok twice (length (enc_program twice)) = refl in
    ((program_law (enc_program twice) twice (length (enc_program twice))).0 r).0

-- the program is refused with 7; its run ends with 0, and demand 3 fails of it
pub fails_passage : Fails wrong_names twice single fifty
unfolding running
fails_passage = (twice_counts, refl, single_right, lacks_refutes outlasting_lacks)

-- As a value ---------------------------------------------------------------------

-- load := load + prev.load
abbrev pub summing : Stmts
summing = next (update (par 0) [] (op op_add (path (par 0) []) (path (par 1) (0 ∷ [])))) end

abbrev pub chain : Program
chain = record {
  params = (int ∷ ref 0 ∷ []) ∷ [];
  steps = (record { name = 0; body = summing } ∷ []) ∷ [];
  schedule = item (call 0) stop;
}

-- one record, label 1, whose reference names no instance
abbrev pub loose : List Record
loose = record { struct = 0; values = int_val (pos 5) ∷ label 9 ∷ [] } ∷ []

-- the null instance and the record take four commands each
abbrev pub eight : List ℕ
eight = replicate 8 0

pub loose_stops : Stops chain loose eight out_of_turns 8
unfolding running onward act_on after
loose_stops = (after chain 9 (begin chain loose) eight, refl)

-- the record, where it follows the label
abbrev following : Instance
following = record {
  struct = 0;
  code = n_rd 0 0 ∷ n_op op_add ∷ n_this ∷ n_wr 0 0 ∷ [];
  stack = tagged (ref 0) (label 9) ∷ tagged int (int_val (pos 5)) ∷ [];
  env = fresh_env (int_val (pos 5) ∷ label 9 ∷ []);
  written = [];
}

-- label 9 is a reference to struct 0 by what put it there, and names no instance
pub loose_lacks : Lacks chain loose eight
unfolding running onward act_on after
loose_lacks = record {
  place = after chain 9 (begin chain loose) eight;
  left = (after_visited chain 9 (begin chain loose) eight).0;
  visited = (after_visited chain 9 (begin chain loose) eight).1;
  holder = 1;
  instance = following;
  there = refl;
  command = n_rd 0 0;
  rest = n_op op_add ∷ n_this ∷ n_wr 0 0 ∷ [];
  holds = refl;
  lacks = λ (x, (χ, e), b, f). apart x χ e f.1;
}
  where
    is : List Instance
    is = (after chain 9 (begin chain loose) eight).instances

    top : List Tagged → Val
    top [] = label 0
    top (x ∷ χ) = x.is

    absent : (i : Instance) → get_elem? is 9 ≡ some i → ⊥
    absent i e = let q : none ≡ some i = e in let z : ◌≡◌ {A = ℕ} 0 1 = cc in omega arith

    apart : (x : Tagged) (χ : List Tagged) → tagged (ref 0) (label 9) ∷ tagged int (int_val (pos 5)) ∷ [] ≡ x ∷ χ → ValueAmong is (ref 0) x.is → ⊥
    apart x χ e o =
        let q : label 9 ≡ x.is = ap top e in
        let (i, g, s) = subst (ValueAmong is (ref 0)) (sym q) o in
        absent i g

-- the program is accepted
pub chain_accepted : Accepted chain
unfolding running args size items enc_path enc_expr enc_exprs enc_stmt enc_stmts enc_item enc_items enc_step enc_program
chain_accepted = by_stream chain refl refl

-- and the table is not right for it; the run comes to 33, and demand 3 fails of it
pub fails_table : Accepted chain × (TableRight chain.params loose → ⊥) × (Demand3 chain loose eight → ⊥)
unfolding HeldTable References struct_at TableRight
fails_table = (chain_accepted, λ h. dangling h.1.0.1.0, lacks_refutes loose_lacks)
  where
    dangling : ◌≡◌ {A = Option ℕ} none (some 0) → ⊥
    dangling q = let z : ◌≡◌ {A = ℕ} 0 1 = cc in omega arith
