-- 'Which orders don't matter' (02 §11) is not empty, and not too strict: an order of P on records that refer to null is apart; one of
-- P on two records that read each other is not, and its orders have two ends; two equal writes are not apart although both orders end alike;
-- writes that are dropped on a null instance are apart.
use Rattle.std.specs.Prelude.{ℕ, zero, suc, ◌<◌, ◌≤◌, ◌≡◌, refl, true, List, [], ◌∷◌, ◌++◌, map, length, replicate, pos}
use Rattle.std.proofs.Common.{arith, sym, ap, subst, ◌∙◌}
use Rattle.std.proofs.Math.Option.{some}
use Rattle.std.proofs.Math.ListN.{get_elem?}
use Rattle.types.specs.Limits.{first_local}
use Rattle.types.specs.Types.{Ty, Ty.int, Ty.ref}
use Rattle.types.specs.Values.{Val, Val.int_val, Val.label, word}
use Rattle.program.specs.Tree.{Var.par, Op.op_add, Expr.path, Expr.int_lit, Expr.op, Stmt.update, Stmts.end, Stmts.next, Item.call, Items.stop, Items.item}
use Rattle.program.specs.Tree.{Program, args, size, items}
use Rattle.program.specs.Encoding.{enc_path, enc_expr, enc_exprs, enc_stmt, enc_stmts, enc_item, enc_items, enc_step, enc_program}
use Rattle.commands.specs.Accepted.{Accepted}
use Rattle.commands.specs.Commands.{then, reads, front, last, expr_coms, args_coms, update_coms, stmt_coms, body_coms}
use Rattle.commands.specs.Noted.{Note, Note.n_wr}
use Rattle.table.specs.Table.{Record, struct_at, HeldRecord, HeldTable, References, TableRight}
use Rattle.machine.specs.Published.{structs, StepCall.global, Sched.done, Sched.start, State, State.state}
use Rattle.machine.specs.Rules.{Actor.schedule, Rule}
use Rattle.machine.specs.Machine.{Tagged, tagged, Instance, Machine, Moved.next, move, machine, started}
use Rattle.machine.specs.Represents.{Represents}
use Rattle.machine.proofs.Laws.RepresentsLaws.{Still, still_done}
use Rattle.machine.proofs.Laws.MoveAgrees.{move_follows}
use Rattle.run.specs.Begin.{begin, first_instances, table_of}
use Rattle.run.specs.Initial.{initial, first_insts}
use Rattle.run.specs.Comes.{table_in}
use Rattle.run.specs.Runs.{Due}
use Rattle.run.proofs.Rows.RowsOpen.{running}
use Rattle.run.proofs.Laws.BeginLaws.{begin_stands}
use Rattle.run.proofs.Laws.OutcomeLaws.{table_represents}
use Rattle.sound.proofs.Laws.BeginGood.{begin_good}
use Rattle.sound.proofs.Laws.ElemLaws.{none_some, some_is}
use Rattle.sound.proofs.Exhibits.ExhibitTurns.{by_stream}
use Rattle.orders.specs.Orders.{Completes}
use Rattle.orders.specs.Touches.{Use.writing, Does, Apart}
use Rattle.orders.specs.Constructing.{MakesNone, ConstructsNothing}
use Rattle.orders.specs.OrderFree.{OrderFree}
use Rattle.orders.specs.Following.{deeds_of, all_clear, acted, top_deed, write_deed, code_deed, deed_at, onto, every, touching, clear_by, led}
use Rattle.orders.proofs.Laws.OrderSteps.{wr_touches}
use Rattle.orders.proofs.Laws.OrderFreeLaws.{free_after}
use Rattle.orders.proofs.Laws.FollowingLaws.{apart_clear, acted_ordered}

-- Programs and tables ----------------------------------------------------------------------

-- one struct with an Int and a reference to itself; one step, run once. 01's P: load := load + prev.load
abbrev pub P : Program
P = record {
  params = (int ∷ ref 0 ∷ []) ∷ [];
  steps = (record { name = 0; body = next (update (par 0) [] (op op_add (path (par 0) []) (path (par 1) (0 ∷ [])))) end } ∷ []) ∷ [];
  schedule = item (call 0) stop;
}

-- prev.load := 5
abbrev pub Q : Program
Q = record {
  params = (int ∷ ref 0 ∷ []) ∷ [];
  steps = (record { name = 0; body = next (update (par 1) (0 ∷ []) (int_lit 5)) end } ∷ []) ∷ [];
  schedule = item (call 0) stop;
}

pub P-accepted : Accepted P
unfolding running args size items enc_path enc_expr enc_exprs enc_stmt enc_stmts enc_item enc_items enc_step enc_program
P-accepted = by_stream P refl refl

pub Q-accepted : Accepted Q
unfolding running args size items enc_path enc_expr enc_exprs enc_stmt enc_stmts enc_item enc_items enc_step enc_program
Q-accepted = by_stream Q refl refl

-- two records (load, prev), labels 1 and 2
abbrev pub two : ℕ → ℕ → ℕ → ℕ → List Record
two a b c d =
    record { struct = 0; values = int_val (pos a) ∷ label b ∷ [] } ∷ record { struct = 0; values = int_val (pos c) ∷ label d ∷ [] } ∷ []

-- The step started on a table ---------------------------------------------------------------

module _ (p : Program) (rs : List Record) where
  abbrev pub before_it : State
  before_it = state (start (global 0) done) (first_insts p rs) []

  -- the machine after the start
  abbrev pub first : Machine
  first = machine done (map (started p (global 0)) (first_instances p rs)) [] 0

  pub record Begun : Type 0 where
    pub goes : move p (begin p rs) ≡ next first
    pub still : Still (begin p rs).instances
    pub at_start : initial p rs ≡ before_it

  module _ (b : Begun) where
    pub stands_before : Represents (begin p rs) before_it
    stands_before = subst (Represents (begin p rs)) b.at_start (begin_stands p rs).1

    -- the started state
    abbrev pub started_state : State
    started_state = (move_follows p (begin p rs) before_it stands_before b.still b.goes).0

    pub starts : Rule p schedule before_it started_state
    starts = (move_follows p (begin p rs) before_it stands_before b.still b.goes).1

    pub stands : Represents first started_state
    stands = (move_follows p (begin p rs) before_it stands_before b.still b.goes).2

    done_by : (z : Machine) (z' : State) → Represents z z' → Still z.instances → Due z'
    done_by z (state s σ b) R t = (still_done z.instances σ R.1).0 t

    -- an order that completes the step, with the last table
    pub record Ended (ls : List ℕ) (left : List Record) : Type 0 where
      pub last : State
      pub completes : Completes p started_state ls last
      pub table : table_in p last ≡ left

    pub by_acts : (ls : List ℕ) {z : Machine} {left : List Record} → acted p first ls ≡ some z → Still z.instances → table_of p z ≡ left → Ended ls left
    by_acts ls {z} e t q =
        let (z', o, R) = acted_ordered p first started_state ls stands e in
        record { last = z'; completes = (o, done_by z z' R t); table = sym (table_represents p z z' R) ∙ q }

    pub apart_by : (ls : List ℕ) → all_clear (deeds_of p first ls) ≡ true → Apart p started_state ls
    apart_by ls e = apart_clear p first started_state ls stands e

    -- a write after some labels of an order
    pub does_write : (front rest : List ℕ) (l q v : ℕ) {z : Machine} {i : Instance} {k : ℕ} {t : Ty} {y : Tagged} {c : List Note} {χ : List Tagged}
        → acted p first front ≡ some z → get_elem? z.instances l ≡ some i → i.code ≡ n_wr k v ∷ c → i.stack ≡ tagged t (label q) ∷ y ∷ χ
        → v < first_local → structs p ≤ q → Does p started_state (front ++ l ∷ rest) l writing q v
    does_write front rest l q v {z = z} e at f g low here =
        let (z', o, R) = acted_ordered p first started_state front stands e in
        record { before = front; after = rest; place = z'; parts = refl; reached = o; touches = wr_touches z at z' R f g low here }

    pub freely : Accepted p → TableRight p.params rs → ConstructsNothing p (global 0) → {ls : List ℕ} {left : List Record} (e : Ended ls left)
        → Apart p started_state ls → OrderFree p started_state (length ls) e.last
    freely acc right none e apart = free_after acc (begin_good p acc.0 rs right) stands_before starts none e.completes apart

-- such a table is right where its loads are small and its references name instances of the one struct
two_right : (a b c d : ℕ) → a ≤ 7 → c ≤ 7 → struct_at P.params (two a b c d) b ≡ some 0 → struct_at P.params (two a b c d) d ≡ some 0
    → b < 256 → d < 256 → TableRight P.params (two a b c d)
unfolding HeldTable References TableRight
two_right a b c d h k e f g i =
    ((omega arith, (held a b h g, (held c d k i, tt))), ((tt, (e, tt)), ((tt, (f, tt)), tt)))
  where
    held : (a b : ℕ) → a ≤ 7 → b < 256 → HeldRecord P.params (record { struct = 0; values = int_val (pos a) ∷ label b ∷ [] })
    held a b h g = (omega arith, (omega (arith, h), (omega (arith, g), tt)))

-- the records refer to the null instance; to each other
pub null_right : TableRight P.params (two 5 0 7 0)
unfolding struct_at
null_right = two_right 5 0 7 0 (omega arith) (omega arith) refl refl (omega arith) (omega arith)

pub mutual_right : TableRight P.params (two 5 2 7 1)
unfolding struct_at
mutual_right = two_right 5 2 7 1 (omega arith) (omega arith) refl refl (omega arith) (omega arith)

-- label 0, then 1, then 2; 0, then 2, then 1, n commands each
abbrev pub upward : ℕ → List ℕ
upward n = replicate n 0 ++ replicate n 1 ++ replicate n 2

abbrev pub downward : ℕ → List ℕ
downward n = replicate n 0 ++ replicate n 2 ++ replicate n 1

pub P-begun : (a b c d : ℕ) → Begun P (two a b c d)
unfolding running initial
P-begun a b c d = record { goes = refl; still = (refl, (refl, (refl, tt))); at_start = refl }

pub Q-begun : (a b c d : ℕ) → Begun Q (two a b c d)
unfolding running initial
Q-begun a b c d = record { goes = refl; still = (refl, (refl, (refl, tt))); at_start = refl }

-- P on records that refer to null: apart, so every order ends so -----------------------------

pub P-makes-none : ConstructsNothing P (global 0)
unfolding running MakesNone then reads front last expr_coms args_coms update_coms stmt_coms body_coms
P-makes-none zero b e = subst (λ x. MakesNone (body_coms x)) (some_is e) (tt, (tt, (tt, (tt, (tt, (tt, (tt, (tt, tt))))))))
P-makes-none (suc k) b e = none_some e

pub Q-makes-none : ConstructsNothing Q (global 0)
unfolding running MakesNone then reads front last expr_coms args_coms update_coms stmt_coms body_coms
Q-makes-none zero b e = subst (λ x. MakesNone (body_coms x)) (some_is e) (tt, (tt, (tt, (tt, tt))))
Q-makes-none (suc k) b e = none_some e

pub null_ended : Ended P (two 5 0 7 0) (P-begun 5 0 7 0) (upward 8) (two 5 0 7 0)
unfolding running acted led
null_ended = by_acts P (two 5 0 7 0) (P-begun 5 0 7 0) (upward 8) refl (refl, (refl, (refl, tt))) refl

pub null_apart : Apart P (started_state P (two 5 0 7 0) (P-begun 5 0 7 0)) (upward 8)
unfolding running top_deed write_deed code_deed deed_at onto deeds_of every touching clear_by all_clear
null_apart = apart_by P (two 5 0 7 0) (P-begun 5 0 7 0) (upward 8) refl

pub null_free : OrderFree P (started_state P (two 5 0 7 0) (P-begun 5 0 7 0)) 24 null_ended.last
null_free = freely P (two 5 0 7 0) (P-begun 5 0 7 0) P-accepted null_right P-makes-none null_ended null_apart

-- P on two records that read each other: two ends, so no order of it is apart --------------------

abbrev pub mutual_state : State
mutual_state = started_state P (two 5 2 7 1) (P-begun 5 2 7 1)

pub mutual_upward : Ended P (two 5 2 7 1) (P-begun 5 2 7 1) (upward 8) (two 12 2 19 1)
unfolding running acted led
mutual_upward = by_acts P (two 5 2 7 1) (P-begun 5 2 7 1) (upward 8) refl (refl, (refl, (refl, tt))) refl

pub mutual_downward : Ended P (two 5 2 7 1) (P-begun 5 2 7 1) (downward 8) (two 17 2 12 1)
unfolding running acted led
mutual_downward = by_acts P (two 5 2 7 1) (P-begun 5 2 7 1) (downward 8) refl (refl, (refl, (refl, tt))) refl

-- the first load of a table
abbrev first_word : List Val → ℕ
first_word [] = 0
first_word (v ∷ vs) = word v

abbrev load : List Record → ℕ
load [] = 0
load (r ∷ rs) = first_word r.values

loads_differ : two 17 2 12 1 ≡ two 12 2 19 1 → ⊥
unfolding running
loads_differ e = let q : ◌≡◌ {A = ℕ} 17 12 = ap load e in omega (arith, q)

pub mutual_not_apart : Apart P mutual_state (upward 8) → ⊥
mutual_not_apart a =
    let f = freely P (two 5 2 7 1) (P-begun 5 2 7 1) P-accepted mutual_right P-makes-none mutual_upward a in
    let e = f.completes mutual_downward.completes.0 (omega arith) in
    loads_differ (sym mutual_downward.table ∙ ap (table_in P) e ∙ mutual_upward.table)

-- Q on two records that both write the 5 that is there: not apart, although these orders end alike -----

abbrev pub equal_state : State
equal_state = started_state Q (two 5 1 5 1) (Q-begun 5 1 5 1)

pub equal_upward : Ended Q (two 5 1 5 1) (Q-begun 5 1 5 1) (upward 4) (two 5 1 5 1)
unfolding running acted led
equal_upward = by_acts Q (two 5 1 5 1) (Q-begun 5 1 5 1) (upward 4) refl (refl, (refl, (refl, tt))) refl

pub equal_downward : Ended Q (two 5 1 5 1) (Q-begun 5 1 5 1) (downward 4) (two 5 1 5 1)
unfolding running acted led
equal_downward = by_acts Q (two 5 1 5 1) (Q-begun 5 1 5 1) (downward 4) refl (refl, (refl, (refl, tt))) refl

pub first_writes : Does Q equal_state (upward 4) 1 writing 1 0
unfolding running acted led
first_writes =
    does_write Q (two 5 1 5 1) (Q-begun 5 1 5 1) (replicate 4 0 ++ replicate 3 1) (replicate 4 2) 1 1 0 refl refl refl refl (omega arith) (omega arith)

pub second_writes : Does Q equal_state (upward 4) 2 writing 1 0
unfolding running acted led
second_writes =
    does_write Q (two 5 1 5 1) (Q-begun 5 1 5 1) (replicate 4 0 ++ replicate 4 1 ++ replicate 3 2) [] 2 1 0 refl refl refl refl (omega arith) (omega arith)

pub equal_not_apart : Apart Q equal_state (upward 4) → ⊥
equal_not_apart a = let e = a 1 2 1 0 writing first_writes second_writes in omega (arith, e)

-- Q on records that refer to null: its writes are dropped, and apart ------------------------------------

abbrev pub dropped_state : State
dropped_state = started_state Q (two 5 0 7 0) (Q-begun 5 0 7 0)

pub dropped_ended : Ended Q (two 5 0 7 0) (Q-begun 5 0 7 0) (upward 4) (two 5 0 7 0)
unfolding running acted led
dropped_ended = by_acts Q (two 5 0 7 0) (Q-begun 5 0 7 0) (upward 4) refl (refl, (refl, (refl, tt))) refl

pub dropped_apart : Apart Q dropped_state (upward 4)
unfolding running top_deed write_deed code_deed deed_at onto deeds_of every touching clear_by all_clear
dropped_apart = apart_by Q (two 5 0 7 0) (Q-begun 5 0 7 0) (upward 4) refl

pub dropped_free : OrderFree Q dropped_state 12 dropped_ended.last
dropped_free = freely Q (two 5 0 7 0) (Q-begun 5 0 7 0) Q-accepted null_right Q-makes-none dropped_ended dropped_apart
