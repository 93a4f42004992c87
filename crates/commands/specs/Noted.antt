-- Commands with notes: what 01, 'The words of demand 3', asks about beside the command itself. A note never changes what a
-- command does: without it each is the published command (`erase`; law `erased` of NotedLaws).
use Rattle.std.specs.Prelude.{ℕ, ◌+◌, List, [], ◌∷◌, Bool, true, false, length}
use Rattle.types.specs.Limits.{first_local}
use Rattle.types.specs.Types.{Ty, Ty.int, Ty.nat, Ty.bool, Ty.ref}
use Rattle.types.specs.TypeBytes.{struct_of}
use Rattle.types.specs.Values.{Val, default, value_of}
use Rattle.program.specs.Tree.{Var, Var.par, Var.loc, Op, Expr, Expr.inv, Expr.make, Expr.path, Expr.int_lit, Expr.nat_lit, Expr.bool_lit, Expr.null}
use Rattle.program.specs.Tree.{Expr.self, Expr.op, Exprs, Exprs.none, Exprs.more, Stmt, Stmt.when, Stmt.declare, Stmt.update, Stmt.create, Stmts}
use Rattle.program.specs.Tree.{Stmts.end, Stmts.next}
use Rattle.commands.specs.Commands.{Com.push, Com.push_this, Com.rd, Com.wr, Com.cons, Com.not, Com.oper, Flat, Flat.plain, Flat.if_n}
use Rattle.commands.specs.Context.{Ctx, typ}

pub data Note : Type 0 where
  n_push : Ty → Val → Note
  n_this n_not : Note
  -- of a parameter: the struct that the path has reached, the variable
  n_rd n_wr : ℕ → ℕ → Note
  -- of a local: its type, its number from 0; of a write, whether it is the declaration's
  n_get : Ty → ℕ → Note
  n_set : Bool → Ty → ℕ → Note
  n_cons : ℕ → Note
  n_op : Op → Note
  n_if : ℕ → Note

unfoldable pub erase : Note → Flat
erase (n_push t v) = plain (push t v)
erase n_this = plain push_this
erase n_not = plain not
erase (n_rd k x) = plain (rd x)
erase (n_wr k x) = plain (wr x)
erase (n_get t x) = plain (rd (first_local + x))
erase (n_set d t x) = plain (wr (first_local + x))
erase (n_cons k) = plain (cons k)
erase (n_op o) = plain (oper o)
erase (n_if n) = if_n n

-- the locals written once this command is taken
unfoldable pub now_written : Note → List ℕ → List ℕ
now_written (n_push t v) w = w
now_written n_this w = w
now_written n_not w = w
now_written (n_rd k x) w = w
now_written (n_wr k x) w = w
now_written (n_get t x) w = w
now_written (n_set true t x) w = x ∷ w
now_written (n_set false t x) w = w
now_written (n_cons k) w = w
now_written (n_op o) w = w
now_written (n_if n) w = w

-- Each compiles in front of the commands c behind it ------------------------------

-- rd of parameters, from a value of type t
unfoldable pub walk : Ctx → Ty → List ℕ → List Note → List Note
walk G t [] c = c
walk G t (x ∷ xs) c = n_rd (struct_of t) x ∷ walk G (typ G (struct_of t) x) xs c

-- the same, with wr of the last
unfoldable pub store : Ctx → Ty → ℕ → List ℕ → List Note → List Note
store G t x [] c = n_wr (struct_of t) x ∷ c
store G t x (y ∷ ys) c = n_rd (struct_of t) x ∷ store G (typ G (struct_of t) x) y ys c

unfoldable pub read_path : Ctx → Var → List ℕ → List Note → List Note
read_path G (par x) xs c = n_this ∷ walk G (ref G.own) (x ∷ xs) c
read_path G (loc x) xs c = n_this ∷ n_get (G.local x) x ∷ walk G (G.local x) xs c

unfoldable pub write_path : Ctx → Var → List ℕ → List Note → List Note
write_path G (par x) xs c = n_this ∷ store G (ref G.own) x xs c
write_path G (loc x) [] c = n_this ∷ n_set false (G.local x) x ∷ c
write_path G (loc x) (y ∷ ys) c = n_this ∷ n_get (G.local x) x ∷ store G (G.local x) y ys c

unfoldable mutual
  pub note_expr : Expr → Ctx → List Note → List Note
  note_expr (inv e) G c = note_expr e G (n_not ∷ c)
  note_expr (make k es) G c = note_exprs es G (n_cons k ∷ c)
  note_expr (path v vs) G c = read_path G v vs c
  note_expr (int_lit w) G c = n_push int (value_of int w) ∷ c
  note_expr (nat_lit w) G c = n_push nat (value_of nat w) ∷ c
  note_expr (bool_lit w) G c = n_push bool (value_of bool w) ∷ c
  note_expr (null t) G c = n_push t (default t) ∷ c
  note_expr self G c = n_this ∷ c
  note_expr (op o a b) G c = note_expr a G (note_expr b G (n_op o ∷ c))

  pub note_exprs : Exprs → Ctx → List Note → List Note
  note_exprs none G c = c
  note_exprs (more e es) G c = note_expr e G (note_exprs es G c)

unfoldable mutual
  pub note_stmt : Stmt → Ctx → List Note → List Note
  note_stmt (when e b) G c = note_expr e G (n_if (length (note_body b G [])) ∷ note_body b G c)
  note_stmt (declare t x e) G c = note_expr e G (n_this ∷ n_set true t x ∷ c)
  note_stmt (update v vs e) G c = note_expr e G (write_path G v vs c)
  note_stmt (create k es) G c = note_exprs es G (n_cons k ∷ c)

  pub note_body : Stmts → Ctx → List Note → List Note
  note_body end G c = c
  note_body (next s b) G c = note_stmt s G (note_body b G c)

-- a step's commands with their notes
unfoldable pub noted : Ctx → Stmts → List Note
noted G b = note_body b G []
