-- Laws of commands with notes (01, 'The words of demand 3'): compiling leaves what stands behind as it is, and without its notes
-- the list is the published one.
use Rattle.std.specs.Prelude.{ℕ, ◌≡◌, true, length, drop}
use Rattle.std.proofs.Math.Path.{refl}
use Rattle.std.proofs.Common.{ap, ◌∙◌, sym}
use mathlib.Core.List.{List, [], ◌∷◌, ◌++◌, map, append-nil}
use Rattle.std.proofs.lemmas.List.{length-map}
use Rattle.std.proofs.Math.Seq.{drop-append_seam}
use Rattle.types.specs.Types.{Ty}
use Rattle.program.specs.Tree.{Var, Var.par, Var.loc, Expr, Expr.inv, Expr.make, Expr.path, Expr.int_lit, Expr.nat_lit, Expr.bool_lit, Expr.null}
use Rattle.program.specs.Tree.{Expr.self, Expr.op, Exprs, Exprs.none, Exprs.more, Stmt, Stmt.when, Stmt.declare, Stmt.update, Stmt.create, Stmts}
use Rattle.program.specs.Tree.{Stmts.end, Stmts.next}
use Rattle.program.specs.Encoding.{var_code}
use Rattle.commands.specs.Commands.{Com.push_this, reads, path_coms, front, last, expr_coms, args_coms, stmt_coms, body_coms, Flat.plain}
use Rattle.commands.specs.Commands.{flatten, commands}
use Rattle.commands.proofs.Laws.CommandLaws.{flatten_app, stored, update_flat, when_flat}
use Rattle.commands.specs.Context.{Ctx, typ}
use Rattle.types.specs.TypeBytes.{struct_of}
use Rattle.commands.specs.Noted.{Note, Note.n_this, Note.n_not, Note.n_set, Note.n_cons, Note.n_op, Note.n_if, erase, walk, store, read_path}
use Rattle.commands.specs.Noted.{write_path, note_expr, note_exprs, note_stmt, note_body, noted}

module _ (G : Ctx) where
  walk_app : (t : Ty) (xs : List ℕ) (c d : List Note) → walk G t xs (c ++ d) ≡ walk G t xs c ++ d
  unfolding walk
  walk_app t [] c d = refl
  walk_app t (x ∷ xs) c d = rw (walk_app (typ G (struct_of t) x) xs c d)

  store_app : (t : Ty) (x : ℕ) (xs : List ℕ) (c d : List Note) → store G t x xs (c ++ d) ≡ store G t x xs c ++ d
  unfolding store
  store_app t x [] c d = refl
  store_app t x (y ∷ ys) c d = rw (store_app (typ G (struct_of t) x) y ys c d)

  read_app : (v : Var) (vs : List ℕ) (c d : List Note) → read_path G v vs (c ++ d) ≡ read_path G v vs c ++ d
  unfolding read_path
  read_app (par x) xs c d = rw walk_app
  read_app (loc x) xs c d = rw walk_app

  write_app : (v : Var) (vs : List ℕ) (c d : List Note) → write_path G v vs (c ++ d) ≡ write_path G v vs c ++ d
  unfolding write_path
  write_app (par x) xs c d = rw store_app
  write_app (loc x) [] c d = refl
  write_app (loc x) (y ∷ ys) c d = rw store_app

mutual
  unfolding note_expr

  -- an expression compiled before two lists in a row stands before the first of them
  pub note_expr_app : (e : Expr) (G : Ctx) (c d : List Note) → note_expr e G (c ++ d) ≡ note_expr e G c ++ d
  note_expr_app (inv e) G c d = note_expr_app e G (n_not ∷ c) d
  note_expr_app (make k es) G c d = note_exprs_app es G (n_cons k ∷ c) d
  note_expr_app (path v vs) G c d = read_app G v vs c d
  note_expr_app (int_lit w) G c d = refl
  note_expr_app (nat_lit w) G c d = refl
  note_expr_app (bool_lit w) G c d = refl
  note_expr_app (null t) G c d = refl
  note_expr_app self G c d = refl
  note_expr_app (op o a b) G c d = rw (note_expr_app b G (n_op o ∷ c) d) (note_expr_app a G (note_expr b G (n_op o ∷ c)) d)

  -- and so do expressions
  pub note_exprs_app : (es : Exprs) (G : Ctx) (c d : List Note) → note_exprs es G (c ++ d) ≡ note_exprs es G c ++ d
  note_exprs_app none G c d = refl
  note_exprs_app (more e es) G c d = rw (note_exprs_app es G c d) (note_expr_app e G (note_exprs es G c) d)

mutual
  unfolding note_stmt

  -- and a statement
  pub note_stmt_app : (s : Stmt) (G : Ctx) (c d : List Note) → note_stmt s G (c ++ d) ≡ note_stmt s G c ++ d
  note_stmt_app (when e b) G c d =
      rw (note_body_app b G c d) (note_expr_app e G (n_if (length (note_body b G [])) ∷ note_body b G c) d)
  note_stmt_app (declare t x e) G c d = note_expr_app e G (n_this ∷ n_set true t x ∷ c) d
  note_stmt_app (update v vs e) G c d = rw write_app (note_expr_app e G (write_path G v vs c) d)
  note_stmt_app (create k es) G c d = note_exprs_app es G (n_cons k ∷ c) d

  -- and statements
  pub note_body_app : (b : Stmts) (G : Ctx) (c d : List Note) → note_body b G (c ++ d) ≡ note_body b G c ++ d
  note_body_app end G c d = refl
  note_body_app (next s b) G c d = rw (note_body_app b G c d) (note_stmt_app s G (note_body b G c) d)

-- where an if's body is left out, the commands behind it remain
pub left_out : (b : Stmts) (G : Ctx) (c : List Note) → drop (length (note_body b G [])) (note_body b G c) ≡ c
left_out b G c = rw (note_body_app b G [] c) (drop-append_seam (note_body b G []) c)

-- Without the notes --------------------------------------------------------------

module _ (G : Ctx) where
  walk_erased : (t : Ty) (xs : List ℕ) (c : List Note) → map erase (walk G t xs c) ≡ flatten (reads xs) ++ map erase c
  unfolding walk erase reads flatten
  walk_erased t [] c = refl
  walk_erased t (x ∷ xs) c = rw (walk_erased (typ G (struct_of t) x) xs c)

  store_erased : (t : Ty) (x : ℕ) (xs : List ℕ) (c : List Note) → map erase (store G t x xs c) ≡ stored x xs (map erase c)
  unfolding store erase reads flatten front last
  store_erased t x [] c = refl
  store_erased t x (y ∷ ys) c = rw (store_erased (typ G (struct_of t) x) y ys c)

  read_erased : (v : Var) (vs : List ℕ) (c : List Note)
      → map erase (read_path G v vs c) ≡ flatten (path_coms (var_code v ∷ vs)) ++ map erase c
  unfolding read_path erase var_code flatten reads
  read_erased (par x) xs c = rw walk_erased
  read_erased (loc x) xs c = rw walk_erased

  write_erased : (v : Var) (vs : List ℕ) (c : List Note)
      → map erase (write_path G v vs c) ≡ plain push_this ∷ stored (var_code v) vs (map erase c)
  unfolding write_path erase var_code flatten reads front last
  write_erased (par x) xs c = rw store_erased
  write_erased (loc x) [] c = refl
  write_erased (loc x) (y ∷ ys) c = rw store_erased

mutual
  unfolding note_expr expr_coms erase flatten

  expr_erased : (e : Expr) (G : Ctx) (c : List Note) → map erase (note_expr e G c) ≡ flatten (expr_coms e) ++ map erase c
  expr_erased (inv e) G c = rw flatten_app (expr_erased e G (n_not ∷ c))
  expr_erased (make k es) G c = rw flatten_app (exprs_erased es G (n_cons k ∷ c))
  expr_erased (path v vs) G c = read_erased G v vs c
  expr_erased (int_lit w) G c = refl
  expr_erased (nat_lit w) G c = refl
  expr_erased (bool_lit w) G c = refl
  expr_erased (null t) G c = refl
  expr_erased self G c = refl
  expr_erased (op o a b) G c =
      rw (flatten_app, flatten_app (expr_coms b), expr_erased a G (note_expr b G (n_op o ∷ c)), expr_erased b G (n_op o ∷ c))

  exprs_erased : (es : Exprs) (G : Ctx) (c : List Note) → map erase (note_exprs es G c) ≡ flatten (args_coms es) ++ map erase c
  exprs_erased none G c = refl
  exprs_erased (more e es) G c = rw (flatten_app, expr_erased e G (note_exprs es G c), exprs_erased es G c)

mutual
  unfolding note_stmt stmt_coms erase flatten reads front last var_code

  stmt_erased : (s : Stmt) (G : Ctx) (c : List Note) → map erase (note_stmt s G c) ≡ flatten (stmt_coms s) ++ map erase c
  stmt_erased (when e b) G c =
      let n = sym (length-map (note_body b G []) erase) ∙ ap length (body_erased b G [] ∙ append-nil (flatten (body_coms b))) in
      rw (when_flat, expr_erased e G (n_if (length (note_body b G [])) ∷ note_body b G c), n, body_erased b G c)
  stmt_erased (declare t x e) G c = rw (update_flat, expr_erased e G (n_this ∷ n_set true t x ∷ c))
  stmt_erased (update v vs e) G c = rw (update_flat, expr_erased e G (write_path G v vs c), write_erased)
  stmt_erased (create k es) G c = rw flatten_app (exprs_erased es G (n_cons k ∷ c))

  body_erased : (b : Stmts) (G : Ctx) (c : List Note) → map erase (note_body b G c) ≡ flatten (body_coms b) ++ map erase c
  body_erased end G c = refl
  body_erased (next s b) G c = rw (flatten_app, stmt_erased s G (note_body b G c), body_erased b G c)

-- without their notes they are the published commands
pub erased : (G : Ctx) (b : Stmts) → map erase (noted G b) ≡ commands b
unfolding noted commands
erased G b = body_erased b G [] ∙ append-nil (flatten (body_coms b))
