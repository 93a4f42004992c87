-- Laws of the living locals: they stand beside the commands, one for one, and an if's body is left out of both alike.
use Rattle.std.specs.Prelude.{ℕ, suc, ◌≡◌, refl, true, length, drop}
use Rattle.std.proofs.Common.{ap}
use mathlib.Core.List.{List, [], ◌∷◌, ◌++◌}
use Rattle.std.proofs.Math.Seq.{drop-append_seam}
use Rattle.types.specs.TypeBytes.{struct_of}
use Rattle.types.specs.Types.{Ty}
use Rattle.program.specs.Tree.{Var, Var.par, Var.loc, Expr, Expr.inv, Expr.make, Expr.path, Expr.int_lit, Expr.nat_lit, Expr.bool_lit, Expr.null}
use Rattle.program.specs.Tree.{Expr.self, Expr.op, Exprs, Exprs.none as no_exprs, Exprs.more as more_exprs, Stmt, Stmt.when, Stmt.declare}
use Rattle.program.specs.Tree.{Stmt.update, Stmt.create, Stmts, Stmts.end, Stmts.next}
use Rattle.commands.specs.Context.{Ctx, typ}
use Rattle.commands.specs.Names.{live_after}
use Rattle.commands.specs.Noted.{Note, Note.n_this, Note.n_not, Note.n_set, Note.n_cons, Note.n_op, Note.n_if, walk, store, read_path}
use Rattle.commands.specs.Noted.{write_path, note_expr, note_exprs, note_stmt, note_body}
use Rattle.commands.specs.Living.{live_walk, live_expr, live_exprs, live_stmt, live_body}

-- In front of two lists in a row -------------------------------------------------

walk_app : (l xs : List ℕ) (ls ms : List (List ℕ)) → live_walk l xs (ls ++ ms) ≡ live_walk l xs ls ++ ms
unfolding live_walk
walk_app l [] ls ms = refl
walk_app l (x ∷ xs) ls ms = ap (λ r. l ∷ r) (walk_app l xs ls ms)

mutual
  unfolding live_expr

  expr_app : (e : Expr) (l : List ℕ) (ls ms : List (List ℕ)) → live_expr e l (ls ++ ms) ≡ live_expr e l ls ++ ms
  expr_app (inv e) l ls ms = expr_app e l (l ∷ ls) ms
  expr_app (make k es) l ls ms = exprs_app es l (l ∷ ls) ms
  expr_app (path v vs) l ls ms = ap (λ r. l ∷ l ∷ r) (walk_app l vs ls ms)
  expr_app (int_lit w) l ls ms = refl
  expr_app (nat_lit w) l ls ms = refl
  expr_app (bool_lit w) l ls ms = refl
  expr_app (null t) l ls ms = refl
  expr_app self l ls ms = refl
  expr_app (op o a b) l ls ms = rw (expr_app b l (l ∷ ls) ms) (expr_app a l (live_expr b l (l ∷ ls)) ms)

  exprs_app : (es : Exprs) (l : List ℕ) (ls ms : List (List ℕ)) → live_exprs es l (ls ++ ms) ≡ live_exprs es l ls ++ ms
  exprs_app no_exprs l ls ms = refl
  exprs_app (more_exprs e es) l ls ms = rw (exprs_app es l ls ms) (expr_app e l (live_exprs es l ls) ms)

mutual
  unfolding live_stmt

  stmt_app : (s : Stmt) (l : List ℕ) (ls ms : List (List ℕ)) → live_stmt s l (ls ++ ms) ≡ live_stmt s l ls ++ ms
  stmt_app (when e b) l ls ms = rw (body_app b l ls ms) (expr_app e l (l ∷ live_body b l ls) ms)
  stmt_app (declare t x e) l ls ms = expr_app e l (l ∷ l ∷ ls) ms
  stmt_app (update v vs e) l ls ms = rw (walk_app l vs ls ms) (expr_app e l (l ∷ l ∷ live_walk l vs ls) ms)
  stmt_app (create k es) l ls ms = exprs_app es l (l ∷ ls) ms

  body_app : (b : Stmts) (l : List ℕ) (ls ms : List (List ℕ)) → live_body b l (ls ++ ms) ≡ live_body b l ls ++ ms
  body_app end l ls ms = refl
  body_app (next s b) l ls ms = rw (body_app b (live_after s l) ls ms) (stmt_app s l (live_body b (live_after s l) ls) ms)

-- One for each command -------------------------------------------------------------

-- as many as there are commands
pub data Beside : List Note → List (List ℕ) → Type 0 where
  none : Beside [] []
  more : {n : Note} {l : List ℕ} {c : List Note} {ls : List (List ℕ)} → Beside c ls → Beside (n ∷ c) (l ∷ ls)

pub beside_long : {c : List Note} {ls : List (List ℕ)} → Beside c ls → length c ≡ length ls
beside_long none = refl
beside_long (more q) = ap suc (beside_long q)

module _ (G : Ctx) (l : List ℕ) where
  walk_long : (t : Ty) (xs : List ℕ) {c : List Note} {ls : List (List ℕ)} → Beside c ls → Beside (walk G t xs c) (live_walk l xs ls)
  unfolding walk live_walk
  walk_long t [] q = q
  walk_long t (x ∷ xs) q = more (walk_long (typ G (struct_of t) x) xs q)

  store_long : (t : Ty) (x : ℕ) (xs : List ℕ) {c : List Note} {ls : List (List ℕ)} → Beside c ls
      → Beside (store G t x xs c) (l ∷ live_walk l xs ls)
  unfolding store live_walk
  store_long t x [] q = more q
  store_long t x (y ∷ ys) q = more (store_long (typ G (struct_of t) x) y ys q)

  path_long : (v : Var) (vs : List ℕ) {c : List Note} {ls : List (List ℕ)} → Beside c ls
      → Beside (write_path G v vs c) (l ∷ l ∷ live_walk l vs ls)
  unfolding write_path live_walk
  path_long (par x) vs q = more (store_long _ x vs q)
  path_long (loc x) [] q = more (more q)
  path_long (loc x) (y ∷ ys) q = more (more (store_long _ y ys q))

  mutual
    unfolding note_expr live_expr read_path walk

    expr_long : (e : Expr) {c : List Note} {ls : List (List ℕ)} → Beside c ls → Beside (note_expr e G c) (live_expr e l ls)
    expr_long (inv e) q = expr_long e (more q)
    expr_long (make k es) q = exprs_long es (more q)
    expr_long (path (par x) vs) q = more (more (walk_long _ vs q))
    expr_long (path (loc x) vs) q = more (more (walk_long _ vs q))
    expr_long (int_lit w) q = more q
    expr_long (nat_lit w) q = more q
    expr_long (bool_lit w) q = more q
    expr_long (null t) q = more q
    expr_long self q = more q
    expr_long (op o a b) q = expr_long a (expr_long b (more q))

    exprs_long : (es : Exprs) {c : List Note} {ls : List (List ℕ)} → Beside c ls → Beside (note_exprs es G c) (live_exprs es l ls)
    exprs_long no_exprs q = q
    exprs_long (more_exprs e es) q = expr_long e (exprs_long es q)

mutual
  unfolding note_stmt live_stmt

  stmt_long : (s : Stmt) (G : Ctx) (l : List ℕ) {c : List Note} {ls : List (List ℕ)} → Beside c ls → Beside (note_stmt s G c) (live_stmt s l ls)
  stmt_long (when e b) G l q = expr_long G l e (more (body_long b G l q))
  stmt_long (declare t x e) G l q = expr_long G l e (more (more q))
  stmt_long (update v vs e) G l q = expr_long G l e (path_long G l v vs q)
  stmt_long (create k es) G l q = exprs_long G l es (more q)

  pub body_long : (b : Stmts) (G : Ctx) (l : List ℕ) {c : List Note} {ls : List (List ℕ)} → Beside c ls → Beside (note_body b G c) (live_body b l ls)
  body_long end G l q = q
  body_long (next s b) G l q = stmt_long s G l (body_long b G (live_after s l) q)

-- where an if's body is left out, what stands behind it remains
pub live_out : (b : Stmts) (G : Ctx) (l : List ℕ) (ls : List (List ℕ)) → drop (length (note_body b G [])) (live_body b l ls) ≡ ls
live_out b G l ls =
    let q : length (note_body b G []) ≡ length (live_body b l []) = beside_long (body_long b G l none) in
    rw (q, body_app b l [] ls) (drop-append_seam (live_body b l []) ls)
