-- The commands of counted statements carry only what is in its range (01, 'Program stream'), wherever a way leads.
use Rattle.std.specs.Prelude.{ℕ, zero, suc, ◌-◌, ◌<◌, ◌≤◌, ◌≡◌, refl, Bool, true, false, length, drop, ltb, pos, negsuc}
use Rattle.std.proofs.Common.{arith, ltb-true, ltb-false}
use mathlib.Core.List.{List, [], ◌∷◌}
use Rattle.types.specs.Limits.{int_half, nat_end}
use Rattle.types.specs.Types.{Ty, Ty.int, Ty.nat, Ty.bool, Ty.ref, IsType}
use Rattle.types.specs.Values.{Val, IntRange, default, word_int, value_of}
use Rattle.program.specs.Tree.{Var, Var.par, Var.loc, Expr, Expr.inv, Expr.make, Expr.path, Expr.int_lit, Expr.nat_lit, Expr.bool_lit, Expr.null}
use Rattle.program.specs.Tree.{Expr.self, Expr.op, Exprs, Exprs.none, Exprs.more, Stmt, Stmt.when, Stmt.declare, Stmt.update, Stmt.create, Stmts}
use Rattle.program.specs.Tree.{Stmts.end, Stmts.next, Program}
use Rattle.program.specs.Counts.{IsVar, IsPath, CountsExpr, CountsExprs, CountsStmt, CountsStmts}
use Rattle.commands.specs.Context.{Ctx, typ}
use Rattle.types.specs.TypeBytes.{struct_of}
use Rattle.commands.specs.Noted.{Note, walk, store, read_path, write_path, note_expr, note_exprs, note_stmt, note_body, noted}
use Rattle.machine.specs.Published.{structs}
use Rattle.machine.specs.Machine.{Instance}
use Rattle.commands.specs.Tags.{Tags, jump, Way, Way.start, Way.on, Way.over}
use Rattle.sound.specs.Needs.{ValueAmong}
use Rattle.sound.specs.Invariant.{Nulls}
use Rattle.sound.specs.Sized.{Lasting, Lasting.an_int, Lasting.a_nat, Lasting.a_bool, Lasting.a_null, SizedAll, SizedAll.none, SizedAll.more, Sized}

-- what lasts is of its type where the null instances are
pub lasting_of : (p : Program) (is : List Instance) {t : Ty} {v : Val} → Nulls p is → Lasting (structs p) t v → ValueAmong is t v
lasting_of p is a (an_int h) = h
lasting_of p is a (a_nat h) = h
lasting_of p is a a_bool = tt
lasting_of p is a (a_null {k = k} h) = a k h

-- four bytes stand for a number of Int
word_range : (w : ℕ) → w < nat_end → IntRange (word_int w)
unfolding word_int
word_range w h = go (ltb w int_half) refl
  where
    go : (t : Bool) → ltb w int_half ≡ t → IntRange (elim t [ true ↦ pos w | false ↦ negsuc (nat_end - suc w) ])
    go true e = ltb-true w int_half e
    go false e = let l : int_half ≤ w = ltb-false w int_half e in omega arith

-- the default of a type lasts
pub default_lasts : {S : ℕ} (t : Ty) → IsType S t → Lasting S t (default t)
unfolding default
default_lasts int h = an_int {z = pos 0} (omega arith)
default_lasts nat h = a_nat {n = 0} (omega arith)
default_lasts bool h = a_bool
default_lasts (ref k) h = a_null h

module _ (ar : List ℕ) (G : Ctx) where
  abbrev Small : List Note → Type 0
  Small c = SizedAll (length ar) c

  walk_small : (t : Ty) (xs : List ℕ) {c : List Note} → Small c → Small (walk G t xs c)
  unfolding walk
  walk_small t [] s = s
  walk_small t (x ∷ xs) s = more tt (walk_small (typ G (struct_of t) x) xs s)

  store_small : (t : Ty) (x : ℕ) (xs : List ℕ) {c : List Note} → Small c → Small (store G t x xs c)
  unfolding store
  store_small t x [] s = more tt s
  store_small t x (y ∷ ys) s = more tt (store_small (typ G (struct_of t) x) y ys s)

  read_small : (v : Var) (vs : List ℕ) {c : List Note} → Small c → Small (read_path G v vs c)
  unfolding read_path
  read_small (par x) vs s = more tt (walk_small (ref G.own) (x ∷ vs) s)
  read_small (loc x) vs s = more tt (more tt (walk_small (G.local x) vs s))

  write_small : (v : Var) (vs : List ℕ) {c : List Note} → IsPath v vs → Small c → Small (write_path G v vs c)
  unfolding write_path IsPath IsVar
  write_small (par x) vs n s = more tt (store_small (ref G.own) x vs s)
  write_small (loc x) [] n s = more tt (more n.0 s)
  write_small (loc x) (y ∷ ys) n s = more tt (more tt (store_small (G.local x) y ys s))

  mutual
    unfolding CountsExpr CountsExprs note_expr note_exprs value_of

    expr_small : (e : Expr) {c : List Note} → CountsExpr ar e → Small c → Small (note_expr e G c)
    expr_small (inv e) n s = expr_small e n (more tt s)
    expr_small (make k es) n s = exprs_small es n.2 (more n.0 s)
    expr_small (path v vs) n s = read_small v vs s
    expr_small (int_lit w) n s = more (an_int (word_range w n)) s
    expr_small (nat_lit w) n s = more (a_nat n) s
    expr_small (bool_lit w) n s = more a_bool s
    expr_small (null t) n s = more (default_lasts t n) s
    expr_small self n s = more tt s
    expr_small (op o a b) n s = expr_small a n.0 (expr_small b n.1 (more tt s))

    exprs_small : (es : Exprs) {c : List Note} → CountsExprs ar es → Small c → Small (note_exprs es G c)
    exprs_small none n s = s
    exprs_small (more e es) n s = expr_small e n.0 (exprs_small es n.1 s)

  mutual
    unfolding CountsStmt CountsStmts note_stmt note_body

    stmt_small : (t : Stmt) {c : List Note} → CountsStmt ar t → Small c → Small (note_stmt t G c)
    stmt_small (when e b) n s = expr_small e n.0 (more tt (body_small b n.3 s))
    stmt_small (declare t x e) n s = expr_small e n.2 (more tt (more n.1 s))
    stmt_small (update v vs e) n s = expr_small e n.1 (write_small v vs n.0 s)
    stmt_small (create k es) n s = exprs_small es n.2 (more n.0 s)

    body_small : (b : Stmts) {c : List Note} → CountsStmts ar b → Small c → Small (note_body b G c)
    body_small end n s = s
    body_small (next t b) n s = stmt_small t n.0 (body_small b n.1 s)

  -- the commands of counted statements are sized
  pub noted_sized : (b : Stmts) → CountsStmts ar b → SizedAll (length ar) (noted G b)
  unfolding noted
  noted_sized b n = body_small b n none

module _ {S : ℕ} where
  -- the next command is sized
  pub sized_first : {n : Note} {c : List Note} → SizedAll S (n ∷ c) → Sized S n
  sized_first (more h s) = h

  sized_others : {n : Note} {c : List Note} → SizedAll S (n ∷ c) → SizedAll S c
  sized_others (more h s) = s

  sized_drop : (n : ℕ) {c : List Note} → SizedAll S c → SizedAll S (drop n c)
  sized_drop zero s = s
  sized_drop (suc n) none = none
  sized_drop (suc n) (more h s) = sized_drop n s

  -- so are those that a way leads to
  pub way_sized : {G : Ctx} {c₀ : List Note} {x₀ : Tags} {c : List Note} {x : Tags} → SizedAll S c₀ → Way G c₀ x₀ c x → SizedAll S c
  way_sized a start = a
  way_sized a (on w) = sized_others (way_sized a w)
  way_sized a (over {n = n} w) = sized_drop (jump n) (sized_others (way_sized a w))
