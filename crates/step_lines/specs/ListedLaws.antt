-- The commands of a step within the limits can be listed: the lines of their words are those of the listing (01, 'Bench rows').
use Rattle.std.specs.Prelude.{ℕ, suc, ◌≤◌, ◌≡◌, refl, List, [], ◌∷◌, ◌++◌, length}
use Rattle.std.proofs.Common.{arith}
use Rattle.types.specs.Limits.{max_structs}
use Rattle.types.specs.Types.{Ty, Ty.int, Ty.nat, Ty.bool, Ty.ref, IsType}
use Rattle.types.specs.Values.{default}
use Rattle.types.specs.TypeBytes.{ValueOf, word_end}
use Rattle.types.proofs.Laws.ValueLaws.{value_in_range}
use Rattle.program.specs.Tree.{Var, Var.loc, Expr, Expr.inv, Expr.make, Expr.path, Expr.int_lit, Expr.nat_lit, Expr.bool_lit, Expr.null, Expr.self}
use Rattle.program.specs.Tree.{Expr.op, Exprs, Exprs.none, Exprs.more, Stmt, Stmt.when, Stmt.declare, Stmt.update, Stmt.create, Stmts, Stmts.end}
use Rattle.program.specs.Tree.{Stmts.next, Step}
use Rattle.program.specs.Encoding.{var_code}
use Rattle.program.specs.Counts.{All, CountsExpr, CountsExprs, CountsStmt, CountsStmts, CountsStep}
use Rattle.commands.specs.Commands.{Coms, then, reads, front, expr_coms, args_coms, update_coms, stmt_coms, body_coms, Flat, flatten, commands}
use Rattle.commands.proofs.Laws.CommandLaws.{flatten_then}
use Rattle.commands.specs.Bounds.{step_list}
use Rattle.commands.specs.Coding.{words}
use Rattle.text.specs.Listing.{line}
use Rattle.text.specs.CommandText.{Listed}
use Rattle.text.specs.CommandTextLaws.{text_command}
use Rattle.step_lines.specs.Lines.{command_line, command_lines, step_lines}
use Rattle.step_lines.specs.RowLines.{word_lines}

-- Commands that can be listed --------------------------------------------------------

abbrev AllListed : Coms → Type 0
AllListed c = All Listed (flatten c)

all_append : (a b : List Flat) → All Listed a → All Listed b → All Listed (a ++ b)
all_append [] b h g = g
all_append (x ∷ a) b h g = (h.0, all_append a b h.1 g)

all_then : (c d : Coms) → AllListed c → AllListed d → AllListed (then c d)
all_then c d h g = rw flatten_then (all_append (flatten c) (flatten d) h g)

all_reads : (xs : List ℕ) → AllListed (reads xs)
unfolding reads flatten
all_reads [] = tt
all_reads (x ∷ xs) = (tt, all_reads xs)

-- a type of a program with at most 16 structs, and its default
wider : {S : ℕ} (t : Ty) → S ≤ max_structs → IsType S t → IsType max_structs t
wider int l h = tt
wider nat l h = tt
wider bool l h = tt
wider (ref k) l h = omega arith

default_of : (t : Ty) → IsType max_structs t → ValueOf t (default t)
unfolding default
default_of int h = omega arith
default_of nat h = omega arith
default_of bool h = tt
default_of (ref k) h = omega arith

module _ (ar : List ℕ) (l : length ar ≤ max_structs) where
  mutual
    unfolding CountsExpr expr_coms flatten word_end

    expr_listed : (e : Expr) → CountsExpr ar e → AllListed (expr_coms e)
    expr_listed (inv e) h = all_then (expr_coms e) _ (expr_listed e h) (tt, tt)
    expr_listed (make k es) h = all_then (args_coms es) _ (args_listed es h.2) (tt, tt)
    expr_listed (path v vs) h = (tt, all_reads (var_code v ∷ vs))
    expr_listed (int_lit w) h = ((tt, value_in_range int w h), tt)
    expr_listed (nat_lit w) h = ((tt, value_in_range nat w h), tt)
    expr_listed (bool_lit w) h = ((tt, value_in_range bool w h), tt)
    expr_listed (null t) h = ((wider t l h, default_of t (wider t l h)), tt)
    expr_listed self h = (tt, tt)
    expr_listed (op o a b) h =
        all_then (expr_coms a) _ (expr_listed a h.0) (all_then (expr_coms b) _ (expr_listed b h.1) (tt, tt))

    args_listed : (es : Exprs) → CountsExprs ar es → AllListed (args_coms es)
    args_listed none h = tt
    args_listed (more e es) h = all_then (expr_coms e) (args_coms es) (expr_listed e h.0) (args_listed es h.1)

  update_listed : (v : Var) (vs : List ℕ) (e : Expr) → CountsExpr ar e → AllListed (update_coms v vs e)
  unfolding update_coms flatten then
  update_listed v vs e h =
      all_then (expr_coms e) _ (expr_listed e h) (tt, all_then (reads (front (var_code v) vs)) _ (all_reads _) (tt, tt))

  mutual
    unfolding CountsStmt stmt_coms flatten

    stmt_listed : (t : Stmt) → CountsStmt ar t → AllListed (stmt_coms t)
    stmt_listed (when e b) h =
        all_then (expr_coms e) _ (expr_listed e h.0) (tt, all_append (flatten (body_coms b)) [] (body_listed b h.3) tt)
    stmt_listed (declare t x e) h = update_listed (loc x) [] e h.2
    stmt_listed (update v vs e) h = update_listed v vs e h.1
    stmt_listed (create k es) h = all_then (args_coms es) _ (args_listed es h.2) (tt, tt)

    body_listed : (b : Stmts) → CountsStmts ar b → AllListed (body_coms b)
    body_listed end h = tt
    body_listed (next t b) h = all_then (stmt_coms t) (body_coms b) (stmt_listed t h.0) (body_listed b h.1)

-- Lines ------------------------------------------------------------------------------

-- the lines of words are those of the commands
words_lines : (k n i : ℕ) (cs : List Flat) → All Listed cs → word_lines k n i (words cs) ≡ command_lines k n i cs
unfolding word_lines command_lines command_line words line
words_lines k n i [] h = refl
words_lines k n i (c ∷ cs) h = rw (text_command c h.0, words_lines k n (suc i) cs h.1)

-- the lines of a step by its words
pub step_text : (ar : List ℕ) (k : ℕ) (t : Step) → length ar ≤ max_structs → CountsStep ar t → word_lines k t.name 0 (words (step_list t)) ≡ step_lines k t
unfolding step_lines CountsStep commands
step_text ar k t l c = words_lines k t.name 0 (step_list t) (body_listed ar l t.body c.2)
