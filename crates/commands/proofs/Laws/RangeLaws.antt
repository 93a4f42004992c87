-- The operands of an accepted program's commands lie in their ranges (01, 'Program stream' and number 6), so that the words of its
-- steps determine its commands.
use Rattle.std.specs.Prelude.{ℕ, ◌<◌, ◌≤◌, List, [], ◌∷◌, ◌++◌, map, length}
use Rattle.std.proofs.Common.{arith, ap, length-append}
use Rattle.std.proofs.lemmas.List.{length-map}
use Rattle.types.specs.Limits.{max_structs, max_steps, first_local, variables, step_commands}
use Rattle.types.specs.Types.{Ty, Ty.int, Ty.nat, Ty.bool, Ty.ref, IsType}
use Rattle.types.specs.TypeBytes.{ValueOf, word_end}
use Rattle.types.specs.Values.{default}
use Rattle.types.proofs.Laws.ValueLaws.{value_in_range}
use Rattle.program.specs.Tree.{Var, Var.loc, Expr, Expr.inv, Expr.make, Expr.path, Expr.int_lit, Expr.nat_lit, Expr.bool_lit, Expr.null, Expr.self}
use Rattle.program.specs.Tree.{Expr.op, Exprs, Exprs.none, Exprs.more, Stmt, Stmt.when, Stmt.declare, Stmt.update, Stmt.create, Stmts, Stmts.end}
use Rattle.program.specs.Tree.{Stmts.next, Step, Program}
use Rattle.program.specs.Encoding.{var_code}
use Rattle.program.specs.Counts.{All, IsVar, IsPath, CountsExpr, CountsExprs, CountsStmt, CountsStmts, CountsStep, Few, Counts}
use Rattle.program.proofs.Laws.CodeLaws.{var_code_of}
use Rattle.commands.specs.Commands.{Coms, Coms.nil, Coms.if_then, then, reads, front, last, expr_coms, args_coms, update_coms, stmt_coms}
use Rattle.commands.specs.Commands.{body_coms, flatten, commands}
use Rattle.commands.proofs.Laws.CommandLaws.{flatten_then}
use Rattle.commands.specs.Bounds.{step_list, step_size, Within}
use Rattle.commands.specs.Decoding.{InRanges}

-- what holds of two lists holds of both in a row
pub all_append : {A : Type 0} (C : A → Type 0) (l m : List A) → All C l → All C m → All C (l ++ m)
all_append C [] m h k = k
all_append C (a ∷ l) m h k = (h.0, all_append C l m h.1 k)

-- a struct of the program is one of at most max-structs
weak_type : {S : ℕ} (t : Ty) → S ≤ max_structs → IsType S t → IsType max_structs t
weak_type int l h = tt
weak_type nat l h = tt
weak_type bool l h = tt
weak_type (ref k) l h = omega arith

-- the default of a type is a value of it
default_value : (t : Ty) → IsType max_structs t → ValueOf t (default t)
unfolding default
default_value int h = omega arith
default_value nat h = omega arith
default_value bool h = tt
default_value (ref k) h = omega arith

-- of a nested list
abbrev Ranged : Coms → Type 0
Ranged c = All InRanges (flatten c)

ranged_then : (c d : Coms) → Ranged c → Ranged d → Ranged (then c d)
ranged_then c d h k = rw (flatten_then c d) (all_append InRanges (flatten c) (flatten d) h k)

-- two lists in a row of at most so many commands have at most so many each
parts : {m : ℕ} (c d : Coms) → length (flatten (then c d)) ≤ m → (length (flatten c) ≤ m) × (length (flatten d) ≤ m)
parts c d l = omega (arith, length-append (flatten c) (flatten d), ap length (flatten_then c d))

-- the variables of a path
abbrev Variables : List ℕ → Type 0
Variables xs = All (λ x. x < variables) xs

path_variables : (v : Var) (vs : List ℕ) → IsPath v vs → Variables (var_code v ∷ vs)
unfolding IsPath
path_variables v vs h = ((var_code_of v h.0).0, later vs h.2)
  where
    later : (xs : List ℕ) → All (λ x. x < first_local) xs → Variables xs
    later [] k = tt
    later (x ∷ xs) k = (omega arith, later xs k.1)

ranged_reads : (xs : List ℕ) → Variables xs → Ranged (reads xs)
unfolding reads flatten
ranged_reads [] h = tt
ranged_reads (x ∷ xs) h = (h.0, ranged_reads xs h.1)

front_variables : (x : ℕ) (xs : List ℕ) → Variables (x ∷ xs) → (Variables (front x xs)) × (last x xs < variables)
unfolding front last
front_variables x [] h = (tt, h.0)
front_variables x (y ∷ ys) h = let p = front_variables y ys h.1 in ((h.0, p.0), p.1)

module _ (ar : List ℕ) (few : length ar ≤ max_structs) where
  mutual
    unfolding expr_coms flatten CountsExpr word_end

    ranged_expr : (e : Expr) → CountsExpr ar e → Ranged (expr_coms e)
    ranged_expr (inv e) h = ranged_then (expr_coms e) _ (ranged_expr e h) (tt, tt)
    ranged_expr (make k es) h = ranged_then (args_coms es) _ (ranged_args es h.2) (omega arith, tt)
    ranged_expr (path v vs) h = (tt, ranged_reads (var_code v ∷ vs) (path_variables v vs h))
    ranged_expr (int_lit w) h = ((tt, value_in_range int w h), tt)
    ranged_expr (nat_lit w) h = ((tt, value_in_range nat w h), tt)
    ranged_expr (bool_lit w) h = ((tt, value_in_range bool w h), tt)
    ranged_expr (null t) h = let k = weak_type t few h in ((k, default_value t k), tt)
    ranged_expr self h = (tt, tt)
    ranged_expr (op o a b) h =
        ranged_then (expr_coms a) _ (ranged_expr a h.0) (ranged_then (expr_coms b) _ (ranged_expr b h.1) (tt, tt))

    ranged_args : (es : Exprs) → CountsExprs ar es → Ranged (args_coms es)
    ranged_args none h = tt
    ranged_args (more e es) h = ranged_then (expr_coms e) (args_coms es) (ranged_expr e h.0) (ranged_args es h.1)

  ranged_update : (v : Var) (vs : List ℕ) (e : Expr) → Variables (var_code v ∷ vs) → CountsExpr ar e → Ranged (update_coms v vs e)
  unfolding update_coms flatten then
  ranged_update v vs e h k =
      let p = front_variables (var_code v) vs h in
      ranged_then (expr_coms e) _ (ranged_expr e k)
      (tt, ranged_then (reads (front (var_code v) vs)) _ (ranged_reads (front (var_code v) vs) p.0) (p.1, tt))

  -- a body of at most so many commands
  mutual
    unfolding stmt_coms flatten CountsStmt IsVar

    ranged_stmt : (s : Stmt) → CountsStmt ar s → length (flatten (stmt_coms s)) ≤ step_commands → Ranged (stmt_coms s)
    ranged_stmt (when e b) h l =
        let n = (parts (expr_coms e) (if_then (body_coms b) nil) l).1 in
        let i : length (flatten (body_coms b)) ≤ step_commands = omega (arith, length-append (flatten (body_coms b)) []) in
        ranged_then (expr_coms e) (if_then (body_coms b) nil) (ranged_expr e h.0)
        (i, all_append InRanges (flatten (body_coms b)) [] (ranged_body b h.3 i) tt)
    ranged_stmt (declare t x e) h l = ranged_update (loc x) [] e ((var_code_of (loc x) h.1).0, tt) h.2
    ranged_stmt (update v vs e) h l = ranged_update v vs e (path_variables v vs h.0) h.1
    ranged_stmt (create k es) h l = ranged_then (args_coms es) _ (ranged_args es h.2) (omega arith, tt)

    ranged_body : (b : Stmts) → CountsStmts ar b → length (flatten (body_coms b)) ≤ step_commands → Ranged (body_coms b)
    ranged_body end h l = tt
    ranged_body (next s b) h l =
        let n = parts (stmt_coms s) (body_coms b) l in
        ranged_then (stmt_coms s) (body_coms b) (ranged_stmt s h.0 n.0) (ranged_body b h.1 n.1)

-- what holds of each, by two facts of each; and by one
all_both : {A : Type 0} (P Q R : A → Type 0) → ((a : A) → P a → Q a → R a) → (l : List A) → All P l → All Q l → All R l
all_both P Q R f [] h k = tt
all_both P Q R f (a ∷ l) h k = (f a h.0 k.0, all_both P Q R f l h.1 k.1)

-- the commands of a step
abbrev pub StepRanged : Step → Type 0
StepRanged t = All InRanges (step_list t)

-- every step of a program within its counts and limits has its operands in range
pub program_ranged : (p : Program) → Counts p → Within p → All (All StepRanged) p.steps
unfolding Counts Within CountsStep commands
program_ranged p c w =
    all_both (Few 0 max_steps (CountsStep ar)) (All (λ t. step_size t ≤ step_commands)) (All StepRanged)
    (λ ts h k. all_both (CountsStep ar) (λ t. step_size t ≤ step_commands) StepRanged one_step ts h.2 k)
    p.steps c.2 w.0
  where
    ar : List ℕ
    ar = map length p.params

    one_step : (t : Step) → CountsStep ar t → step_size t ≤ step_commands → StepRanged t
    one_step t h l = ranged_body ar (omega (arith, length-map p.params length, c.0.1)) t.body h.2 l
