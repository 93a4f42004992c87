-- What a stream can hold is decided by the test of it (`holds`).
use Rattle.std.specs.Prelude.{ℕ, ◌<◌, ◌≡◌, Bool, true, false, ◌&&◌, List, [], ◌∷◌, map, length, get_or, eqb}
use Rattle.std.proofs.lemmas.Bool.{false≢true}
use Rattle.std.proofs.Math.Dec.{leb, ltb}
use Rattle.std.proofs.Common.{ltb-true, ltb-false, arith}
use Rattle.types.specs.Limits.{max_structs, max_params, max_steps, step_names, max_statements, max_items, nat_end, first_local, max_locals, max_path}
use Rattle.types.specs.Types.{Ty, Ty.int, Ty.nat, Ty.bool, Ty.ref, IsType}
use Rattle.types.specs.Decides.{Decides, decides_eqb, decides_leb, decides_both, decides_as}
use Rattle.program.specs.Tree.{Var, Var.par, Var.loc, Expr, Expr.inv, Expr.make, Expr.path, Expr.int_lit, Expr.nat_lit, Expr.bool_lit, Expr.null}
use Rattle.program.specs.Tree.{Expr.self, Expr.op, Exprs, Exprs.none, Exprs.more, Stmt, Stmt.when, Stmt.declare, Stmt.update, Stmt.create, Stmts}
use Rattle.program.specs.Tree.{Stmts.end, Stmts.next, Item, Item.call, Item.call_in, Item.fix, Items, Items.stop, Items.item, Step, Program, args}
use Rattle.program.specs.Tree.{size, items}
use Rattle.program.specs.Encoding.{enc_program}
use Rattle.program.specs.Counts.{All, Few, IsVar, IsPath, CountsExpr, CountsExprs, CountsItem, CountsItems}
use Rattle.meaning.specs.Holds.{max_stream, HoldsStmt, HoldsStmts, HoldsStep, HoldsSchedule, Counted, Holds}
use Rattle.meaning.specs.HoldsDecide.{all, few, a_type, a_var, a_path, holds_expr, holds_exprs, holds_stmt, holds_stmts, holds_step, holds_item}
use Rattle.meaning.specs.HoldsDecide.{holds_items, holds_schedule, counted, holds}

-- Tests of several parts ------------------------------------------------------------------

decides_three : (s t u : Bool) {P Q R : Type 0} → Decides s P → Decides t Q → Decides u R → Decides (s && (t && u)) (P × Q × R)
decides_three s t u p q r = decides_as (decides_both s (t && u) p (decides_both t u q r)) (λ x. (x.0, x.1.0, x.1.1)) (λ x. (x.0, (x.1, x.2)))

decides_four : (s t u v : Bool) {P Q R S : Type 0} → Decides s P → Decides t Q → Decides u R → Decides v S → Decides (s && (t && (u && v))) (P × Q × R × S)
decides_four s t u v p q r w =
    decides_as (decides_both s (t && (u && v)) p (decides_three t u v q r w)) (λ x. (x.0, x.1.0, x.1.1, x.1.2)) (λ x. (x.0, (x.1, x.2, x.3)))

decides_ltb : (a b : ℕ) → Decides (ltb a b) (a < b)
decides_ltb a b = record { holds = ltb-true a b; fails = λ e h. let k = ltb-false a b e in omega arith }

decides_true : {P : Type 0} → P → Decides true P
decides_true p = record { holds = λ e. p; fails = λ e q. false≢true (let f : true ≡ false = e in cc) }

decides_all : {A : Type 0} {C : A → Type 0} (t : A → Bool) → ((a : A) → Decides (t a) (C a)) → (l : List A) → Decides (all t l) (All C l)
unfolding all
decides_all t d [] = decides_true tt
decides_all t d (a ∷ l) = decides_both (t a) (all t l) (d a) (decides_all t d l)

decides_few : {A : Type 0} {C : A → Type 0} (lo hi : ℕ) (t : A → Bool) → ((a : A) → Decides (t a) (C a)) → (l : List A)
    → Decides (few lo hi t l) (Few lo hi C l)
unfolding few
decides_few lo hi t d l = decides_three (leb lo (length l)) (leb (length l) hi) (all t l) (decides_leb lo (length l)) (decides_leb (length l) hi)
    (decides_all t d l)

-- Leaves -------------------------------------------------------------------------------------

decides_type : (n : ℕ) (t : Ty) → Decides (a_type n t) (IsType n t)
unfolding a_type
decides_type n int = decides_true tt
decides_type n nat = decides_true tt
decides_type n bool = decides_true tt
decides_type n (ref k) = decides_ltb k n

decides_var : (v : Var) → Decides (a_var v) (IsVar v)
unfolding a_var IsVar
decides_var (par x) = decides_ltb x first_local
decides_var (loc x) = decides_ltb x max_locals

decides_path : (v : Var) (vs : List ℕ) → Decides (a_path v vs) (IsPath v vs)
unfolding a_path IsPath
decides_path v vs =
    decides_three (a_var v) (ltb (length vs) max_path) (all (λ x. ltb x first_local) vs) (decides_var v) (decides_ltb (length vs) max_path)
    (decides_all (λ x. ltb x first_local) (λ x. decides_ltb x first_local) vs)

-- Trees --------------------------------------------------------------------------------------

module _ (ar : List ℕ) where
  mutual
    unfolding holds_expr holds_exprs CountsExpr CountsExprs

    decides_expr : (e : Expr) → Decides (holds_expr ar e) (CountsExpr ar e)
    decides_expr (inv e) = decides_expr e
    decides_expr (make k es) =
        decides_three (ltb k (length ar)) (eqb (args es) (get_or ar k 0)) (holds_exprs ar es) (decides_ltb k (length ar)) (decides_eqb (args es) (get_or ar k 0))
        (decides_exprs es)
    decides_expr (path v vs) = decides_path v vs
    decides_expr (int_lit w) = decides_ltb w nat_end
    decides_expr (nat_lit w) = decides_ltb w nat_end
    decides_expr (bool_lit w) = decides_ltb w 2
    decides_expr (null t) = decides_type (length ar) t
    decides_expr self = decides_true tt
    decides_expr (op o a b) = decides_both (holds_expr ar a) (holds_expr ar b) (decides_expr a) (decides_expr b)

    decides_exprs : (es : Exprs) → Decides (holds_exprs ar es) (CountsExprs ar es)
    decides_exprs none = decides_true tt
    decides_exprs (more e es) = decides_both (holds_expr ar e) (holds_exprs ar es) (decides_expr e) (decides_exprs es)

  mutual
    unfolding holds_stmt holds_stmts HoldsStmt HoldsStmts

    decides_stmt : (t : Stmt) → Decides (holds_stmt ar t) (HoldsStmt ar t)
    decides_stmt (when e b) =
        decides_three (holds_expr ar e) (leb (size b) max_statements) (holds_stmts ar b) (decides_expr e) (decides_leb (size b) max_statements) (decides_stmts b)
    decides_stmt (declare t x e) =
        decides_three (a_type (length ar) t) (ltb x max_locals) (holds_expr ar e) (decides_type (length ar) t) (decides_ltb x max_locals) (decides_expr e)
    decides_stmt (update v vs e) = decides_both (a_path v vs) (holds_expr ar e) (decides_path v vs) (decides_expr e)
    decides_stmt (create k es) =
        decides_three (ltb k (length ar)) (eqb (args es) (get_or ar k 0)) (holds_exprs ar es) (decides_ltb k (length ar)) (decides_eqb (args es) (get_or ar k 0))
        (decides_exprs es)

    decides_stmts : (b : Stmts) → Decides (holds_stmts ar b) (HoldsStmts ar b)
    decides_stmts end = decides_true tt
    decides_stmts (next t b) = decides_both (holds_stmt ar t) (holds_stmts ar b) (decides_stmt t) (decides_stmts b)

  decides_step : (t : Step) → Decides (holds_step ar t) (HoldsStep ar t)
  unfolding holds_step HoldsStep
  decides_step t =
      decides_three (ltb t.name step_names) (leb (size t.body) max_statements) (holds_stmts ar t.body) (decides_ltb t.name step_names)
      (decides_leb (size t.body) max_statements) (decides_stmts t.body)

  mutual
    unfolding holds_item holds_items CountsItem CountsItems

    decides_item : (i : Item) → Decides (holds_item ar i) (CountsItem ar i)
    decides_item (call n) = decides_ltb n step_names
    decides_item (call_in k n) = decides_both (ltb k (length ar)) (ltb n step_names) (decides_ltb k (length ar)) (decides_ltb n step_names)
    decides_item (fix is) =
        decides_three (leb 1 (items is)) (leb (items is) max_items) (holds_items ar is) (decides_leb 1 (items is)) (decides_leb (items is) max_items)
        (decides_items is)

    decides_items : (is : Items) → Decides (holds_items ar is) (CountsItems ar is)
    decides_items stop = decides_true tt
    decides_items (item i is) = decides_both (holds_item ar i) (holds_items ar is) (decides_item i) (decides_items is)

  decides_schedule : (is : Items) → Decides (holds_schedule ar is) (HoldsSchedule ar is)
  unfolding holds_schedule HoldsSchedule
  decides_schedule is =
      decides_three (leb 1 (items is)) (leb (items is) max_items) (holds_items ar is) (decides_leb 1 (items is)) (decides_leb (items is) max_items)
      (decides_items is)

-- Programs -------------------------------------------------------------------------------------

decides_counted : (p : Program) → Decides (counted p) (Counted p)
unfolding counted Counted
decides_counted p =
    decides_four (few 1 max_structs (few 0 max_params (a_type (length p.params))) p.params) (eqb (length p.steps) (length p.params))
    (all (few 0 max_steps (holds_step (map length p.params))) p.steps) (holds_schedule (map length p.params) p.schedule)
    (decides_few 1 max_structs _ (decides_few 0 max_params _ (decides_type (length p.params))) p.params)
    (decides_eqb (length p.steps) (length p.params))
    (decides_all _ (decides_few 0 max_steps _ (decides_step (map length p.params))) p.steps)
    (decides_schedule (map length p.params) p.schedule)

pub decides_holds : (p : Program) → Decides (holds p) (Holds p)
unfolding holds
decides_holds p =
    decides_as (decides_both (counted p) (leb (length (enc_program p)) max_stream) (decides_counted p) (decides_leb (length (enc_program p)) max_stream))
    (λ x. record { counted = x.0; fits = x.1 }) (λ h. (h.counted, h.fits))
