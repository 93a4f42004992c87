-- What a stream can hold, decided.
use Rattle.std.specs.Prelude.{ℕ, Bool, true, ◌&&◌, List, [], ◌∷◌, map, length, get_or, eqb}
use Rattle.std.proofs.Math.Dec.{leb, ltb}
use Rattle.types.specs.Limits.{max_structs, max_params, max_steps, step_names, max_statements, max_items, nat_end, first_local, max_locals, max_path}
use Rattle.types.specs.Types.{Ty, Ty.int, Ty.nat, Ty.bool, Ty.ref}
use Rattle.program.specs.Tree.{Var, Var.par, Var.loc, Expr, Expr.inv, Expr.make, Expr.path, Expr.int_lit, Expr.nat_lit, Expr.bool_lit, Expr.null}
use Rattle.program.specs.Tree.{Expr.self, Expr.op, Exprs, Exprs.none, Exprs.more, Stmt, Stmt.when, Stmt.declare, Stmt.update, Stmt.create, Stmts}
use Rattle.program.specs.Tree.{Stmts.end, Stmts.next, Item, Item.call, Item.call_in, Item.fix, Items, Items.stop, Items.item, Step, Program, args}
use Rattle.program.specs.Tree.{size, items}
use Rattle.program.specs.Encoding.{enc_program}
use Rattle.meaning.specs.Holds.{max_stream}

-- Tests of lists ---------------------------------------------------------------------------

unfoldable pub all : {A : Type 0} → (A → Bool) → List A → Bool
all t [] = true
all t (a ∷ l) = t a && all t l

unfoldable pub few : {A : Type 0} → ℕ → ℕ → (A → Bool) → List A → Bool
unfolding all
few lo hi t l = leb lo (length l) && (leb (length l) hi && all t l)

-- Leaves -------------------------------------------------------------------------------------

unfoldable pub a_type : ℕ → Ty → Bool
a_type n int = true
a_type n nat = true
a_type n bool = true
a_type n (ref k) = ltb k n

unfoldable pub a_var : Var → Bool
a_var (par x) = ltb x first_local
a_var (loc x) = ltb x max_locals

unfoldable pub a_path : Var → List ℕ → Bool
unfolding a_var all
a_path v vs = a_var v && (ltb (length vs) max_path && all (λ x. ltb x first_local) vs)

-- Trees --------------------------------------------------------------------------------------

module _ (ar : List ℕ) where
  unfoldable mutual
    unfolding a_path a_type

    pub holds_expr : Expr → Bool
    holds_expr (inv e) = holds_expr e
    holds_expr (make k es) = ltb k (length ar) && (eqb (args es) (get_or ar k 0) && holds_exprs es)
    holds_expr (path v vs) = a_path v vs
    holds_expr (int_lit w) = ltb w nat_end
    holds_expr (nat_lit w) = ltb w nat_end
    holds_expr (bool_lit w) = ltb w 2
    holds_expr (null t) = a_type (length ar) t
    holds_expr self = true
    holds_expr (op o a b) = holds_expr a && holds_expr b

    pub holds_exprs : Exprs → Bool
    holds_exprs none = true
    holds_exprs (more e es) = holds_expr e && holds_exprs es

  unfoldable mutual
    unfolding holds_expr holds_exprs a_path a_type

    pub holds_stmt : Stmt → Bool
    holds_stmt (when e b) = holds_expr e && (leb (size b) max_statements && holds_stmts b)
    holds_stmt (declare t x e) = a_type (length ar) t && (ltb x max_locals && holds_expr e)
    holds_stmt (update v vs e) = a_path v vs && holds_expr e
    holds_stmt (create k es) = ltb k (length ar) && (eqb (args es) (get_or ar k 0) && holds_exprs es)

    pub holds_stmts : Stmts → Bool
    holds_stmts end = true
    holds_stmts (next t b) = holds_stmt t && holds_stmts b

  unfoldable pub holds_step : Step → Bool
  unfolding holds_stmts
  holds_step t = ltb t.name step_names && (leb (size t.body) max_statements && holds_stmts t.body)

  unfoldable mutual
    pub holds_item : Item → Bool
    holds_item (call n) = ltb n step_names
    holds_item (call_in k n) = ltb k (length ar) && ltb n step_names
    holds_item (fix is) = leb 1 (items is) && (leb (items is) max_items && holds_items is)

    pub holds_items : Items → Bool
    holds_items stop = true
    holds_items (item i is) = holds_item i && holds_items is

  unfoldable pub holds_schedule : Items → Bool
  unfolding holds_items
  holds_schedule is = leb 1 (items is) && (leb (items is) max_items && holds_items is)

-- Programs -------------------------------------------------------------------------------------

unfoldable pub counted : Program → Bool
unfolding few all a_type holds_step holds_schedule
counted p =
    few 1 max_structs (few 0 max_params (a_type (length p.params))) p.params
    && (eqb (length p.steps) (length p.params)
    && (all (few 0 max_steps (holds_step (map length p.params))) p.steps && holds_schedule (map length p.params) p.schedule))

unfoldable pub holds : Program → Bool
unfolding counted
holds p = counted p && leb (length (enc_program p)) max_stream
