-- The stream of a program (01, 'Program stream'): each tree's bytes, outermost first. Nothing here speaks of reading.
use Rattle.std.specs.Prelude.{ℕ, zero, suc, ◌+◌, ◌/◌, ◌%◌, List, [], ◌∷◌, ◌++◌, length}
use Rattle.types.specs.Limits.{first_local}
use Rattle.types.specs.Types.{code}
use Rattle.program.specs.Tree.{Var, Var.par, Var.loc, Op, Op.op_eq, Op.op_ne, Op.op_le, Op.op_ge, Op.op_lt, Op.op_gt, Op.op_mul, Op.op_div}
use Rattle.program.specs.Tree.{Op.op_rem, Op.op_add, Op.op_sub, Op.op_and, Op.op_or, Expr, Expr.inv, Expr.make, Expr.path, Expr.int_lit}
use Rattle.program.specs.Tree.{Expr.nat_lit, Expr.bool_lit, Expr.null, Expr.self, Expr.op, Exprs, Exprs.none, Exprs.more, Stmt, Stmt.when}
use Rattle.program.specs.Tree.{Stmt.declare, Stmt.update, Stmt.create, Stmts, Stmts.end, Stmts.next, Item, Item.call, Item.call_in, Item.fix}
use Rattle.program.specs.Tree.{Items, Items.stop, Items.item, Step, Program, size, items}
use Rattle.program.specs.Forms.{when_form, declare_form, update_form, create_form, inv_form, make_form, path_form, int_form, nat_form}
use Rattle.program.specs.Forms.{bool_form, null_form, this_form, eq_form, ne_form, le_form, ge_form, lt_form, gt_form, mul_form, div_form}
use Rattle.program.specs.Forms.{rem_form, add_form, sub_form, and_form, or_form, call_form, call_in_form, fix_form}

-- a number of i bytes, the lowest first
unfoldable pub enc_word : ℕ → ℕ → List ℕ
enc_word zero v = []
enc_word (suc i) v = v % 256 ∷ enc_word i (v / 256)

-- the elements' bytes in a row; behind their count
unfoldable pub flat : {A : Type 0} → (A → List ℕ) → List A → List ℕ
flat E [] = []
flat E (a ∷ l) = E a ++ flat E l

abbrev pub enc_list : {A : Type 0} → (A → List ℕ) → List A → List ℕ
enc_list E l = length l ∷ flat E l

-- the byte that opens each form
unfoldable pub op_code : Op → ℕ
op_code op_eq = eq_form
op_code op_ne = ne_form
op_code op_le = le_form
op_code op_ge = ge_form
op_code op_lt = lt_form
op_code op_gt = gt_form
op_code op_mul = mul_form
op_code op_div = div_form
op_code op_rem = rem_form
op_code op_add = add_form
op_code op_sub = sub_form
op_code op_and = and_form
op_code op_or = or_form

unfoldable pub var_code : Var → ℕ
var_code (par x) = x
var_code (loc x) = first_local + x

-- a length and that many variables
unfoldable pub enc_path : Var → List ℕ → List ℕ
enc_path v vs = suc (length vs) ∷ var_code v ∷ vs

unfoldable mutual
  pub enc_expr : Expr → List ℕ
  enc_expr (inv e) = inv_form ∷ enc_expr e
  enc_expr (make k es) = make_form ∷ k ∷ enc_exprs es
  enc_expr (path v vs) = path_form ∷ enc_path v vs
  enc_expr (int_lit w) = int_form ∷ enc_word 4 w
  enc_expr (nat_lit w) = nat_form ∷ enc_word 4 w
  enc_expr (bool_lit w) = bool_form ∷ w ∷ []
  enc_expr (null t) = null_form ∷ code t ∷ []
  enc_expr self = this_form ∷ []
  enc_expr (op o a b) = op_code o ∷ enc_expr a ++ enc_expr b

  pub enc_exprs : Exprs → List ℕ
  enc_exprs none = []
  enc_exprs (more e es) = enc_expr e ++ enc_exprs es

unfoldable mutual
  pub enc_stmt : Stmt → List ℕ
  enc_stmt (when e b) = when_form ∷ enc_expr e ++ size b ∷ enc_stmts b
  enc_stmt (declare t x e) = declare_form ∷ code t ∷ (first_local + x) ∷ enc_expr e
  enc_stmt (update v vs e) = update_form ∷ enc_path v vs ++ enc_expr e
  enc_stmt (create k es) = create_form ∷ k ∷ enc_exprs es

  pub enc_stmts : Stmts → List ℕ
  enc_stmts end = []
  enc_stmts (next t b) = enc_stmt t ++ enc_stmts b

unfoldable mutual
  pub enc_item : Item → List ℕ
  enc_item (call n) = call_form ∷ n ∷ []
  enc_item (call_in k n) = call_in_form ∷ k ∷ n ∷ []
  enc_item (fix is) = fix_form ∷ items is ∷ enc_items is

  pub enc_items : Items → List ℕ
  enc_items stop = []
  enc_items (item i is) = enc_item i ++ enc_items is

-- a step name, a statement count, the statements
unfoldable pub enc_step : Step → List ℕ
enc_step t = t.name ∷ size t.body ∷ enc_stmts t.body

-- per struct its parameters' types; per struct its steps; the schedule
unfoldable pub enc_program : Program → List ℕ
enc_program p =
    enc_list (enc_list (λ t. code t ∷ [])) p.params
    ++ flat (enc_list enc_step) p.steps
    ++ items p.schedule ∷ enc_items p.schedule
