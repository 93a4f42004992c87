-- How a program stream is read (01, 'Program stream'): by place, and by the levels that are left. The refusals are 4 and 5 of
-- 'Numbers from the input', each with its place.
use Rattle.std.specs.Prelude.{ℕ, zero, suc, ◌+◌, ◌-◌, ◌*◌, List, [], ◌∷◌, map, Bool, true, false, ◌&&◌, length, get_or, ltb, leb, eqb}
use Rattle.types.specs.Limits.{max_structs, max_params, max_steps, step_names, max_statements, max_items, first_local, variables, max_path}
use Rattle.types.specs.Limits.{fix_levels, if_levels, expr_levels}
pub use Rattle.types.specs.Numbers.{wrong_end, wrong_byte}
use Rattle.types.specs.Types.{Ty, type_of}
use Rattle.types.specs.TypeBytes.{is_type}
use Rattle.program.specs.Tree.{Var, Var.par, Var.loc, Op, Op.op_eq, Op.op_ne, Op.op_le, Op.op_ge, Op.op_lt, Op.op_gt, Op.op_mul, Op.op_div}
use Rattle.program.specs.Tree.{Op.op_rem, Op.op_add, Op.op_sub, Op.op_and, Op.op_or, Expr, Expr.inv, Expr.make, Expr.path, Expr.int_lit}
use Rattle.program.specs.Tree.{Expr.nat_lit, Expr.bool_lit, Expr.null, Expr.self, Expr.op, Exprs, Exprs.none, Exprs.more, Stmt, Stmt.when}
use Rattle.program.specs.Tree.{Stmt.declare, Stmt.update, Stmt.create, Stmts, Stmts.end, Stmts.next, Item, Item.call, Item.call_in, Item.fix}
use Rattle.program.specs.Tree.{Items, Items.stop, Items.item, Step, Program}
use Rattle.program.specs.Forms.{when_form, declare_form, update_form, create_form, inv_form, make_form, path_form, int_form, nat_form}
use Rattle.program.specs.Forms.{bool_form, null_form, this_form, eq_form, ne_form, le_form, ge_form, lt_form, gt_form, mul_form, div_form}
use Rattle.program.specs.Forms.{rem_form, add_form, sub_form, and_form, or_form, call_form, call_in_form, fix_form}

-- a value with the next place, or a refusal with its place and number
pub data Result (A : Type 0) : Type 0 where
  ok : A → ℕ → Result A
  bad : ℕ → ℕ → Result A

-- reading goes on only where the answer was a value
unfoldable pub then : {A B : Type 0} → Result A → (A → ℕ → Result B) → Result B
then (ok a n) f = f a n
then (bad p k) f = bad p k

-- one thing and another behind it; what is made of a thing; i things in a row
unfoldable pub pair : {A B : Type 0} → Result A → (A → ℕ → Result B) → Result (A × B)
pair r q = then r λ a k. then (q a k) λ b m. ok (a, b) m

unfoldable pub made : {A B : Type 0} → (A → B) → Result A → Result B
made f r = then r λ a m. ok (f a) m

unfoldable pub many : {A B : Type 0} → B → (A → B → B) → (ℕ → Result A) → ℕ → ℕ → Result B
many z c r zero at = ok z at
many z c r (suc i) at = then (r at) λ a k. then (many z c r i k) λ b m. ok (c a b) m

-- a value at a place where a test passes
unfoldable pub guard : {A : Type 0} → Bool → ℕ → A → ℕ → Result A
guard true at a k = ok a k
guard false at a k = bad at wrong_byte

-- a whole stream s, read by r: one that goes on after the end is refused there
unfoldable pub ended : {A : Type 0} → List ℕ → A → ℕ → Result A
ended s a k = elim (ltb k (length s)) [ true ↦ bad k wrong_end | false ↦ ok a k ]

unfoldable pub whole : {A : Type 0} → (List ℕ → ℕ → Result A) → List ℕ → Result A
whole r s = then (r s 0) (ended s)

-- what a byte opens: the row with its key, or z where there is none; the rows stand from the highest key down
pub data Row (A : Type 0) : Type 0 where
  row : ℕ → A → Row A

unfoldable pub lookup : {A : Type 0} → List (Row A) → A → ℕ → A
lookup [] z b = z
lookup (row k f ∷ rs) z b = elim (eqb b k) [ true ↦ f | false ↦ lookup rs z b ]

pub data Form : Type 0 where
  form_inv form_make form_path form_int form_nat form_bool form_null form_self : Form
  form_op : Op → Form
  form_none : Form

abbrev pub forms : List (Row Form)
forms =
    row or_form (form_op op_or)
    ∷ row and_form (form_op op_and)
    ∷ row sub_form (form_op op_sub)
    ∷ row add_form (form_op op_add)
    ∷ row rem_form (form_op op_rem)
    ∷ row div_form (form_op op_div)
    ∷ row mul_form (form_op op_mul)
    ∷ row gt_form (form_op op_gt)
    ∷ row lt_form (form_op op_lt)
    ∷ row ge_form (form_op op_ge)
    ∷ row le_form (form_op op_le)
    ∷ row ne_form (form_op op_ne)
    ∷ row eq_form (form_op op_eq)
    ∷ row this_form form_self
    ∷ row null_form form_null
    ∷ row bool_form form_bool
    ∷ row nat_form form_nat
    ∷ row int_form form_int
    ∷ row path_form form_path
    ∷ row make_form form_make
    ∷ row inv_form form_inv
    ∷ []

unfoldable pub form : ℕ → Form
form b = lookup forms form_none b

pub data Kind : Type 0 where
  kind_when kind_declare kind_update kind_create kind_none : Kind

abbrev pub kinds : List (Row Kind)
kinds = row create_form kind_create ∷ row update_form kind_update ∷ row declare_form kind_declare ∷ row when_form kind_when ∷ []

unfoldable pub kind : ℕ → Kind
kind b = lookup kinds kind_none b

pub data ItemSort : Type 0 where
  sort_call sort_call_in sort_fix sort_none : ItemSort

abbrev pub item_sorts : List (Row ItemSort)
item_sorts = row fix_form sort_fix ∷ row call_in_form sort_call_in ∷ row call_form sort_call ∷ []

unfoldable pub item_sort : ℕ → ItemSort
item_sort b = lookup item_sorts sort_none b

-- from lo up to below hi
unfoldable pub between : ℕ → ℕ → ℕ → Bool
between lo hi b = leb lo b && ltb b hi

-- the first variable of a path that a byte names
unfoldable pub var_of : ℕ → Var
var_of b = elim (ltb b first_local) [ true ↦ par b | false ↦ loc (b - first_local) ]

-- a byte is below byte-end, the byte of a Bool below bool-end; a number has word_bytes bytes
abbrev pub byte_end : ℕ
byte_end = 256

abbrev pub bool_end : ℕ
bool_end = 2

abbrev pub word_bytes : ℕ
word_bytes = 4

module _ (s : List ℕ) where
  unfoldable pub byte : ℕ → Result ℕ
  byte at = elim (ltb at (length s)) [ true ↦ ok (get_or s at 0) (at + 1) | false ↦ bad at wrong_end ]

  -- a byte that passes a test; one from lo up to below hi
  unfoldable pub tested : (ℕ → Bool) → ℕ → Result ℕ
  tested t at = then (byte at) λ b k. guard (t b) at b k

  unfoldable pub ranged : ℕ → ℕ → ℕ → Result ℕ
  ranged lo hi at = tested (between lo hi) at

  -- a count from lo to hi, and that many things
  unfoldable pub counted : {B : Type 0} → ℕ → ℕ → (ℕ → ℕ → Result B) → ℕ → Result B
  counted lo hi q at = then (ranged lo (suc hi) at) q

  -- what the byte at a place opens
  unfoldable pub opened : {I A : Type 0} → (ℕ → I) → (ℕ → ℕ → I → Result A) → ℕ → Result A
  opened key rule at = then (byte at) λ b k. rule at k (key b)

  -- a number of i bytes, the lowest first
  unfoldable pub read_word : ℕ → ℕ → Result ℕ
  read_word i at = many 0 (λ b v. b + byte_end * v) (ranged 0 byte_end) i at

  unfoldable pub read_type : ℕ → ℕ → Result Ty
  read_type S at = made type_of (tested (is_type S) at)

  unfoldable pub read_var : ℕ → Result Var
  read_var at = made var_of (ranged 0 variables at)

  -- a local's number from 0
  unfoldable pub read_local : ℕ → Result ℕ
  read_local at = made (λ b. b - first_local) (ranged first_local variables at)

  unfoldable pub read_path : ℕ → Result (Var × List ℕ)
  read_path at = counted 1 max_path (λ i k. pair (read_var k) λ v m. many [] ◌∷◌ (ranged 0 first_local) (i - 1) m) at

  -- for each of the S structs its parameters' types
  unfoldable pub read_params : ℕ → Result (List (List Ty))
  read_params at = counted 1 max_structs (λ S k. many [] ◌∷◌ (counted 0 max_params λ i m. many [] ◌∷◌ (read_type S) i m) S k) at

-- `ar` has the parameter count of each struct
module _ (ar s : List ℕ) where
  -- a struct and an expression for each of its parameters, each read by r
  unfoldable pub read_make : (ℕ → Result Expr) → ℕ → Result (ℕ × Exprs)
  read_make r at = pair (ranged s 0 (length ar) at) λ k m. many none more r (get_or ar k 0) m

  -- what stands behind the byte of a form, from k on; r reads an expression one level deeper
  unfoldable pub rule_expr : (ℕ → Result Expr) → ℕ → ℕ → Form → Result Expr
  rule_expr r at k form_inv = made inv (r k)
  rule_expr r at k form_make = made (λ p. make p.0 p.1) (read_make r k)
  rule_expr r at k form_path = made (λ p. path p.0 p.1) (read_path s k)
  rule_expr r at k form_int = made int_lit (read_word s word_bytes k)
  rule_expr r at k form_nat = made nat_lit (read_word s word_bytes k)
  rule_expr r at k form_bool = made bool_lit (ranged s 0 bool_end k)
  rule_expr r at k form_null = made null (read_type s (length ar) k)
  rule_expr r at k form_self = ok self k
  rule_expr r at k (form_op o) = made (λ p. op o p.0 p.1) (pair (r k) λ a. r)
  rule_expr r at k form_none = bad at wrong_byte

  -- an expression of at most d levels: at the level below them any byte is one too many
  unfoldable pub read_expr : ℕ → ℕ → Result Expr
  read_expr zero at = then (byte s at) λ b k. bad at wrong_byte
  read_expr (suc d) at = opened s form (λ at k f. rule_expr (λ n. read_expr d n) at k f) at

  unfoldable pub read_body : (ℕ → Result Stmt) → ℕ → Result Stmts
  read_body r at = counted s 0 max_statements (many end next r) at

  -- an if's condition and body, whose statements r reads
  unfoldable pub read_when : (ℕ → Result Stmt) → ℕ → Result (Expr × Stmts)
  read_when r at = pair (read_expr expr_levels at) λ e. read_body r

  unfoldable pub read_declare : ℕ → Result (Ty × (ℕ × Expr))
  read_declare at = pair (read_type s (length ar) at) λ t k. pair (read_local s k) λ x. read_expr expr_levels

  unfoldable pub read_update : ℕ → Result ((Var × List ℕ) × Expr)
  read_update at = pair (read_path s at) λ p. read_expr expr_levels

  -- what stands behind the byte of a statement; w reads what stands behind that of an if
  unfoldable pub rule_stmt : (ℕ → ℕ → Result (Expr × Stmts)) → ℕ → ℕ → Kind → Result Stmt
  rule_stmt w at k kind_when = made (λ p. when p.0 p.1) (w at k)
  rule_stmt w at k kind_declare = made (λ p. declare p.0 p.1.0 p.1.1) (read_declare k)
  rule_stmt w at k kind_update = made (λ p. update p.0.0 p.0.1 p.1) (read_update k)
  rule_stmt w at k kind_create = made (λ p. create p.0 p.1) (read_make (read_expr expr_levels) k)
  rule_stmt w at k kind_none = bad at wrong_byte

  -- a statement with at most d levels of if
  unfoldable pub read_stmt : ℕ → ℕ → Result Stmt
  read_stmt zero at = opened s kind (rule_stmt λ at k. bad at wrong_byte) at
  read_stmt (suc d) at = opened s kind (rule_stmt λ at k. read_when (λ n. read_stmt d n) k) at

  unfoldable pub read_step : ℕ → Result Step
  read_step at =
      made (λ p. record { name = p.0; body = p.1 })
      (pair (ranged s 0 step_names at) λ n. read_body (read_stmt if_levels))

  unfoldable pub read_steps : ℕ → Result (List Step)
  read_steps at = counted s 0 max_steps (many [] ◌∷◌ read_step) at

  unfoldable pub read_items : (ℕ → Result Item) → ℕ → Result Items
  read_items r at = counted s 1 max_items (many stop item r) at

  -- what stands behind the byte of an item; w reads what stands behind that of a Fix
  unfoldable pub rule_item : (ℕ → ℕ → Result Items) → ℕ → ℕ → ItemSort → Result Item
  rule_item w at k sort_call = made call (ranged s 0 step_names k)
  rule_item w at k sort_call_in = made (λ p. call_in p.0 p.1) (pair (ranged s 0 (length ar) k) λ c. ranged s 0 step_names)
  rule_item w at k sort_fix = made fix (w at k)
  rule_item w at k sort_none = bad at wrong_byte

  -- an item with at most d levels of Fix
  unfoldable pub read_item : ℕ → ℕ → Result Item
  read_item zero at = opened s item_sort (rule_item λ at k. bad at wrong_byte) at
  read_item (suc d) at = opened s item_sort (rule_item λ at k. read_items (λ n. read_item d n) k) at

-- the parameters of all structs, the steps of all structs, the schedule
unfoldable pub read_program : List ℕ → ℕ → Result Program
read_program s at =
    made (λ p. record { params = p.0; steps = p.1.0; schedule = p.1.1 })
    (pair (read_params s at) λ ts k.
    pair (many [] ◌∷◌ (read_steps (map length ts) s) (length ts) k) λ ss m.
    read_items (map length ts) s (read_item (map length ts) s fix_levels) m)

-- a whole stream as a program
unfoldable pub read : List ℕ → Result Program
read s = whole read_program s
