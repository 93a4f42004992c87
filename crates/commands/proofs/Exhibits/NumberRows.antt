-- Rows that pin what no law does: programs and their numbers, by computation (01, numbers 6, 7 and 8, 'Names, types, commands').
use Rattle.std.specs.Prelude.{ℕ, zero, suc, ◌≡◌, refl, List, [], ◌∷◌}
use Rattle.types.specs.Types.{Ty, Ty.int, Ty.nat, Ty.bool, Ty.ref}
use Rattle.program.specs.Tree.{Var.par, Var.loc, Op.op_eq, Op.op_le, Op.op_add, Op.op_and, Expr, Expr.inv, Expr.make, Expr.path, Expr.int_lit}
use Rattle.program.specs.Tree.{Expr.nat_lit, Expr.bool_lit, Expr.null, Expr.self, Expr.op, Exprs.none, Exprs.more, Stmt, Stmt.when, Stmt.declare}
use Rattle.program.specs.Tree.{Stmt.update, Stmt.create, Stmts, Stmts.end, Stmts.next, Item, Item.call, Item.call_in, Item.fix, Items, Items.stop}
use Rattle.program.specs.Tree.{Items.item, Step, Program}
use Rattle.program.specs.Counts.{All}
use Rattle.types.specs.Reflects.{reflects_iff, eq_reflects}
use Rattle.commands.specs.Commands.{front, last, commands}
use Rattle.commands.specs.Names.{declared}
use Rattle.commands.specs.Depth.{depth}
use Rattle.commands.specs.Decide.{every}
use Rattle.commands.proofs.Decide.DecideLaws.{every_reflects}
use Rattle.commands.specs.Numbers.{first, breach_number}
use Rattle.commands.specs.Unfold.{judging}

-- Parts ---------------------------------------------------------------------------

-- n times a statement, an item, in front of others
unfoldable statements : ℕ → Stmt → Stmts → Stmts
statements zero s b = b
statements (suc n) s b = next s (statements n s b)

unfoldable in_a_row : ℕ → Item → Items → Items
in_a_row zero i is = is
in_a_row (suc n) i is = item i (in_a_row n i is)

abbrev only : Stmt → Stmts
only s = next s end

abbrev step : ℕ → Stmts → Step
step n b = record { name = n; body = b }

-- n steps of one body
unfoldable named_to : ℕ → Stmts → List Step
named_to zero b = []
named_to (suc n) b = step n b ∷ named_to n b

abbrev program : List (List Ty) → List (List Step) → Items → Program
program ts ss is = record { params = ts; steps = ss; schedule = is }

abbrev once : Items
once = item (call 0) stop

-- load := load + prev.load; load := 1
abbrev P-update : Stmt
P-update = update (par 0) [] (op op_add (path (par 0) []) (path (par 1) (0 ∷ [])))

abbrev literal : Stmt
literal = update (par 0) [] (int_lit 1)

abbrev load_prev : List Ty
load_prev = int ∷ ref 0 ∷ []

-- P's struct and one without parameters; the first has the step 0
abbrev benched : Stmts → Program
benched b = program (load_prev ∷ [] ∷ []) ((step 0 b ∷ []) ∷ [] ∷ []) once

-- struct 0 has an Int, a reference to itself, a Nat, a Bool and a reference to struct 1, which has a Nat; struct 0 has the step 0
abbrev wide : Stmts → Program
wide b = program ((int ∷ ref 0 ∷ nat ∷ bool ∷ ref 1 ∷ []) ∷ (nat ∷ []) ∷ []) ((step 0 b ∷ []) ∷ [] ∷ []) once

-- two structs like P's: one right step each, 0 and 1, under this schedule; these steps each, the step 0 scheduled
abbrev scheduled : Items → Program
scheduled is = program (load_prev ∷ load_prev ∷ []) ((step 0 (only literal) ∷ []) ∷ (step 1 (only literal) ∷ []) ∷ []) is

abbrev stepping : List Step → List Step → Program
stepping ss ts = program (load_prev ∷ load_prev ∷ []) (ss ∷ ts ∷ []) once

-- 2 structs of 8 steps of 64 commands each, and a third with no parameters
abbrev full : List Step → Program
full ts =
    program (load_prev ∷ load_prev ∷ [] ∷ [])
    (named_to 8 (statements 8 P-update end) ∷ named_to 8 (statements 8 P-update end) ∷ ts ∷ []) once

-- the expression's value is written, in a step of `wide`
abbrev to : ℕ → Expr → Program
to x e = wide (only (update (par x) [] e))

abbrev yes_bool : Expr
yes_bool = bool_lit 1

abbrev local_0 : Expr
local_0 = path (loc 0) []

abbrev declare_0 : Stmt
declare_0 = declare int 0 (int_lit 1)

-- The table -----------------------------------------------------------------------

record Row : Type 0 where
  tree : Program
  number : ℕ

abbrev row : Program → ℕ → Row
row p n = record { tree = p; number = n }

unfoldable rows : List Row
rows =
    -- 14 and 15 labels below a literal update, depth 16 and 17; the same where an if leaves them
    row (benched (statements 14 (create 1 none) (only literal))) 0
    ∷ row (benched (statements 15 (create 1 none) (only literal))) 6
    ∷ row (benched (next (when yes_bool (statements 14 (create 1 none) end)) (only literal))) 0
    ∷ row (benched (next (when yes_bool (statements 15 (create 1 none) end)) (only literal))) 6
    -- 1,024 commands in all, and 1,025
    ∷ row (full []) 0
    ∷ row (full (step 0 (only (create 2 none)) ∷ [])) 6
    -- 64 items, and 65
    ∷ row (scheduled (item (fix (in_a_row 31 (call 0) stop)) (item (fix (in_a_row 31 (call 0) stop)) stop))) 0
    ∷ row (scheduled (item (fix (in_a_row 31 (call 0) stop)) (item (fix (in_a_row 31 (call 0) stop)) once))) 6
    -- a path whose first variable is the last parameter, and none, read and written
    ∷ row (to 4 (path (par 4) [])) 0
    ∷ row (to 4 (path (par 5) [])) 7
    ∷ row (to 5 (int_lit 1)) 7
    -- a local in its if; behind it; in its own declaration; declared in disjoint ifs; updated
    ∷ row (wide (only (when yes_bool (next declare_0 (only (update (par 0) [] local_0)))))) 0
    ∷ row (wide (next (when yes_bool (only declare_0)) (only (update (par 0) [] local_0)))) 7
    ∷ row (wide (only (declare int 0 local_0))) 7
    ∷ row (wide (next (when yes_bool (only declare_0)) (only (when yes_bool (only declare_0))))) 7
    ∷ row (wide (next declare_0 (only (update (loc 0) [] (int_lit 2))))) 0
    ∷ row (wide (only (update (loc 0) [] (int_lit 2)))) 7
    -- a step name in two structs; twice in one
    ∷ row (stepping (step 0 end ∷ step 1 end ∷ []) (step 0 end ∷ [])) 0
    ∷ row (stepping (step 0 end ∷ step 1 end ∷ step 0 end ∷ []) []) 7
    -- struct 0 has the step 0 and struct 1 the step 1: scheduled of each, of all, in a Fix, and where they are missing
    ∷ row (scheduled (item (call_in 0 0) (item (call_in 1 1) (item (call 1) (item (fix once) stop))))) 0
    ∷ row (scheduled (item (call 2) stop)) 7
    ∷ row (scheduled (item (call_in 0 1) stop)) 7
    ∷ row (scheduled (item (fix (item (call_in 1 0) stop)) stop)) 7
    -- not; equality; order; arithmetic; logic
    ∷ row (to 3 (inv yes_bool)) 0
    ∷ row (to 3 (inv (int_lit 1))) 8
    ∷ row (to 3 (op op_eq self (path (par 1) []))) 0
    ∷ row (to 3 (op op_eq (int_lit 1) (nat_lit 1))) 8
    ∷ row (to 3 (op op_eq self (null (ref 1)))) 8
    ∷ row (to 3 (op op_le (path (par 2) []) (null nat))) 0
    ∷ row (to 3 (op op_le yes_bool yes_bool)) 8
    ∷ row (to 0 (op op_add self self)) 8
    ∷ row (to 3 (op op_and (int_lit 1) (int_lit 1))) 8
    -- a condition; an update; a declaration
    ∷ row (wide (only (when (int_lit 1) end))) 8
    ∷ row (to 0 (nat_lit 1)) 8
    ∷ row (wide (only (declare bool 0 (int_lit 1)))) 8
    ∷ row (wide (next (declare nat 0 (nat_lit 1)) (only (update (par 0) [] local_0)))) 8
    ∷ row (wide (only (when yes_bool (next (declare nat 0 (nat_lit 1)) (only (update (par 2) [] local_0)))))) 0
    -- constructor arguments, in a statement and in an expression
    ∷ row (wide (only (create 1 (more (nat_lit 1) none)))) 0
    ∷ row (wide (only (create 1 (more (int_lit 1) none)))) 8
    ∷ row (to 4 (make 1 (more (path (par 4) (0 ∷ [])) none))) 0
    ∷ row (to 4 (make 1 (more (path (par 0) []) none))) 8
    -- a later variable that its predecessor's struct has; lacks; behind a plain value; behind a local
    ∷ row (to 2 (path (par 1) (1 ∷ 4 ∷ 0 ∷ []))) 0
    ∷ row (to 0 (path (par 1) (5 ∷ []))) 8
    ∷ row (to 0 (path (par 4) (1 ∷ []))) 8
    ∷ row (to 0 (path (par 0) (0 ∷ []))) 8
    ∷ row (wide (next (declare (ref 0) 0 self) (only (update (loc 0) (0 ∷ []) (int_lit 1))))) 0
    ∷ row (wide (next declare_0 (only (update (loc 0) (0 ∷ []) (int_lit 1))))) 8
    -- 6 beats 7 and 8; a 7 in the schedule beats an 8 in the first step
    ∷ row (wide (statements 22 (update (par 5) [] (int_lit 1)) end)) 6
    ∷ row (wide (statements 21 (update (par 5) [] (int_lit 1)) end)) 7
    ∷ row (wide (statements 22 (update (par 0) [] (nat_lit 1)) end)) 6
    ∷ row (program (load_prev ∷ []) ((step 0 (only (update (par 0) [] (nat_lit 1))) ∷ []) ∷ []) (item (call 1) stop)) 7
    ∷ []

-- every row's tree has its number
rows_hold : All (λ r. breach_number r.tree ≡ r.number) rows
unfolding rows statements in_a_row named_to judging
rows_hold = (reflects_iff (every_reflects (λ (r : Row). eq_reflects (breach_number r.tree) r.number) rows)).0 refl
