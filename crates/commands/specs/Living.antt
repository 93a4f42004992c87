-- The locals alive before each command of a step (01, 'Names, types, commands': a local lives from the end of its declaration to the
-- end of the innermost if body or step holding it), as a list beside `noted`; each compiles in front of what follows.
use Rattle.std.specs.Prelude.{ℕ, ◌-◌, length, drop}
use mathlib.Core.List.{List, [], ◌∷◌, Memᴰ}
use Rattle.program.specs.Tree.{Expr, Expr.inv, Expr.make, Expr.path, Expr.int_lit, Expr.nat_lit, Expr.bool_lit, Expr.null, Expr.self, Expr.op, Exprs}
use Rattle.program.specs.Tree.{Exprs.none, Exprs.more, Stmt, Stmt.when, Stmt.declare, Stmt.update, Stmt.create, Stmts, Stmts.end, Stmts.next}
use Rattle.commands.specs.Names.{live_after}
use Rattle.commands.specs.Context.{Ctx}
use Rattle.commands.specs.Noted.{Note, noted}

-- one place for each variable of a path
unfoldable pub live_walk : List ℕ → List ℕ → List (List ℕ) → List (List ℕ)
live_walk l [] ls = ls
live_walk l (x ∷ xs) ls = l ∷ live_walk l xs ls

unfoldable mutual
  pub live_expr : Expr → List ℕ → List (List ℕ) → List (List ℕ)
  live_expr (inv e) l ls = live_expr e l (l ∷ ls)
  live_expr (make k es) l ls = live_exprs es l (l ∷ ls)
  live_expr (path v vs) l ls = l ∷ l ∷ live_walk l vs ls
  live_expr (int_lit w) l ls = l ∷ ls
  live_expr (nat_lit w) l ls = l ∷ ls
  live_expr (bool_lit w) l ls = l ∷ ls
  live_expr (null t) l ls = l ∷ ls
  live_expr self l ls = l ∷ ls
  live_expr (op o a b) l ls = live_expr a l (live_expr b l (l ∷ ls))

  pub live_exprs : Exprs → List ℕ → List (List ℕ) → List (List ℕ)
  live_exprs none l ls = ls
  live_exprs (more e es) l ls = live_expr e l (live_exprs es l ls)

unfoldable mutual
  pub live_stmt : Stmt → List ℕ → List (List ℕ) → List (List ℕ)
  live_stmt (when e b) l ls = live_expr e l (l ∷ live_body b l ls)
  live_stmt (declare t x e) l ls = live_expr e l (l ∷ l ∷ ls)
  live_stmt (update v vs e) l ls = live_expr e l (l ∷ l ∷ live_walk l vs ls)
  live_stmt (create k es) l ls = live_exprs es l (l ∷ ls)

  pub live_body : Stmts → List ℕ → List (List ℕ) → List (List ℕ)
  live_body end l ls = ls
  live_body (next s b) l ls = live_stmt s l (live_body b (live_after s l) ls)

-- of a step; and from a place of its commands on
unfoldable pub lives : Stmts → List (List ℕ)
lives b = live_body b [] []

-- beside the rest c of the commands c₀
abbrev pub beside : List Note → List (List ℕ) → List Note → List (List ℕ)
beside c₀ ls₀ c = drop (length c₀ - length c) ls₀

abbrev pub lives_at : Ctx → Stmts → List Note → List (List ℕ)
lives_at G b c = beside (noted G b) (lives b) c

-- the locals alive at the first place, none behind the last
abbrev pub alive : List (List ℕ) → List ℕ
alive [] = []
alive (l ∷ ls) = l

-- the first locals are among the second
abbrev pub Among : List ℕ → List ℕ → Type 0
Among l w = (x : ℕ) → Memᴰ x l → Memᴰ x w
