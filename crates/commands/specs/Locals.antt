-- Where a local is declared, and when a context has its type (01, 'Names, types, commands').
use Rattle.std.specs.Prelude.{ℕ, ◌≡◌}
use Rattle.types.specs.Types.{Ty}
use Rattle.program.specs.Tree.{Expr, Stmt, Stmt.when, Stmt.declare, Stmts, Stmts.next}
use Rattle.commands.specs.Context.{Ctx}

-- a declaration of the local x with type t stands in a statement, in statements
mutual
  pub data Declaration : Stmt → ℕ → Ty → Type 0 where
    itself : {t : Ty} {x : ℕ} {e : Expr} → Declaration (declare t x e) x t
    inside : {x : ℕ} {t : Ty} {e : Expr} {b : Stmts} → DeclarationIn b x t → Declaration (when e b) x t

  pub data DeclarationIn : Stmts → ℕ → Ty → Type 0 where
    first : {x : ℕ} {t : Ty} {s : Stmt} {b : Stmts} → Declaration s x t → DeclarationIn (next s b) x t
    later : {x : ℕ} {t : Ty} {s : Stmt} {b : Stmts} → DeclarationIn b x t → DeclarationIn (next s b) x t

-- the context has the type of each declaration
abbrev pub LocalsRight : Ctx → Stmts → Type 0
LocalsRight G b = (x : ℕ) (t : Ty) → DeclarationIn b x t → t ≡ G.local x
