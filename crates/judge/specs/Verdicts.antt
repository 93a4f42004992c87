-- What a fault says of names and types (01, numbers 7 and 8), and when tables and numbers of locals stand for a context.
use Rattle.std.specs.Prelude.{ℕ, suc, ◌+◌, ◌*◌, ◌<◌, Bool, true, false, List, ◌≡◌, length, get_or}
use Rattle.types.specs.Limits.{max_params, max_locals}
use Rattle.types.specs.Numbers.{wrong_names, wrong_types}
use Rattle.types.specs.Types.{Ty, code}
use Rattle.program.specs.Tree.{Stmt, Stmt.when, Stmt.declare, Stmt.update, Stmt.create, Stmts, Stmts.end, Stmts.next}
use Rattle.commands.specs.Context.{Ctx, typ}
use Rattle.commands.specs.Decide.{member}
use Rattle.commands.specs.Decide.TypingDecide.{Judgement, Judgement.untypable, Judgement.of_type}
use Rattle.judge.specs.Facts.{no_fault, digit}
use Rattle.judge.specs.declared.Scope.{Scope}

-- 7 where names are wrong; else 8 where types are; else 0
pub data Says (f : ℕ) : Bool → Bool → Type 0 where
  misnamed : {t : Bool} → f ≡ wrong_names → Says f false t
  mistyped : f ≡ wrong_types → Says f true false
  right : f ≡ no_fault → Says f true true

-- the same of an expression or a path, and then its type's byte
pub data Shows (f t : ℕ) : Bool → Judgement → Type 0 where
  unnamed : {j : Judgement} → f ≡ wrong_names → Shows f t false j
  untyped : f ≡ wrong_types → Shows f t true untypable
  typed : {u : Ty} → f ≡ no_fault → t ≡ code u → Shows f t true (of_type u)

-- the counts `cs` that a tree is read by, and the tables `ar` and `types`, which may go on behind the structs, are the context's
pub record Tables (cs ar types : List ℕ) (G : Ctx) : Type 0 where
  pub counts : (k : ℕ) → get_or cs k 0 ≡ length (G.params k)
  pub arities : (k : ℕ) → get_or ar k 0 ≡ length (G.params k)
  pub codes : (k x : ℕ) → x < length (G.params k) → get_or types (max_params * k + x) 0 ≡ code (typ G k x)

-- the digit of a local that lives, or does not
abbrev pub tagged : Bool → Ty → ℕ
tagged true t = suc (code t)
tagged false t = 0

-- a number whose digits are these living locals with their types; these locals
abbrev pub Living : ℕ → List ℕ → (ℕ → Ty) → Type 0
Living w live L = (x : ℕ) → x < max_locals → digit w x ≡ tagged (member x live) (L x)

abbrev pub flag : Bool → ℕ
flag true = 1
flag false = 0

abbrev pub Marked : ℕ → List ℕ → Type 0
Marked w seen = (x : ℕ) → x < max_locals → digit w x ≡ flag (member x seen)

-- the scope has these living locals, with these types, and these declared ones
pub record Fits (c : Scope) (live seen : List ℕ) (L : ℕ → Ty) : Type 0 where
  pub living : Living c.live live L
  pub marked : Marked c.seen seen

-- these types are those of the declarations in statements
unfoldable mutual
  pub LocalsStmt : (ℕ → Ty) → Stmt → Type 0
  LocalsStmt L (when e b) = Locals L b
  LocalsStmt L (declare t x e) = t ≡ L x
  LocalsStmt L (update v vs e) = Unit {0}
  LocalsStmt L (create k es) = Unit {0}

  pub Locals : (ℕ → Ty) → Stmts → Type 0
  Locals L end = Unit {0}
  Locals L (next s b) = LocalsStmt L s × Locals L b
