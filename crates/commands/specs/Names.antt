-- When a program's names are right (01, number 7): a path's first variable is a parameter or a living local; a local is
-- declared once in a step; a step name stands once in a struct; a scheduled step is there.
use Rattle.std.specs.Prelude.{ℕ, ◌<◌, length, get_or}
use mathlib.Core.List.{List, [], ◌∷◌, ◌++◌, map, Memᴰ}
use Rattle.program.specs.Tree.{Var, Var.par, Var.loc, Expr, Expr.inv, Expr.make, Expr.path, Expr.int_lit, Expr.nat_lit, Expr.bool_lit, Expr.null}
use Rattle.program.specs.Tree.{Expr.self, Expr.op, Exprs, Exprs.none, Exprs.more, Stmt, Stmt.when, Stmt.declare, Stmt.update, Stmt.create, Stmts}
use Rattle.program.specs.Tree.{Stmts.end, Stmts.next, Item, Item.call, Item.call_in, Item.fix, Items, Items.stop, Items.item, Step, Program}
use Rattle.program.specs.Counts.{All}

-- a parameter of a struct with n parameters, or one of these living locals
abbrev pub Starts : ℕ → List ℕ → Var → Type 0
Starts n live (par x) = x < n
Starts n live (loc x) = Memᴰ x live

unfoldable mutual
  pub Names : Expr → ℕ → List ℕ → Type 0
  Names (inv e) n live = Names e n live
  Names (make k es) n live = NamesAll es n live
  Names (path v vs) n live = Starts n live v
  Names (int_lit w) n live = Unit {0}
  Names (nat_lit w) n live = Unit {0}
  Names (bool_lit w) n live = Unit {0}
  Names (null t) n live = Unit {0}
  Names self n live = Unit {0}
  Names (op o a b) n live = Names a n live × Names b n live

  pub NamesAll : Exprs → ℕ → List ℕ → Type 0
  NamesAll none n live = Unit {0}
  NamesAll (more e es) n live = Names e n live × NamesAll es n live

-- the locals that statements declare, those of the ifs in them too
unfoldable mutual
  pub declares : Stmt → List ℕ
  declares (when e b) = declared b
  declares (declare t x e) = x ∷ []
  declares (update v vs e) = []
  declares (create k es) = []

  pub declared : Stmts → List ℕ
  declared end = []
  declared (next s b) = declares s ++ declared b

-- the locals alive behind a statement: one declared in an if body lives to the end of that body
abbrev pub live_after : Stmt → List ℕ → List ℕ
live_after (when e b) live = live
live_after (declare t x e) live = x ∷ live
live_after (update v vs e) live = live
live_after (create k es) live = live

-- n parameters, these locals alive, these declared before in the step
unfoldable mutual
  pub NamedStmt : Stmt → ℕ → List ℕ → List ℕ → Type 0
  NamedStmt (when e b) n live seen = Names e n live × Named b n live seen
  NamedStmt (declare t x e) n live seen = Names e n live × (Memᴰ x seen → ⊥)
  NamedStmt (update v vs e) n live seen = Starts n live v × Names e n live
  NamedStmt (create k es) n live seen = NamesAll es n live

  pub Named : Stmts → ℕ → List ℕ → List ℕ → Type 0
  Named end n live seen = Unit {0}
  Named (next s b) n live seen = NamedStmt s n live seen × Named b n (live_after s live) (declares s ++ seen)

-- each stands once
abbrev pub Once : List ℕ → Type 0
Once [] = Unit {0}
Once (x ∷ xs) = (Memᴰ x xs → ⊥) × Once xs

-- the names of a struct's steps
unfoldable pub names_of_steps : List Step → List ℕ
names_of_steps ts = map (λ t. t.name) ts

-- the steps of each struct, from struct k on, that are named right
abbrev pub NamedSteps : Program → ℕ → List (List Step) → Type 0
NamedSteps p k [] = Unit {0}
NamedSteps p k (ts ∷ tss) =
    Once (names_of_steps ts)
    × (All (λ t. Named t.body (length (get_or p.params k [])) [] []) ts)
    × (NamedSteps p (ℕ.suc k) tss)

-- some struct has the step n
abbrev pub Had : ℕ → List (List Step) → Type 0
Had n tss = (k : ℕ) × Memᴰ n (names_of_steps (get_or tss k []))

unfoldable mutual
  pub ScheduledItem : Item → List (List Step) → Type 0
  ScheduledItem (call n) tss = Had n tss
  ScheduledItem (call_in k n) tss = Memᴰ n (names_of_steps (get_or tss k []))
  ScheduledItem (fix is) tss = Scheduled is tss

  pub Scheduled : Items → List (List Step) → Type 0
  Scheduled stop tss = Unit {0}
  Scheduled (item i is) tss = ScheduledItem i tss × Scheduled is tss

unfoldable pub NamesRight : Program → Type 0
NamesRight p = (NamedSteps p 0 p.steps) × (Scheduled p.schedule p.steps)
