-- Where names are right, each local has the type of its one declaration (01, 'Names, types, commands'; number 7).
use Rattle.std.specs.Prelude.{ℕ, ◌≡◌, refl, true, false}
use Rattle.std.proofs.Common.{ap, ◌∙◌, sym, eq-eqb, ne_eqb}
use mathlib.Core.List.Memᴰ
use mathlib.Core.List.{List, [], ◌++◌, Memᴰ}
use Rattle.types.specs.Types.{Ty, Ty.int}
use Rattle.program.specs.Tree.{Stmt, Stmt.when, Stmt.declare, Stmt.update, Stmt.create, Stmts, Stmts.end, Stmts.next, Program}
use Rattle.commands.specs.Context.{stmt_local, body_local, context}
use Rattle.commands.specs.Names.{declares, declared, live_after, NamedStmt, Named}
use Rattle.commands.specs.Locals.{Declaration, Declaration.itself, Declaration.inside, DeclarationIn, DeclarationIn.first}
use Rattle.commands.specs.Locals.{DeclarationIn.later, LocalsRight}

mutual
  unfolding stmt_local declares

  stmt_absent : (s : Stmt) (x : ℕ) (d : Ty) → (Memᴰ x (declares s) → ⊥) → stmt_local s x d ≡ d
  stmt_absent (when e b) x d n = body_absent b x d n
  stmt_absent (declare t y e) x d n = ap (λ q. elim q [ true ↦ t | false ↦ d ]) (ne_eqb x y (λ q. n (Memᴰ.head q)))
  stmt_absent (update v vs e) x d n = refl
  stmt_absent (create k es) x d n = refl

  body_absent : (b : Stmts) (x : ℕ) (d : Ty) → (Memᴰ x (declared b) → ⊥) → body_local b x d ≡ d
  body_absent end x d n = refl
  body_absent (next s b) x d n =
      stmt_absent s x _ (λ m. n (Memᴰ.append_left (declared b) m)) ∙ body_absent b x d (λ m. n (Memᴰ.append_right (declares s) m))

mutual
  unfolding NamedStmt

  stmt_unseen : {s : Stmt} {x : ℕ} {t : Ty} → Declaration s x t → (n : ℕ) (live seen : List ℕ) → NamedStmt s n live seen
      → Memᴰ x seen → ⊥
  stmt_unseen itself n live seen h m = h.1 m
  stmt_unseen (inside d) n live seen h m = body_unseen d n live seen h.1 m

  body_unseen : {b : Stmts} {x : ℕ} {t : Ty} → DeclarationIn b x t → (n : ℕ) (live seen : List ℕ) → Named b n live seen
      → Memᴰ x seen → ⊥
  body_unseen (first d) n live seen h m = stmt_unseen d n live seen h.0 m
  body_unseen (later {s = s} d) n live seen h m =
      body_unseen d n (live_after s live) (declares s ++ seen) h.1 (Memᴰ.append_right (declares s) m)

mutual
  unfolding NamedStmt stmt_local

  stmt_type : {s : Stmt} {x : ℕ} {t : Ty} → Declaration s x t → (n : ℕ) (live seen : List ℕ) → NamedStmt s n live seen
      → (d : Ty) → stmt_local s x d ≡ t
  stmt_type (itself {t = t} {x = x}) n live seen h d = ap (λ q. elim q [ true ↦ t | false ↦ d ]) (eq-eqb x x refl)
  stmt_type (inside i) n live seen h d = body_type i n live seen h.1 d

  -- a body's table has the type of each declaration in it, whatever it has for other locals
  pub body_type : {b : Stmts} {x : ℕ} {t : Ty} → DeclarationIn b x t → (n : ℕ) (live seen : List ℕ) → Named b n live seen
      → (d : Ty) → body_local b x d ≡ t
  body_type (first i) n live seen h d = stmt_type i n live seen h.0 _
  body_type (later {x = x} {s = s} i) n live seen h d =
      stmt_absent s x _ (λ m. body_unseen i n (live_after s live) (declares s ++ seen) h.1 (Memᴰ.append_left seen m))
      ∙ body_type i n (live_after s live) (declares s ++ seen) h.1 d

-- the context of a step has the type of each of its declarations
pub declared_type : (p : Program) (k : ℕ) (b : Stmts) (n : ℕ) → Named b n [] [] → LocalsRight (context p k b) b
declared_type p k b n h x t d = sym (body_type d n [] [] h int)
