-- What it is to write the words of what a reader gives into a lent list, and the words of each tree (000, definition 2; 01, 'Names, types,
-- commands').
use Rattle.std.specs.Prelude.{ℕ, ◌+◌, ◌≤◌, ◌≡◌, List, [], ◌∷◌, length}
use Rattle.std.proofs.lemmas.List.Edits.{sets}
use Rattle.types.specs.Limits.{max_commands}
use Rattle.types.specs.Types.{Ty}
use Rattle.program.specs.Tree.{Var, Expr, Exprs, Exprs.none, Exprs.more, Stmt, Stmt.when, Stmt.declare, Stmt.update, Stmts, Stmts.end, Stmts.next, Step}
use Rattle.program.specs.Encoding.{var_code}
use Rattle.program.specs.Reader.{Result, Result.ok, Result.bad, many, read_expr, read_make, read_stmt, read_body, read_when, read_step, read_steps}
use Rattle.commands.specs.Commands.{Com.wr, Com.cons, one, then, path_coms, front, last, expr_coms, args_coms, stmt_coms, flatten, Coms, commands}
use Rattle.commands.specs.Coding.{coded, words}
use Rattle.emit.specs.declared.Put.{Put}
use Rattle.commands.specs.CommandKinds.{if_kind}

-- the reader gave a value
abbrev pub Good : {A : Type 0} → Result A → Type 0
Good (ok a n) = Unit {0}
Good (bad p k) = ⊥

-- the place behind the value, and its words
unfoldable pub next_of : {A : Type 0} → Result A → ℕ
next_of (ok a n) = n
next_of (bad p k) = p

unfoldable pub code_of : {A : Type 0} → (A → List ℕ) → Result A → List ℕ
code_of f (ok a n) = f a
code_of f (bad p k) = []

-- there is a value, room for its words from k on, and no more of them than a program may have
pub record Ready {A : Type 0} (f : A → List ℕ) (r : Result A) (out : List ℕ) (k : ℕ) : Type 0 where
  pub good : Good r
  pub room : k + length (code_of f r) ≤ length out
  pub few : length (code_of f r) ≤ max_commands

-- the words ws stand from k on, and nothing else changed; reading goes on at m
pub record Placed (ws : List ℕ) (m : ℕ) (out : List ℕ) (k : ℕ) (p : Put) (out' : List ℕ) : Type 0 where
  pub next : p.next ≡ m
  pub at : p.at ≡ k + length ws
  pub list : out' ≡ sets out k ws

abbrev pub Wrote : {A : Type 0} → (A → List ℕ) → Result A → List ℕ → ℕ → Put → List ℕ → Type 0
Wrote f r out k p out' = Placed (code_of f r) (next_of r) out k p out'

-- the words of nested commands
abbrev pub coms_words : Coms → List ℕ
coms_words c = words (flatten c)

unfoldable pub expr_words : Expr → List ℕ
expr_words e = coms_words (expr_coms e)

unfoldable pub args_words : Exprs → List ℕ
args_words es = coms_words (args_coms es)

-- a struct and its arguments
unfoldable pub make_words : ℕ × Exprs → List ℕ
make_words p = coms_words (then (args_coms p.1) (one (cons p.0)))

-- a path that is read, and one that is written
unfoldable pub path_words : Var × List ℕ → List ℕ
path_words p = coms_words (path_coms (var_code p.0 ∷ p.1))

unfoldable pub target_words : Var × List ℕ → List ℕ
target_words p = coms_words (then (path_coms (front (var_code p.0) p.1)) (one (wr (last (var_code p.0) p.1))))

unfoldable pub stmt_words : Stmt → List ℕ
stmt_words t = coms_words (stmt_coms t)

unfoldable pub body_words : Stmts → List ℕ
body_words b = words (commands b)

-- an if's condition and body; its `if n` and its body
unfoldable pub when_words : Expr × Stmts → List ℕ
when_words p = stmt_words (when p.0 p.1)

unfoldable pub block_words : Stmts → List ℕ
block_words b = coded if_kind 0 (length (body_words b)) ∷ body_words b

unfoldable pub declare_words : Ty × (ℕ × Expr) → List ℕ
declare_words p = stmt_words (declare p.0 p.1.0 p.1.1)

unfoldable pub update_words : (Var × List ℕ) × Expr → List ℕ
update_words p = stmt_words (update p.0.0 p.0.1 p.1)

-- n expressions in a row, and a struct with its arguments, each of at most d levels
abbrev pub args_at : List ℕ → List ℕ → ℕ → ℕ → ℕ → Result Exprs
args_at ar s d n at = many none more (λ m. read_expr ar s d m) n at

abbrev pub make_at : List ℕ → List ℕ → ℕ → ℕ → Result (ℕ × Exprs)
make_at ar s d at = read_make ar s (λ m. read_expr ar s d m) at

-- n statements in a row, and a body and an if, whose statements have at most d levels of if
abbrev pub stmts_at : List ℕ → List ℕ → ℕ → ℕ → ℕ → Result Stmts
stmts_at ar s d n at = many end next (λ m. read_stmt ar s d m) n at

abbrev pub body_at : List ℕ → List ℕ → ℕ → ℕ → Result Stmts
body_at ar s d at = read_body ar s (λ m. read_stmt ar s d m) at

abbrev pub when_at : List ℕ → List ℕ → ℕ → ℕ → Result (Expr × Stmts)
when_at ar s d at = read_when ar s (λ m. read_stmt ar s d m) at

-- n steps in a row, and the steps of n structs
abbrev pub steps_at : List ℕ → List ℕ → ℕ → ℕ → Result (List Step)
steps_at ar s n at = many [] ◌∷◌ (read_step ar s) n at

abbrev pub structs_at : List ℕ → List ℕ → ℕ → ℕ → Result (List (List Step))
structs_at ar s n at = many [] ◌∷◌ (read_steps ar s) n at
