-- The words of each form of tree (000, definition 2).
use Rattle.std.specs.Prelude.{ℕ, suc, ◌+◌, ◌≡◌, refl, List, [], ◌∷◌, ◌++◌, map, length, get_or}
use Rattle.std.proofs.Common.{arith, add-zero, sym, ap, ◌∙◌, append-nil}
use Rattle.types.specs.Limits.{first_local}
use Rattle.types.specs.Types.{Ty}
use Rattle.program.specs.Tree.{Var, Op, Expr, Expr.inv, Expr.make, Expr.path, Expr.op, Exprs, Exprs.none, Exprs.more, Stmt, Stmt.when, Stmt.declare}
use Rattle.program.specs.Tree.{Stmt.update, Stmt.create, Stmts, Stmts.end, Stmts.next}
use Rattle.program.specs.Encoding.{op_code, var_code}
use Rattle.program.specs.Exact.{Stands, Stands.done, Stands.letter}
use Rattle.commands.specs.Commands.{Coms, then, reads, front, last, expr_coms, args_coms, update_coms, stmt_coms, body_coms, flatten, commands}
use Rattle.commands.proofs.Laws.CommandLaws.{flatten_then}
use Rattle.commands.specs.Coding.{coded, com_word, command_word, words}
use Rattle.commands.proofs.ProgramWordsLaws.{words_append, words_length}
use Rattle.emit.specs.Written.{coms_words, expr_words, args_words, make_words, path_words, target_words, stmt_words, body_words, when_words}
use Rattle.emit.specs.Written.{block_words, declare_words, update_words}
use Rattle.emit.specs.Leaf.{rd_words}
use Rattle.commands.specs.CommandKinds.{this_kind, not_kind, cons_kind, op_kind, rd_kind, wr_kind}

-- the words of commands in a row
pub words_then : (c d : Coms) → coms_words (then c d) ≡ coms_words c ++ coms_words d
words_then c d = rw flatten_then (words_append (flatten c) (flatten d))

-- not stands behind its expression
pub inv_words : (e : Expr) → expr_words (inv e) ≡ expr_words e ++ (coded not_kind 0 0 ∷ [])
unfolding expr_words expr_coms flatten words command_word com_word
inv_words e = words_then (expr_coms e) _

-- the words of a construct and of a path are those of their parts
pub make_is : (k : ℕ) (es : Exprs) → expr_words (make k es) ≡ make_words (k, es)
unfolding expr_words expr_coms make_words
make_is k es = refl

-- cons stands behind the arguments
pub cons_words : (k : ℕ) (es : Exprs) → make_words (k, es) ≡ args_words es ++ (coded cons_kind 0 k ∷ [])
unfolding make_words args_words flatten words command_word com_word
cons_words k es = words_then (args_coms es) _

pub path_is : (v : Var) (vs : List ℕ) → expr_words (path v vs) ≡ path_words (v, vs)
unfolding expr_words expr_coms path_words
path_is v vs = refl

-- an operator stands behind its operands
pub op_words : (o : Op) (a b : Expr) → expr_words (op o a b) ≡ expr_words a ++ (expr_words b ++ (coded op_kind 0 (op_code o) ∷ []))
unfolding expr_words expr_coms flatten words command_word com_word
op_words o a b = words_then (expr_coms a) _ ∙ ap (λ l. coms_words (expr_coms a) ++ l) (words_then (expr_coms b) _)

-- the arguments stand in order
pub no_args : args_words none ≡ []
unfolding args_words args_coms flatten words
no_args = refl

pub more_args : (e : Expr) (es : Exprs) → args_words (more e es) ≡ expr_words e ++ args_words es
unfolding args_words expr_words args_coms
more_args e es = words_then (expr_coms e) (args_coms es)

-- the condition, `if n`, the n body commands
pub if_words : (e : Expr) (b : Stmts) → when_words (e, b) ≡ expr_words e ++ block_words b
unfolding when_words block_words stmt_words expr_words body_words stmt_coms flatten commands words command_word
if_words e b =
    words_then (expr_coms e) _
    ∙ rw (append-nil (flatten (body_coms b)), ← words_length (flatten (body_coms b)))

-- the expression, then the path
pub updating_words : (v : Var) (vs : List ℕ) (e : Expr) → update_words ((v, vs), e) ≡ expr_words e ++ target_words (v, vs)
unfolding update_words stmt_words expr_words target_words stmt_coms update_coms
updating_words v vs e = words_then (expr_coms e) _

-- the expression, push this, a wr of the local
pub declaring_words : (t : Ty) (x : ℕ) (e : Expr) → declare_words (t, (x, e)) ≡ expr_words e ++ (coded this_kind 0 0 ∷ coded wr_kind 0 (first_local + x) ∷ [])
unfolding declare_words stmt_words expr_words stmt_coms update_coms front last reads then flatten words command_word com_word var_code
declaring_words t x e = words_then (expr_coms e) _

-- the words of a statement are those of its parts
pub when_is : (p : Expr × Stmts) → stmt_words (when p.0 p.1) ≡ when_words p
unfolding when_words
when_is p = refl

pub declare_is : (p : Ty × (ℕ × Expr)) → stmt_words (declare p.0 p.1.0 p.1.1) ≡ declare_words p
unfolding declare_words
declare_is p = refl

pub update_is : (p : (Var × List ℕ) × Expr) → stmt_words (update p.0.0 p.0.1 p.1) ≡ update_words p
unfolding update_words
update_is p = refl

pub create_is : (p : ℕ × Exprs) → stmt_words (create p.0 p.1) ≡ make_words p
unfolding stmt_words stmt_coms make_words
create_is p = refl

-- the statements stand in order
pub no_stmts : body_words end ≡ []
unfolding body_words commands body_coms flatten words
no_stmts = refl

pub more_stmts : (t : Stmt) (b : Stmts) → body_words (next t b) ≡ stmt_words t ++ body_words b
unfolding body_words stmt_words commands body_coms
more_stmts t b = words_then (stmt_coms t) (body_coms b)

-- an rd of each variable
abbrev rds : List ℕ → List ℕ
rds xs = map (coded rd_kind 0) xs

reads_words : (xs : List ℕ) → coms_words (reads xs) ≡ rds xs
unfolding reads flatten words command_word com_word
reads_words [] = refl
reads_words (x ∷ xs) = ap (λ l. coded rd_kind 0 x ∷ l) (reads_words xs)

-- off the bytes
pub rds_of : {s xs : List ℕ} {n m : ℕ} → Stands s n xs m → rd_words s n (length xs) ≡ rds xs
unfolding rd_words
rds_of done = refl
rds_of (letter h e p) = rw (e, rds_of p)

-- all but the last, and the last, off the bytes
front_of : (x : ℕ) (xs : List ℕ) {s : List ℕ} {n m : ℕ} → Stands s n (x ∷ xs) m
    → (rd_words s n (length xs) ≡ rds (front x xs)) × (get_or s (n + length xs) 0 ≡ last x xs)
unfolding rd_words front last
front_of x [] (letter h e p) = (refl, rw add-zero e)
front_of x (y ∷ ys) (letter {n = n} h e p) =
    let q = front_of y ys p in
    let i : n + suc (length ys) ≡ n + 1 + length ys = omega arith in
    (rw (e, q.0), rw i q.1)

-- a path that is read, off its bytes
pub path_off : (v : Var) (vs : List ℕ) {s : List ℕ} {n m : ℕ} → Stands s n (var_code v ∷ vs) m
    → path_words (v, vs) ≡ coded this_kind 0 0 ∷ rd_words s n (suc (length vs))
unfolding path_words flatten words command_word com_word
path_off v vs w = ap (λ l. coded this_kind 0 0 ∷ l) (reads_words (var_code v ∷ vs) ∙ sym (rds_of w))

target_split : (v : Var) (vs : List ℕ)
    → target_words (v, vs) ≡ coded this_kind 0 0 ∷ (rds (front (var_code v) vs) ++ (coded wr_kind 0 (last (var_code v) vs) ∷ []))
unfolding target_words then flatten words command_word com_word
target_split v vs = ap (λ l. coded this_kind 0 0 ∷ l) (words_then (reads (front (var_code v) vs)) _ ∙ rw (reads_words (front (var_code v) vs)))

-- a path that is written, off its bytes
pub target_off : (v : Var) (vs : List ℕ) {s : List ℕ} {n m : ℕ} → Stands s n (var_code v ∷ vs) m
    → target_words (v, vs) ≡ coded this_kind 0 0 ∷ (rd_words s n (length vs) ++ (coded wr_kind 0 (get_or s (n + length vs) 0) ∷ []))
target_off v vs w = let q = front_of (var_code v) vs w in target_split v vs ∙ rw (q.0, q.1)
