-- Each way through the readers of statements (01, 'Program stream'): what the code answers is what is read and computed there.
use Prim.Native.Nat.{ℕ, zero, suc, ◌+◌, ◌-◌, ◌<◌, ◌≤◌}
use Rattle.std.proofs.Common.{sub-one}
use Rattle.std.specs.Prelude.{Ok, Err, ◌≡◌, length, get_or}
use Rattle.std.proofs.Math.Path.{refl}
use mathlib.Core.List.{List}
use Rattle.types.specs.Types.{Ty, code}
use Rattle.program.specs.Tree.{Var, Expr, Exprs, Stmt, Stmts, Stmts.end, Stmts.next}
use Rattle.types.specs.TypeBytes.{is_type}
use Rattle.program.specs.Reader.{Result, Result.ok, Result.bad, then, pair, made, many, lookup, Kind, Kind.kind_when, Kind.kind_declare}
use Rattle.program.specs.Reader.{Kind.kind_update, Kind.kind_create, Kind.kind_none, kind, tested, opened, ranged, counted, read_local}
use Rattle.program.specs.Reader.{read_path, read_make, read_expr, read_body, read_when, read_declare, read_update, rule_stmt, read_stmt}
use Rattle.program.proofs.Laws.StmtLaws.{OpensStmt, opens_stmt}
use Rattle.answers.specs.Answers.{Answer, after}
use Rattle.answers.specs.AnswerLaws.{answer_is, answer_stops, answer_made}
use Rattle.judge.specs.declared.Judged.{Judged}
use Rattle.judge.specs.declared.Facts.{Facts}
use Rattle.judge.specs.declared.Scope.{Scope}
use Rattle.judge.specs.declared.Done.{Done}
use Rattle.judge.specs.Facts.{path_of, expr_facts, constructed, branched, declared, updated, created, stmt_facts, body_facts}
use Rattle.read_exprs.specs.Told.{told, byte_told, path_told, made_facts}
use Rattle.read_exprs.specs.ByteWays.{byte_out, byte_in, byte_is, byte_stops, type_read, type_stops}
use Rattle.read_exprs.specs.PathWays.{path_read, path_stops}
use Rattle.read_exprs.specs.ExprWays.{told_is, told_stops}
use Rattle.read_stmts.specs.Done.{done, labelled, read_named, local_facts, declare_facts, update_facts, create_facts, when_facts}

-- what is made of what was read is computed of it
pub done_made : {A B : Type 0} (f : B → Done) (g : A → B) (r : Result A) → done f (made g r) ≡ done (λ a. f (g a)) r
done_made f g r = answer_made f g r

-- what was read, from what was answered
pub done_is : {A : Type 0} (f : A → Done) (r : Result A) (m : ℕ) (d : Done) → done f r ≡ Ok (m, d) → (a : A) × (r ≡ ok a m) × (f a ≡ d)
done_is f r m d e = answer_is f r m d e

pub done_stops : {A : Type 0} (f : A → Done) (r : Result A) (n : ℕ) → done f r ≡ Err n → (p : ℕ) × (r ≡ bad p n)
done_stops f r n e = answer_stops f r n e

-- a byte that opens no statement
pub no_kind : (b : ℕ) → (b ≡ 1 → ⊥) → (b ≡ 2 → ⊥) → (b ≡ 3 → ⊥) → (b ≡ 4 → ⊥) → kind b ≡ kind_none
no_kind b p q r t = go (kind b) (opens_stmt b)
  where
    go : (k : Kind) → OpensStmt b k → k ≡ kind_none
    go kind_when o = absurd (p o)
    go kind_declare o = absurd (q o)
    go kind_update o = absurd (r o)
    go kind_create o = absurd (t o)
    go kind_none o = refl

module _ (ar types s : List ℕ) (own : ℕ) (c : Scope) where
  abbrev E : Expr → Facts
  E e = expr_facts ar types own c.live e

  abbrev S : Stmt → Done
  S t = stmt_facts ar types own t c

  abbrev B : Stmts → Done
  B b = body_facts ar types own b c

  module _ (at : ℕ) where
    -- a declaration's local, which is not read, or is, with its value behind it
    pub local_stop : (t n : ℕ) → byte_told (ranged s 8 16 at) ≡ Err n → done (local_facts ar types own c t) (read_named ar s at) ≡ Err n
    unfolding read_named pair read_local made then
    local_stop t n e = rw (byte_stops (ranged s 8 16 at) n e).1

    pub local_is : (t x m : ℕ) → byte_told (ranged s 8 16 at) ≡ Ok (x, m)
        → done (local_facts ar types own c t) (read_named ar s at) ≡ after (declared c t (x - 8)) (told E (read_expr ar s 16 m))
    unfolding read_named pair read_local made then
    local_is t x m e = rw (byte_is (ranged s 8 16 at) x m e) (go (read_expr ar s 16 m))
      where
        go : (r : Result Expr) → done (local_facts ar types own c t) (then r λ e k. ok (x - 8, e) k) ≡ after (declared c t (x - 8)) (told E r)
        go (ok e k) = refl
        go (bad p k) = refl

    -- its type
    pub declare_stop : (n : ℕ) → byte_told (tested s (is_type (length ar)) at) ≡ Err n
        → done (declare_facts ar types own c) (read_declare ar s at) ≡ Err n
    unfolding read_declare pair then
    declare_stop n e = rw (type_stops s (length ar) at n e).1

    pub declare_is : (b m : ℕ) → byte_told (tested s (is_type (length ar)) at) ≡ Ok (b, m)
        → done (declare_facts ar types own c) (read_declare ar s at) ≡ done (local_facts ar types own c b) (read_named ar s m)
    unfolding read_declare read_named pair then
    declare_is b m e =
        let q = type_read s (length ar) at b m e in
        rw q.1 (go q.0 q.2 (read_named ar s m))
      where
        go : (t : Ty) → code t ≡ b → (r : Result (ℕ × Expr))
            → done (declare_facts ar types own c) (then r λ p k. ok (t, p) k) ≡ done (local_facts ar types own c b) r
        go t h (ok p k) = rw h
        go t h (bad p k) = refl

    -- an update's path, which is not read, or is, with the value behind it
    pub update_stop : (n : ℕ) → path_told (path_of ar types own c.live) (read_path s at) ≡ Err n
        → done (update_facts ar types own c) (read_update ar s at) ≡ Err n
    unfolding read_update pair then
    update_stop n e = rw (path_stops (path_of ar types own c.live) (read_path s at) n e).1

    pub update_is : (m n : ℕ) (j : Judged) → path_told (path_of ar types own c.live) (read_path s at) ≡ Ok (m, n, j)
        → done (update_facts ar types own c) (read_update ar s at) ≡ after (updated c n j) (told E (read_expr ar s 16 m))
    unfolding read_update pair then
    update_is m n j e =
        let q = path_read (path_of ar types own c.live) (read_path s at) m n j e in
        rw q.1 (go q.0 q.2 q.3 (read_expr ar s 16 m))
      where
        go : (p : Var × List ℕ) → suc (length p.1) ≡ n → path_of ar types own c.live p.0 p.1 ≡ j → (r : Result Expr)
            → done (update_facts ar types own c) (then r λ e k. ok (p, e) k) ≡ after (updated c n j) (told E r)
        go p h i (ok e k) = rw (h, i)
        go p h i (bad u k) = refl

    -- a construct's label stays
    pub create_is : (r : Result (ℕ × Exprs)) → done (create_facts ar types own c) r ≡ after (labelled c) (told (made_facts ar types own c.live) r)
    unfolding created constructed
    create_is (ok p m) = refl
    create_is (bad p n) = refl

  -- behind the byte of a statement, where w reads what stands behind that of an if
  module _ (w : ℕ → ℕ → Result (Expr × Stmts)) (p at : ℕ) where
    abbrev R : ℕ → Result Stmt
    R b = rule_stmt ar s w p at (kind b)

    pub rule_when : (b : ℕ) → b ≡ 1 → done S (R b) ≡ done (when_facts ar types own c) (w p at)
    unfolding kind lookup rule_stmt stmt_facts
    rule_when b e = rw e (done_made S _ (w p at))

    pub rule_declare : (b : ℕ) → b ≡ 2 → done S (R b) ≡ done (declare_facts ar types own c) (read_declare ar s at)
    unfolding kind lookup rule_stmt stmt_facts
    rule_declare b e = rw e (done_made S _ (read_declare ar s at))

    pub rule_update : (b : ℕ) → b ≡ 3 → done S (R b) ≡ done (update_facts ar types own c) (read_update ar s at)
    unfolding kind lookup rule_stmt stmt_facts
    rule_update b e = rw e (done_made S _ (read_update ar s at))

    pub rule_create : (b : ℕ) → b ≡ 4 → done S (R b) ≡ done (create_facts ar types own c) (read_make ar s (read_expr ar s 16) at)
    unfolding kind lookup rule_stmt stmt_facts
    rule_create b e = rw e (done_made S _ (read_make ar s (read_expr ar s 16) at))

    pub rule_none : (b : ℕ) → (b ≡ 1 → ⊥) → (b ≡ 2 → ⊥) → (b ≡ 3 → ⊥) → (b ≡ 4 → ⊥) → done S (R b) ≡ Err 5
    unfolding rule_stmt
    rule_none b h i j k = rw (no_kind b h i j k)

  -- an if and its body, whose statements r reads
  module _ (r : ℕ → Result Stmt) (at : ℕ) where
    pub when_stop : (n : ℕ) → told E (read_expr ar s 16 at) ≡ Err n → done (when_facts ar types own c) (read_when ar s r at) ≡ Err n
    unfolding read_when pair then
    when_stop n e = rw (told_stops E (read_expr ar s 16 at) n e).1

    pub when_is : (m : ℕ) (f : Facts) → told E (read_expr ar s 16 at) ≡ Ok (m, f)
        → done (when_facts ar types own c) (read_when ar s r at) ≡ after (branched c f) (done B (read_body ar s r m))
    unfolding read_when pair then
    when_is m f e =
        let q = told_is E (read_expr ar s 16 at) m f e in
        rw q.1 (go q.0 q.2 (read_body ar s r m))
      where
        go : (e : Expr) → E e ≡ f → (q : Result Stmts) → done (when_facts ar types own c) (then q λ b k. ok (e, b) k) ≡ after (branched c f) (done B q)
        go e h (ok b k) = rw h
        go e h (bad u k) = refl

    pub body_stop : (n : ℕ) → byte_told (ranged s 0 33 at) ≡ Err n → done B (read_body ar s r at) ≡ Err n
    unfolding read_body counted then
    body_stop n e = rw (byte_stops (ranged s 0 33 at) n e).1

    pub body_is : (n m : ℕ) → byte_told (ranged s 0 33 at) ≡ Ok (n, m) → done B (read_body ar s r at) ≡ done B (many end next r n m)
    unfolding read_body counted then
    body_is n m e = rw (byte_is (ranged s 0 33 at) n m e)

  -- a statement with at most d levels of if: past the end, with no if, with an if at the level below, with an if
  pub stmt_out : (d at : ℕ) → length s ≤ at → done S (read_stmt ar s d at) ≡ Err 4
  unfolding read_stmt opened then
  stmt_out zero at h = rw (byte_out s at h)
  stmt_out (suc d) at h = rw (byte_out s at h)

  module _ (d at : ℕ) where
    pub stmt_simple : at < length s → (q : Answer Done)
        → ((w : ℕ → ℕ → Result (Expr × Stmts)) (p : ℕ) → q ≡ done S (rule_stmt ar s w p (at + 1) (kind (get_or s at 0))))
        → q ≡ done S (read_stmt ar s d at)
    unfolding read_stmt opened then
    stmt_simple h q f = go d
      where
        go : (d : ℕ) → q ≡ done S (read_stmt ar s d at)
        go zero = rw (byte_in s at h) (f _ at)
        go (suc d) = rw (byte_in s at h) (f _ at)

    pub stmt_deep : at < length s → get_or s at 0 ≡ 1 → d ≡ 0 → done S (read_stmt ar s d at) ≡ Err 5
    unfolding read_stmt opened then
    stmt_deep h e z = rw (z, byte_in s at h) (rule_when _ at (at + 1) _ e)

    pub stmt_when : at < length s → get_or s at 0 ≡ 1 → (d ≡ 0 → ⊥)
        → done S (read_stmt ar s d at) ≡ done (when_facts ar types own c) (read_when ar s (read_stmt ar s (d - 1)) (at + 1))
    unfolding read_stmt opened then
    stmt_when h e z = go d z
      where
        go : (d : ℕ) → (d ≡ 0 → ⊥) → done S (read_stmt ar s d at) ≡ done (when_facts ar types own c) (read_when ar s (read_stmt ar s (d - 1)) (at + 1))
        go zero z = absurd (z refl)
        go (suc d) z = rw (byte_in s at h, sub-one) (rule_when (λ p k. read_when ar s (read_stmt ar s d) k) at (at + 1) _ e)
