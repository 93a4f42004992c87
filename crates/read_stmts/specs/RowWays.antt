-- Each turn of the loop that reads statements in a row (01, 'Program stream'): what was read so far is totalled up, and what is left
-- is read behind it.
use Rattle.std.specs.Prelude.{Ok, Err, ℕ, ◌-◌, ◌≤◌, ◌≡◌, refl, List, length}
use native.Mathlib.Omega.{arith}
use Rattle.std.proofs.Math.Path.{ap, sym, subst}
use Rattle.std.proofs.Common.{◌∙◌}
use Rattle.program.specs.Tree.{Stmt, Stmts, Stmts.end, Stmts.next}
use Rattle.program.specs.Reader.{Result, Result.ok, Result.bad, many, ranged, read_body}
use Rattle.answers.specs.Answers.{Answer, answer}
use Rattle.answers.specs.AnswerLaws.{row_none, row_stop, row_more}
use Rattle.read_exprs.specs.Told.{byte_told}
use Rattle.judge.specs.declared.Scope.{Scope}
use Rattle.judge.specs.declared.Done.{Done}
use Rattle.judge.specs.Facts.{nothing, followed, stmt_facts, body_facts}
use Rattle.judge.proofs.Laws.FollowLaws.{followed_assoc, nothing_followed, followed_nothing, stmt_low}
use Rattle.read_stmts.specs.Done.{done, DoneAhead, DoneWithin}
use Rattle.read_stmts.specs.StmtWays.{done_is, body_is}

-- as high as the labels that are left, for as many bytes as were read
pub record Read (s : List ℕ) (at next : ℕ) (d : Done) : Type 0 where
  pub within : DoneWithin {E = ℕ} s at (Ok (next, d))
  pub low : d.growth ≤ d.height

pub nothing_read : (s : List ℕ) (c : Scope) (at : ℕ) → at ≤ length s → Read s at at (nothing c)
nothing_read s c at h = record { within = omega arith; low = omega arith }

module _ (ar types s : List ℕ) (own : ℕ) (r : ℕ → Result Stmt) where
  -- n statements from the place at on, behind those that d tells of
  abbrev pub row : Done → ℕ → ℕ → Answer Done
  row d n at = answer (λ b. followed d (body_facts ar types own b d.after)) (many end next r n at)

  abbrev one : Done → Stmt → Done
  one d t = stmt_facts ar types own t d.after

  abbrev total : Done → Stmts → Done
  total d b = followed d (body_facts ar types own b d.after)

  goes : (d : Done) (t : Stmt) (b : Stmts) → total d (next t b) ≡ total (followed d (one d t)) b
  unfolding body_facts followed
  goes d t b = sym (followed_assoc d (one d t) (body_facts ar types own b (one d t).after))

  -- none so far
  pub row_begins : (c : Scope) (n at : ℕ) → row (nothing c) n at ≡ answer (λ b. body_facts ar types own b c) (many end next r n at)
  row_begins c n at = go (many end next r n at)
    where
      go : (q : Result Stmts) → answer (λ b. followed (nothing c) (body_facts ar types own b c)) q ≡ answer (λ b. body_facts ar types own b c) q
      go (ok b m) = ap (λ t. Ok (m, t)) (nothing_followed c (body_facts ar types own b c))
      go (bad p k) = refl

  -- a count, and so many statements
  pub body_row : (c : Scope) (d : Done) (at n m : ℕ) → d ≡ nothing c → byte_told (ranged s 0 33 at) ≡ Ok (n, m)
      → row d n m ≡ done (λ b. body_facts ar types own b c) (read_body ar s r at)
  body_row c d at n m i e = ap (λ d. row d n m) i ∙ row_begins c n m ∙ sym (body_is ar types s own c r at n m e)

  module _ (d : Done) (n at : ℕ) where
    -- none left
    pub row_ends : n ≡ 0 → d.growth ≤ d.height → row d n at ≡ Ok (at, d)
    unfolding body_facts
    row_ends e l = row_none end next r one followed total goes d n at e ∙ ap (λ t. Ok (at, t)) (followed_nothing d l)

    -- the next one is refused
    pub row_refused : (n ≡ 0 → ⊥) → (i : ℕ) → done (one d) (r at) ≡ Err i → row d n at ≡ Err i
    row_refused z i e = row_stop end next r one followed total goes d n at z i e

    -- or read
    pub row_goes : (n ≡ 0 → ⊥) → (m : ℕ) (a : Done) → done (one d) (r at) ≡ Ok (m, a) → row d n at ≡ row (followed d a) (n - 1) m
    row_goes z m a e = row_more end next r one followed total goes d n at z m a e

    pub more_read : (from m : ℕ) (a : Done) → done (one d) (r at) ≡ Ok (m, a) → DoneAhead {E = ℕ} s at (Ok (m, a))
        → Read s from at d → Read s from m (followed d a)
    unfolding followed
    more_read from m a e h q =
        let (t, _, f) = done_is (one d) (r at) m a e in
        let l : a.growth ≤ a.height = subst (λ x. x.growth ≤ x.height) f (stmt_low ar types own t d.after) in
        let w = q.within in
        record { within = omega arith; low = omega arith }
