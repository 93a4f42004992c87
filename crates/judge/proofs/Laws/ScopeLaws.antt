-- The two numbers for the locals of a step (01, number 7) go with the lists of living and of declared locals, and fit 64 bits.
use Rattle.std.specs.Prelude.{ℕ, suc, ◌^◌, ◌<◌, ◌≤◌, Bool, true, false, ◌||◌, List, [], ◌∷◌, ◌++◌, ◌≡◌, refl, length, eqb}
use Rattle.std.proofs.Common.{arith, ap, ◌∙◌, sym, eqb-true}
use Rattle.std.proofs.Math.Bool.{or-true}
use Rattle.std.proofs.lemmas.Bool.{eqb-false}
use Rattle.types.specs.Limits.{max_structs}
use Rattle.types.specs.Types.{Ty, Ty.int, Ty.nat, Ty.bool, Ty.ref, code, IsType}
use Rattle.program.specs.Tree.{Stmt, Stmt.when, Stmt.declare, Stmt.update, Stmt.create, Stmts, Stmts.end, Stmts.next}
use Rattle.program.specs.Counts.{CountsStmt, CountsStmts}
use Rattle.commands.specs.Names.{declares, declared, live_after}
use Rattle.commands.specs.Decide.{member}
use Rattle.judge.specs.Facts.{digit, mark, no_locals, branched, declared as declaring, updated, created, followed, stmt_facts, body_facts}
use Rattle.judge.specs.Verdicts.{tagged, flag, Living, Marked, Fits}
use Rattle.judge.proofs.Laws.DigitLaws.{digit_zero, digit_same, digit_held, digit_other, mark_bound}
use Rattle.judge.proofs.Laws.LocalLaws.{member_append}
use Rattle.judge.specs.declared.Scope.{Scope}

-- the byte of a type of a program, and one more, is a digit
pub code_digit : (S : ℕ) (t : Ty) → S ≤ max_structs → IsType S t → suc (code t) < 256
unfolding code
code_digit S int l h = omega arith
code_digit S nat l h = omega arith
code_digit S bool l h = omega arith
code_digit S (ref k) l h = omega arith

-- one of two numbers
abbrev pick : Bool → ℕ → ℕ → ℕ
pick true a b = a
pick false a b = b

-- each digit after a mark, by whether it was there
mark_digit : (w x v y : ℕ) (m : Bool) (d : ℕ) → v < 256 → (d ≡ 0 → ⊥) → digit w y ≡ pick m d 0
    → digit (mark w x v) y ≡ pick (eqb y x || m) (pick m d v) 0
mark_digit w x v y true d h n e = rw or-true (digit_held w x v y (λ z. n (sym e ∙ z)) h ∙ e)
mark_digit w x v y false d h n e = go (eqb y x) refl
  where
    go : (q : Bool) → eqb y x ≡ q → digit (mark w x v) y ≡ pick (q || false) v 0
    go true q =
        let p = eqb-true y x q in
        ap (digit (mark w x v)) p ∙ digit_same w x v (ap (digit w) (sym p) ∙ e) h
    go false q = digit_other w x v y (eqb-false y x q) h ∙ e

-- the types behind a declaration of x: where it lived already, nothing changes
abbrev pub retyped : Ty → ℕ → List ℕ → (ℕ → Ty) → ℕ → Ty
retyped t x live L y = elim (member y live) [ true ↦ L y | false ↦ elim (eqb y x) [ true ↦ t | false ↦ L y ] ]

abbrev pub types_after : Stmt → List ℕ → (ℕ → Ty) → ℕ → Ty
types_after (when e b) live L = L
types_after (declare t x e) live L = retyped t x live L
types_after (update v vs e) live L = L
types_after (create k es) live L = L

-- a local declared lives
living_mark : (w x : ℕ) (t : Ty) (live : List ℕ) (L : ℕ → Ty) → suc (code t) < 256 → Living w live L
    → Living (mark w x (suc (code t))) (x ∷ live) (retyped t x live L)
unfolding member
living_mark w x t live L h l y k = go (member y live) (l y k)
  where
    go : (m : Bool) → digit w y ≡ tagged m (L y)
        → digit (mark w x (suc (code t))) y ≡ tagged (eqb y x || m) (elim m [ true ↦ L y | false ↦ elim (eqb y x) [ true ↦ t | false ↦ L y ] ])
    go true e = mark_digit w x (suc (code t)) y true (suc (code (L y))) h (λ z. omega arith) e ∙ rw or-true
    go false e = mark_digit w x (suc (code t)) y false 1 h (λ z. omega arith) e ∙ at (eqb y x)
      where
        at : (q : Bool) → pick (q || false) (suc (code t)) 0 ≡ tagged (q || false) (elim q [ true ↦ t | false ↦ L y ])
        at true = refl
        at false = refl

marked_mark : (w x : ℕ) (seen : List ℕ) → Marked w seen → Marked (mark w x 1) (x ∷ seen)
unfolding member
marked_mark w x seen l y k = go (member y seen) (l y k)
  where
    go : (m : Bool) → digit w y ≡ flag m → digit (mark w x 1) y ≡ flag (eqb y x || m)
    go true e = mark_digit w x 1 y true 1 (omega arith) (λ z. omega arith) e ∙ rw or-true
    go false e = mark_digit w x 1 y false 1 (omega arith) (λ z. omega arith) e ∙ at (eqb y x)
      where
        at : (q : Bool) → pick (q || false) 1 0 ≡ flag (q || false)
        at true = refl
        at false = refl

swap : (a b c : Bool) → (b || (a || c)) ≡ ((a || b) || c)
swap true b c = or-true b
swap false b c = refl

-- one of three lists, in another order
pub swapped : (x : ℕ) (a b c : List ℕ) → member x (b ++ (a ++ c)) ≡ member x ((a ++ b) ++ c)
swapped x a b c = rw (member_append x b (a ++ c), member_append x a c, member_append x (a ++ b) c, member_append x a b)
    (swap (member x a) (member x b) (member x c))

module _ (ar types : List ℕ) (own : ℕ) where
  mutual
    unfolding stmt_facts body_facts declares declared branched declaring updated created followed

    -- what statements declare is declared behind them
    pub stmt_marked : (s : Stmt) (c : Scope) (seen : List ℕ) → Marked c.seen seen → Marked (stmt_facts ar types own s c).after.seen (declares s ++ seen)
    stmt_marked (when e b) c seen m = body_marked b c seen m
    stmt_marked (declare t x e) c seen m = marked_mark c.seen x seen m
    stmt_marked (update v vs e) c seen m = m
    stmt_marked (create k es) c seen m = m

    pub body_marked : (b : Stmts) (c : Scope) (seen : List ℕ) → Marked c.seen seen → Marked (body_facts ar types own b c).after.seen (declared b ++ seen)
    body_marked end c seen m = m
    body_marked (next s b) c seen m = λ x h.
        body_marked b (stmt_facts ar types own s c).after (declares s ++ seen) (stmt_marked s c seen m) x h
        ∙ ap flag (swapped x (declares s) (declared b) seen)

  module _ (cs : List ℕ) (few : length cs ≤ max_structs) where
    -- a scope goes with its lists behind a statement
    pub stmt_fits : (s : Stmt) → CountsStmt cs s → {c : Scope} {live seen : List ℕ} {L : ℕ → Ty} → Fits c live seen L
        → Fits (stmt_facts ar types own s c).after (live_after s live) (declares s ++ seen) (types_after s live L)
    unfolding stmt_facts branched declaring updated created CountsStmt
    stmt_fits (when e b) n {c} {live} {seen} f = record { living = f.living; marked = stmt_marked (when e b) c seen f.marked }
    stmt_fits (declare t x e) n {c} {live} {seen} {L} f = record {
      living = living_mark c.live x t live L (code_digit (length cs) t few n.0) f.living;
      marked = stmt_marked (declare t x e) c seen f.marked;
    }
    stmt_fits (update v vs e) n {c} {live} {seen} f = record { living = f.living; marked = stmt_marked (update v vs e) c seen f.marked }
    stmt_fits (create k es) n {c} {live} {seen} f = record { living = f.living; marked = stmt_marked (create k es) c seen f.marked }

    mutual
      unfolding stmt_facts body_facts branched declaring updated created followed CountsStmt CountsStmts

      -- both numbers stay below 256 ^ 8
      pub stmt_bounded : (s : Stmt) → CountsStmt cs s → (c : Scope) → c.live < 256 ^ 8 → c.seen < 256 ^ 8
          → ((stmt_facts ar types own s c).after.live < 256 ^ 8) × ((stmt_facts ar types own s c).after.seen < 256 ^ 8)
      stmt_bounded (when e b) n c l m = (l, (body_bounded b n.3 c l m).1)
      stmt_bounded (declare t x e) n c l m =
          (mark_bound c.live x (suc (code t)) l n.1 (code_digit (length cs) t few n.0), mark_bound c.seen x 1 m n.1 (omega arith))
      stmt_bounded (update v vs e) n c l m = (l, m)
      stmt_bounded (create k es) n c l m = (l, m)

      pub body_bounded : (b : Stmts) → CountsStmts cs b → (c : Scope) → c.live < 256 ^ 8 → c.seen < 256 ^ 8
          → ((body_facts ar types own b c).after.live < 256 ^ 8) × ((body_facts ar types own b c).after.seen < 256 ^ 8)
      body_bounded end n c l m = (l, m)
      body_bounded (next s b) n c l m =
          let q = stmt_bounded s n.0 c l m in
          body_bounded b n.1 (stmt_facts ar types own s c).after q.0 q.1

-- at the start nothing lives
pub fits_none : (L : ℕ → Ty) → Fits no_locals [] [] L
unfolding member
fits_none L = record { living = λ x h. digit_zero x; marked = λ x h. digit_zero x }
