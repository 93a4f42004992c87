-- What is computed of a step's body is right: 7 where a name is wrong, else 8 where a type is (01, numbers 7 and 8). On the way
-- the types of locals are those declared so far; where names are right they are the step's.
use Rattle.std.specs.Prelude.{ℕ, ◌<◌, ◌≤◌, Bool, true, false, not, ◌&&◌, ◌||◌, List, [], ◌++◌, ◌≡◌, refl, length, get_or, eqb}
use Rattle.std.proofs.Common.{zero-add, ap, ◌∙◌, sym, eqb-true}
use Rattle.std.proofs.Math.Bool.{and-true}
use Rattle.std.proofs.lemmas.Bool.{false≢true}
use Rattle.types.specs.Limits.{max_structs, max_locals}
use Rattle.types.specs.Types.{Ty, Ty.int, Ty.bool, code}
use Rattle.program.specs.Tree.{Stmt, Stmt.when, Stmt.declare, Stmt.update, Stmt.create, Stmts, Stmts.end, Stmts.next, Program}
use Rattle.program.specs.Counts.{IsPath, CountsStmt, CountsStmts}
use Rattle.commands.specs.Context.{Ctx, body_local, context}
use Rattle.commands.specs.Names.{declares, live_after}
use Rattle.commands.specs.Decide.{member}
use Rattle.commands.specs.Decide.NamesDecide.{stmt_named, body_named}
use Rattle.commands.specs.Decide.TypingDecide.{is_of, expr_type, stmt_typed, body_typed}
use Rattle.judge.specs.Facts.{worst, named, digit, no_locals, stmt_facts, body_facts}
use Rattle.judge.specs.Verdicts.{Says, Says.misnamed, Says.right, Tables, tagged, flag, Living, Fits, LocalsStmt, Locals}
use Rattle.judge.proofs.Laws.FaultLaws.{says_as, says_both, says_named}
use Rattle.judge.proofs.Laws.ExprFactsLaws.{wanted, agree_says, path_shows, expr_shows, args_says}
use Rattle.judge.proofs.Laws.LocalLaws.{step_locals}
use Rattle.judge.proofs.Laws.ScopeLaws.{types_after, stmt_fits, fits_none}
use Rattle.judge.specs.declared.Scope.{Scope}
use Rattle.judge.specs.Unfold.{body_judging}

-- a fault that says of names what b does, and under a condition of types what t does
record Told (A : Type 0) (f : ℕ) (b t : Bool) : Type 0 where
  met : Bool
  found : Says f b met
  meant : A → Says f b t

told_both : {A B C : Type 0} {f g : ℕ} {a b t u : Bool} → (C → A) → (C → B) → Told A f a t → Told B g b u → Told C (worst f g) (a && b) (t && u)
told_both h k p q = record {
  met = p.met && q.met;
  found = says_both p.found q.found;
  meant = λ c. says_both (p.meant (h c)) (q.meant (k c));
}

-- where names are wrong a fault says nothing of types
settle : {A : Type 0} {f : ℕ} (b : Bool) {t : Bool} → (b ≡ true → A) → Told A f b t → Says f b t
settle true h p = p.meant (h refl)
settle {f = f} false h p = go p.found
  where
    go : {u t : Bool} → Says f false u → Says f false t
    go (misnamed e) = misnamed e

-- two tables of types agree on these locals
abbrev Agrees : List ℕ → (ℕ → Ty) → (ℕ → Ty) → Type 0
Agrees live L M = (x : ℕ) → member x live ≡ true → L x ≡ M x

living_as : (w : ℕ) (live : List ℕ) (L M : ℕ → Ty) → Living w live L → Agrees live L M → Living w live M
living_as w live L M l a x h = l x h ∙ go (member x live) refl
  where
    go : (b : Bool) → member x live ≡ b → tagged b (L x) ≡ tagged b (M x)
    go true e = rw (a x e)
    go false e = refl

-- they do so behind a statement whose declarations have the second's types
agrees_after : (s : Stmt) (live : List ℕ) (L M : ℕ → Ty) → Agrees live L M → LocalsStmt M s → Agrees (live_after s live) (types_after s live L) M
unfolding LocalsStmt member
agrees_after (when e b) live L M a h = a
agrees_after (declare t x e) live L M a h = λ y m. go y (member y live) refl (eqb y x) refl m
  where
    go : (y : ℕ) (p : Bool) → member y live ≡ p → (q : Bool) → eqb y x ≡ q → (q || p) ≡ true
        → elim p [ true ↦ L y | false ↦ elim q [ true ↦ t | false ↦ L y ] ] ≡ M y
    go y true e q f g = a y e
    go y false e true f g = h ∙ ap M (sym (eqb-true y x f))
    go y false e false f g = absurd (false≢true g)
agrees_after (update v vs e) live L M a h = a
agrees_after (create k es) live L M a h = a

-- the context with other types of locals
abbrev at : Ctx → (ℕ → Ty) → Ctx
at G L = record { params = G.params; own = G.own; local = L }

module _ {cs ar types : List ℕ} {G : Ctx} (T : Tables cs ar types G) (few : length cs ≤ max_structs) where
  abbrev own_params : ℕ
  own_params = length (G.params G.own)

  same : (L : ℕ → Ty) → Tables cs ar types (at G L)
  same L = record { counts = T.counts; arities = T.arities; codes = T.codes }

  -- a declared local is fresh
  fresh : {c : Scope} {live seen : List ℕ} {L : ℕ → Ty} (x : ℕ) → x < max_locals → Fits c live seen L
      → Says (named (eqb (digit c.seen x) 0)) (not (member x seen)) true
  fresh {c} {live} {seen} x h f = rw (f.marked x h) (go (member x seen))
    where
      go : (b : Bool) → Says (named (eqb (flag b) 0)) (not b) true
      go true = says_named false
      go false = says_named true

  mutual
    unfolding body_judging CountsStmt CountsStmts IsPath LocalsStmt Locals code

    stmt_told : (s : Stmt) → CountsStmt cs s → (c : Scope) (live seen : List ℕ) (L M : ℕ → Ty) → Fits c live seen L
        → Told (Agrees live L M × LocalsStmt M s) (stmt_facts ar types G.own s c).fault (stmt_named s own_params live seen) (stmt_typed (at G M) s)
    stmt_told (when e b) n c live seen L M f =
        told_both {A = Agrees live L M × Unit {0}} (λ h. (h.0, tt)) (λ h. h)
        (record {
          met = _;
          found = wanted bool refl (expr_shows (same L) c.live live f.living e n.0);
          meant = λ h. wanted bool refl (expr_shows (same M) c.live live (living_as c.live live L M f.living h.0) e n.0);
        })
        (body_told b n.3 c live seen L M f)
    stmt_told (declare t x e) n c live seen L M f = record {
      met = _;
      found = says_both (wanted t refl (expr_shows (same L) c.live live f.living e n.2)) (fresh x n.1 f);
      meant = λ h.
          says_as refl (and-true (is_of t (expr_type (at G M) e)))
          (says_both
          (wanted t refl (expr_shows (same M) c.live live (living_as c.live live L M f.living h.0) e n.2))
          (fresh x n.1 f));
    }
    stmt_told (update v vs e) n c live seen L M f = record {
      met = _;
      found = agree_says (path_shows (same L) c.live live f.living v vs n.0.0) (expr_shows (same L) c.live live f.living e n.1);
      meant = λ h.
          let l = living_as c.live live L M f.living h.0 in
          agree_says (path_shows (same M) c.live live l v vs n.0.0) (expr_shows (same M) c.live live l e n.1);
    }
    stmt_told (create k es) n c live seen L M f = record {
      met = _;
      found = args_says (same L) c.live live f.living es n.2 k 0 (G.params k) (n.1 ∙ T.counts k) (λ i h. rw zero-add (T.codes k i h));
      meant = λ h.
          args_says (same M) c.live live (living_as c.live live L M f.living h.0) es n.2 k 0 (G.params k) (n.1 ∙ T.counts k)
          (λ i h. rw zero-add (T.codes k i h));
    }

    body_told : (b : Stmts) → CountsStmts cs b → (c : Scope) (live seen : List ℕ) (L M : ℕ → Ty) → Fits c live seen L
        → Told (Agrees live L M × Locals M b) (body_facts ar types G.own b c).fault (body_named b own_params live seen) (body_typed (at G M) b)
    body_told end n c live seen L M f = record { met = true; found = right refl; meant = λ h. right refl }
    body_told (next s b) n c live seen L M f =
        told_both (λ h. (h.0, h.1.0)) (λ h. (agrees_after s live L M h.0 h.1.0, h.1.1)) (stmt_told s n.0 c live seen L M f)
        (body_told b n.1 (stmt_facts ar types G.own s c).after (live_after s live) (declares s ++ seen) (types_after s live L) M
        (stmt_fits ar types G.own cs few s n.0 f))

-- the fault of a step's body is 7 where a name is wrong, else 8 where a type is, else 0
pub step_says : (p : Program) (k : ℕ) (b : Stmts) {cs ar types : List ℕ} → Tables cs ar types (context p k b) → length cs ≤ max_structs → CountsStmts cs b
    → Says (body_facts ar types k b no_locals).fault (body_named b (length (get_or p.params k [])) [] []) (body_typed (context p k b) b)
step_says p k b T few n =
    let L : ℕ → Ty = λ x. body_local b x int in
    let m : ℕ = length (get_or p.params k []) in
    settle (body_named b m [] []) (λ e. (λ x h. refl, step_locals b m e)) (body_told T few b n no_locals [] [] L L (fits_none L))
