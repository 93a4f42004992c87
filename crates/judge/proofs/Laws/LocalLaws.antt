-- Where names are right, each local has the type of its one declaration (01, 'Names, types, commands'; number 7).
use Rattle.std.specs.Prelude.{ℕ, Bool, true, false, not, ◌&&◌, ◌||◌, List, [], ◌∷◌, ◌++◌, ◌≡◌, refl, eqb}
use Rattle.std.proofs.Math.Bool.{or-true, or_assoc}
use Rattle.std.proofs.Common.{true≢false, ap, ◌∙◌, sym, eq-eqb, eqb-true}
use Rattle.std.proofs.lemmas.Bool.{false≢true}
use Rattle.types.specs.Types.{Ty, Ty.int}
use Rattle.program.specs.Tree.{Stmt, Stmt.when, Stmt.declare, Stmt.update, Stmt.create, Stmts, Stmts.end, Stmts.next}
use Rattle.commands.specs.Context.{stmt_local, body_local}
use Rattle.commands.specs.Names.{declares, declared, live_after}
use Rattle.commands.specs.Decide.{member}
use Rattle.commands.specs.Decide.NamesDecide.{expr_named, stmt_named, body_named}
use Rattle.judge.specs.Verdicts.{LocalsStmt, Locals}

-- Truth values ---------------------------------------------------------------------

pub and_left : (a b : Bool) → (a && b) ≡ true → a ≡ true
and_left true b e = refl
and_left false b e = e

pub and_right : (a b : Bool) → (a && b) ≡ true → b ≡ true
and_right true b e = e
and_right false b e = absurd (false≢true e)

or_left : (a b : Bool) → (a || b) ≡ false → a ≡ false
or_left true b e = e
or_left false b e = refl

or_right : (a b : Bool) → (a || b) ≡ false → b ≡ false
or_right true b e = absurd (true≢false e)
or_right false b e = e

both_false : (a b : Bool) → a ≡ false → b ≡ false → (a || b) ≡ false
both_false a b p q = rw (p, q)

-- one of two lists joined is one of either
pub member_append : (x : ℕ) (a b : List ℕ) → member x (a ++ b) ≡ (member x a || member x b)
unfolding member
member_append x [] b = refl
member_append x (y ∷ a) b = ap (λ m. eqb x y || m) (member_append x a b) ∙ sym (or_assoc (eqb x y) (member x a) (member x b))

-- The one declaration --------------------------------------------------------------

mutual
  unfolding stmt_local body_local declares declared member

  -- a local that statements do not declare has the type that it had
  stmt_absent : (s : Stmt) (x : ℕ) (d : Ty) → member x (declares s) ≡ false → stmt_local s x d ≡ d
  stmt_absent (when e b) x d n = body_absent b x d n
  stmt_absent (declare t y e) x d n = ap (λ q. elim q [ true ↦ t | false ↦ d ]) (or_left (eqb x y) false n)
  stmt_absent (update v vs e) x d n = refl
  stmt_absent (create k es) x d n = refl

  body_absent : (b : Stmts) (x : ℕ) (d : Ty) → member x (declared b) ≡ false → body_local b x d ≡ d
  body_absent end x d n = refl
  body_absent (next s b) x d n =
      let m = sym (member_append x (declares s) (declared b)) ∙ n in
      stmt_absent s x _ (or_left (member x (declares s)) (member x (declared b)) m)
      ∙ body_absent b x d (or_right (member x (declares s)) (member x (declared b)) m)

mutual
  unfolding stmt_named body_named declares declared member

  -- what was declared is not declared again where names are right
  stmt_unseen : (s : Stmt) (n : ℕ) (live seen : List ℕ) (x : ℕ) → stmt_named s n live seen ≡ true → member x seen ≡ true → member x (declares s) ≡ false
  stmt_unseen (when e b) n live seen x h m = body_unseen b n live seen x (and_right (expr_named e n live) (body_named b n live seen) h) m
  stmt_unseen (declare t y e) n live seen x h m = go (eqb x y) refl
    where
      go : (q : Bool) → eqb x y ≡ q → (q || false) ≡ false
      go true q =
          let d : member y seen ≡ true = rw (← eqb-true x y q) m in
          absurd (false≢true (ap not (sym d) ∙ and_right (expr_named e n live) (not (member y seen)) h))
      go false q = refl
  stmt_unseen (update v vs e) n live seen x h m = refl
  stmt_unseen (create k es) n live seen x h m = refl

  body_unseen : (b : Stmts) (n : ℕ) (live seen : List ℕ) (x : ℕ) → body_named b n live seen ≡ true → member x seen ≡ true → member x (declared b) ≡ false
  body_unseen end n live seen x h m = refl
  body_unseen (next s b) n live seen x h m =
      let r = body_named b n (live_after s live) (declares s ++ seen) in
      let l = member_append x (declares s) seen ∙ ap (λ q. member x (declares s) || q) m ∙ or-true (member x (declares s)) in
      member_append x (declares s) (declared b)
      ∙ both_false (member x (declares s)) (member x (declared b)) (stmt_unseen s n live seen x (and_left (stmt_named s n live seen) r h) m)
      (body_unseen b n (live_after s live) (declares s ++ seen) x (and_right (stmt_named s n live seen) r h) l)

-- a table that has, for each local that a statement declares, the type read off it; the same of statements
abbrev ReadsStmt : (ℕ → Ty) → Stmt → Type 0
ReadsStmt L s = (x : ℕ) → member x (declares s) ≡ true → (d : Ty) × (L x ≡ stmt_local s x d)

abbrev Reads : (ℕ → Ty) → Stmts → Type 0
Reads L b = (x : ℕ) → member x (declared b) ≡ true → (d : Ty) × (L x ≡ body_local b x d)

mutual
  unfolding stmt_named body_named declares declared member stmt_local body_local LocalsStmt Locals

  -- has the type of each declaration, where names are right
  stmt_types : (s : Stmt) (n : ℕ) (live seen : List ℕ) (L : ℕ → Ty) → stmt_named s n live seen ≡ true → ReadsStmt L s → LocalsStmt L s
  stmt_types (when e b) n live seen L h r = body_types b n live seen L (and_right (expr_named e n live) (body_named b n live seen) h) r
  stmt_types (declare t x e) n live seen L h r =
      let q = r x (ap (λ m. m || false) (eq-eqb x x refl)) in
      sym (q.1 ∙ ap (λ m. elim m [ true ↦ t | false ↦ q.0 ]) (eq-eqb x x refl))
  stmt_types (update v vs e) n live seen L h r = tt
  stmt_types (create k es) n live seen L h r = tt

  body_types : (b : Stmts) (n : ℕ) (live seen : List ℕ) (L : ℕ → Ty) → body_named b n live seen ≡ true → Reads L b → Locals L b
  body_types end n live seen L h r = tt
  body_types (next s b) n live seen L h r =
      let q = body_named b n (live_after s live) (declares s ++ seen) in (
        stmt_types s n live seen L (and_left (stmt_named s n live seen) q h) first,
        body_types b n (live_after s live) (declares s ++ seen) L (and_right (stmt_named s n live seen) q h) (later (and_right (stmt_named s n live seen) q h)),
      )
    where
      first : ReadsStmt L s
      first x m =
          let q = r x (member_append x (declares s) (declared b) ∙ ap (λ a. a || member x (declared b)) m) in
          (body_local b x q.0, q.1)

      -- what b declares s does not
      later : body_named b n (live_after s live) (declares s ++ seen) ≡ true → Reads L b
      later g x m =
          let q = r x (member_append x (declares s) (declared b) ∙ ap (λ a. member x (declares s) || a) m ∙ or-true (member x (declares s))) in
          (q.0, q.1 ∙ stmt_absent s x (body_local b x q.0) (go (member x (declares s)) refl))
        where
          go : (a : Bool) → member x (declares s) ≡ a → member x (declares s) ≡ false
          go false e = e
          go true e =
              absurd (true≢false (sym m
              ∙ body_unseen b n (live_after s live) (declares s ++ seen) x g (member_append x (declares s) seen ∙ ap (λ a. a || member x seen) e)))

-- the types that a step declares are those of its declarations where its names are right
pub step_locals : (b : Stmts) (n : ℕ) → body_named b n [] [] ≡ true → Locals (λ x. body_local b x int) b
step_locals b n h = body_types b n [] [] (λ x. body_local b x int) h (λ x m. (int, refl))
