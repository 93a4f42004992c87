-- The pass over the roles of statements goes on behind them with their numbers, with the locals that are alive there and the names that are declared; it finds
-- nothing where they mean nothing, or declare more locals than there are numbers for.
use Rattle.std.specs.Prelude.{ℕ, ◌+◌, ◌≡◌, Bool, length, ltb}
use Rattle.std.proofs.Math.Path.{refl}
use Rattle.std.proofs.Common.{ap, true≢false}
use Rattle.std.proofs.Math.Bool.{true, false}
use mathlib.Core.List.{List, [], ◌∷◌, ◌++◌, map}
use Rattle.std.proofs.Math.Option.{Option, none, some}
use Rattle.types.specs.Limits.{first_local, max_locals}
use Rattle.types.specs.Types.{Ty, code}
use Rattle.program.specs.Tree.{Expr, Stmt, Stmt.when, Stmt.declare, Stmt.update as update_of, Stmt.create, Stmts, Stmts.next}
use Rattle.program.specs.Encoding.{var_code}
use Rattle.tokens.specs.Tokens.{Word.w_then, Sign.semicolon, Sign.assign, Token.word, Token.sign}
use Rattle.syntax.specs.Syntax.{Id, TypeName, Struct, Var, Exp, Exps, Stat, Stat.if_then, Stat.assignment, Stat.update, Stat.construct, Stats, Stats.no_stats}
use Rattle.syntax.specs.Syntax.{Stats.stats}
use Rattle.meaning.specs.Scope.{par_id, Local, Local.declared}
use Rattle.meaning.specs.Finding.{absent}
use Rattle.meaning.specs.Meant.{then, provided, type_meaning, Behind, exp_meaning, stat_meaning, stats_meaning}
use Rattle.text_shape.specs.Roles.{Naming.first_written, Naming.made_statement, Part.then_open, Part.then_close, Role.plain, Role.part, roles_var, roles_exp}
use Rattle.text_shape.specs.Roles.{roles_stat, roles_stats}
use Rattle.resolve.specs.Passing.{Pass, leaves, lives, dies, declares, pass, passes, pass_part, pass_name, pass_token, pass_type}
use Rattle.resolve.specs.Numbers.{expr_numbers, stmt_numbers, stmts_numbers, few_stmt, few_stmts}
use Rattle.resolve.specs.Outcomes.{onto, onto_both, built, Outcome, Outcome.fails, Outcome.goes, never, followed, made_of, past}
use Rattle.resolve.specs.Laws.PassingLaws.{told_to, told, told_both, var_told, make_told, exp_told, closed_told}

-- between statements: other locals are alive, other names are declared, and numbers are told
unfoldable pub lived : Pass → List Local → List Id → List ℕ → TypeName → Pass
unfolding onto
lived p a m ns t =
    record {
      left = p.left;
      own = p.own;
      alive = a;
      fresh = [];
      met = m;
      type = t;
      dues = p.dues;
      bodies = p.bodies;
      out = onto ns p.out;
    }

pub lived_both : (p : Pass) (a b : List Local) (m n : List Id) (ms ns : List ℕ) (t u : TypeName) → lived (lived p a m ms t) b n ns u ≡ lived p b n (ms ++ ns) u
unfolding lived
lived_both p a b m n ms ns t u =
    ap (λ o. record { left = p.left; own = p.own; alive = b; fresh = []; met = n; type = u; dues = p.dues; bodies = p.bodies; out = o })
    (onto_both ms ns p.out)

-- no declaration is open
abbrev pub calm : Pass → Pass
calm p = lived p p.alive p.met [] p.type

-- behind a statement; behind a body
abbrev at_stat : Pass → Behind Stmt → TypeName → Pass
at_stat p r t = lived p r.alive r.met (stmt_numbers r.tree) t

abbrev pub at_body : Pass → Behind Stmts → TypeName → Pass
at_body p r t = lived p r.alive r.met (stmts_numbers r.tree) t

module _ (ds : List Struct) (names : List Id) where
  abbrev Stated : Pass → Stat → Type 0
  Stated p s =
      Outcome ds names (λ r. few_stmt r.tree) (at_stat p) (stat_meaning ds p.own s p.alive p.met) (λ k. passes ds names (roles_stat s k) (calm p))

  abbrev pub Bodied : Pass → Stats → Type 0
  Bodied p b =
      Outcome ds names (λ r. few_stmts r.tree) (at_body p) (stats_meaning ds p.own b p.alive p.met)
      (λ k. passes ds names (roles_stats b k) (calm p))

  construct_told : (p : Pass) (x : Id) (es : Exps) → Stated p (construct x es)
  unfolding roles_stat stat_meaning stmt_numbers few_stmt pass pass_name pass_token lives lived told_to onto
  construct_told p x es =
      past ds names {final = at_stat p} (plain (sign semicolon)) (λ r t. refl)
      (make_told ds names (calm p) made_statement x es (λ k cs. record { tree = create k cs; alive = p.alive; met = p.met }) (λ k cs. refl) refl
      (closed_told ds names es) (λ k cs t. refl))

  update_told : (p : Pass) (v : Var) (e : Exp) → Stated p (update v e)
  unfolding roles_stat stat_meaning stmt_numbers few_stmt passes pass pass_name pass_token then lives lived told_to onto
  update_told p v e =
      followed ds names (calm p) (roles_var first_written v) (λ k. plain (sign assign) ∷ roles_exp e (plain (sign semicolon) ∷ k))
      (λ u y. absurd (true≢false y))
      (var_told ds names (calm p) first_written (λ x. refl) v)
      (λ u t y. past ds names {final = at_stat p} (plain (sign semicolon)) (λ r w. refl)
      (made_of ds names (λ c. record { tree = update_of u.first u.rest c; alive = p.alive; met = p.met }) (λ c. refl)
      (exp_told ds names e (told (calm p) (var_code u.first ∷ u.rest) t))
      (λ c w. told_both (calm p) p.dues p.dues (var_code u.first ∷ u.rest) (expr_numbers c) t w)))

  -- the state in an if's body, and behind it
  if_told : (p : Pass) (e : Exp) (b : Stats) → ((q : Pass) → Bodied q b) → Stated p (if_then e b)
  unfolding roles_stat stat_meaning stmt_numbers few_stmt passes pass pass_part pass_token then lives dies lived told_to onto
  if_told p e b h =
      followed ds names (calm p) (roles_exp e) (λ k. plain (word w_then) ∷ part then_open ∷ roles_stats b (part then_close ∷ k)) (λ c y. absurd (true≢false y))
      (exp_told ds names e (calm p))
      (λ c t y. made_of ds names (λ r. record { tree = when c r.tree; alive = p.alive; met = r.met }) (λ r. refl)
      (past ds names {final = at_body (inside c t)} {last = behind c t} (part then_close) (λ r u. refl) (h (inside c t)))
      (λ r u. lived_both p p.alive p.alive p.met r.met (expr_numbers c) (stmts_numbers r.tree) t u))
    where
      inside : Expr → TypeName → Pass
      inside c t = lives (told (calm p) (expr_numbers c) t) p.alive [] p.met (p.alive ∷ p.bodies)

      behind : Expr → TypeName → Behind Stmts → TypeName → Pass
      behind c t r u = lived (told (calm p) (expr_numbers c) t) p.alive r.met (stmts_numbers r.tree) u

  module _ (p : Pass) (t : TypeName) (x : Id) (e : Exp) where
    -- behind the name of a local that is declared
    inner : Ty → Pass
    inner u =
        lives (leaves (leaves (calm p) t (code u)) t (first_local + length p.met)) p.alive (declared x (length p.met) t ∷ []) (x ∷ p.met) p.bodies

    tree_of : Ty → Expr → Behind Stmt
    tree_of u c = record { tree = declare u (length p.met) c; alive = declared x (length p.met) t ∷ p.alive; met = x ∷ p.met }

    assignment_on : (u : Ty) (n : Bool) → ltb (length p.met) max_locals ≡ n
        → Outcome ds names (λ r. few_stmt r.tree) (at_stat p) (then (exp_meaning ds p.own p.alive e) (λ c. some (tree_of u c)))
        (λ k. then (provided n (some (inner u))) (passes ds names (roles_exp e (plain (sign semicolon) ∷ k))))
    unfolding tree_of inner stmt_numbers few_stmt passes pass pass_token then provided leaves lives lived told_to onto
    assignment_on u true y =
        made_of ds names (tree_of u) (λ c. y)
        (past ds names {last = λ c. at_stat p (tree_of u c)} (plain (sign semicolon)) (λ c w. refl) (exp_told ds names e (inner u))) (λ c w. refl)
    assignment_on u false y =
        never ds names _ (λ r f. built (λ r. few_stmt r.tree ≡ false) (exp_meaning ds p.own p.alive e) (tree_of u) (λ c. y) r f) (λ k. refl)

    assignment_told : Stated p (assignment t x e)
    unfolding roles_stat stat_meaning passes pass pass_name pass_type pass_token then provided declares leaves lives lived onto tree_of inner
    assignment_told = go (type_meaning ds t) refl
      where
        own : (u : Ty) → type_meaning ds t ≡ some u → absent x p.met ≡ true → (b : Bool) → absent x (map par_id p.own) ≡ b → Stated p (assignment t x e)
        own u f a true g = rw (f, a, g) (assignment_on u _ refl)
        own u f a false g = rw (f, a, g) (fails (λ k. refl))

        met : (u : Ty) → type_meaning ds t ≡ some u → (b : Bool) → absent x p.met ≡ b → Stated p (assignment t x e)
        met u f true a = own u f a _ refl
        met u f false a = rw (f, a) (fails (λ k. refl))

        go : (o : Option Ty) → type_meaning ds t ≡ o → Stated p (assignment t x e)
        go none f = rw f (fails (λ k. refl))
        go (some u) f = met u f _ refl

  -- Bodies ------------------------------------------------------------------------------------------

  stats_none : (p : Pass) → Bodied p no_stats
  unfolding roles_stat stat_meaning stmt_numbers few_stmt lived onto
  stats_none p = goes refl p.type (λ k. refl)

  stats_more : (p : Pass) (s : Stat) (b : Stats) → Stated p s → ((q : Pass) → Bodied q b) → Bodied p (stats s b)
  unfolding roles_stat stat_meaning stmt_numbers few_stmt then lived
  stats_more p s b r h =
      followed ds names (calm p) (roles_stat s) (roles_stats b)
      (λ a y. built (λ q. few_stmts q.tree ≡ false) (stats_meaning ds p.own b a.alive a.met) (tree_of a) (λ q. rw y refl)) r
      (λ a t y. made_of ds names (tree_of a) (λ q. rw y refl) (h (at_stat p a t))
      (λ q u. lived_both p a.alive q.alive a.met q.met (stmt_numbers a.tree) (stmts_numbers q.tree) t u))
    where
      tree_of : Behind Stmt → Behind Stmts → Behind Stmts
      tree_of a q = record { tree = next a.tree q.tree; alive = q.alive; met = q.met }

  mutual
    stat_told : (s : Stat) (p : Pass) → Stated p s
    stat_told (if_then e b) p = if_told p e b (λ q. stats_told b q)
    stat_told (assignment t x e) p = assignment_told p t x e
    stat_told (update v e) p = update_told p v e
    stat_told (construct x es) p = construct_told p x es

    pub stats_told : (b : Stats) (p : Pass) → Bodied p b
    stats_told no_stats p = stats_none p
    stats_told (stats s b) p = stats_more p s b (stat_told s p) (λ q. stats_told b q)
