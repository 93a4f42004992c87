-- The variables of a program that a derivation means are named right (02 §1; 01, number 7): a path begins with a parameter or a living local, and a local is
-- declared once in its step. So 7 is left to steps: one that stands twice in a struct, or a call of one that is not there.
use Rattle.std.specs.Prelude.{ℕ, ◌<◌, ◌≤◌, ◌≡◌, refl, length}
use Rattle.std.proofs.Common.{arith, inl, inr}
use mathlib.Core.List.Memᴰ
use mathlib.Core.List.{List, [], ◌∷◌, ◌++◌, map, Memᴰ}
use Rattle.program.specs.Tree.{Var as Variable, Expr, Exprs, Stmt, Stmts, Step as NamedStep}
use Rattle.program.specs.Counts.{All}
use Rattle.commands.specs.Names.{Starts as NamedStart, Names, NamesAll, declares, declared, live_after, NamedStmt, Named}
use Rattle.commands.proofs.Laws.RangeLaws.{all_append}
use Rattle.syntax.specs.Syntax.{Id, TypeName, Literal, Var, Exp, Exps, Stat, Stats, Par, Step, Struct}
use Rattle.meaning.specs.Scope.{Found, Found.here, Found.later, Local, local_id, local_number}
use Rattle.meaning.specs.Means.{LiteralMeans, LiteralMeans.int_means, LiteralMeans.nat_means, LiteralMeans.true_means, LiteralMeans.false_means}
use Rattle.meaning.specs.Means.{Starts, Starts.a_parameter, Starts.a_local, PathMeans, PathMeans.alone, PathMeans.behind}
use Rattle.meaning.specs.Means.{ExpMeans, ExpMeans.binary_means, ExpMeans.brackets_mean, ExpMeans.negation_means, ExpMeans.constructor_means}
use Rattle.meaning.specs.Means.{ExpMeans.variable_means, ExpMeans.literal_means, ExpMeans.null_means, ExpMeans.this_means}
use Rattle.meaning.specs.Means.{ExpsMean, ExpsMean.no_exps_mean, ExpsMean.exps_mean}
use Rattle.meaning.specs.Means.{StatMeans, StatMeans.if_means, StatMeans.assignment_means, StatMeans.update_means, StatMeans.construct_means}
use Rattle.meaning.specs.Means.{StatsMean, StatsMean.no_stats_mean, StatsMean.stats_mean, StepMeans, StepMeans.step_means}

-- what is found stands in its row
found_below : {A : Type 0} {key : A → Id} {x : Id} {i : ℕ} {a : A} {l : List A} → Found key x i a l → i < length l
found_below (here e) = omega arith
found_below (later f q) = omega (arith, found_below q)

living : {x : Id} {i : ℕ} {l : Local} {alive : List Local} → Found local_id x i l alive → Memᴰ (local_number l) (map local_number alive)
living (here e) = Memᴰ.head refl
living (later f q) = Memᴰ.tail (living q)

-- where all are below a number, so is a member, and all are below a larger one
below_member : {n x : ℕ} (l : List ℕ) → All (λ k. k < n) l → Memᴰ x l → x < n
below_member [] h m = absurd (Memᴰ.not-nil m)
below_member (y ∷ l) h m = elim (Memᴰ.cases_cons m) [ inl e ↦ rw e h.0 | inr k ↦ below_member l h.1 k ]

all_below : {n m : ℕ} (l : List ℕ) → n ≤ m → All (λ k. k < n) l → All (λ k. k < m) l
all_below [] h a = tt
all_below (k ∷ l) h a = (omega (arith, a.0), all_below l h a.1)

literal_named : {l : Literal} {c : Expr} (n : ℕ) (live : List ℕ) → LiteralMeans l c → Names c n live
unfolding Names
literal_named n live (int_means h) = tt
literal_named n live (nat_means h) = tt
literal_named n live true_means = tt
literal_named n live false_means = tt

module _ (ds : List Struct) (own : List Par) where
  abbrev numbers : List Local → List ℕ
  numbers alive = map local_number alive

  start_named : {alive : List Local} {x : Id} {u : Variable} {t : TypeName} → Starts ds own alive x u t → NamedStart (length own) (numbers alive) u
  start_named (a_parameter f) = found_below f
  start_named (a_local g f) = living f

  path_named : {alive : List Local} {v : Var} {u : Variable} {vs : List ℕ} → PathMeans ds own alive v u vs → NamedStart (length own) (numbers alive) u
  path_named (alone s) = start_named s
  path_named (behind s r f) = start_named s

  mutual
    unfolding Names

    exp_named : {alive : List Local} {e : Exp} {c : Expr} → ExpMeans ds own alive e c → Names c (length own) (numbers alive)
    exp_named (binary_means a b) = (exp_named a, exp_named b)
    exp_named (brackets_mean a) = exp_named a
    exp_named (negation_means a) = exp_named a
    exp_named (constructor_means f a e) = exps_named a
    exp_named (variable_means p) = path_named p
    exp_named (literal_means l) = literal_named _ _ l
    exp_named (null_means t) = tt
    exp_named this_means = tt

    exps_named : {alive : List Local} {es : Exps} {cs : Exprs} → ExpsMean ds own alive es cs → NamesAll cs (length own) (numbers alive)
    exps_named no_exps_mean = tt
    exps_named (exps_mean a b) = (exp_named a, exps_named b)

  -- the locals declared so far are numbered below those to come
  mutual
    unfolding NamedStmt declares local_number

    stat_named : {alive after : List Local} {met met' : List Id} {t : Stat} {u : Stmt} → StatMeans ds own alive met t u after met' → (seen : List ℕ)
        → All (λ k. k < length met) seen
        → (NamedStmt u (length own) (numbers alive) seen) × (length met ≤ length met') × (All (λ k. k < length met') (declares u))
        × (numbers after ≡ live_after u (numbers alive))
    stat_named (if_means e b) seen h = let q = stats_named b seen h in ((exp_named e, q.0), q.1, q.2, refl)
    stat_named (assignment_means t a o n e) seen h =
        ((exp_named e, λ m. absurd (let k = below_member seen h m in omega (arith, n, k))), omega arith, (omega (arith, n), tt), refl)
    stat_named (update_means p e) seen h = ((path_named p, exp_named e), omega arith, tt, refl)
    stat_named (construct_means f a e) seen h = (exps_named a, omega arith, tt, refl)

    pub stats_named : {alive last : List Local} {met met'' : List Id} {b : Stats} {c : Stmts} → StatsMean ds own alive met b c last met'' → (seen : List ℕ)
        → All (λ k. k < length met) seen
        → (Named c (length own) (numbers alive) seen) × (length met ≤ length met'') × (All (λ k. k < length met'') (declared c))
    stats_named no_stats_mean seen h = (tt, omega arith, tt)
    stats_named (stats_mean {met' = met'} {u = u} {c = c} s b) seen h =
        let p = stat_named s seen h in
        let all = all_append (λ k. k < length met') (declares u) seen p.2 (all_below seen p.1 h) in
        let q = stats_named b (declares u ++ seen) all in
        ((p.0, rw (← p.3) q.0), omega (arith, p.1, q.1), all_append _ (declares u) (declared c) (all_below (declares u) q.1 p.2) q.2)

-- the variables of a step are named right
pub step_named : {ds : List Struct} {names : List Id} {own : List Par} {t : Step} {u : NamedStep} → StepMeans ds names own t u
    → Named u.body (length own) [] []
step_named {ds = ds} {own = own} (step_means f b) = (stats_named ds own b [] tt).0
