-- What a text means is in range, where its declarations and its locals are few.
use Rattle.std.specs.Prelude.{ℕ, suc, ◌<◌, ◌≤◌, ◌≡◌, refl, true, List, [], ◌∷◌, map, ℤ, pos, negsuc, length, get_or}
use native.Mathlib.Omega.{arith}
use Rattle.std.proofs.Common.{sym, ap, ◌∙◌, ltb-true}
use Rattle.types.specs.Limits.{max_structs, max_params, nat_end, first_local, max_locals, step_names as max_names}
use Rattle.types.specs.Types.{Ty, IsType}
use Rattle.types.specs.Values.{IntRange, int_word}
use Rattle.program.specs.Tree.{Var as Variable, Expr, Exprs, Stmt, Stmts, Item as Call, Items, Step as Named, Program, items}
use Rattle.program.specs.Counts.{All, Few, IsVar}
use Rattle.tokens.proofs.Laws.ByteLaws.{both_true}
use Rattle.syntax.specs.Syntax.{Id, TypeName, Literal, Var, Exp, Exps, Stat, Stats, Par, Step, Struct, Item, Sched, Defs, Defs.last_struct, Defs.defs}
use Rattle.syntax.specs.Syntax.{Program.program}
use Rattle.meaning.specs.Scope.{Found, Found.here, Found.later, Each, Each.no_more, Each.and_then, par_id, struct_id, pars_of, structs_of, Local}
use Rattle.meaning.specs.Scope.{local_number}
use Rattle.meaning.specs.StepNames.{step_names}
use Rattle.meaning.specs.HoldsDecide.{all}
use Rattle.meaning.specs.Means.{LiteralMeans, LiteralMeans.int_means, LiteralMeans.nat_means, LiteralMeans.true_means, LiteralMeans.false_means}
use Rattle.meaning.specs.Means.{TypeMeans, TypeMeans.int_is, TypeMeans.nat_is, TypeMeans.bool_is, TypeMeans.struct_is, Refers, Refers.refers}
use Rattle.meaning.specs.Means.{Further, Further.last, Further.goes_on, Starts, Starts.a_parameter, Starts.a_local, PathMeans, PathMeans.alone}
use Rattle.meaning.specs.Means.{PathMeans.behind}
use Rattle.meaning.specs.Means.{ExpMeans, ExpMeans.binary_means, ExpMeans.brackets_mean, ExpMeans.negation_means, ExpMeans.constructor_means}
use Rattle.meaning.specs.Means.{ExpMeans.variable_means, ExpMeans.literal_means, ExpMeans.null_means, ExpMeans.this_means, ExpsMean, ExpsMean.no_exps_mean}
use Rattle.meaning.specs.Means.{ExpsMean.exps_mean}
use Rattle.meaning.specs.Means.{StatMeans, StatMeans.if_means, StatMeans.assignment_means, StatMeans.update_means, StatMeans.construct_means}
use Rattle.meaning.specs.Means.{StatsMean, StatsMean.no_stats_mean, StatsMean.stats_mean, ParMeans, ParMeans.par_means, ParsMean, ParsMean.pars_mean}
use Rattle.meaning.specs.Means.{StepMeans, StepMeans.step_means, StepsMean, StepsMean.steps_mean, ItemMeans, ItemMeans.execution_means, ItemMeans.typed_means}
use Rattle.meaning.specs.Means.{ItemMeans.fix_means, SchedMeans, SchedMeans.last_means, SchedMeans.barrier_means, Means, Means.means}
use Rattle.resolve.specs.Numbers.{few_stmt, few_stmts, few_step, few_steps}
use Rattle.compose.specs.Ranged.{RangedPath, RangedExpr, RangedExprs, RangedStmt, RangedStmts, RangedStep, RangedItem, RangedItems, Ranged}

-- Places and rows ----------------------------------------------------------------------------------------

found_below : {A : Type 0} {key : A → Id} {x : Id} {k : ℕ} {a : A} {l : List A} → Found key x k a l → k < length l
found_below (here e) = omega arith
found_below (later n f) = let h = found_below f in omega (arith, h)

found_has : {A : Type 0} {key : A → Id} {x : Id} {k : ℕ} {a : A} {l : List A} (C : A → Type 0) → Found key x k a l → All C l → C a
found_has C (here e) h = h.0
found_has C (later n f) h = found_has C f h.1

each_long : {A B : Type 0} {R : A → B → Type 0} {l : List A} {m : List B} → Each R l m → length m ≡ length l
each_long no_more = refl
each_long (and_then r s) = ap suc (each_long s)

word_below : (z : ℤ) → IntRange z → int_word z < nat_end
unfolding int_word
word_below (pos n) h = omega arith
word_below (negsuc n) h = omega arith

abbrev FewPars : Struct → Type 0
FewPars d = length (pars_of d) ≤ max_params

abbrev Small : List Local → Type 0
Small l = All (λ x. local_number x < max_locals) l

-- Types ---------------------------------------------------------------------------------------------------

type_ranged : {ds : List Struct} {n : ℕ} {t : TypeName} {u : Ty} → n ≡ length ds → TypeMeans ds t u → IsType n u
type_ranged e int_is = tt
type_ranged e nat_is = tt
type_ranged e bool_is = tt
type_ranged e (struct_is f) = let h = found_below f in omega (arith, h, e)

types_ranged : {ds : List Struct} {n : ℕ} {l : List Par} {us : List Ty} → n ≡ length ds → Each (ParMeans ds) l us → All (IsType n) us
types_ranged e no_more = tt
types_ranged e (and_then (par_means p) r) = (type_ranged e p, types_ranged e r)

params_ranged : {ds l : List Struct} {n : ℕ} {us : List (List Ty)} → n ≡ length ds → All FewPars l → Each (ParsMean ds) l us
    → All (Few 0 max_params (IsType n)) us
params_ranged e f no_more = tt
params_ranged e f (and_then (pars_mean d q) r) = let h = each_long q in ((omega arith, omega (arith, h, f.0), types_ranged e q), params_ranged e f.1 r)

-- the number of parameters of a struct that is found
arity : {ds l : List Struct} {us : List (List Ty)} {x : Id} {k : ℕ} {d : Struct} → Each (ParsMean ds) l us → Found struct_id x k d l
    → get_or (map length us) k 0 ≡ length (pars_of d)
arity (and_then (pars_mean n q) r) (here e) = each_long q
arity (and_then m r) (later n f) = arity r f
arity {ds = ds} {k = k} {d = d} no_more x8 = elim x8 [ ]

-- Expressions and statements ------------------------------------------------------------------------------

module _ (ds : List Struct) (us : List (List Ty)) (each : Each (ParsMean ds) ds us) (few : All FewPars ds) where
  abbrev ar : List ℕ
  ar = map length us

  long : length ar ≡ length ds
  long = lengths us ∙ each_long each
    where
      lengths : (l : List (List Ty)) → length (map length l) ≡ length l
      lengths [] = refl
      lengths (a ∷ l) = ap suc (lengths l)

  struct_below : {x : Id} {k : ℕ} {d : Struct} → Found struct_id x k d ds → k < length ar
  struct_below f = let h = found_below f in omega (arith, h, long)

  refers_few : {t : TypeName} {d : Struct} → Refers ds t d → FewPars d
  refers_few (refers f) = found_has FewPars f few

  par_below : {own : List Par} {x : Id} {i : ℕ} {q : Par} → length own ≤ max_params → Found par_id x i q own → i < first_local
  par_below l f = let h = found_below f in omega (arith, h)

  further_ranged : {d : Struct} {v : Var} {vs : List ℕ} → FewPars d → Further ds d v vs → All (λ x. x < first_local) vs
  further_ranged l (last f) = (par_below l f, tt)
  further_ranged l (goes_on f r g) = (par_below l f, further_ranged (refers_few r) g)

  literal_ranged : {l : Literal} {c : Expr} → LiteralMeans l c → RangedExpr ar c
  unfolding RangedExpr
  literal_ranged (int_means h) = word_below _ h
  literal_ranged (nat_means h) = h
  literal_ranged true_means = omega arith
  literal_ranged false_means = omega arith

  module _ (own : List Par) (few_own : length own ≤ max_params) where
    start_ranged : {alive : List Local} {x : Id} {u : Variable} {t : TypeName} → Small alive → Starts ds own alive x u t → IsVar u
    unfolding IsVar
    start_ranged s (a_parameter f) = par_below few_own f
    start_ranged s (a_local n f) = found_has (λ x. local_number x < max_locals) f s

    path_ranged : {alive : List Local} {v : Var} {u : Variable} {vs : List ℕ} → Small alive → PathMeans ds own alive v u vs → RangedPath u vs
    unfolding RangedPath
    path_ranged s (alone p) = (start_ranged s p, tt)
    path_ranged s (behind p r g) = (start_ranged s p, further_ranged (refers_few r) g)

    mutual
      unfolding RangedExpr RangedExprs

      exp_ranged : {alive : List Local} {e : Exp} {c : Expr} → Small alive → ExpMeans ds own alive e c → RangedExpr ar c
      exp_ranged s (binary_means p q) = (exp_ranged s p, exp_ranged s q)
      exp_ranged s (brackets_mean p) = exp_ranged s p
      exp_ranged s (negation_means p) = exp_ranged s p
      exp_ranged s (constructor_means f q e) = (struct_below f, e ∙ sym (arity each f), exps_ranged s q)
      exp_ranged s (variable_means p) = path_ranged s p
      exp_ranged s (literal_means p) = literal_ranged p
      exp_ranged s (null_means p) = type_ranged long p
      exp_ranged s this_means = tt

      exps_ranged : {alive : List Local} {es : Exps} {cs : Exprs} → Small alive → ExpsMean ds own alive es cs → RangedExprs ar cs
      exps_ranged s no_exps_mean = tt
      exps_ranged s (exps_mean p q) = (exp_ranged s p, exps_ranged s q)

    mutual
      unfolding RangedStmt RangedStmts few_stmt few_stmts local_number

      stat_ranged : {alive after : List Local} {met met' : List Id} {t : Stat} {u : Stmt} → Small alive → few_stmt u ≡ true
          → StatMeans ds own alive met t u after met' → (RangedStmt ar u) × (Small after)
      stat_ranged s h (if_means p q) = ((exp_ranged s p, stats_ranged s h q), s)
      stat_ranged s h (assignment_means {n = n} ty a b e p) =
          let l : n < max_locals = ltb-true n max_locals h in ((type_ranged long ty, l, exp_ranged s p), (l, s))
      stat_ranged s h (update_means p q) = ((path_ranged s p, exp_ranged s q), s)
      stat_ranged s h (construct_means f q e) = ((struct_below f, e ∙ sym (arity each f), exps_ranged s q), s)

      stats_ranged : {alive after : List Local} {met met' : List Id} {b : Stats} {c : Stmts} → Small alive → few_stmts c ≡ true
          → StatsMean ds own alive met b c after met' → RangedStmts ar c
      stats_ranged s h no_stats_mean = tt
      stats_ranged s h (stats_mean {u = u} {c = c} p q) =
          let b = both_true (few_stmt u) (few_stmts c) h in
          let r = stat_ranged s b.0 p in
          (r.0, stats_ranged r.1 b.1 q)

  -- Steps and the schedule --------------------------------------------------------------------------------

  module _ (names : List Id) (few_names : length names ≤ max_names) where
    steps_ranged : {own : List Par} {l : List Step} {ts : List Named} → length own ≤ max_params → Each (StepMeans ds names own) l ts → few_steps ts ≡ true
        → All (RangedStep ar) ts
    unfolding RangedStep few_step all
    steps_ranged f no_more h = tt
    steps_ranged {own} f (and_then {b = t} {m = ts} (step_means p q) r) h =
        let b = both_true (few_step t) (few_steps ts) h in
        let n = found_below p in
        ((omega (arith, n), stats_ranged own f tt b.0 q), steps_ranged f r b.1)

    structs_ranged : {l : List Struct} {ts : List (List Named)} → All FewPars l → Each (StepsMean ds names) l ts → all few_steps ts ≡ true
        → All (All (RangedStep ar)) ts
    unfolding all
    structs_ranged f no_more h = tt
    structs_ranged f (and_then {b = t} {m = ts} (steps_mean q) r) h =
        let b = both_true (few_steps t) (all few_steps ts) h in (steps_ranged f.0 q b.0, structs_ranged f.1 r b.1)

    mutual
      unfolding RangedItem RangedItems items

      item_ranged : {i : Item} {c : Call} → ItemMeans ds names i c → RangedItem ar c
      item_ranged (execution_means f) = let n = found_below f in omega (arith, n)
      item_ranged (typed_means f g) = let n = found_below g in (struct_below f, omega (arith, n))
      item_ranged (fix_means q) = sched_ranged q

      sched_ranged : {s : Sched} {is : Items} → SchedMeans ds names s is → (1 ≤ items is) × (RangedItems ar is)
      sched_ranged (last_means p) = (omega arith, (item_ranged p, tt))
      sched_ranged (barrier_means p q) = (omega arith, (item_ranged p, (sched_ranged q).1))

-- The program ------------------------------------------------------------------------------------------------

some_struct : (d : Defs) → 1 ≤ length (structs_of d)
unfolding structs_of
some_struct (last_struct d) = omega arith
some_struct (defs d e) = omega arith

pub meant_ranged : {d : Defs} {s : Sched} {p : Program} → Means (program d s) p → length (structs_of d) ≤ max_structs → All FewPars (structs_of d)
    → length (step_names (structs_of d)) ≤ max_names → all few_steps p.steps ≡ true → Ranged p
meant_ranged {d} (means {us = us} x y m r) a b c e =
    let ds : List Struct = structs_of d in
    let n : length us ≡ length ds = each_long y in
    record {
      parameters = (omega (arith, n, some_struct d), omega (arith, n), params_ranged n b y);
      structs = each_long m ∙ sym n;
      stepped = structs_ranged ds us y b (step_names ds) c b m e;
      scheduled = sched_ranged ds us y b (step_names ds) c r;
    }
