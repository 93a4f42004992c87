-- What a derivation means is computed: where the relation holds, the function answers so.
use Rattle.std.specs.Prelude.{ℕ, true, List, map, ◌≡◌, ℤ, pos, negsuc}
use Rattle.std.proofs.Math.Option.{Option, some}
use Rattle.types.specs.Limits.{nat_end}
use Rattle.types.specs.Types.{Ty}
use Rattle.types.specs.Decides.{is_true}
use Rattle.types.specs.Values.{in_int}
use Rattle.program.specs.Tree.{Var as Variable, Expr, Exprs}
use Rattle.program.specs.Tree.{Stmt, Stmts, Item as Call, Items, Step as Named, Program}
use Rattle.syntax.specs.Syntax.{Id, TypeName, Literal, Var}
use Rattle.syntax.specs.Syntax.{Exp, Exps, Stat, Stats}
use Rattle.syntax.specs.Syntax.{Par, Step, Struct, Item, Sched, Program as Derivation}
use Rattle.meaning.specs.Scope.{par_id, par_type, struct_id, pars_of, structs_of, Local, local_id}
use Rattle.meaning.specs.StepNames.{step_names}
use Rattle.meaning.specs.Values.{decimal, signed}
use Rattle.std.proofs.Math.Path.{refl}
use Rattle.std.proofs.Common.{eq-eqb, lt-ltb}
use Rattle.types.specs.Values.{IntRange}
use Rattle.meaning.specs.Scope.{Each, Each.no_more, Each.and_then}
use Rattle.meaning.specs.Means.{LiteralMeans, LiteralMeans.int_means, LiteralMeans.nat_means, LiteralMeans.true_means, LiteralMeans.false_means}
use Rattle.meaning.specs.Means.{TypeMeans, TypeMeans.int_is, TypeMeans.nat_is, TypeMeans.bool_is, TypeMeans.struct_is, Refers, Refers.refers}
use Rattle.meaning.specs.Means.{Further, Further.last, Further.goes_on, Starts, Starts.a_parameter, Starts.a_local, PathMeans, PathMeans.alone}
use Rattle.meaning.specs.Means.{PathMeans.behind}
use Rattle.meaning.specs.Means.{ExpMeans, ExpMeans.binary_means, ExpMeans.brackets_mean, ExpMeans.negation_means, ExpMeans.constructor_means}
use Rattle.meaning.specs.Means.{ExpMeans.variable_means, ExpMeans.literal_means, ExpMeans.null_means, ExpMeans.this_means, ExpsMean}
use Rattle.meaning.specs.Means.{ExpsMean.no_exps_mean, ExpsMean.exps_mean}
use Rattle.meaning.specs.Means.{StatMeans, StatMeans.if_means, StatMeans.assignment_means, StatMeans.update_means, StatMeans.construct_means}
use Rattle.meaning.specs.Means.{StatsMean, StatsMean.no_stats_mean, StatsMean.stats_mean, ParMeans, ParMeans.par_means, ParsMean}
use Rattle.meaning.specs.Means.{ParsMean.pars_mean, StepMeans, StepMeans.step_means, StepsMean, StepsMean.steps_mean, ItemMeans}
use Rattle.meaning.specs.Means.{ItemMeans.execution_means, ItemMeans.typed_means, ItemMeans.fix_means, SchedMeans, SchedMeans.last_means}
use Rattle.meaning.specs.Means.{SchedMeans.barrier_means, Means, Means.means}
use Rattle.meaning.specs.Meant.{then, provided, each, literal_meaning, type_meaning, referred, further, started, start, path_meaning}
use Rattle.meaning.specs.Meant.{exp_meaning, exps_meaning, stat_meaning, stats_meaning, pars_meaning, step_meaning, steps_meaning, item_meaning}
use Rattle.meaning.specs.Meant.{sched_meaning, text_meaning, meant}
use Rattle.meaning.specs.Finding.{is_not, decides_absent, decides_distinct, find_complete, found_there}

pub range_test : (z : ℤ) → IntRange z → in_int z ≡ true
unfolding in_int
range_test (pos n) h = lt-ltb n _ h
range_test (negsuc n) h = lt-ltb n _ h

literal_complete : {l : Literal} {c : Expr} → LiteralMeans l c → literal_meaning l ≡ some c
unfolding literal_meaning provided
literal_complete (int_means {p = p} {ds = ds} h) = rw (range_test (signed p (decimal ds)) h) refl
literal_complete (nat_means {ds = ds} h) = rw (lt-ltb (decimal ds) nat_end h) refl
literal_complete true_means = refl
literal_complete false_means = refl

each_complete : {A B : Type 0} {R : A → B → Type 0} {f : A → Option B} → ((a : A) (b : B) → R a b → f a ≡ some b) → {l : List A} {m : List B} → Each R l m
    → each f l ≡ some m
unfolding each then
each_complete h no_more = refl
each_complete h (and_then {a = a} {b = b} r e) = rw (h a b r) (rw (each_complete h e) refl)

module _ (ds : List Struct) where
  type_complete : {t : TypeName} {u : Ty} → TypeMeans ds t u → type_meaning ds t ≡ some u
  unfolding type_meaning then
  type_complete int_is = refl
  type_complete nat_is = refl
  type_complete bool_is = refl
  type_complete (struct_is f) = rw (find_complete struct_id _ f) refl

  refers_complete : {t : TypeName} {d : Struct} → Refers ds t d → referred ds t ≡ some d
  unfolding referred then
  refers_complete (refers f) = rw (find_complete struct_id _ f) refl

  further_complete : {d : Struct} {v : Var} {vs : List ℕ} → Further ds d v vs → further ds d v ≡ some vs
  unfolding further then
  further_complete (last f) = rw (find_complete par_id _ f) refl
  further_complete (goes_on f r g) = rw (find_complete par_id _ f) (rw (refers_complete r) (rw (further_complete g) refl))

  module _ (own : List Par) (alive : List Local) where
    start_complete : {x : Id} {u : Variable} {t : TypeName} → Starts ds own alive x u t → start ds own alive x ≡ some (record { variable_of = u; type_of = t })
    unfolding start started then
    start_complete {x = x} (a_parameter f) = rw (is_not (decides_absent x (map par_id own)) (found_there par_id x f)) (rw (find_complete par_id _ f) refl)
    start_complete {x = x} (a_local a f) = rw (is_true (decides_absent x (map par_id own)) a) (rw (find_complete local_id _ f) refl)

    path_complete : {v : Var} {u : Variable} {vs : List ℕ} → PathMeans ds own alive v u vs
        → path_meaning ds own alive v ≡ some (record { first = u; rest = vs })
    unfolding path_meaning then
    path_complete (alone s) = rw (start_complete s) refl
    path_complete (behind s r g) = rw (start_complete s) (rw (refers_complete r) (rw (further_complete g) refl))

    mutual
      unfolding exp_meaning exps_meaning then provided

      exp_complete : {e : Exp} {c : Expr} → ExpMeans ds own alive e c → exp_meaning ds own alive e ≡ some c
      exp_complete (binary_means p q) = rw (exp_complete p) (rw (exp_complete q) refl)
      exp_complete (brackets_mean p) = exp_complete p
      exp_complete (negation_means p) = rw (exp_complete p) refl
      exp_complete (constructor_means f p n) = rw (find_complete struct_id _ f) (rw (exps_complete p) (rw (eq-eqb _ _ n) refl))
      exp_complete (variable_means p) = rw (path_complete p) refl
      exp_complete (literal_means p) = literal_complete p
      exp_complete (null_means p) = rw (type_complete p) refl
      exp_complete this_means = refl

      exps_complete : {es : Exps} {cs : Exprs} → ExpsMean ds own alive es cs → exps_meaning ds own alive es ≡ some cs
      exps_complete no_exps_mean = refl
      exps_complete (exps_mean p q) = rw (exp_complete p) (rw (exps_complete q) refl)

  module _ (own : List Par) where
    mutual
      unfolding stat_meaning stats_meaning then provided

      stat_complete : {alive after : List Local} {met met' : List Id} {t : Stat} {u : Stmt} → StatMeans ds own alive met t u after met'
          → stat_meaning ds own t alive met ≡ some (record { tree = u; alive = after; met = met' })
      stat_complete {alive} (if_means p q) = rw (exp_complete own alive p) (rw (stats_complete q) refl)
      stat_complete {alive} {met} (assignment_means {x = x} p a b n q) =
          rw (type_complete p, n) (rw (is_true (decides_absent x met) a, is_true (decides_absent x (map par_id own)) b) (rw (exp_complete own alive q) refl))
      stat_complete {alive} (update_means p q) = rw (path_complete own alive p) (rw (exp_complete own alive q) refl)
      stat_complete {alive} (construct_means f p n) = rw (find_complete struct_id _ f) (rw (exps_complete own alive p) (rw (eq-eqb _ _ n) refl))

      stats_complete : {alive after : List Local} {met met' : List Id} {b : Stats} {c : Stmts} → StatsMean ds own alive met b c after met'
          → stats_meaning ds own b alive met ≡ some (record { tree = c; alive = after; met = met' })
      stats_complete no_stats_mean = refl
      stats_complete (stats_mean p q) = rw (stat_complete p) (rw (stats_complete q) refl)

  pars_complete : (d : Struct) (us : List Ty) → ParsMean ds d us → pars_meaning ds d ≡ some us
  unfolding pars_meaning provided
  pars_complete d us (pars_mean n e) = rw (is_true (decides_distinct (map par_id (pars_of d))) n) (each_complete one e)
    where
      one : (q : Par) (u : Ty) → ParMeans ds q u → type_meaning ds (par_type q) ≡ some u
      one q u (par_means p) = type_complete p

  module _ (names : List Id) where
    step_complete : (own : List Par) (t : Step) (u : Named) → StepMeans ds names own t u → step_meaning ds names own t ≡ some u
    unfolding step_meaning then
    step_complete own t u (step_means f p) = rw (find_complete (λ z. z) _ f) (rw (stats_complete own p) refl)

    steps_complete : (d : Struct) (us : List Named) → StepsMean ds names d us → steps_meaning ds names d ≡ some us
    unfolding steps_meaning
    steps_complete d us (steps_mean e) = each_complete (step_complete (pars_of d)) e

    mutual
      unfolding item_meaning sched_meaning then

      item_complete : {i : Item} {c : Call} → ItemMeans ds names i c → item_meaning ds names i ≡ some c
      item_complete (execution_means f) = rw (find_complete (λ z. z) _ f) refl
      item_complete (typed_means f g) = rw (find_complete struct_id _ f) (rw (find_complete (λ z. z) _ g) refl)
      item_complete (fix_means p) = rw (sched_complete p) refl

      sched_complete : {s : Sched} {is : Items} → SchedMeans ds names s is → sched_meaning ds names s ≡ some is
      sched_complete (last_means p) = rw (item_complete p) refl
      sched_complete (barrier_means p q) = rw (item_complete p) (rw (sched_complete q) refl)

pub means_meant : {c : Derivation} {p : Program} → Means c p → meant c ≡ some p
unfolding meant text_meaning then provided
means_meant (means {d = d} n us ts is) =
    rw (is_true (decides_distinct (map struct_id (structs_of d))) n)
    (rw (each_complete (pars_complete (structs_of d)) us)
    (rw (each_complete (steps_complete (structs_of d) (step_names (structs_of d))) ts)
    (rw (sched_complete (structs_of d) (step_names (structs_of d)) is) refl)))
