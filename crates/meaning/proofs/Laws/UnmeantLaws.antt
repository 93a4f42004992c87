-- Each cause of 17 (`Unmeant`) leaves a derivation without a program (02 §1).
use Prim.Native.Nat.{ℕ, suc}
use Rattle.std.proofs.Common.{arith, sym, subst, ◌∙◌}
use Rattle.std.specs.Prelude.{◌≡◌, Bool, true, false, List, [], ◌∷◌, map, length}
use Rattle.std.proofs.Math.Path.{refl, ap}
use Rattle.types.specs.Types.{Ty}
use Rattle.program.specs.Tree.{Var as Variable, Expr, Exprs, Stmt, Stmts, Item as Call, Items, Step as Named, Program, args}
use Rattle.syntax.specs.Syntax.{Id, TypeName, Literal, Var, Exp, Exps, Stat, Stats, Par, Step, Struct, Item, Sched, Program as Derivation}
use Rattle.meaning.specs.Scope.{Found, Found.here, Found.later, Absent, Distinct, Each, Each.and_then, par_id, par_type, struct_id}
use Rattle.meaning.specs.Scope.{pars_of, structs_of, Local, local_id, local_type}
use Rattle.meaning.specs.StepNames.{among, once, all_steps, step_names}
use Rattle.meaning.specs.Finding.{Place, find_complete, found_there}
use Rattle.meaning.specs.Means.{LiteralMeans, LiteralMeans.int_means, LiteralMeans.nat_means}
use Rattle.meaning.specs.Means.{TypeMeans, TypeMeans.struct_is, Refers, Refers.refers}
use Rattle.meaning.specs.Means.{Further, Further.last, Further.goes_on, Starts, Starts.a_parameter, Starts.a_local, PathMeans, PathMeans.alone}
use Rattle.meaning.specs.Means.{PathMeans.behind}
use Rattle.meaning.specs.Means.{ExpMeans, ExpMeans.binary_means, ExpMeans.brackets_mean, ExpMeans.negation_means, ExpMeans.constructor_means}
use Rattle.meaning.specs.Means.{ExpMeans.variable_means, ExpMeans.literal_means, ExpMeans.null_means, ExpsMean}
use Rattle.meaning.specs.Means.{ExpsMean.no_exps_mean, ExpsMean.exps_mean}
use Rattle.meaning.specs.Means.{StatMeans, StatMeans.if_means, StatMeans.assignment_means, StatMeans.update_means, StatMeans.construct_means}
use Rattle.meaning.specs.Means.{StatsMean, StatsMean.no_stats_mean, StatsMean.stats_mean, ParMeans, ParMeans.par_means, ParsMean}
use Rattle.meaning.specs.Means.{ParsMean.pars_mean, StepMeans, StepMeans.step_means, StepsMean, StepsMean.steps_mean, ItemMeans}
use Rattle.meaning.specs.Means.{ItemMeans.execution_means, ItemMeans.typed_means, ItemMeans.fix_means, SchedMeans, SchedMeans.last_means}
use Rattle.meaning.specs.Means.{SchedMeans.barrier_means, Means, Means.means}
use Rattle.meaning.specs.Unmeant.{Among, Among.first, Among.other, Twice, Twice.again, Twice.later_twice, One, One.this_one, One.later_one}
use Rattle.meaning.specs.Unmeant.{Outside, Outside.int_outside, Outside.nat_outside, arguments, alive_after, met_after, all_met}
use Rattle.meaning.specs.Unmeant.{LeadsNowhere.int_nowhere, LeadsNowhere.nat_nowhere, LeadsNowhere.bool_nowhere}
use Rattle.meaning.specs.Unmeant.{NoType, NoType.no_type, LeadsNowhere, LeadsNowhere.no_struct_there, NoFurther, NoFurther.no_parameter}
use Rattle.meaning.specs.Unmeant.{NoFurther.no_parameter_before, NoFurther.not_after, NotAfter, NotAfter.leads_nowhere, NotAfter.not_in, NoPath}
use Rattle.meaning.specs.Unmeant.{NoPath.no_variable, NoPath.no_variable_before, NoPath.not_after_parameter, NoPath.not_after_local}
use Rattle.meaning.specs.Unmeant.{Miscounted, Miscounted.miscounted, NoExp, NoExp.in_left, NoExp.in_right, NoExp.in_brackets, NoExp.in_negation}
use Rattle.meaning.specs.Unmeant.{NoExp.none_constructed, NoExp.in_arguments, NoExp.constructor_miscounted, NoExp.in_variable, NoExp.in_literal}
use Rattle.meaning.specs.Unmeant.{NoExp.in_null, NoExps, NoExps.in_argument, NoExps.in_more, NoStat, NoStat.in_condition, NoStat.in_body}
use Rattle.meaning.specs.Unmeant.{NoStat.in_type, NoStat.local_twice, NoStat.local_as_parameter, NoStat.in_value, NoStat.in_target, NoStat.in_update}
use Rattle.meaning.specs.Unmeant.{NoStat.none_made, NoStat.in_made, NoStat.construct_miscounted, NoStats, NoStats.in_first, NoStats.in_rest, NoStep}
use Rattle.meaning.specs.Unmeant.{NoStep.in_statements, NoPar, NoPar.in_par, NoDef, NoDef.parameter_twice, NoDef.in_parameter, NoDef.in_step, NoItem}
use Rattle.meaning.specs.Unmeant.{NoItem.no_step, NoItem.no_struct_before, NoItem.no_typed_step, NoItem.in_fix, NoSched, NoSched.in_last}
use Rattle.meaning.specs.Unmeant.{NoSched.in_item, NoSched.in_items, Unmeant, Unmeant.struct_twice, Unmeant.in_struct, Unmeant.in_schedule}

-- Names ------------------------------------------------------------------------------------------

pub among_absent : {x : Id} {l : List Id} → Among x l → Absent x l → ⊥
among_absent (first e) a = a.0 e
among_absent (other m) a = among_absent m a.1

twice_distinct : {l : List Id} → Twice l → Distinct l → ⊥
twice_distinct (again m) d = among_absent m d.0
twice_distinct (later_twice t) d = twice_distinct t d.1

found_among : {A : Type 0} {key : A → Id} {x : Id} {i : ℕ} {a : A} {l : List A} → Found key x i a l → Among x (map key l)
found_among (here e) = first e
found_among (later n f) = other (found_among f)

-- what is found is one thing
found_one : {A : Type 0} (key : A → Id) {x : Id} {i j : ℕ} {a b : A} {l : List A} → Found key x i a l → Found key x j b l → a ≡ b
found_one {A} key {x = x} {i = i} {j = j} {a = a} {b = b} f g =
    let e = find_complete key x f in
    let h = find_complete key x g in
    let p : ◌≡◌ {A = Place A} (record { at = i; element = a }) (record { at = j; element = b }) = cc in
    ap (λ p. p.element) p

one_each : {A B : Type 0} {C : A → Type 0} {R : A → B → Type 0} → ((a : A) (b : B) → C a → R a b → ⊥) → {l : List A} {m : List B} → One C l → Each R l m → ⊥
one_each h (this_one c) (and_then {a = a} {b = b} r e) = h a b c r
one_each h (later_one o) (and_then r e) = one_each h o e

-- numbers are given to names of steps alone
once_among : {x : Id} (met l : List Id) → Among x (once met l) → Among x l
unfolding once
once_among met [] m = m
once_among {x = x} met (y ∷ l) m = go (among y met) refl (once_among met l) (once_among (y ∷ met) l)
  where
    head : Among x (y ∷ once (y ∷ met) l) → (Among x (once (y ∷ met) l) → Among x l) → Among x (y ∷ l)
    head (first e) rec = first e
    head (other n) rec = other (rec n)

    go : (b : Bool) → among y met ≡ b → (Among x (once met l) → Among x l) → (Among x (once (y ∷ met) l) → Among x l) → Among x (y ∷ l)
    go true e rec rec' = other (rec (rw (e, once) at m))
    go false e rec rec' = head (rw (e, once) at m) rec'

numbered_among : {x y : Id} {n : ℕ} (ds : List Struct) → Found (λ z. z) x n y (step_names ds) → Absent x (all_steps ds) → ⊥
unfolding step_names
numbered_among {x = x} ds f a = among_absent (once_among [] (all_steps ds) (subst (λ l. Among x l) (same_names (once [] (all_steps ds))) (found_among f))) a
  where
    same_names : (l : List Id) → map (λ z. z) l ≡ l
    same_names [] = refl
    same_names (y ∷ l) = ap (λ r. y ∷ r) (same_names l)

-- Expressions ------------------------------------------------------------------------------------

outside_none : {l : Literal} {c : Expr} → Outside l → LiteralMeans l c → ⊥
outside_none (int_outside n) (int_means h) = n h
outside_none (nat_outside h) (nat_means k) = omega (arith, h, k)

module _ (ds : List Struct) where
  type_none : {t : TypeName} {u : Ty} → NoType ds t → TypeMeans ds t u → ⊥
  type_none (no_type a) (struct_is f) = found_there struct_id _ f a

  nowhere_none : {t : TypeName} {d : Struct} → LeadsNowhere ds t → Refers ds t d → ⊥
  nowhere_none (no_struct_there a) (refers f) = found_there struct_id _ f a
  nowhere_none int_nowhere r = elim r [ ]
  nowhere_none nat_nowhere r = elim r [ ]
  nowhere_none bool_nowhere r = elim r [ ]

  mutual
    further_none : {d : Struct} {v : Var} {vs : List ℕ} → NoFurther ds d v → Further ds d v vs → ⊥
    further_none (no_parameter a) (last f) = found_there par_id _ f a
    further_none (no_parameter_before a) (goes_on f r g) = found_there par_id _ f a
    further_none (not_after f n) (goes_on {e = e} g r h) = after_none n (subst (λ q. Refers ds (par_type q) e) (found_one par_id g f) r) h

    after_none : {t : TypeName} {d : Struct} {v : Var} {vs : List ℕ} → NotAfter ds t v → Refers ds t d → Further ds d v vs → ⊥
    after_none (leads_nowhere w) r g = nowhere_none w r
    after_none {v = v} {vs = vs} (not_in f n) (refers h) g = further_none n (subst (λ d. Further ds d v vs) (found_one struct_id h f) g)

  module _ (own : List Par) (alive : List Local) where
    start_none : {x : Id} {u : Variable} {t : TypeName} → Absent x (map par_id own) → Absent x (map local_id alive) → Starts ds own alive x u t → ⊥
    start_none a b (a_parameter f) = found_there par_id _ f a
    start_none a b (a_local c f) = found_there local_id _ f b

    path_none : {v : Var} {u : Variable} {vs : List ℕ} → NoPath ds own alive v → PathMeans ds own alive v u vs → ⊥
    path_none (no_variable a b) (alone s) = start_none a b s
    path_none (no_variable_before a b) (behind s r g) = start_none a b s
    path_none (not_after_parameter f n) (behind {d = d} (a_parameter g) r h) =
        after_none n (subst (λ q. Refers ds (par_type q) d) (found_one par_id g f) r) h
    path_none (not_after_parameter f n) (behind (a_local a g) r h) = found_there par_id _ f a
    path_none (not_after_local a f n) (behind (a_parameter g) r h) = found_there par_id _ g a
    path_none (not_after_local a f n) (behind {d = d} (a_local b g) r h) =
        after_none n (subst (λ l. Refers ds (local_type l) d) (found_one local_id g f) r) h

    pub arguments_counted : {es : Exps} {cs : Exprs} → ExpsMean ds own alive es cs → args cs ≡ arguments es
    unfolding args arguments
    arguments_counted no_exps_mean = refl
    arguments_counted (exps_mean p q) = ap suc (arguments_counted q)

    miscounted_none : {x : Id} {k : ℕ} {d : Struct} {es : Exps} {cs : Exprs} → Miscounted ds x es → Found struct_id x k d ds → ExpsMean ds own alive es cs
        → args cs ≡ length (pars_of d) → ⊥
    miscounted_none (miscounted f n) g m e = n (sym (arguments_counted m) ∙ e ∙ ap (λ d. length (pars_of d)) (found_one struct_id g f))

    mutual
      exp_none : {e : Exp} {c : Expr} → NoExp ds own alive e → ExpMeans ds own alive e c → ⊥
      exp_none (in_left n) (binary_means p q) = exp_none n p
      exp_none (in_right n) (binary_means p q) = exp_none n q
      exp_none (in_brackets n) (brackets_mean p) = exp_none n p
      exp_none (in_negation n) (negation_means p) = exp_none n p
      exp_none (none_constructed a) (constructor_means f p e) = found_there struct_id _ f a
      exp_none (in_arguments n) (constructor_means f p e) = exps_none n p
      exp_none (constructor_miscounted n) (constructor_means f p e) = miscounted_none n f p e
      exp_none (in_variable n) (variable_means p) = path_none n p
      exp_none (in_literal n) (literal_means p) = outside_none n p
      exp_none (in_null n) (null_means p) = type_none n p

      exps_none : {es : Exps} {cs : Exprs} → NoExps ds own alive es → ExpsMean ds own alive es cs → ⊥
      exps_none (in_argument n) (exps_mean p q) = exp_none n p
      exps_none (in_more n) (exps_mean p q) = exps_none n q

  -- Statements -----------------------------------------------------------------------------------

  module _ (own : List Par) where
    -- what is alive and declared after a statement is told from the statement alone
    mutual
      unfolding alive_after met_after all_met

      stat_after : {alive after : List Local} {met met' : List Id} {t : Stat} {u : Stmt} → StatMeans ds own alive met t u after met'
          → (after ≡ alive_after t alive met) × (met' ≡ met_after t met)
      stat_after (if_means p q) = (refl, stats_met q)
      stat_after (assignment_means p a b n q) = (rw n refl, refl)
      stat_after (update_means p q) = (refl, refl)
      stat_after (construct_means f p n) = (refl, refl)

      stats_met : {alive after : List Local} {met met' : List Id} {b : Stats} {c : Stmts} → StatsMean ds own alive met b c after met' → met' ≡ all_met b met
      stats_met no_stats_mean = refl
      stats_met (stats_mean {b = b} p q) = stats_met q ∙ ap (all_met b) (stat_after p).1

    mutual
      stat_none : {alive after : List Local} {met met' : List Id} {t : Stat} {u : Stmt} → NoStat ds own alive met t
          → StatMeans ds own alive met t u after met' → ⊥
      stat_none {alive} (in_condition n) (if_means p q) = exp_none own alive n p
      stat_none (in_body n) (if_means p q) = stats_none n q
      stat_none (in_type n) (assignment_means p a b e q) = type_none n p
      stat_none (local_twice m) (assignment_means p a b e q) = among_absent m a
      stat_none (local_as_parameter m) (assignment_means p a b e q) = among_absent m b
      stat_none {alive} (in_value n) (assignment_means p a b e q) = exp_none own alive n q
      stat_none {alive} (in_target n) (update_means p q) = path_none own alive n p
      stat_none {alive} (in_update n) (update_means p q) = exp_none own alive n q
      stat_none (none_made a) (construct_means f p e) = found_there struct_id _ f a
      stat_none {alive} (in_made n) (construct_means f p e) = exps_none own alive n p
      stat_none {alive} (construct_miscounted n) (construct_means f p e) = miscounted_none own alive n f p e

      stats_none : {alive after : List Local} {met met' : List Id} {b : Stats} {c : Stmts} → NoStats ds own alive met b
          → StatsMean ds own alive met b c after met' → ⊥
      stats_none (in_first n) (stats_mean p q) = stat_none n p
      stats_none (in_rest n) (stats_mean p q) = let (e, f) = stat_after p in stats_none n (rw (e, f) at q)

  -- Structs and schedules ------------------------------------------------------------------------

  step_none : (names : List Id) (own : List Par) (t : Step) (u : Named) → NoStep ds own t → StepMeans ds names own t u → ⊥
  step_none names own t u (in_statements n) (step_means f p) = stats_none own n p

  par_none : (q : Par) (u : Ty) → NoPar ds q → ParMeans ds q u → ⊥
  par_none q u (in_par n) (par_means p) = type_none n p

  mutual
    item_none : {i : Item} {c : Call} → NoItem ds i → ItemMeans ds (step_names ds) i c → ⊥
    item_none (no_step a) (execution_means f) = numbered_among ds f a
    item_none (no_struct_before a) (typed_means f g) = found_there struct_id _ f a
    item_none (no_typed_step a) (typed_means f g) = numbered_among ds g a
    item_none (in_fix n) (fix_means p) = sched_none n p

    sched_none : {s : Sched} {is : Items} → NoSched ds s → SchedMeans ds (step_names ds) s is → ⊥
    sched_none (in_last n) (last_means p) = item_none n p
    sched_none (in_item n) (barrier_means p q) = item_none n p
    sched_none (in_items n) (barrier_means p q) = sched_none n q

  -- a struct with a cause in it, among structs that all mean something
  def_none : {l : List Struct} {us : List (List Ty)} {ts : List (List Named)} → One (NoDef ds) l → Each (ParsMean ds) l us
      → Each (StepsMean ds (step_names ds)) l ts → ⊥
  def_none (this_one (parameter_twice t)) (and_then (pars_mean d p) e) f = twice_distinct t d
  def_none (this_one (in_parameter o)) (and_then (pars_mean d p) e) f = one_each par_none o p
  def_none (this_one {a = d} (in_step o)) e (and_then (steps_mean q) f) = one_each (step_none (step_names ds) (pars_of d)) o q
  def_none (later_one o) (and_then p e) (and_then q f) = def_none o e f

-- The statement ----------------------------------------------------------------------------------

pub unmeant_none : {c : Derivation} {p : Program} → Unmeant c → Means c p → ⊥
unmeant_none (struct_twice t) (means d us ts is) = twice_distinct t d
unmeant_none (in_struct o) (means {d = d} n us ts is) = def_none (structs_of d) o us ts
unmeant_none (in_schedule n) (means {d = d} m us ts is) = sched_none (structs_of d) n is
