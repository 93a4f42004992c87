-- A derivation means a program or has a cause of 17 (`Unmeant`), and so has a cause exactly where it means none (02 §1).
use Rattle.std.specs.Prelude.{ℕ, ◌<◌, ◌≤◌, ◌≡◌, refl, Bool, true, false, ◌↔◌, ◌⊎◌, length, ltb, ℤ}
use Rattle.std.proofs.Common.{arith, sym, ◌∙◌, inl, inr, ltb-true, ltb-false}
use mathlib.Core.List.{List, [], ◌∷◌, map}
use Rattle.types.specs.Limits.{nat_end}
use Rattle.types.specs.Types.{Ty, Ty.int, Ty.nat, Ty.bool, Ty.ref}
use Rattle.types.specs.Values.{IntRange, in_int, int_word}
use Rattle.program.specs.Tree.{Var as Variable, Var.par as parameter, Var.loc as local, Expr, Expr.inv, Expr.make, Expr.path as path_of, Expr.int_lit}
use Rattle.program.specs.Tree.{Expr.nat_lit, Expr.bool_lit, Expr.null as null_of, Expr.self, Expr.op, Exprs, Exprs.none as no_args, Exprs.more, args}
use Rattle.program.specs.Tree.{Stmt, Stmt.when, Stmt.declare, Stmt.update as update_of, Stmt.create, Stmts, Stmts.end, Stmts.next, Item as Call}
use Rattle.program.specs.Tree.{Item.call, Item.call_in, Item.fix, Items, Items.stop, Items.item, Step as Named, Program}
use Rattle.syntax.specs.Syntax.{Id, TypeName, TypeName.int_type, TypeName.nat_type, TypeName.bool_type, TypeName.id_type, Literal}
use Rattle.syntax.specs.Syntax.{Literal.int_literal, Literal.nat_literal, Literal.bool_literal, Var, Var.id as one_id, Var.dot}
use Rattle.syntax.specs.Syntax.{Exp, Exp.binary, Exp.brackets, Exp.negation, Exp.constructor, Exp.variable, Exp.literal, Exp.null, Exp.this, Exps}
use Rattle.syntax.specs.Syntax.{Exps.no_exps, Exps.exps, Stat, Stat.if_then, Stat.assignment, Stat.update, Stat.construct, Stats, Stats.no_stats}
use Rattle.syntax.specs.Syntax.{Stats.stats}
use Rattle.syntax.specs.Syntax.{Par, Step, Step.step, Struct, Item, Item.execution, Item.typed_execution, Item.fixpoint, Sched, Sched.last_item}
use Rattle.syntax.specs.Syntax.{Sched.barrier, Program as Derivation, Program.program}
use Rattle.meaning.specs.Scope.{Found, Absent, Each, Each.no_more, Each.and_then, par_id, par_type, step_id}
use Rattle.meaning.specs.Scope.{struct_id, pars_of, steps_of, structs_of, Local, local_id, local_number, local_type}
use Rattle.meaning.specs.StepNames.{once, all_steps, step_names}
use Rattle.meaning.specs.Values.{decimal, signed}
use Rattle.meaning.specs.Finding.{Place}
use Rattle.meaning.specs.Means.{LiteralMeans, LiteralMeans.int_means, LiteralMeans.nat_means, LiteralMeans.true_means, LiteralMeans.false_means}
use Rattle.meaning.specs.Means.{TypeMeans, TypeMeans.int_is, TypeMeans.nat_is, TypeMeans.bool_is, TypeMeans.struct_is, Refers, Refers.refers}
use Rattle.meaning.specs.Means.{Further, Further.last, Further.goes_on, Starts.a_parameter, Starts.a_local, PathMeans, PathMeans.alone}
use Rattle.meaning.specs.Means.{PathMeans.behind}
use Rattle.meaning.specs.Means.{ExpMeans, ExpMeans.binary_means, ExpMeans.brackets_mean, ExpMeans.negation_means, ExpMeans.constructor_means}
use Rattle.meaning.specs.Means.{ExpMeans.variable_means, ExpMeans.literal_means, ExpMeans.null_means, ExpMeans.this_means, ExpsMean}
use Rattle.meaning.specs.Means.{ExpsMean.no_exps_mean, ExpsMean.exps_mean}
use Rattle.meaning.specs.Means.{StatMeans, StatMeans.if_means, StatMeans.assignment_means, StatMeans.update_means, StatMeans.construct_means}
use Rattle.meaning.specs.Means.{StatsMean, StatsMean.no_stats_mean, StatsMean.stats_mean, ParMeans, ParMeans.par_means, ParsMean}
use Rattle.meaning.specs.Means.{ParsMean.pars_mean, StepMeans, StepMeans.step_means, StepsMean, StepsMean.steps_mean, ItemMeans}
use Rattle.meaning.specs.Means.{ItemMeans.execution_means, ItemMeans.typed_means, ItemMeans.fix_means, SchedMeans, SchedMeans.last_means}
use Rattle.meaning.specs.Means.{SchedMeans.barrier_means, Means, Means.means}
use Rattle.meaning.specs.Unmeant.{Among, Among.first, Among.other, One, One.this_one, One.later_one}
use Rattle.meaning.specs.Unmeant.{Outside, Outside.int_outside, Outside.nat_outside, arguments, alive_after, met_after, all_met, NoStruct}
use Rattle.meaning.specs.Unmeant.{NoType, NoType.no_type, LeadsNowhere.int_nowhere, LeadsNowhere.nat_nowhere}
use Rattle.meaning.specs.Unmeant.{LeadsNowhere.bool_nowhere, LeadsNowhere.no_struct_there, NoFurther, NoFurther.no_parameter}
use Rattle.meaning.specs.Unmeant.{NoFurther.no_parameter_before, NoFurther.not_after, NotAfter, NotAfter.leads_nowhere, NotAfter.not_in, NoPath}
use Rattle.meaning.specs.Unmeant.{NoPath.no_variable, NoPath.no_variable_before, NoPath.not_after_parameter, NoPath.not_after_local}
use Rattle.meaning.specs.Unmeant.{Miscounted, Miscounted.miscounted, NoExp, NoExp.in_left, NoExp.in_right, NoExp.in_brackets, NoExp.in_negation}
use Rattle.meaning.specs.Unmeant.{NoExp.none_constructed, NoExp.in_arguments, NoExp.constructor_miscounted, NoExp.in_variable, NoExp.in_literal}
use Rattle.meaning.specs.Unmeant.{NoExp.in_null, NoExps, NoExps.in_argument, NoExps.in_more, NoStat, NoStat.in_condition, NoStat.in_body}
use Rattle.meaning.specs.Unmeant.{NoStat.in_type, NoStat.local_twice, NoStat.local_as_parameter, NoStat.in_value, NoStat.in_target, NoStat.in_update}
use Rattle.meaning.specs.Unmeant.{NoStat.none_made, NoStat.in_made, NoStat.construct_miscounted, NoStats, NoStats.in_first, NoStats.in_rest, NoStep}
use Rattle.meaning.specs.Unmeant.{NoStep.in_statements, NoPar, NoPar.in_par, NoDef, NoDef.parameter_twice, NoDef.in_parameter, NoDef.in_step, NoItem}
use Rattle.meaning.specs.Unmeant.{NoItem.no_step, NoItem.no_struct_before, NoItem.no_typed_step, NoItem.in_fix, NoSched, NoSched.in_last}
use Rattle.meaning.specs.Unmeant.{NoSched.in_item, NoSched.in_items, Unmeant, Unmeant.struct_twice, Unmeant.in_struct, Unmeant.in_schedule}
use Rattle.meaning.proofs.Laws.MeantLaws.{range_of}
use Rattle.meaning.proofs.Laws.MeantComplete.{range_test}
use Rattle.meaning.proofs.Laws.UnmeantLaws.{among_absent, arguments_counted, unmeant_none}
use Rattle.meaning.proofs.Laws.EitherLaws.{Or, Or.so, Or.not_so, after, given, each_or, equal_or, absent_or, distinct_or, FoundAt, found_or}
use Rattle.meaning.proofs.Laws.EitherLaws.{among_left, among_right, same_row, once_keeps}

-- Literals and paths -----------------------------------------------------------------------------

range_or : (z : ℤ) → (IntRange z) ⊎ (IntRange z → ⊥)
range_or z = go (in_int z) refl
  where
    go : (t : Bool) → in_int z ≡ t → (IntRange z) ⊎ (IntRange z → ⊥)
    go true e = inl (range_of z e)
    go false e = inr (λ r. let q : true ≡ false = sym (range_test z r) ∙ e in let k : ◌≡◌ {A = ℕ} 0 1 = cc in omega (arith, k))

pub below_or : (n m : ℕ) → (n < m) ⊎ (m ≤ n)
below_or n m = go (ltb n m) refl
  where
    go : (t : Bool) → ltb n m ≡ t → (n < m) ⊎ (m ≤ n)
    go true e = inl (ltb-true n m e)
    go false e = inr (ltb-false n m e)

literal_or : (l : Literal) → Or Expr (LiteralMeans l) (Outside l)
literal_or (int_literal p ds) = given (range_or (signed p (decimal ds))) int_outside λ r. so (int_lit (int_word (signed p (decimal ds)))) (int_means r)
literal_or (nat_literal ds) = given (below_or (decimal ds) nat_end) nat_outside λ r. so (nat_lit (decimal ds)) (nat_means r)
literal_or (bool_literal true) = so (bool_lit 1) true_means
literal_or (bool_literal false) = so (bool_lit 0) false_means

module _ (ds : List Struct) where
  struct_or : (x : Id) → Or (Place Struct) (FoundAt struct_id x ds) (NoStruct ds x)
  struct_or x = found_or struct_id x ds

  type_or : (t : TypeName) → Or Ty (TypeMeans ds t) (NoType ds t)
  type_or int_type = so int int_is
  type_or nat_type = so nat nat_is
  type_or bool_type = so bool bool_is
  type_or (id_type x) = after (struct_or x) no_type λ p f. so (ref p.at) (struct_is f)

  -- after a type: its struct, and the parameters from there on
  pub record AfterType (t : TypeName) (v : Var) (vs : List ℕ) : Type 0 where
    pub referred : Struct
    pub refers_there : Refers ds t referred
    pub further_there : Further ds referred v vs

  after_or : (v : Var) → ((d : Struct) → Or (List ℕ) (Further ds d v) (NoFurther ds d v)) → (t : TypeName) → Or (List ℕ) (AfterType t v) (NotAfter ds t v)
  after_or v g int_type = not_so (leads_nowhere int_nowhere)
  after_or v g nat_type = not_so (leads_nowhere nat_nowhere)
  after_or v g bool_type = not_so (leads_nowhere bool_nowhere)
  after_or v g (id_type x) =
      after (struct_or x) (λ a. leads_nowhere (no_struct_there a)) λ p f. after (g p.element) (not_in f) λ vs h.
      so vs (record { referred = p.element; refers_there = refers f; further_there = h })

  further_or : (v : Var) (d : Struct) → Or (List ℕ) (Further ds d v) (NoFurther ds d v)
  further_or (one_id x) d = after (found_or par_id x (pars_of d)) no_parameter λ p f. so (p.at ∷ []) (last f)
  further_or (dot x v) d =
      after (found_or par_id x (pars_of d)) no_parameter_before λ p f. after (after_or v (further_or v) (par_type p.element)) (not_after f) λ vs b.
      so (p.at ∷ vs) (goes_on f b.refers_there b.further_there)

  module _ (own : List Par) (alive : List Local) where
    pub record Whole (v : Var) (w : Variable) : Type 0 where
      pub rest : List ℕ
      pub means_path : PathMeans ds own alive v w rest

    path_or : (v : Var) → Or Variable (Whole v) (NoPath ds own alive v)
    path_or (one_id x) = go (found_or par_id x own) (found_or local_id x alive)
      where
        go : Or (Place Par) (FoundAt par_id x own) (Absent x (map par_id own)) → Or (Place Local) (FoundAt local_id x alive) (Absent x (map local_id alive))
            → Or Variable (Whole (one_id x)) (NoPath ds own alive (one_id x))
        go (so p f) r = so (parameter p.at) (record { rest = []; means_path = alone (a_parameter f) })
        go (not_so a) (so p f) = so (local (local_number p.element)) (record { rest = []; means_path = alone (a_local a f) })
        go (not_so a) (not_so b) = not_so (no_variable a b)
    path_or (dot x v) = go (found_or par_id x own) (found_or local_id x alive)
      where
        go : Or (Place Par) (FoundAt par_id x own) (Absent x (map par_id own)) → Or (Place Local) (FoundAt local_id x alive) (Absent x (map local_id alive))
            → Or Variable (Whole (dot x v)) (NoPath ds own alive (dot x v))
        go (so p f) r =
            after (after_or v (further_or v) (par_type p.element)) (not_after_parameter f) λ vs b.
            so (parameter p.at) (record { rest = vs; means_path = behind (a_parameter f) b.refers_there b.further_there })
        go (not_so a) (so p f) =
            after (after_or v (further_or v) (local_type p.element)) (not_after_local a f) λ vs b.
            so (local (local_number p.element)) (record { rest = vs; means_path = behind (a_local a f) b.refers_there b.further_there })
        go (not_so a) (not_so b) = not_so (no_variable_before a b)

    -- Expressions --------------------------------------------------------------------------------

    one_each_or : {x : Id} {k : ℕ} {d : Struct} {es : Exps} {cs : Exprs} → Found struct_id x k d ds → ExpsMean ds own alive es cs
        → (args cs ≡ length (pars_of d)) ⊎ (Miscounted ds x es)
    one_each_or {x = x} {d = d} {es = es} {cs = cs} f m = go (equal_or (arguments es) (length (pars_of d)))
      where
        go : (arguments es ≡ length (pars_of d)) ⊎ (arguments es ≡ length (pars_of d) → ⊥) → (args cs ≡ length (pars_of d)) ⊎ (Miscounted ds x es)
        go (inl e) = inl (arguments_counted ds own alive m ∙ e)
        go (inr n) = inr (miscounted f n)

    mutual
      exp_or : (e : Exp) → Or Expr (ExpMeans ds own alive e) (NoExp ds own alive e)
      exp_or (binary o a b) = after (exp_or a) in_left λ c p. after (exp_or b) in_right λ d q. so (op o c d) (binary_means p q)
      exp_or (brackets e) = after (exp_or e) in_brackets λ c p. so c (brackets_mean p)
      exp_or (negation e) = after (exp_or e) in_negation λ c p. so (inv c) (negation_means p)
      exp_or (constructor x es) =
          after (struct_or x) none_constructed λ k f. after (exps_or es) in_arguments λ cs m. given (one_each_or f m) constructor_miscounted λ e.
          so (make k.at cs) (constructor_means f m e)
      exp_or (variable v) = after (path_or v) in_variable λ u p. so (path_of u p.rest) (variable_means p.means_path)
      exp_or (literal l) = after (literal_or l) in_literal λ c p. so c (literal_means p)
      exp_or (null t) = after (type_or t) in_null λ u p. so (null_of u) (null_means p)
      exp_or this = so self this_means

      exps_or : (es : Exps) → Or Exprs (ExpsMean ds own alive es) (NoExps ds own alive es)
      exps_or no_exps = so no_args no_exps_mean
      exps_or (exps e es) = after (exp_or e) in_argument λ c p. after (exps_or es) in_more λ cs q. so (more c cs) (exps_mean p q)

  -- Statements -----------------------------------------------------------------------------------

  module _ (own : List Par) where
    -- a body with what is alive at its end
    pub record Body (alive : List Local) (met : List Id) (b : Stats) (c : Stmts) : Type 0 where
      pub alive_last : List Local
      pub means_body : StatsMean ds own alive met b c alive_last (all_met b met)

    abbrev StatSo : List Local → List Id → Stat → Stmt → Type 0
    StatSo alive met t u = StatMeans ds own alive met t u (alive_after t alive met) (met_after t met)

    mutual
      unfolding alive_after met_after all_met

      stat_or : (t : Stat) (alive : List Local) (met : List Id) → Or Stmt (StatSo alive met t) (NoStat ds own alive met t)
      stat_or (if_then e b) alive met =
          after (exp_or own alive e) in_condition λ c p. after (stats_or b alive met) in_body λ t q. so (when c t) (if_means p q.means_body)
      stat_or (assignment t x e) alive met =
          after (type_or t) in_type λ u p. given (absent_or x met) local_twice λ a. given (absent_or x (map par_id own)) local_as_parameter λ b.
          after (exp_or own alive e) in_value λ c q. so (declare u (length met) c) (assignment_means p a b refl q)
      stat_or (update v e) alive met =
          after (path_or own alive v) in_target λ u p. after (exp_or own alive e) in_update λ c q.
          so (update_of u p.rest c) (update_means p.means_path q)
      stat_or (construct x es) alive met =
          after (struct_or x) none_made λ k f. after (exps_or own alive es) in_made λ cs m. given (one_each_or own alive f m) construct_miscounted λ e.
          so (create k.at cs) (construct_means f m e)

      stats_or : (b : Stats) (alive : List Local) (met : List Id) → Or Stmts (Body alive met b) (NoStats ds own alive met b)
      stats_or no_stats alive met = so end (record { alive_last = alive; means_body = no_stats_mean })
      stats_or (stats t b) alive met =
          after (stat_or t alive met) in_first λ u p. after (stats_or b (alive_after t alive met) (met_after t met)) in_rest λ c q.
          so (next u c) (record { alive_last = q.alive_last; means_body = stats_mean p q.means_body })

  -- Structs and schedules ------------------------------------------------------------------------

  pars_or : (d : Struct) → Or (List Ty) (ParsMean ds d) (NoDef ds d)
  pars_or d =
      given (distinct_or (map par_id (pars_of d))) parameter_twice λ n. after (each_or par_or (pars_of d)) in_parameter λ us e. so us (pars_mean n e)
    where
      par_or : (q : Par) → Or Ty (ParMeans ds q) (NoPar ds q)
      par_or q = after (type_or (par_type q)) in_par λ u p. so u (par_means p)

  -- the name of a step of the text has a number
  step_number : (x : Id) → Among x (all_steps ds) → (p : Place Id) × (Found (λ z. z) x p.at p.element (step_names ds))
  unfolding step_names
  step_number x m = go (once_keeps x [] (all_steps ds) m) (found_or (λ z. z) x (step_names ds))
    where
      go : (Among x []) ⊎ (Among x (once [] (all_steps ds))) → Or (Place Id) (FoundAt (λ z. z) x (step_names ds)) (Absent x (map (λ z. z) (step_names ds)))
          → (p : Place Id) × (Found (λ z. z) x p.at p.element (step_names ds))
      go r (so p f) = (p, f)
      go (inr n) (not_so a) = absurd (among_absent (same_row n) a)
      go (inl x3) (not_so a) = elim x3 [ ]

  abbrev Within : List Id → Type 0
  Within l = (x : Id) → Among x l → Among x (all_steps ds)

  step_or : (own : List Par) (t : Step) → Among (step_id t) (all_steps ds) → Or Named (StepMeans ds (step_names ds) own t) (NoStep ds own t)
  unfolding step_id
  step_or own (step x b) m =
      let (p, f) = step_number x m in
      after (stats_or own b [] []) in_statements λ c q. so (record { name = p.at; body = c }) (step_means f q.means_body)

  steps_or : (own : List Par) (l : List Step) → Within (map step_id l) → Or (List Named) (Each (StepMeans ds (step_names ds) own) l) (One (NoStep ds own) l)
  steps_or own [] w = so [] no_more
  steps_or own (t ∷ l) w =
      after (step_or own t (w (step_id t) (first refl))) this_one λ u p. after (steps_or own l (λ x m. w x (other m))) later_one λ us e.
      so (u ∷ us) (and_then p e)

  defs_or : (l : List Struct) → Within (all_steps l) → Or (List (List Named)) (Each (StepsMean ds (step_names ds)) l) (One (NoDef ds) l)
  unfolding all_steps
  defs_or [] w = so [] no_more
  defs_or (d ∷ l) w =
      after (steps_or (pars_of d) (steps_of d) (λ x m. w x (among_left (all_steps l) m))) (λ o. this_one (in_step o)) λ u p.
      after (defs_or l (λ x m. w x (among_right (map step_id (steps_of d)) m))) later_one λ us e. so (u ∷ us) (and_then (steps_mean p) e)

  called_or : (x : Id) → Or (Place Id) (FoundAt (λ z. z) x (step_names ds)) (Absent x (all_steps ds))
  called_or x = go (absent_or x (all_steps ds))
    where
      go : (Absent x (all_steps ds)) ⊎ (Among x (all_steps ds)) → Or (Place Id) (FoundAt (λ z. z) x (step_names ds)) (Absent x (all_steps ds))
      go (inl a) = not_so a
      go (inr m) = let (p, f) = step_number x m in so p f

  mutual
    item_or : (i : Item) → Or Call (ItemMeans ds (step_names ds) i) (NoItem ds i)
    item_or (execution x) = after (called_or x) no_step λ p f. so (call p.at) (execution_means f)
    item_or (typed_execution x y) =
        after (struct_or x) no_struct_before λ p f. after (called_or y) no_typed_step λ q g. so (call_in p.at q.at) (typed_means f g)
    item_or (fixpoint s) = after (sched_or s) in_fix λ is p. so (fix is) (fix_means p)

    sched_or : (s : Sched) → Or Items (SchedMeans ds (step_names ds) s) (NoSched ds s)
    sched_or (last_item i) = after (item_or i) in_last λ c p. so (item c stop) (last_means p)
    sched_or (barrier i s) = after (item_or i) in_item λ c p. after (sched_or s) in_items λ is q. so (item c is) (barrier_means p q)

-- The statements ---------------------------------------------------------------------------------

means_or : (c : Derivation) → Or Program (Means c) (Unmeant c)
means_or (program d s) =
    given (distinct_or (map struct_id (structs_of d))) struct_twice λ n. after (each_or (pars_or (structs_of d)) (structs_of d)) in_struct λ us a.
    after (defs_or (structs_of d) (structs_of d) (λ x m. m)) in_struct λ ts b. after (sched_or (structs_of d) s) in_schedule λ is q.
    so (record { params = us; steps = ts; schedule = is }) (means n a b q)

-- a derivation has a cause of 17 exactly where it means no program
pub unmeant_exactly : (c : Derivation) → ((p : Program) → Means c p → ⊥) ↔ Unmeant c
unmeant_exactly c = (λ n. go n (means_or c), λ u p m. unmeant_none u m)
  where
    go : ((p : Program) → Means c p → ⊥) → Or Program (Means c) (Unmeant c) → Unmeant c
    go n (so p m) = absurd (n p m)
    go n (not_so u) = u
