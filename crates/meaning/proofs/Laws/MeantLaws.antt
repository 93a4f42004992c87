-- What is computed is what a derivation means. With it, a derivation means one program at most.
use Rattle.std.specs.Prelude.{ℕ, Bool, length, eqb, ltb, ◌≡◌, ℤ, pos, negsuc, ◌↔◌}
use Rattle.std.proofs.Math.Bool.{true, false}
use mathlib.Core.List.{List, [], ◌∷◌, map}
use Rattle.std.proofs.Math.Option.{Option, none, some}
use Rattle.types.specs.Limits.{nat_end}
use Rattle.types.specs.Types.{Ty}
use Rattle.types.specs.Values.{in_int, int_word}
use Rattle.program.specs.Tree.{Expr, Expr.make, Expr.int_lit, Expr.nat_lit, Expr.bool_lit, Expr.self, Exprs, Exprs.none as no_args, args}
use Rattle.program.specs.Tree.{Stmt, Stmt.create, Stmts, Stmts.end, Item as Call, Items, Step as Named, Program}
use Rattle.syntax.specs.Syntax.{Id, TypeName, TypeName.int_type, TypeName.nat_type, TypeName.bool_type, TypeName.id_type, Literal}
use Rattle.syntax.specs.Syntax.{Literal.int_literal, Literal.nat_literal, Literal.bool_literal, Var, Var.id as one_id, Var.dot}
use Rattle.syntax.specs.Syntax.{Exp, Exp.binary, Exp.brackets, Exp.negation, Exp.constructor, Exp.variable, Exp.literal, Exp.null, Exp.this, Exps}
use Rattle.syntax.specs.Syntax.{Exps.no_exps, Exps.exps, Stat, Stat.if_then, Stat.assignment, Stat.update, Stat.construct, Stats, Stats.no_stats}
use Rattle.syntax.specs.Syntax.{Stats.stats}
use Rattle.syntax.specs.Syntax.{Par, Step, Step.step, Struct, Item, Item.execution, Item.typed_execution, Item.fixpoint, Sched, Sched.last_item}
use Rattle.syntax.specs.Syntax.{Sched.barrier, Program as Derivation, Program.program}
use Rattle.meaning.specs.Scope.{par_id, par_type, struct_id, pars_of, steps_of, structs_of, Local, local_id}
use Rattle.meaning.specs.StepNames.{step_names}
use Rattle.meaning.specs.Values.{decimal, signed}
use Rattle.meaning.specs.Finding.{find, absent, distinct}
use Rattle.std.proofs.Common.{arith, eqb-true, ltb-true}
use Rattle.std.proofs.Math.Path.{refl}
use Rattle.types.specs.Values.{IntRange}
use Rattle.meaning.specs.Scope.{Each, Each.no_more, Each.and_then}
use Rattle.meaning.specs.Means.{LiteralMeans, LiteralMeans.int_means, LiteralMeans.nat_means, LiteralMeans.true_means, LiteralMeans.false_means}
use Rattle.meaning.specs.Means.{TypeMeans, TypeMeans.int_is, TypeMeans.nat_is, TypeMeans.bool_is, TypeMeans.struct_is, Refers, Refers.refers}
use Rattle.meaning.specs.Means.{Further, Further.last, Further.goes_on, Starts, Starts.a_parameter, Starts.a_local, PathMeans, PathMeans.alone}
use Rattle.meaning.specs.Means.{PathMeans.behind}
use Rattle.meaning.specs.Means.{ExpMeans, ExpMeans.binary_means, ExpMeans.brackets_mean, ExpMeans.negation_means, ExpMeans.constructor_means}
use Rattle.meaning.specs.Means.{ExpMeans.variable_means, ExpMeans.literal_means, ExpMeans.null_means, ExpMeans.this_means, ExpsMean}
use Rattle.meaning.specs.Means.{ExpsMean.no_exps_mean, ExpsMean.exps_mean}
use Rattle.meaning.specs.Means.{StatMeans, StatMeans.if_means, StatMeans.assignment_means, StatMeans.update_means, StatMeans.construct_means}
use Rattle.meaning.specs.Means.{StatsMean, StatsMean.no_stats_mean, StatsMean.stats_mean, ParMeans.par_means, ParsMean, ParsMean.pars_mean}
use Rattle.meaning.specs.Means.{StepMeans, StepMeans.step_means, StepsMean, StepsMean.steps_mean, ItemMeans, ItemMeans.execution_means}
use Rattle.meaning.specs.Means.{ItemMeans.typed_means, ItemMeans.fix_means, SchedMeans, SchedMeans.last_means, SchedMeans.barrier_means, Means}
use Rattle.meaning.specs.Means.{Means.means}
use Rattle.meaning.specs.Meant.{then, provided, each, literal_meaning, Start, PathOf, Behind, type_meaning, referred, further, started, start}
use Rattle.meaning.specs.Meant.{path_meaning, exp_meaning, exps_meaning, stat_meaning, stats_meaning, pars_meaning, step_meaning, steps_meaning}
use Rattle.meaning.specs.Meant.{item_meaning, sched_meaning, text_meaning, meant}
use Rattle.meaning.specs.Finding.{decides_absent, decides_distinct, find_sound}
use Rattle.meaning.proofs.Laws.MeantComplete.{means_meant}

nothing_said : {A P : Type 0} {b : A} → ◌≡◌ {A = Option A} none (some b) → P
nothing_said e = absurd (let z : ◌≡◌ {A = ℕ} 0 1 = cc in omega arith)

same_answer : {A : Type 0} {a b : A} → ◌≡◌ {A = Option A} (some a) (some b) → a ≡ b
same_answer e = cc

-- an answer in two parts has both; one that is provided for is
then_parts : {A B : Type 0} (o : Option A) (f : A → Option B) {b : B} → then o f ≡ some b → (a : A) × (o ≡ some a) × (f a ≡ some b)
unfolding then
then_parts none f e = nothing_said e
then_parts (some a) f e = (a, refl, e)

provided_parts : {A : Type 0} (t : Bool) (o : Option A) {b : A} → provided t o ≡ some b → (t ≡ true) × (o ≡ some b)
unfolding provided
provided_parts true o e = (refl, e)
provided_parts false o e = nothing_said e

pub range_of : (z : ℤ) → in_int z ≡ true → IntRange z
unfolding in_int
range_of (pos n) e = ltb-true n _ e
range_of (negsuc n) e = ltb-true n _ e

literal_sound : (l : Literal) (c : Expr) → literal_meaning l ≡ some c → LiteralMeans l c
unfolding literal_meaning
literal_sound (int_literal p ds) c e =
    let (t, q) = provided_parts (in_int (signed p (decimal ds))) (some (int_lit (int_word (signed p (decimal ds))))) e in
    rw (← same_answer q) (int_means (range_of (signed p (decimal ds)) t))
literal_sound (nat_literal ds) c e =
    let (t, q) = provided_parts (ltb (decimal ds) nat_end) (some (nat_lit (decimal ds))) e in
    rw (← same_answer q) (nat_means (ltb-true (decimal ds) nat_end t))
literal_sound (bool_literal true) c e = rw (← same_answer {a = bool_lit 1} e) true_means
literal_sound (bool_literal false) c e = rw (← same_answer {a = bool_lit 0} e) false_means

each_sound : {A B : Type 0} {R : A → B → Type 0} (f : A → Option B) → ((a : A) (b : B) → f a ≡ some b → R a b) → (l : List A) (m : List B)
    → each f l ≡ some m → Each R l m
unfolding each
each_sound f h [] m e = rw (← same_answer e) no_more
each_sound f h (a ∷ l) m e =
    let (b, p, q) = then_parts (f a) _ e in
    let (n, r, s) = then_parts (each f l) _ q in
    rw (← same_answer s) (and_then (h a b p) (each_sound f h l n r))

module _ (ds : List Struct) where
  type_sound : (t : TypeName) (u : Ty) → type_meaning ds t ≡ some u → TypeMeans ds t u
  unfolding type_meaning
  type_sound int_type u e = rw (← same_answer e) int_is
  type_sound nat_type u e = rw (← same_answer e) nat_is
  type_sound bool_type u e = rw (← same_answer e) bool_is
  type_sound (id_type x) u e = let (p, q, r) = then_parts (find struct_id x ds) _ e in rw (← same_answer r) (struct_is (find_sound struct_id x ds p q))

  refers_sound : (t : TypeName) (d : Struct) → referred ds t ≡ some d → Refers ds t d
  unfolding referred
  refers_sound int_type d e = nothing_said e
  refers_sound nat_type d e = nothing_said e
  refers_sound bool_type d e = nothing_said e
  refers_sound (id_type x) d e = let (p, q, r) = then_parts (find struct_id x ds) _ e in rw (← same_answer r) (refers (find_sound struct_id x ds p q))

  further_sound : (d : Struct) (v : Var) (vs : List ℕ) → further ds d v ≡ some vs → Further ds d v vs
  unfolding further
  further_sound d (one_id x) vs e =
      let (p, q, r) = then_parts (find par_id x (pars_of d)) _ e in
      rw (← same_answer r) (last (find_sound par_id x (pars_of d) p q))
  further_sound d (dot x v) vs e =
      let (p, q, r) = then_parts (find par_id x (pars_of d)) _ e in
      let (f, g, h) = then_parts (referred ds (par_type p.element)) _ r in
      let (w, y, z) = then_parts (further ds f v) _ h in
      rw (← same_answer z) (goes_on (find_sound par_id x (pars_of d) p q) (refers_sound (par_type p.element) f g) (further_sound f v w y))

  module _ (own : List Par) (alive : List Local) where
    start_sound : (x : Id) (s : Start) → start ds own alive x ≡ some s → Starts ds own alive x s.variable_of s.type_of
    unfolding start started
    start_sound x s e = go (absent x (map par_id own)) refl e
      where
        go : (t : Bool) → absent x (map par_id own) ≡ t → started ds own alive t x ≡ some s → Starts ds own alive x s.variable_of s.type_of
        go true a f =
            let (p, q, r) = then_parts (find local_id x alive) _ f in
            rw (← same_answer r) (a_local ((decides_absent x (map par_id own)).holds a) (find_sound local_id x alive p q))
        go false a f =
            let (p, q, r) = then_parts (find par_id x own) _ f in
            rw (← same_answer r) (a_parameter (find_sound par_id x own p q))

    path_sound : (v : Var) (p : PathOf) → path_meaning ds own alive v ≡ some p → PathMeans ds own alive v p.first p.rest
    unfolding path_meaning
    path_sound (one_id x) p e = let (s, q, r) = then_parts (start ds own alive x) _ e in rw (← same_answer r) (alone (start_sound x s q))
    path_sound (dot x v) p e =
        let (s, q, r) = then_parts (start ds own alive x) _ e in
        let (d, g, h) = then_parts (referred ds s.type_of) _ r in
        let (w, y, z) = then_parts (further ds d v) _ h in
        rw (← same_answer z) (behind (start_sound x s q) (refers_sound s.type_of d g) (further_sound d v w y))

    mutual
      unfolding exp_meaning exps_meaning

      exp_sound : (e : Exp) (c : Expr) → exp_meaning ds own alive e ≡ some c → ExpMeans ds own alive e c
      exp_sound (binary o a b) c h =
          let (x, p, q) = then_parts (exp_meaning ds own alive a) _ h in
          let (y, r, s) = then_parts (exp_meaning ds own alive b) _ q in
          rw (← same_answer s) (binary_means (exp_sound a x p) (exp_sound b y r))
      exp_sound (brackets e) c h = brackets_mean (exp_sound e c h)
      exp_sound (negation e) c h = let (x, p, q) = then_parts (exp_meaning ds own alive e) _ h in rw (← same_answer q) (negation_means (exp_sound e x p))
      exp_sound (constructor x es) c h =
          let (k, p, q) = then_parts (find struct_id x ds) _ h in
          let (cs, r, s) = then_parts (exps_meaning ds own alive es) _ q in
          let (t, z) = provided_parts (eqb (args cs) (length (pars_of k.element))) (some (make k.at cs)) s in
          rw (← same_answer z) (constructor_means (find_sound struct_id x ds k p) (exps_sound es cs r) (eqb-true _ _ t))
      exp_sound (variable v) c h = let (x, p, q) = then_parts (path_meaning ds own alive v) _ h in rw (← same_answer q) (variable_means (path_sound v x p))
      exp_sound (literal l) c h = literal_means (literal_sound l c h)
      exp_sound (null t) c h = let (x, p, q) = then_parts (type_meaning ds t) _ h in rw (← same_answer q) (null_means (type_sound t x p))
      exp_sound this c h = rw (← same_answer {a = self} h) this_means

      exps_sound : (es : Exps) (cs : Exprs) → exps_meaning ds own alive es ≡ some cs → ExpsMean ds own alive es cs
      exps_sound no_exps cs h = rw (← same_answer {a = no_args} h) no_exps_mean
      exps_sound (exps e es) cs h =
          let (x, p, q) = then_parts (exp_meaning ds own alive e) _ h in
          let (y, r, s) = then_parts (exps_meaning ds own alive es) _ q in
          rw (← same_answer s) (exps_mean (exp_sound e x p) (exps_sound es y r))

  module _ (own : List Par) where
    mutual
      unfolding stat_meaning stats_meaning

      stat_sound : (t : Stat) (alive : List Local) (met : List Id) (r : Behind Stmt) → stat_meaning ds own t alive met ≡ some r
          → StatMeans ds own alive met t r.tree r.alive r.met
      stat_sound (if_then e b) alive met r h =
          let (x, p, q) = then_parts (exp_meaning ds own alive e) _ h in
          let (y, u, s) = then_parts (stats_meaning ds own b alive met) _ q in
          rw (← same_answer s) (if_means (exp_sound own alive e x p) (stats_sound b alive met y u))
      stat_sound (assignment t x e) alive met r h =
          let (y, p, q) = then_parts (type_meaning ds t) _ h in
          let (a, u) = provided_parts (absent x met) _ q in
          let (b, v) = provided_parts (absent x (map par_id own)) _ u in
          let (c, w, z) = then_parts (exp_meaning ds own alive e) _ v in
          rw (← same_answer z)
          (assignment_means (type_sound t y p) ((decides_absent x met).holds a) ((decides_absent x (map par_id own)).holds b) refl (exp_sound own alive e c w))
      stat_sound (update v e) alive met r h =
          let (x, p, q) = then_parts (path_meaning ds own alive v) _ h in
          let (y, u, s) = then_parts (exp_meaning ds own alive e) _ q in
          rw (← same_answer s) (update_means (path_sound own alive v x p) (exp_sound own alive e y u))
      stat_sound (construct x es) alive met r h =
          let (k, p, q) = then_parts (find struct_id x ds) _ h in
          let (cs, u, s) = then_parts (exps_meaning ds own alive es) _ q in
          let (t, z) =
          provided_parts (eqb (args cs) (length (pars_of k.element))) (some (record { tree = create k.at cs; alive = alive; met = met })) s in
          rw (← same_answer z) (construct_means (find_sound struct_id x ds k p) (exps_sound own alive es cs u) (eqb-true _ _ t))

      stats_sound : (b : Stats) (alive : List Local) (met : List Id) (r : Behind Stmts) → stats_meaning ds own b alive met ≡ some r
          → StatsMean ds own alive met b r.tree r.alive r.met
      stats_sound no_stats alive met r h = rw (← same_answer {a = record { tree = end; alive = alive; met = met }} h) no_stats_mean
      stats_sound (stats t b) alive met r h =
          let (x, p, q) = then_parts (stat_meaning ds own t alive met) _ h in
          let (y, u, s) = then_parts (stats_meaning ds own b x.alive x.met) _ q in
          rw (← same_answer s) (stats_mean (stat_sound t alive met x p) (stats_sound b x.alive x.met y u))

  pars_sound : (d : Struct) (us : List Ty) → pars_meaning ds d ≡ some us → ParsMean ds d us
  unfolding pars_meaning
  pars_sound d us e =
      let (t, q) = provided_parts (distinct (map par_id (pars_of d))) _ e in
      pars_mean ((decides_distinct (map par_id (pars_of d))).holds t)
      (each_sound (λ q. type_meaning ds (par_type q)) (λ q u f. par_means (type_sound (par_type q) u f)) (pars_of d) us q)

  module _ (names : List Id) where
    step_sound : (own : List Par) (t : Step) (u : Named) → step_meaning ds names own t ≡ some u → StepMeans ds names own t u
    unfolding step_meaning
    step_sound own (step x b) u e =
        let (n, p, q) = then_parts (find (λ z. z) x names) _ e in
        let (r, v, s) = then_parts (stats_meaning ds own b [] []) _ q in
        rw (← same_answer s) (step_means (find_sound (λ z. z) x names n p) (stats_sound own b [] [] r v))

    steps_sound : (d : Struct) (us : List Named) → steps_meaning ds names d ≡ some us → StepsMean ds names d us
    unfolding steps_meaning
    steps_sound d us e = steps_mean (each_sound (step_meaning ds names (pars_of d)) (step_sound (pars_of d)) (steps_of d) us e)

    mutual
      unfolding item_meaning sched_meaning

      item_sound : (i : Item) (c : Call) → item_meaning ds names i ≡ some c → ItemMeans ds names i c
      item_sound (execution x) c e =
          let (n, p, q) = then_parts (find (λ z. z) x names) _ e in
          rw (← same_answer q) (execution_means (find_sound (λ z. z) x names n p))
      item_sound (typed_execution x y) c e =
          let (k, p, q) = then_parts (find struct_id x ds) _ e in
          let (n, r, s) = then_parts (find (λ z. z) y names) _ q in
          rw (← same_answer s) (typed_means (find_sound struct_id x ds k p) (find_sound (λ z. z) y names n r))
      item_sound (fixpoint s) c e = let (x, p, q) = then_parts (sched_meaning ds names s) _ e in rw (← same_answer q) (fix_means (sched_sound s x p))

      sched_sound : (s : Sched) (is : Items) → sched_meaning ds names s ≡ some is → SchedMeans ds names s is
      sched_sound (last_item i) is e = let (x, p, q) = then_parts (item_meaning ds names i) _ e in rw (← same_answer q) (last_means (item_sound i x p))
      sched_sound (barrier i s) is e =
          let (x, p, q) = then_parts (item_meaning ds names i) _ e in
          let (y, r, t) = then_parts (sched_meaning ds names s) _ q in
          rw (← same_answer t) (barrier_means (item_sound i x p) (sched_sound s y r))

pub meant_means : (c : Derivation) (p : Program) → meant c ≡ some p → Means c p
unfolding meant text_meaning
meant_means (program d s) p e =
    let ds : List Struct = structs_of d in
    let (t, q) = provided_parts (distinct (map struct_id ds)) _ e in
    let (us, a, b) = then_parts (each (pars_meaning ds) ds) _ q in
    let (ts, f, g) = then_parts (each (steps_meaning ds (step_names ds)) ds) _ b in
    let (is, h, k) = then_parts (sched_meaning ds (step_names ds) s) _ g in
    rw (← same_answer k)
    (means ((decides_distinct (map struct_id ds)).holds t) (each_sound (pars_meaning ds) (pars_sound ds) ds us a)
    (each_sound (steps_meaning ds (step_names ds)) (steps_sound ds (step_names ds)) ds ts f) (sched_sound ds (step_names ds) s is h))

-- The statements ------------------------------------------------------------------------------------

-- the function answers p exactly where the derivation means p
pub means_exact : (c : Derivation) (p : Program) → (meant c ≡ some p) ↔ Means c p
means_exact c p = (meant_means c p, means_meant)

-- and it means one program at most
pub means_one : {c : Derivation} {p q : Program} → Means c p → Means c q → p ≡ q
means_one l m = let e = means_meant l in let f = means_meant m in cc
