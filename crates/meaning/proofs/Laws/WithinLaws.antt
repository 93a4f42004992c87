-- What is meant and has none of the causes of `Exceeds` is held by a stream (02 §1, 17).
use Rattle.std.specs.Prelude.{ℕ, suc, ◌<◌, ◌≤◌, ◌≡◌, refl, ◌↔◌, ◌⊎◌, List, [], ◌∷◌, map, length, get_or, ℤ, pos, negsuc}
use native.Mathlib.Omega.{arith}
use Rattle.std.proofs.Common.{sym, ap, ◌∙◌, inr}
use Rattle.std.proofs.Math.Logic.{inl}
use Rattle.types.specs.Limits.{max_structs, max_params, max_steps, step_names, max_statements, max_items, nat_end, first_local, max_locals, max_path}
use Rattle.types.specs.Types.{Ty, IsType}
use Rattle.types.specs.Values.{IntRange, int_word}
use Rattle.program.specs.Tree.{Var as Variable, Var.par as parameter, Var.loc as local, Expr, Exprs, Stmt, Stmts, Item as Call, Items, Step as Named}
use Rattle.program.specs.Tree.{Program, size, items}
use Rattle.program.specs.Encoding.{enc_program}
use Rattle.program.specs.Counts.{All, Few, IsVar, IsPath, CountsExpr, CountsExprs, CountsItem, CountsItems}
use Rattle.syntax.specs.Syntax.{Id, TypeName, Literal, Exp, Exps, Stat, Stats, Par, Step, Struct, Defs, Defs.last_struct, Defs.defs, Item, Sched}
use Rattle.syntax.specs.Syntax.{Program as Derivation}
use Rattle.meaning.specs.Scope.{Found, Found.here, Found.later, Each, Each.no_more, Each.and_then, struct_id, pars_of, structs_of, Local}
use Rattle.meaning.specs.StepNames.{step_names as names_of}
use Rattle.meaning.specs.Values.{decimal, signed}
use Rattle.meaning.specs.Means.{LiteralMeans, LiteralMeans.int_means, LiteralMeans.nat_means, LiteralMeans.true_means, LiteralMeans.false_means}
use Rattle.meaning.specs.Means.{TypeMeans, TypeMeans.int_is, TypeMeans.nat_is, TypeMeans.bool_is, TypeMeans.struct_is}
use Rattle.meaning.specs.Means.{ExpMeans, ExpMeans.binary_means, ExpMeans.brackets_mean, ExpMeans.negation_means, ExpMeans.constructor_means}
use Rattle.meaning.specs.Means.{ExpMeans.variable_means, ExpMeans.literal_means, ExpMeans.null_means, ExpMeans.this_means, ExpsMean}
use Rattle.meaning.specs.Means.{ExpsMean.no_exps_mean, ExpsMean.exps_mean}
use Rattle.meaning.specs.Means.{StatMeans, StatMeans.if_means, StatMeans.assignment_means, StatMeans.update_means, StatMeans.construct_means}
use Rattle.meaning.specs.Means.{StatsMean, StatsMean.no_stats_mean, StatsMean.stats_mean, ParMeans, ParMeans.par_means, ParsMean}
use Rattle.meaning.specs.Means.{ParsMean.pars_mean, StepMeans, StepMeans.step_means, StepsMean, StepsMean.steps_mean, ItemMeans}
use Rattle.meaning.specs.Means.{ItemMeans.execution_means, ItemMeans.typed_means, ItemMeans.fix_means, SchedMeans, SchedMeans.last_means}
use Rattle.meaning.specs.Means.{SchedMeans.barrier_means, Means, Means.means}
use Rattle.meaning.specs.Holds.{max_stream, HoldsStmt, HoldsStmts, HoldsStep, HoldsSchedule, Counted, Holds}
use Rattle.meaning.specs.Unmeant.{One, One.this_one, One.later_one}
use Rattle.meaning.specs.Exceeds.{LargeVar, LargeVar.large_parameter, LargeVar.large_local, LargePath, LargePath.large_first, LargePath.long_path}
use Rattle.meaning.specs.Exceeds.{LargePath.large_later, LargeExpr, LargeExpr.large_inv, LargeExpr.large_make, LargeExpr.large_path}
use Rattle.meaning.specs.Exceeds.{LargeExpr.large_left, LargeExpr.large_right, LargeExprs, LargeExprs.large_argument, LargeExprs.large_more}
use Rattle.meaning.specs.Exceeds.{LargeStmt, LargeStmt.large_condition, LargeStmt.long_body, LargeStmt.large_body, LargeStmt.local_number}
use Rattle.meaning.specs.Exceeds.{LargeStmt.large_value, LargeStmt.large_target, LargeStmt.large_update, LargeStmt.large_create, LargeStmts}
use Rattle.meaning.specs.Exceeds.{LargeStmts.large_first_stmt, LargeStmts.large_rest, LargeStep, LargeStep.name_number, LargeStep.long_step}
use Rattle.meaning.specs.Exceeds.{LargeStep.large_step, LargeSteps, LargeSteps.many_steps, LargeSteps.in_steps, LargeItem, LargeItem.call_number}
use Rattle.meaning.specs.Exceeds.{LargeItem.call_in_number, LargeItem.many_in_fix, LargeItem.large_in_fix, LargeItems, LargeItems.large_item}
use Rattle.meaning.specs.Exceeds.{LargeItems.large_items, Exceeds, Exceeds.many_structs, Exceeds.many_parameters, Exceeds.large_steps}
use Rattle.meaning.specs.Exceeds.{Exceeds.many_items, Exceeds.large_schedule, Exceeds.many_bytes}
use Rattle.meaning.proofs.Laws.CauseLaws.{below_or}
use Rattle.meaning.proofs.Laws.ExceedsLaws.{exceeds_none}

-- Held, or a cause -----------------------------------------------------------------------------------

-- one after another: the first cause stops
also : {P Q A C : Type 0} → P ⊎ A → (A → C) → (P → Q ⊎ C) → Q ⊎ C
also (inl p) f g = g p
also (inr a) f g = inr (f a)

all_or : {A : Type 0} {C E : A → Type 0} → ((a : A) → (C a) ⊎ (E a)) → (l : List A) → (All C l) ⊎ (One E l)
all_or h [] = inl tt
all_or h (a ∷ l) = also (h a) this_one λ c. also (all_or h l) later_one λ d. inl (c, d)

-- at most so many
most_or : (a b : ℕ) → (a ≤ b) ⊎ (b < a)
most_or a b = go (below_or b a)
  where
    go : (b < a) ⊎ (a ≤ b) → (a ≤ b) ⊎ (b < a)
    go (inl h) = inr h
    go (inr h) = inl h

var_or : (v : Variable) → (IsVar v) ⊎ (LargeVar v)
unfolding IsVar
var_or (parameter x) = also (below_or x first_local) large_parameter inl
var_or (local x) = also (below_or x max_locals) large_local inl

path_or : (v : Variable) (vs : List ℕ) → (IsPath v vs) ⊎ (LargePath v vs)
unfolding IsPath
path_or v vs =
    also (var_or v) large_first λ a. also (below_or (length vs) max_path) long_path λ b. also (all_or (λ x. below_or x first_local) vs) large_later λ c.
    inl (a, b, c)

int_held : (z : ℤ) → IntRange z → int_word z < nat_end
unfolding int_word
int_held (pos n) h = omega (arith, h)
int_held (negsuc n) h = omega (arith, h)

-- `ar` has the parameter count of each of the structs
abbrev Known : List Struct → List ℕ → Type 0
Known ds ar = (x : Id) (k : ℕ) (d : Struct) → Found struct_id x k d ds → (k < length ar) × (get_or ar k 0 ≡ length (pars_of d))

module _ (ds : List Struct) (ar : List ℕ) (known : Known ds ar) where
  type_held : {t : TypeName} {u : Ty} → TypeMeans ds t u → IsType (length ar) u
  type_held int_is = tt
  type_held nat_is = tt
  type_held bool_is = tt
  type_held (struct_is {x = x} {k = k} {d = d} f) = (known x k d f).0

  literal_held : {l : Literal} {c : Expr} → LiteralMeans l c → CountsExpr ar c
  unfolding CountsExpr
  literal_held (int_means {p = p} {ds = ds} h) = int_held (signed p (decimal ds)) h
  literal_held (nat_means h) = h
  literal_held true_means = omega arith
  literal_held false_means = omega arith

  module _ (own : List Par) (alive : List Local) where
    mutual
      unfolding CountsExpr CountsExprs

      expr_or : {e : Exp} {c : Expr} → ExpMeans ds own alive e c → (CountsExpr ar c) ⊎ (LargeExpr c)
      expr_or (binary_means p q) = also (expr_or p) large_left λ a. also (expr_or q) large_right λ b. inl (a, b)
      expr_or (brackets_mean p) = expr_or p
      expr_or (negation_means p) = also (expr_or p) large_inv inl
      expr_or (constructor_means {x = x} {k = k} {d = d} f p n) =
          also (exprs_or p) large_make λ a. let (h, e) = known x k d f in inl (h, n ∙ sym e, a)
      expr_or (variable_means {u = u} {vs = vs} p) = also (path_or u vs) large_path inl
      expr_or (literal_means p) = inl (literal_held p)
      expr_or (null_means p) = inl (type_held p)
      expr_or this_means = inl tt

      exprs_or : {es : Exps} {cs : Exprs} → ExpsMean ds own alive es cs → (CountsExprs ar cs) ⊎ (LargeExprs cs)
      exprs_or no_exps_mean = inl tt
      exprs_or (exps_mean p q) = also (expr_or p) large_argument λ a. also (exprs_or q) large_more λ b. inl (a, b)

  module _ (own : List Par) where
    mutual
      unfolding HoldsStmt HoldsStmts

      stmt_or : {alive after : List Local} {met met' : List Id} {t : Stat} {u : Stmt} → StatMeans ds own alive met t u after met'
          → (HoldsStmt ar u) ⊎ (LargeStmt u)
      stmt_or {alive} (if_means {t = t} p q) =
          also (expr_or own alive p) large_condition λ a. also (most_or (size t) max_statements) long_body λ b. also (stmts_or q) large_body λ c. inl (a, b, c)
      stmt_or {alive} (assignment_means {n = n} p a b e q) =
          also (below_or n max_locals) local_number λ h. also (expr_or own alive q) large_value λ c. inl (type_held p, h, c)
      stmt_or {alive} (update_means {u = u} {vs = vs} p q) =
          also (path_or u vs) large_target λ a. also (expr_or own alive q) large_update λ b. inl (a, b)
      stmt_or {alive} (construct_means {x = x} {k = k} {d = d} f p n) =
          also (exprs_or own alive p) large_create λ a. let (h, e) = known x k d f in inl (h, n ∙ sym e, a)

      stmts_or : {alive after : List Local} {met met' : List Id} {b : Stats} {c : Stmts} → StatsMean ds own alive met b c after met'
          → (HoldsStmts ar c) ⊎ (LargeStmts c)
      stmts_or no_stats_mean = inl tt
      stmts_or (stats_mean p q) = also (stmt_or p) large_first_stmt λ a. also (stmts_or q) large_rest λ b. inl (a, b)

  module _ (names : List Id) where
    step_or : {own : List Par} {t : Step} {u : Named} → StepMeans ds names own t u → (HoldsStep ar u) ⊎ (LargeStep u)
    unfolding HoldsStep
    step_or {own} (step_means {n = n} {c = c} f p) =
        also (below_or n step_names) name_number λ a. also (most_or (size c) max_statements) long_step λ b. also (stmts_or own p) large_step λ d. inl (a, b, d)

    steps_or : {own : List Par} {l : List Step} {us : List Named} → Each (StepMeans ds names own) l us → (All (HoldsStep ar) us) ⊎ (One LargeStep us)
    steps_or no_more = inl tt
    steps_or (and_then p e) = also (step_or p) this_one λ a. also (steps_or e) later_one λ b. inl (a, b)

    all_steps_or : {l : List Struct} {ts : List (List Named)} → Each (StepsMean ds names) l ts
        → (All (Few 0 max_steps (HoldsStep ar)) ts) ⊎ (One LargeSteps ts)
    all_steps_or no_more = inl tt
    all_steps_or (and_then {b = us} (steps_mean q) e) =
        also (most_or (length us) max_steps) (λ h. this_one (many_steps h)) λ a. also (steps_or q) (λ o. this_one (in_steps o)) λ b.
        also (all_steps_or e) later_one λ c. inl ((omega arith, a, b), c)

    some_items : {s : Sched} {is : Items} → SchedMeans ds names s is → 1 ≤ items is
    unfolding items
    some_items (last_means p) = omega arith
    some_items (barrier_means p q) = omega arith

    mutual
      unfolding CountsItem CountsItems

      item_or : {i : Item} {c : Call} → ItemMeans ds names i c → (CountsItem ar c) ⊎ (LargeItem c)
      item_or (execution_means {n = n} f) = also (below_or n step_names) call_number inl
      item_or (typed_means {x = x} {k = k} {n = n} {d = d} f g) = also (below_or n step_names) call_in_number λ h. inl ((known x k d f).0, h)
      item_or (fix_means {is = is} p) = also (most_or (items is) max_items) many_in_fix λ a. also (items_or p) large_in_fix λ b. inl (some_items p, a, b)

      items_or : {s : Sched} {is : Items} → SchedMeans ds names s is → (CountsItems ar is) ⊎ (LargeItems is)
      items_or (last_means p) = also (item_or p) large_item λ a. inl (a, tt)
      items_or (barrier_means p q) = also (item_or p) large_item λ a. also (items_or q) large_items λ b. inl (a, b)

-- Programs -----------------------------------------------------------------------------------------

params_or : (ds : List Struct) (n : ℕ) → ((x : Id) (k : ℕ) (d : Struct) → Found struct_id x k d ds → k < n) → {l : List Struct} {us : List (List Ty)}
    → Each (ParsMean ds) l us → (All (Few 0 max_params (IsType n)) us) ⊎ (One (λ (vs : List Ty). max_params < length vs) us)
params_or ds n known no_more = inl tt
params_or ds n known (and_then {b = us} (pars_mean d p) e) =
    also (most_or (length us) max_params) this_one λ a. also (params_or ds n known e) later_one λ c. inl ((omega arith, a, types p), c)
  where
    of_type : {t : TypeName} {u : Ty} → TypeMeans ds t u → IsType n u
    of_type int_is = tt
    of_type nat_is = tt
    of_type bool_is = tt
    of_type (struct_is {x = x} {k = k} {d = d} f) = known x k d f

    types : {l : List Par} {us : List Ty} → Each (ParMeans ds) l us → All (IsType n) us
    types no_more = tt
    types (and_then (par_means p) e) = (of_type p, types e)

each_length : {A B : Type 0} {R : A → B → Type 0} {l : List A} {m : List B} → Each R l m → length m ≡ length l
each_length no_more = refl
each_length (and_then r e) = ap suc (each_length e)

-- what is found among the structs has its place and its parameters in the program
found_known : (ds : List Struct) {l : List Struct} {us : List (List Ty)} → Each (ParsMean ds) l us → Known l (map length us)
found_known ds (and_then (pars_mean n p) e) x k d (here q) = (omega arith, each_length p)
found_known ds (and_then r e) x k d (later {i = i} n f) = let (h, q) = found_known ds e x i d f in (omega (arith, h), q)
found_known ds no_more x k d x8 = elim x8 [ ]

map_length : (us : List (List Ty)) → length (map length us) ≡ length us
map_length [] = refl
map_length (u ∷ us) = ap suc (map_length us)

some_structs : (d : Defs) → 1 ≤ length (structs_of d)
unfolding structs_of
some_structs (last_struct d) = omega arith
some_structs (defs d ds) = omega arith

-- The statements -----------------------------------------------------------------------------------

held_or : {c : Derivation} {p : Program} → Means c p → (Holds p) ⊎ (Exceeds p)
unfolding Counted HoldsSchedule
held_or (means {d = d} {us = us} {ts = ts} {is = is} n a b q) =
    let ds : List Struct = structs_of d in
    let below : (x : Id) (k : ℕ) (e : Struct) → Found struct_id x k e ds → k < length us =
    λ x k e f. let (h, z) = found_known ds a x k e f in omega (arith, h, map_length us) in
    also (most_or (length us) max_structs) many_structs λ few. also (params_or ds (length us) below a) many_parameters λ params.
    also (all_steps_or ds (map length us) (found_known ds a) (names_of ds) b) large_steps λ steps. also (most_or (items is) max_items) many_items λ most.
    also (items_or ds (map length us) (found_known ds a) (names_of ds) q) large_schedule λ schedule.
    also (most_or (length (enc_program (record { params = us; steps = ts; schedule = is }))) max_stream) many_bytes λ bytes.
    inl
    (record {
      counted = (
        (omega (arith, each_length a, some_structs d), few, params),
        each_length b ∙ sym (each_length a),
        steps,
        (some_items ds (map length us) (found_known ds a) (names_of ds) q, most, schedule),
      );
      fits = bytes;
    })

-- a program that a derivation means is held by no stream exactly where it exceeds a count, a number or the bytes
pub exceeds_exactly : {c : Derivation} {p : Program} → Means c p → (Holds p → ⊥) ↔ (Exceeds p)
exceeds_exactly {p = p} m = (λ n. go n (held_or m), λ e h. exceeds_none p e h)
  where
    go : (Holds p → ⊥) → (Holds p) ⊎ (Exceeds p) → Exceeds p
    go n (inl h) = absurd (n h)
    go n (inr e) = e
