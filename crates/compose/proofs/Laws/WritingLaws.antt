-- What is written of a text's steps and schedule: the bytes of what they mean; by the derivation and its meaning.
use Rattle.std.specs.Prelude.{ℕ, suc, ◌≡◌, refl, Bool, true, ◌&&◌, ltb}
use Rattle.std.proofs.Common.{arith, ◌∙◌}
use Rattle.std.proofs.Math.Path.{sym, ap}
use mathlib.Core.List.{List, [], ◌∷◌, ◌++◌, append-nil, append_assoc}
use Rattle.std.proofs.Math.ListN.{length}
use Rattle.types.specs.Limits.{max_statements, max_steps}
use Rattle.types.specs.Types.{Ty}
use Rattle.program.specs.Tree.{Var as Variable, Expr, Exprs, Stmt, Stmt.when, Stmt.declare, Stmt.update as update_of, Stmt.create, Stmts, Stmts.end, Stmts.next}
use Rattle.program.specs.Tree.{size}
use Rattle.program.specs.Tree.{Item as Call, Item.call, Item.call_in, Item.fix, Items, Items.stop, Items.item, Step as Named, Program, items}
use Rattle.program.specs.Encoding.{var_code, flat, enc_list, enc_path, enc_expr, enc_stmt, enc_stmts, enc_step, enc_item, enc_items}
use Rattle.tokens.specs.Tokens.{Sign.semicolon, Sign.assign, Word.w_then, Token.word, Token.sign}
use Rattle.syntax.specs.Syntax.{Id, TypeName, TypeName.int_type, TypeName.nat_type, TypeName.bool_type, TypeName.id_type, Var}
use Rattle.syntax.specs.Syntax.{Exp, Exps, Stat, Stat.if_then, Stat.assignment, Stat.update, Stat.construct, Stats, Stats.no_stats, Stats.stats}
use Rattle.syntax.specs.Syntax.{Par, Par.par, Step, Step.step, Struct, Struct.struct, Defs, Defs.last_struct, Defs.defs, Item, Item.execution}
use Rattle.syntax.specs.Syntax.{Item.typed_execution, Item.fixpoint, Sched, Sched.last_item, Sched.barrier, Program as Derivation, Program.program}
use Rattle.syntax.specs.Bracketing.{loosest, FitsStat, FitsStats, FitsSteps, FitsStruct, FitsDefs, FitsProgram}
use Rattle.meaning.specs.Scope.{steps_of, structs_of, Local, Each, Each.no_more, Each.and_then}
use Rattle.meaning.specs.Means.{PathMeans, StatMeans, StatMeans.if_means, StatMeans.assignment_means, StatMeans.update_means, StatMeans.construct_means}
use Rattle.meaning.specs.Means.{StatsMean, StatsMean.no_stats_mean, StatsMean.stats_mean}
use Rattle.meaning.specs.Means.{StepMeans, StepMeans.step_means, StepsMean, StepsMean.steps_mean, ItemMeans, ItemMeans.execution_means, ItemMeans.typed_means}
use Rattle.meaning.specs.Means.{ItemMeans.fix_means, SchedMeans, SchedMeans.last_means, SchedMeans.barrier_means, Means, Means.means}
use Rattle.text_shape.specs.Roles.{Naming.first_written, Part.then_open, Part.then_close, Part.body_close, Part.pars_close, Part.steps_open, Part.steps_close}
use Rattle.text_shape.specs.Roles.{Part.fix_close, Part.barrier_sign, Role, Role.plain, Role.part, roles_exp, roles_stat}
use Rattle.text_shape.specs.Roles.{roles_stats, roles_par, roles_par_list, roles_pars, roles_step, roles_steps, roles_struct, roles_defs, roles_item}
use Rattle.text_shape.specs.Roles.{roles_sched}
use Rattle.text_shape.specs.Roles.{roles}
use Rattle.resolve.specs.Numbers.{expr_numbers, exprs_numbers, stmt_numbers, stmts_numbers, step_numbers, steps_numbers, item_numbers, items_numbers}
use Rattle.resolve.specs.Outcomes.{onto}
use Rattle.compose.specs.Writing.{Writing, Writing.writing, spelt, put, start}
use Rattle.compose.specs.Checks.{stream_behind, numbers_of, checks, checks_expr, checks_stmt, checks_stmts, checks_steps, checks_item, checks_items}
use Rattle.compose.specs.Checks.{checks_structs}
use Rattle.compose.proofs.Laws.WritingExpLaws.{written, Leaves, Leaves.leaves, left, first_then, as_one, path_left, ended, LeavesExp, LeavesExps, exp_left}
use Rattle.compose.proofs.Laws.WritingExpLaws.{exps_left, close_left}
use Rattle.text_shape.specs.RoleNames.{new_step_role, new_local_role, made_statement_role, called_role, called_struct_role, called_step_role}
use Rattle.text_shape.specs.RoleNames.{local_int_role, local_nat_role, local_bool_role, local_struct_role, fix_open_role, fix_close_role}
use Rattle.text_shape.specs.RoleNames.{steps_close_role, body_open_role, body_close_role, then_open_role, then_close_role, barrier_role}
use Rattle.tokens.specs.KindNames.{if_kind, then_kind, fix_kind, semicolon_kind, dot_kind}
use Rattle.program.specs.Forms.{when_form, update_form}

-- Statements --------------------------------------------------------------------------------------

-- one more in its row
record LeavesStat (t : Stat) (u : Stmt) : Type 0 where
  there : {k : List Role} {z : Writing} {s w n : List ℕ} {c : ℕ} {f : Bool} → Leaves k z (writing s (c ∷ w) (onto (stmt_numbers u) n) 0 f)
      → Leaves (roles_stat t k) z (writing (enc_stmt u ++ s) (suc c ∷ w) n 0 (checks_stmt u f && ltb c max_statements))

record LeavesStats (b : Stats) (t : Stmts) : Type 0 where
  all : {k : List Role} {z : Writing} {s w n : List ℕ} {f : Bool} → Leaves k z (writing s (0 ∷ w) (onto (stmts_numbers t) n) 0 f)
      → Leaves (roles_stats b k) z (writing (enc_stmts t ++ s) (size t ∷ w) n 0 (checks_stmts t f))

if_left : {e : Exp} {d : Expr} {b : Stats} {t : Stmts} → LeavesExp loosest e d → LeavesStats b t → LeavesStat (if_then e b) (when d t)
unfolding roles_stat stmt_numbers enc_stmt checks_stmt written
if_left {e} {d} {b} {t} p q =
    record {
      there = λ {k} {z} {s} {w} {n} {c} {f} h.
          let g : Leaves (part then_close ∷ k) z (writing s (0 ∷ c ∷ w) (onto (stmts_numbers t) (onto (expr_numbers d) n)) 0 f) =
          leaves (ap (put then_close_role 0) (left (first_then (expr_numbers d) (stmts_numbers t) n h))) in
          let i : Leaves (plain (word w_then) ∷ part then_open ∷ roles_stats b (part then_close ∷ k)) z
          (writing (size t ∷ (enc_stmts t ++ s)) (0 ∷ c ∷ w) (onto (expr_numbers d) n) 0 (checks_stmts t f)) =
          leaves (ap (λ x. put then_kind 0 (put then_open_role 0 x)) (left (q.all g))) in
          as_one (when_form ∷ enc_expr d) (size t ∷ enc_stmts t) s (leaves (ap (spelt if_kind 0) (ended p i)));
    }

-- the value of an assignment or an update, behind its sign
value_left : {e : Exp} {d : Expr} → LeavesExp loosest e d → {k : List Role} {z : Writing} {s w n : List ℕ} {f : Bool}
    → Leaves k z (writing s w (onto (expr_numbers d) n) 0 f)
    → Leaves (plain (sign assign) ∷ roles_exp e (plain (sign semicolon) ∷ k)) z (writing (enc_expr d ++ s) w n 0 (checks_expr d f))
unfolding written
value_left {e} {d} p {k} {z} {s} {w} {n} {f} h =
    let g : Leaves (plain (sign semicolon) ∷ k) z (writing s (0 ∷ w) (onto (expr_numbers d) n) 0 f) = leaves (ap (put semicolon_kind 0) (left h)) in
    leaves (ended p g)

assignment_left : (a : TypeName) (x : Id) (u : Ty) (m : ℕ) {e : Exp} {d : Expr} → LeavesExp loosest e d → LeavesStat (assignment a x e) (declare u m d)
unfolding roles_stat stmt_numbers onto enc_stmt checks_stmt written
assignment_left int_type x u m p = record { there = λ h. leaves (ap (λ y. put local_int_role 0 (put new_local_role 0 y)) (left (value_left p h))) }
assignment_left nat_type x u m p = record { there = λ h. leaves (ap (λ y. put local_nat_role 0 (put new_local_role 0 y)) (left (value_left p h))) }
assignment_left bool_type x u m p = record { there = λ h. leaves (ap (λ y. put local_bool_role 0 (put new_local_role 0 y)) (left (value_left p h))) }
assignment_left (id_type i) x u m p = record { there = λ h. leaves (ap (λ y. put local_struct_role 0 (put new_local_role 0 y)) (left (value_left p h))) }

update_left : {ds : List Struct} {own : List Par} {alive : List Local} {v : Var} {u : Variable} {vs : List ℕ} → PathMeans ds own alive v u vs
    → {e : Exp} {d : Expr} → LeavesExp loosest e d → LeavesStat (update v e) (update_of u vs d)
unfolding roles_stat stmt_numbers enc_stmt enc_path checks_stmt written
update_left {u = u} {vs = vs} q {e} {d} p =
    record {
      there = λ {s = s} {n = n} h. as_one (update_form ∷ enc_path u vs) (enc_expr d) s
          (leaves (path_left q first_written n (value_left p (first_then (var_code u ∷ vs) (expr_numbers d) n h))));
    }

construct_left : (x : Id) (j : ℕ) {es : Exps} {cs : Exprs} → LeavesExps es cs → LeavesStat (construct x es) (create j cs)
unfolding roles_stat stmt_numbers onto enc_stmt checks_stmt written
construct_left x j {es} {cs} q =
    record {
      there = λ {k} {z} {s} {w} {n} {c} {f} h.
          let g : Leaves (plain (sign semicolon) ∷ k) z (writing s (0 ∷ c ∷ w) (onto (exprs_numbers cs) (j ∷ n)) 0 f) =
          leaves (ap (put semicolon_kind 0) (left h)) in
          leaves (ap (put made_statement_role 0) (left (q.all (close_left es g))));
    }

stats_end : LeavesStats no_stats end
unfolding roles_stats stmts_numbers onto enc_stmts checks_stmts size
stats_end = record { all = λ h. h }

stats_go_on : {t : Stat} {u : Stmt} {b : Stats} {c : Stmts} → LeavesStat t u → LeavesStats b c → LeavesStats (stats t b) (next u c)
unfolding roles_stats stmts_numbers enc_stmts checks_stmts size
stats_go_on {u = u} {c = c} p q =
    record { all = λ {s = s} {n = n} h. as_one (enc_stmt u) (enc_stmts c) s (p.there (q.all (first_then (stmt_numbers u) (stmts_numbers c) n h))) }

module _ {ds : List Struct} {own : List Par} where
  mutual
    stat_left : (t : Stat) → FitsStat t → {alive after : List Local} {met met' : List Id} {u : Stmt} → StatMeans ds own alive met t u after met'
        → LeavesStat t u
    stat_left (if_then e b) f (if_means m q) = if_left (exp_left e loosest (omega arith) f.0 _ m) (stats_left b f.1 q)
    stat_left (assignment a x e) f (assignment_means {u = u} {n = n} p y z r m) = assignment_left a x u n (exp_left e loosest (omega arith) f _ m)
    stat_left (update v e) f (update_means p m) = update_left p (exp_left e loosest (omega arith) f _ m)
    stat_left (construct x es) f (construct_means {k = k} p m r) = construct_left x k (exps_left es f _ m)

    stats_left : (b : Stats) → FitsStats b → {alive after : List Local} {met met' : List Id} {t : Stmts} → StatsMean ds own alive met b t after met'
        → LeavesStats b t
    stats_left no_stats f no_stats_mean = stats_end
    stats_left (stats t b) f (stats_mean m q) = stats_go_on (stat_left t f.0 m) (stats_left b f.1 q)

-- Structs --------------------------------------------------------------------------------------------

-- parameters leave nothing here
par_left : (q : Par) (k : List Role) (z : Writing) → written (roles_par q k) z ≡ written k z
unfolding roles_par written
par_left (par x int_type) k z = refl
par_left (par x nat_type) k z = refl
par_left (par x bool_type) k z = refl
par_left (par x (id_type y)) k z = refl

par_list_left : (ps : List Par) (k : List Role) (z : Writing) → written (roles_par_list ps k) z ≡ written k z
unfolding roles_par_list written
par_list_left [] k z = refl
par_list_left (q ∷ ps) k z = par_left q (roles_par_list ps k) z ∙ par_list_left ps k z

pars_left : (ps : List Par) (k : List Role) (z : Writing) → written (roles_pars ps k) z ≡ written k z
unfolding roles_pars
pars_left [] k z = refl
pars_left (q ∷ ps) k z = par_left q (roles_par_list ps k) z ∙ par_list_left ps k z

step_left : (x : Id) {b : Stats} {t : Stmts} → LeavesStats b t → (m : ℕ) {k : List Role} {z : Writing} {s w n : List ℕ} {c : ℕ} {f : Bool}
    → Leaves k z (writing s (c ∷ w) (onto (m ∷ stmts_numbers t) n) 0 f)
    → Leaves (roles_step (step x b) k) z (writing (m ∷ size t ∷ (enc_stmts t ++ s)) (suc c ∷ w) n 0 (checks_stmts t f && ltb c max_steps))
unfolding roles_step onto written
step_left x {b} {t} q m {k} {z} {s} {w} {n} {c} {f} h =
    let g : Leaves (part body_close ∷ k) z (writing s (0 ∷ c ∷ w) (onto (stmts_numbers t) (m ∷ n)) 0 f) = leaves (ap (put body_close_role 0) (left h)) in
    leaves (ap (λ y. put new_step_role 0 (put body_open_role 0 y)) (left (q.all g)))

-- the bytes s, but that the first of them still waits
pub record LeavesRow (k : List Role) (z : Writing) (s n : List ℕ) (f : Bool) : Type 0 where
  pub count : ℕ
  pub bytes : List ℕ
  pub all : Leaves k z (writing bytes (count ∷ []) n 0 f)
  pub are : count ∷ bytes ≡ s

module _ {ds : List Struct} {names : List Id} where
  steps_left : {own : List Par} (ss : List Step) → FitsSteps ss → {us : List Named} → Each (StepMeans ds names own) ss us
      → {k : List Role} {z : Writing} {s w n : List ℕ} {f : Bool} → Leaves k z (writing s (0 ∷ w) (onto (steps_numbers us) n) 0 f)
      → Leaves (roles_steps ss k) z (writing (flat enc_step us ++ s) (length us ∷ w) n 0 (checks_steps us f))
  unfolding roles_steps flat step_numbers enc_step checks_steps onto
  steps_left [] f no_more h = h
  steps_left (step x b ∷ ss) f (and_then {b = u} {m = us} (step_means p q) r) {s = s} {n = n} h =
      as_one (enc_step u) (flat enc_step us) s
      (step_left x (stats_left b f.0 q) u.name (steps_left ss f.1 r (first_then (step_numbers u) (steps_numbers us) n h)))

  -- the count of what stands behind a struct, steps or items, is written before its steps
  struct_left : (d : Struct) → FitsStruct d → {us : List Named} → StepsMean ds names d us
      → {k : List Role} {z : Writing} {s w n : List ℕ} {c : ℕ} {f : Bool} → Leaves k z (writing s (c ∷ w) (onto (steps_numbers us) n) 0 f)
      → Leaves (roles_struct d k) z (writing (flat enc_step us ++ (c ∷ s)) (length us ∷ w) n 0 (checks_steps us f))
  unfolding steps_of roles_struct written
  struct_left (struct x ps ss) f {us} (steps_mean m) {k} {z} {s} {w} {n} {c} {f = g} h =
      let i : Leaves (part steps_close ∷ k) z (writing (c ∷ s) (0 ∷ w) (onto (steps_numbers us) n) 0 g) = leaves (ap (put steps_close_role 0) (left h)) in
      leaves (pars_left ps (part pars_close ∷ part steps_open ∷ roles_steps ss (part steps_close ∷ k)) z ∙ left (steps_left ss f m i))

  -- the steps of structs in a row; the first one's count waits
  defs_left : (d : Defs) → FitsDefs d → {uss : List (List Named)} → Each (StepsMean ds names) (structs_of d) uss
      → {k : List Role} {z : Writing} (s n : List ℕ) (c : ℕ) {f : Bool} → Leaves k z (writing s (c ∷ []) (onto (flat steps_numbers uss) n) 0 f)
      → LeavesRow (roles_defs d k) z (flat (enc_list enc_step) uss ++ (c ∷ s)) n (checks_structs uss f)
  unfolding structs_of roles_defs flat checks_structs onto
  defs_left (last_struct d) f (and_then {b = us} m no_more) s n c h =
      record {
        count = length us;
        bytes = flat enc_step us ++ (c ∷ s);
        all = struct_left d f m (first_then (steps_numbers us) [] n h);
        are = sym (append_assoc (enc_list enc_step us) [] (c ∷ s));
      }
  defs_left (defs d e) f (and_then {b = us} {m = uss} m r) s n c h =
      let rest = defs_left e f.1 r s (onto (steps_numbers us) n) c (first_then (steps_numbers us) (flat steps_numbers uss) n h) in
      record {
        count = length us;
        bytes = flat enc_step us ++ (rest.count ∷ rest.bytes);
        all = struct_left d f.0 m rest.all;
        are = ap (λ l. enc_list enc_step us ++ l) rest.are ∙ sym (append_assoc (enc_list enc_step us) (flat (enc_list enc_step) uss) (c ∷ s));
      }

-- The schedule ---------------------------------------------------------------------------------------

record LeavesItem (i : Item) (u : Call) : Type 0 where
  there : {k : List Role} {z : Writing} {s w n : List ℕ} {c : ℕ} {f : Bool} → Leaves k z (writing s (c ∷ w) (onto (item_numbers u) n) 0 f)
      → Leaves (roles_item i k) z (writing (enc_item u ++ s) (suc c ∷ w) n 0 (checks_item u f && ltb c max_statements))

record LeavesSched (t : Sched) (is : Items) : Type 0 where
  all : {k : List Role} {z : Writing} {s w n : List ℕ} {f : Bool} → Leaves k z (writing s (0 ∷ w) (onto (items_numbers is) n) 0 f)
      → Leaves (roles_sched t k) z (writing (enc_items is ++ s) (items is ∷ w) n 0 (checks_items is f))

execution_left : (x : Id) (m : ℕ) → LeavesItem (execution x) (call m)
unfolding roles_item item_numbers onto enc_item checks_item written
execution_left x m = record { there = λ h. leaves (ap (put called_role 0) (left h)) }

typed_left : (x y : Id) (j m : ℕ) → LeavesItem (typed_execution x y) (call_in j m)
unfolding roles_item item_numbers onto enc_item checks_item written
typed_left x y j m = record { there = λ h. leaves (ap (λ u. put called_struct_role 0 (put dot_kind 0 (put called_step_role 0 u))) (left h)) }

fix_left : {t : Sched} {is : Items} → LeavesSched t is → LeavesItem (fixpoint t) (fix is)
unfolding roles_item item_numbers enc_item checks_item written
fix_left {is = is} q =
    record {
      there = λ {k} {z} {s} {w} {n} {c} {f} h.
          let g : Leaves (part fix_close ∷ k) z (writing s (0 ∷ c ∷ w) (onto (items_numbers is) n) 0 f) = leaves (ap (put fix_close_role 0) (left h)) in
          leaves (ap (λ y. put fix_kind 0 (put fix_open_role 0 y)) (left (q.all g)));
    }

last_left : {i : Item} {u : Call} → LeavesItem i u → LeavesSched (last_item i) (item u stop)
unfolding roles_sched items_numbers onto enc_items items checks_items
last_left {u = u} q = record { all = λ {s = s} {n = n} h. as_one (enc_item u) [] s (q.there (first_then (item_numbers u) [] n h)) }

barrier_left : {i : Item} {u : Call} {t : Sched} {is : Items} → LeavesItem i u → LeavesSched t is → LeavesSched (barrier i t) (item u is)
unfolding roles_sched items_numbers enc_items items checks_items written
barrier_left {i} {u} {t} {is} q r =
    record {
      all = λ {k} {z} {s} {w} {n} {f} h.
          let g : Leaves (part barrier_sign ∷ roles_sched t k) z (writing (enc_items is ++ s) (items is ∷ w) (onto (item_numbers u) n) 0 (checks_items is f)) =
          leaves (ap (put barrier_role 0) (left (r.all (first_then (item_numbers u) (items_numbers is) n h)))) in
          as_one (enc_item u) (enc_items is) s (q.there g);
    }

module _ {ds : List Struct} {names : List Id} where
  mutual
    item_left : (i : Item) {u : Call} → ItemMeans ds names i u → LeavesItem i u
    item_left (execution x) (execution_means {n = n} p) = execution_left x n
    item_left (typed_execution x y) (typed_means {k = k} {n = n} p q) = typed_left x y k n
    item_left (fixpoint t) (fix_means m) = fix_left (sched_left t m)

    sched_left : (t : Sched) {is : Items} → SchedMeans ds names t is → LeavesSched t is
    sched_left (last_item i) (last_means m) = last_left (item_left i m)
    sched_left (barrier i t) (barrier_means m r) = barrier_left (item_left i m) (sched_left t r)

-- The program ------------------------------------------------------------------------------------------

-- what is written of a derivation, from the numbers of what it means
pub program_left : (c : Derivation) → FitsProgram c → {p : Program} → Means c p
    → LeavesRow (roles c) (start (onto (numbers_of p) [])) (stream_behind p) [] (checks p)
unfolding roles stream_behind checks numbers_of written
program_left (program d t) f {p} (means {ts = ts} {is = is} x y m r) =
    let z : Writing = start (onto (numbers_of p) []) in
    let g : Leaves [] z (writing [] (0 ∷ []) (onto (items_numbers is) (onto (flat steps_numbers ts) [])) 0 true) =
    first_then (flat steps_numbers ts) (items_numbers is) [] (leaves refl) in
    let q = defs_left d f m (enc_items is ++ []) [] (items is) ((sched_left t r).all g) in
    record {
      count = q.count;
      bytes = q.bytes;
      all = q.all;
      are = q.are ∙ ap (λ l. flat (enc_list enc_step) ts ++ (items is ∷ l)) (append-nil (enc_items is));
    }
