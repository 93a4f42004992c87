-- The roles from codes and kinds are those that the grammar gives: statements, structs, the schedule and the program, by the derivation alone.
use Rattle.std.specs.Prelude.{ℕ, ◌≡◌, refl, List, [], ◌∷◌, map}
use Rattle.std.proofs.Common.{arith, ap, ◌∙◌}
use Rattle.std.proofs.Math.Option.{some}
use Rattle.program.specs.Tree.{Op.op_lt}
use Rattle.tokens.specs.Tokens.{Sign.rpar, Sign.rbrace, Sign.semicolon, Token, Token.sign, Token.op}
use Rattle.syntax.specs.Syntax.{Id, TypeName, TypeName.int_type, TypeName.nat_type, TypeName.bool_type, TypeName.id_type, Var, Var.id, Var.dot}
use Rattle.syntax.specs.Syntax.{Exp, Exps, Stat, Stat.if_then, Stat.assignment, Stat.update, Stat.construct, Stats, Stats.no_stats, Stats.stats}
use Rattle.syntax.specs.Syntax.{Par, Par.par, Step, Step.step, Struct, Struct.struct, Defs, Defs.last_struct, Defs.defs, Item, Item.execution}
use Rattle.syntax.specs.Syntax.{Item.typed_execution, Item.fixpoint, Sched, Sched.last_item, Sched.barrier, Program, Program.program}
use Rattle.syntax.specs.Yield.{type_token, yield_var, yield_exp, yield_exps, yield_stat, yield_stats, yield_par, yield_par_list, yield_pars, yield_step}
use Rattle.syntax.specs.Yield.{yield_steps, yield_struct, yield_defs, yield_item, yield_sched, yield}
use Rattle.syntax.specs.Bracketing.{loosest, FitsStat, FitsStats, FitsSteps, FitsStruct, FitsDefs, FitsProgram, Derives}
use Rattle.syntax.specs.Expecting.{on_op}
use Rattle.syntax.specs.Reading.{least}
use Rattle.tokens.specs.Scanning.{lex}
use Rattle.tokens.specs.Marking.{marks as marks_in, kinds_in}
use Rattle.tokens.proofs.Laws.MarkingLaws.{marks_tell}
use Rattle.tokens.specs.Kinds.{kind}
use Rattle.text_shape.specs.Roles.{Part.pars_close, Part.steps_close, Role, Role.plain, Role.part, code, roles_var, roles_exp, roles_stat, roles_stats}
use Rattle.text_shape.specs.Roles.{roles_par, roles_par_list, roles_pars, roles_step, roles_steps, roles_struct, roles_defs, roles_item}
use Rattle.text_shape.specs.Roles.{roles_sched, roles}
use Rattle.text_shape.specs.Shape.{Shape.shape}
use Rattle.text_shape.specs.RoleMarks.{by_next, role_codes, placed}
use Rattle.text_shape.proofs.Laws.SiteLaws.{Site.statement_site, Site.if_site, Site.value_site}
use Rattle.text_shape.proofs.Laws.RoleExpLaws.{at_first, found, Comes, Comes.comes, codes, onto, follows_semicolon, follows_then, Dots}
use Rattle.text_shape.proofs.Laws.RoleExpLaws.{later_comes, Args, ComesExp}
use Rattle.text_shape.proofs.Laws.RoleExpLaws.{ComesArgs, exp_comes, args_come}
use Rattle.text_shape.specs.CodeNames.{first_defs_code, more_defs_code, at_pars_code, at_par_code, behind_par_code, at_steps_open_code}
use Rattle.text_shape.specs.CodeNames.{at_steps_code, at_stats_code, at_dot_name_code, behind_dot_name_code, at_construct_code}
use Rattle.text_shape.specs.CodeNames.{at_semicolon_code, want_code, at_args_code, at_item_code, behind_execution_code, behind_item_code}
use Rattle.text_shape.specs.CodeNames.{in_fix_code, in_construct_code, in_value_code, in_step_code, in_then_code}
use Rattle.text_shape.specs.RoleNames.{new_struct_role, new_par_role, new_step_role, new_local_role, first_written_role, made_statement_role}
use Rattle.text_shape.specs.RoleNames.{called_role, called_struct_role, called_step_role, par_int_role, par_nat_role, par_bool_role}
use Rattle.text_shape.specs.RoleNames.{par_struct_role, local_int_role, local_nat_role, local_bool_role, local_struct_role, args_open_role}
use Rattle.text_shape.specs.RoleNames.{pars_open_role, pars_close_role, fix_open_role, fix_close_role, steps_open_role, steps_close_role}
use Rattle.text_shape.specs.RoleNames.{body_open_role, body_close_role, then_open_role, then_close_role, par_comma_role, barrier_role}
use Rattle.tokens.specs.KindNames.{struct_kind, if_kind, then_kind, fix_kind, rpar_kind, colon_kind, semicolon_kind, assign_kind, dot_kind, lt_kind}

-- Statements -----------------------------------------------------------------------------------

-- what a statement yields has its roles
record ComesStat (s : Stat) : Type 0 where
  there : {st : List ℕ} {ts : List Token} {rs : List Role} → Comes at_stats_code st ts rs → Comes at_stats_code st (yield_stat s ts) (roles_stat s rs)

record ComesStats (b : Stats) : Type 0 where
  all : {st : List ℕ} {ts : List Token} {rs : List Role} → Comes at_stats_code st ts rs → Comes at_stats_code st (yield_stats b ts) (roles_stats b rs)

if_comes : {e : Exp} {b : Stats} → ComesExp loosest e → ComesStats b → ComesStat (if_then e b)
unfolding yield_stat roles_stat least on_op found
if_comes c d =
    record {
      there = λ {st} h. comes (onto if_kind (codes (c.there (at_first if_site loosest) {st = st} follows_then (omega arith)
          (comes (onto then_kind (onto then_open_role (codes
          (d.all {st = in_then_code ∷ st} (comes (onto then_close_role (codes h)))))))))));
    }

-- the value of an assignment or an update, and the semicolon
value_comes : {e : Exp} → ComesExp loosest e → {st : List ℕ} {ts : List Token} {rs : List Role} → Comes at_stats_code st ts rs
    → Comes want_code (in_value_code ∷ st) (yield_exp e (sign semicolon ∷ ts)) (roles_exp e (plain (sign semicolon) ∷ rs))
unfolding least on_op found
value_comes c {st} h = c.there (at_first value_site loosest) {st = st} follows_semicolon (omega arith) (comes (onto semicolon_kind (codes h)))

assignment_comes : (a : TypeName) (x : Id) {e : Exp} → ComesExp loosest e → ComesStat (assignment a x e)
unfolding yield_stat roles_stat type_token found
assignment_comes int_type x c = record { there = λ h. comes (onto local_int_role (onto new_local_role (onto assign_kind (codes (value_comes c h))))) }
assignment_comes nat_type x c = record { there = λ h. comes (onto local_nat_role (onto new_local_role (onto assign_kind (codes (value_comes c h))))) }
assignment_comes bool_type x c = record { there = λ h. comes (onto local_bool_role (onto new_local_role (onto assign_kind (codes (value_comes c h))))) }
assignment_comes (id_type y) x c = record { there = λ h. comes (onto local_struct_role (onto new_local_role (onto assign_kind (codes (value_comes c h))))) }

dots_written : Dots at_dot_name_code behind_dot_name_code
unfolding found
dots_written = record { a_variable = λ st ks. refl; a_dot = λ st ks. refl }

update_comes : (v : Var) {e : Exp} → ComesExp loosest e → ComesStat (update v e)
unfolding yield_stat roles_stat yield_var roles_var found
update_comes (id x) c = record { there = λ h. comes (onto first_written_role (onto assign_kind (codes (value_comes c h)))) }
update_comes (dot x v) c =
    record {
      there = λ {st} h. comes (onto first_written_role
          (onto dot_kind (codes (later_comes dots_written v {st = st} (comes (onto assign_kind (codes (value_comes c h))))))));
    }

-- arguments of a construct statement are met as those of a constructor
statement_args : Args in_construct_code at_semicolon_code
unfolding found
statement_args = record { site = statement_site; empty = λ st ks. refl; more = λ st ks. refl; last = λ st ks. refl }

as_args : (st ks : List ℕ) → found (shape at_construct_code st) ks ≡ found (shape at_args_code st) ks
unfolding found
as_args st [] = refl
as_args st (k ∷ ks) = refl

construct_comes : (x : Id) {es : Exps} → ComesArgs es → ComesStat (construct x es)
unfolding yield_stat roles_stat found
construct_comes x {es} c =
    record {
      there = λ {st} {ts} h. comes (onto made_statement_role
          (onto args_open_role (as_args (in_construct_code ∷ st) (map kind (yield_exps es (sign rpar ∷ sign semicolon ∷ ts)))
          ∙ codes (c.all statement_args {st = st} (comes (onto semicolon_kind (codes h)))))));
    }

stats_end : ComesStats no_stats
unfolding yield_stats roles_stats
stats_end = record { all = λ h. h }

stats_go_on : {t : Stat} {b : Stats} → ComesStat t → ComesStats b → ComesStats (stats t b)
unfolding yield_stats roles_stats
stats_go_on c d = record { all = λ h. c.there (d.all h) }

mutual
  stat_comes : (t : Stat) → FitsStat t → ComesStat t
  stat_comes (if_then e b) f = if_comes (exp_comes e loosest f.0) (stats_come b f.1)
  stat_comes (assignment a x e) f = assignment_comes a x (exp_comes e loosest f)
  stat_comes (update v e) f = update_comes v (exp_comes e loosest f)
  stat_comes (construct x es) f = construct_comes x (args_come es f)

  stats_come : (b : Stats) → FitsStats b → ComesStats b
  stats_come no_stats f = stats_end
  stats_come (stats t b) f = stats_go_on (stat_comes t f.0) (stats_come b f.1)

-- Structs ----------------------------------------------------------------------------------------

par_comes : (q : Par) {ts : List Token} {rs : List Role} → Comes behind_par_code [] ts rs → Comes at_par_code [] (yield_par q ts) (roles_par q rs)
unfolding yield_par roles_par type_token found
par_comes (par x int_type) h = comes (onto new_par_role (onto colon_kind (onto par_int_role (codes h))))
par_comes (par x nat_type) h = comes (onto new_par_role (onto colon_kind (onto par_nat_role (codes h))))
par_comes (par x bool_type) h = comes (onto new_par_role (onto colon_kind (onto par_bool_role (codes h))))
par_comes (par x (id_type y)) h = comes (onto new_par_role (onto colon_kind (onto par_struct_role (codes h))))

-- the first parameter is met as any other
first_par : (q : Par) (k : List Token) → found (shape at_pars_code []) (map kind (yield_par q k)) ≡ found (shape at_par_code []) (map kind (yield_par q k))
unfolding yield_par found
first_par (par x a) k = refl

par_list_comes : (ps : List Par) {ts : List Token} {rs : List Role} → Comes at_steps_open_code [] ts rs
    → Comes behind_par_code [] (yield_par_list ps (sign rpar ∷ ts)) (roles_par_list ps (part pars_close ∷ rs))
unfolding yield_par_list roles_par_list found
par_list_comes [] h = comes (onto pars_close_role (codes h))
par_list_comes (q ∷ ps) h = comes (onto par_comma_role (codes (par_comes q (par_list_comes ps h))))

pars_come : (ps : List Par) {ts : List Token} {rs : List Role} → Comes at_steps_open_code [] ts rs
    → Comes at_pars_code [] (yield_pars ps (sign rpar ∷ ts)) (roles_pars ps (part pars_close ∷ rs))
unfolding yield_pars roles_pars found
pars_come [] h = comes (onto pars_close_role (codes h))
pars_come (q ∷ ps) h = comes (first_par q _ ∙ codes (par_comes q (par_list_comes ps h)))

steps_come : (ss : List Step) → FitsSteps ss → {ts : List Token} {rs : List Role} → Comes more_defs_code [] ts rs
    → Comes at_steps_code [] (yield_steps ss (sign rbrace ∷ ts)) (roles_steps ss (part steps_close ∷ rs))
unfolding yield_steps roles_steps yield_step roles_step found
steps_come [] f h = comes (onto steps_close_role (codes h))
steps_come (step x b ∷ ss) f h =
    comes (onto new_step_role (onto body_open_role (codes ((stats_come b f.0).all {st = in_step_code ∷ []}
    (comes (onto body_close_role (codes (steps_come ss f.1 h))))))))

struct_comes : (d : Struct) → FitsStruct d → {ts : List Token} {rs : List Role} → Comes more_defs_code [] ts rs
    → Comes more_defs_code [] (yield_struct d ts) (roles_struct d rs)
unfolding yield_struct roles_struct found
struct_comes (struct x ps ss) f h = comes (onto struct_kind (onto new_struct_role
    (onto pars_open_role (codes (pars_come ps (comes (onto steps_open_role (codes (steps_come ss f h)))))))))

defs_come : (d : Defs) → FitsDefs d → {ts : List Token} {rs : List Role} → Comes more_defs_code [] ts rs
    → Comes more_defs_code [] (yield_defs d ts) (roles_defs d rs)
unfolding yield_defs roles_defs
defs_come (last_struct d) f h = struct_comes d f h
defs_come (defs d ds) f h = struct_comes d f.0 (defs_come ds f.1 h)

-- the first struct is met as any other
first_struct : (d : Defs) (k : List Token) → found (shape first_defs_code []) (map kind (yield_defs d k))
    ≡ found (shape more_defs_code []) (map kind (yield_defs d k))
unfolding yield_defs yield_struct found
first_struct (last_struct (struct x ps ss)) k = refl
first_struct (defs (struct x ps ss) ds) k = refl

-- The schedule ---------------------------------------------------------------------------------------

-- what may follow an item is met behind a name as behind any other
record FollowsItem (ks : List ℕ) : Type 0 where
  behind_step : (st : List ℕ) → found (shape behind_execution_code st) ks ≡ found (shape behind_item_code st) ks
  keeps : by_next called_role behind_execution_code ks ≡ called_role

ends_item : FollowsItem []
unfolding found
ends_item = record { behind_step = λ st. refl; keeps = refl }

less_item : (ks : List ℕ) → FollowsItem (lt_kind ∷ ks)
unfolding found
less_item ks = record { behind_step = λ st. refl; keeps = refl }

fix_item : (ks : List ℕ) → FollowsItem (rpar_kind ∷ ks)
unfolding found
fix_item ks = record { behind_step = λ st. refl; keeps = refl }

record ComesItem (i : Item) : Type 0 where
  there : {st : List ℕ} {ts : List Token} {rs : List Role} → FollowsItem (map kind ts) → Comes behind_item_code st ts rs
      → Comes at_item_code st (yield_item i ts) (roles_item i rs)

record ComesSched (s : Sched) : Type 0 where
  all : {st : List ℕ} {ts : List Token} {rs : List Role} → FollowsItem (map kind ts) → Comes behind_item_code st ts rs
      → Comes at_item_code st (yield_sched s ts) (roles_sched s rs)

execution_comes : (x : Id) → ComesItem (execution x)
unfolding yield_item roles_item found
execution_comes x = record { there = λ {st} f h. comes (rw f.keeps (onto called_role (f.behind_step st ∙ codes h))) }

typed_comes : (x y : Id) → ComesItem (typed_execution x y)
unfolding yield_item roles_item found
typed_comes x y = record { there = λ f h. comes (onto called_struct_role (onto dot_kind (onto called_step_role (codes h)))) }

fix_comes : {s : Sched} → ComesSched s → ComesItem (fixpoint s)
unfolding yield_item roles_item found
fix_comes c = record {
  there = λ {st} f h. comes (onto fix_kind
      (onto fix_open_role (codes (c.all {st = in_fix_code ∷ st} (fix_item _) (comes (onto fix_close_role (codes h)))))));
}

last_comes : {i : Item} → ComesItem i → ComesSched (last_item i)
unfolding yield_sched roles_sched
last_comes c = record { all = λ f h. c.there f h }

barrier_comes : {i : Item} {s : Sched} → ComesItem i → ComesSched s → ComesSched (barrier i s)
unfolding yield_sched roles_sched found
barrier_comes c d = record { all = λ f h. c.there (less_item _) (comes (onto barrier_role (codes (d.all f h)))) }

mutual
  item_comes : (i : Item) → ComesItem i
  item_comes (execution x) = execution_comes x
  item_comes (typed_execution x y) = typed_comes x y
  item_comes (fixpoint s) = fix_comes (sched_comes s)

  sched_comes : (s : Sched) → ComesSched s
  sched_comes (last_item i) = last_comes (item_comes i)
  sched_comes (barrier i s) = barrier_comes (item_comes i) (sched_comes s)

-- the first item, behind the last struct, is met as any other
first_item : (i : Item) (k : List Token) → found (shape more_defs_code []) (map kind (yield_item i k))
    ≡ found (shape at_item_code []) (map kind (yield_item i k))
unfolding yield_item found
first_item (execution x) k = refl
first_item (typed_execution x y) k = refl
first_item (fixpoint s) k = refl

begins : (s : Sched) (k : List Token) → found (shape more_defs_code []) (map kind (yield_sched s k))
    ≡ found (shape at_item_code []) (map kind (yield_sched s k))
unfolding yield_sched
begins (last_item i) k = first_item i k
begins (barrier i s) k = first_item i (op op_lt ∷ yield_sched s k)

-- The program ------------------------------------------------------------------------------------------

program_comes : (c : Program) → FitsProgram c → Comes first_defs_code [] (yield c) (roles c)
unfolding yield roles found
program_comes (program d s) f =
    comes (first_struct d _ ∙ codes (defs_come d f (comes (begins s [] ∙ codes ((sched_comes s).all ends_item (comes refl))))))

-- where tokens have a derivation, their roles from codes and kinds are those that it gives them
pub derives_roles : (ts : List Token) (c : Program) → Derives ts c → role_codes (shape first_defs_code []) (map kind ts) ≡ map code (roles c)
unfolding found
derives_roles ts c d = rw (← d.yields) (codes (program_comes c d.fits))

-- where a text has a derivation, the roles in the places of its tokens are those that it gives them
pub text_roles : (x : List ℕ) (ts : List Token) (c : Program) → lex 0 x ≡ some ts → Derives ts c
    → placed (marks_in x) (role_codes (shape first_defs_code []) (kinds_in (marks_in x))) ≡ placed (marks_in x) (map code (roles c))
text_roles x ts c e d = ap (placed (marks_in x)) (ap (role_codes (shape first_defs_code [])) (marks_tell x ts e).0 ∙ derives_roles ts c d)
