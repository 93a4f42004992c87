-- What a derivation means, computed: a program, or nothing.
use Rattle.std.specs.Prelude.{ℕ, Bool, length, eqb, ltb}
use Rattle.std.proofs.Math.Bool.{true, false}
use mathlib.Core.List.{List, [], ◌∷◌, map}
use Rattle.std.proofs.Math.Option.{Option, none, some}
use Rattle.types.specs.Limits.{nat_end}
use Rattle.types.specs.Types.{Ty, Ty.int, Ty.nat, Ty.bool, Ty.ref}
use Rattle.types.specs.Values.{in_int, int_word}
use Rattle.program.specs.Tree.{Var as Variable, Var.par as parameter, Var.loc as local, Expr, Expr.inv, Expr.make, Expr.path as path_of, Expr.int_lit}
use Rattle.program.specs.Tree.{Expr.nat_lit, Expr.bool_lit, Expr.null as null_of, Expr.self, Expr.op, Exprs, Exprs.none as no_args, Exprs.more, args}
use Rattle.program.specs.Tree.{Stmt, Stmt.when, Stmt.declare, Stmt.update as update_of, Stmt.create, Stmts, Stmts.end, Stmts.next, Item as Call}
use Rattle.program.specs.Tree.{Item.call, Item.call_in, Item.fix, Items, Items.stop, Items.item, Step as Named, Program}
use Rattle.syntax.specs.Syntax.{Id, TypeName, TypeName.int_type, TypeName.nat_type, TypeName.bool_type, TypeName.id_type, Literal}
use Rattle.syntax.specs.Syntax.{Literal.int_literal, Literal.nat_literal, Literal.bool_literal, Var, Var.id as one_id, Var.dot}
use Rattle.syntax.specs.Syntax.{Exp, Exp.binary, Exp.brackets, Exp.negation, Exp.constructor, Exp.variable, Exp.literal, Exp.null, Exp.this, Exps}
use Rattle.syntax.specs.Syntax.{Exps.no_exps, Exps.exps, Stat, Stat.if_then, Stat.assignment, Stat.update, Stat.construct, Stats, Stats.no_stats}
use Rattle.syntax.specs.Syntax.{Stats.stats}
use Rattle.syntax.specs.Syntax.{Par, Step, Step.step, Struct, Item, Item.execution, Item.typed_execution, Item.fixpoint, Sched, Sched.last_item}
use Rattle.syntax.specs.Syntax.{Sched.barrier, Program as Derivation, Program.program}
use Rattle.meaning.specs.Scope.{par_id, par_type, struct_id, pars_of, steps_of, structs_of, Local, Local.declared, local_id, local_number, local_type}
use Rattle.meaning.specs.StepNames.{step_names}
use Rattle.meaning.specs.Values.{decimal, signed}
use Rattle.meaning.specs.Finding.{find, absent, distinct}

unfoldable pub then : {A B : Type 0} → Option A → (A → Option B) → Option B
then none f = none
then (some a) f = f a

unfoldable pub provided : {A : Type 0} → Bool → Option A → Option A
provided true o = o
provided false o = none

unfoldable pub each : {A B : Type 0} → (A → Option B) → List A → Option (List B)
unfolding then
each f [] = some []
each f (a ∷ l) = then (f a) (λ b. then (each f l) (λ m. some (b ∷ m)))

unfoldable pub literal_meaning : Literal → Option Expr
unfolding provided
literal_meaning (int_literal p ds) = provided (in_int (signed p (decimal ds))) (some (int_lit (int_word (signed p (decimal ds)))))
literal_meaning (nat_literal ds) = provided (ltb (decimal ds) nat_end) (some (nat_lit (decimal ds)))
literal_meaning (bool_literal true) = some (bool_lit 1)
literal_meaning (bool_literal false) = some (bool_lit 0)

-- the first variable of a path and its type; a path
pub record Start : Type 0 where
  pub variable_of : Variable
  pub type_of : TypeName

pub record PathOf : Type 0 where
  pub first : Variable
  pub rest : List ℕ

-- a tree with the locals alive and the names declared behind it
pub record Behind (A : Type 0) : Type 0 where
  pub tree : A
  pub alive : List Local
  pub met : List Id

module _ (ds : List Struct) where
  unfoldable pub type_meaning : TypeName → Option Ty
  unfolding then
  type_meaning int_type = some int
  type_meaning nat_type = some nat
  type_meaning bool_type = some bool
  type_meaning (id_type x) = then (find struct_id x ds) (λ p. some (ref p.at))

  unfoldable pub referred : TypeName → Option Struct
  unfolding then
  referred int_type = none
  referred nat_type = none
  referred bool_type = none
  referred (id_type x) = then (find struct_id x ds) (λ p. some p.element)

  unfoldable pub further : Struct → Var → Option (List ℕ)
  unfolding then referred
  further d (one_id x) = then (find par_id x (pars_of d)) (λ p. some (p.at ∷ []))
  further d (dot x v) = then (find par_id x (pars_of d)) (λ p. then (referred (par_type p.element)) (λ e. then (further e v) (λ vs. some (p.at ∷ vs))))

  module _ (own : List Par) (alive : List Local) where
    unfoldable pub started : Bool → Id → Option Start
    unfolding then
    started true x = then (find local_id x alive) (λ p. some (record { variable_of = local (local_number p.element); type_of = local_type p.element }))
    started false x = then (find par_id x own) (λ p. some (record { variable_of = parameter p.at; type_of = par_type p.element }))

    unfoldable pub start : Id → Option Start
    unfolding started
    start x = started (absent x (map par_id own)) x

    unfoldable pub path_meaning : Var → Option PathOf
    unfolding then start further referred
    path_meaning (one_id x) = then (start x) (λ s. some (record { first = s.variable_of; rest = [] }))
    path_meaning (dot x v) =
        then (start x) (λ s. then (referred s.type_of) (λ d. then (further d v) (λ vs. some (record { first = s.variable_of; rest = vs }))))

    unfoldable mutual
      unfolding then provided path_meaning literal_meaning type_meaning

      pub exp_meaning : Exp → Option Expr
      exp_meaning (binary o a b) = then (exp_meaning a) (λ c. then (exp_meaning b) (λ d. some (op o c d)))
      exp_meaning (brackets e) = exp_meaning e
      exp_meaning (negation e) = then (exp_meaning e) (λ c. some (inv c))
      exp_meaning (constructor x es) =
          then (find struct_id x ds) (λ p. then (exps_meaning es) (λ cs. provided (eqb (args cs) (length (pars_of p.element))) (some (make p.at cs))))
      exp_meaning (variable v) = then (path_meaning v) (λ p. some (path_of p.first p.rest))
      exp_meaning (literal l) = literal_meaning l
      exp_meaning (null t) = then (type_meaning t) (λ u. some (null_of u))
      exp_meaning this = some self

      pub exps_meaning : Exps → Option Exprs
      exps_meaning no_exps = some no_args
      exps_meaning (exps e es) = then (exp_meaning e) (λ c. then (exps_meaning es) (λ cs. some (more c cs)))

  module _ (own : List Par) where
    unfoldable mutual
      unfolding then provided path_meaning exp_meaning exps_meaning type_meaning

      pub stat_meaning : Stat → List Local → List Id → Option (Behind Stmt)
      stat_meaning (if_then e b) alive met =
          then (exp_meaning own alive e) (λ c. then (stats_meaning b alive met) (λ r. some (record { tree = when c r.tree; alive = alive; met = r.met })))
      stat_meaning (assignment t x e) alive met =
          then (type_meaning t) (λ u. provided (absent x met) (provided (absent x (map par_id own)) (then (exp_meaning own alive e) (λ c.
          some (record { tree = declare u (length met) c; alive = declared x (length met) t ∷ alive; met = x ∷ met })))))
      stat_meaning (update v e) alive met =
          then (path_meaning own alive v)
          (λ p. then (exp_meaning own alive e) (λ c. some (record { tree = update_of p.first p.rest c; alive = alive; met = met })))
      stat_meaning (construct x es) alive met =
          then (find struct_id x ds) (λ p. then (exps_meaning own alive es) (λ cs.
          provided (eqb (args cs) (length (pars_of p.element))) (some (record { tree = create p.at cs; alive = alive; met = met }))))

      pub stats_meaning : Stats → List Local → List Id → Option (Behind Stmts)
      stats_meaning no_stats alive met = some (record { tree = end; alive = alive; met = met })
      stats_meaning (stats t b) alive met =
          then (stat_meaning t alive met)
          (λ r. then (stats_meaning b r.alive r.met) (λ q. some (record { tree = next r.tree q.tree; alive = q.alive; met = q.met })))

  unfoldable pub pars_meaning : Struct → Option (List Ty)
  unfolding provided each type_meaning
  pars_meaning d = provided (distinct (map par_id (pars_of d))) (each (λ q. type_meaning (par_type q)) (pars_of d))

  module _ (names : List Id) where
    unfoldable pub step_meaning : List Par → Step → Option Named
    unfolding then stats_meaning
    step_meaning own (step x b) = then (find (λ z. z) x names) (λ p. then (stats_meaning own b [] []) (λ r. some (record { name = p.at; body = r.tree })))

    unfoldable pub steps_meaning : Struct → Option (List Named)
    unfolding each step_meaning
    steps_meaning d = each (step_meaning (pars_of d)) (steps_of d)

    unfoldable mutual
      unfolding then

      pub item_meaning : Item → Option Call
      item_meaning (execution x) = then (find (λ z. z) x names) (λ p. some (call p.at))
      item_meaning (typed_execution x y) = then (find struct_id x ds) (λ p. then (find (λ z. z) y names) (λ q. some (call_in p.at q.at)))
      item_meaning (fixpoint s) = then (sched_meaning s) (λ is. some (fix is))

      pub sched_meaning : Sched → Option Items
      sched_meaning (last_item i) = then (item_meaning i) (λ c. some (item c stop))
      sched_meaning (barrier i s) = then (item_meaning i) (λ c. then (sched_meaning s) (λ is. some (item c is)))

-- of the whole text, over its structs
unfoldable pub text_meaning : List Struct → Sched → Option Program
unfolding then provided each pars_meaning steps_meaning sched_meaning
text_meaning ds s =
    provided (distinct (map struct_id ds)) (then (each (pars_meaning ds) ds) (λ us. then (each (steps_meaning ds (step_names ds)) ds) (λ ts.
    then (sched_meaning ds (step_names ds) s) (λ is. some (record { params = us; steps = ts; schedule = is })))))

unfoldable pub meant : Derivation → Option Program
unfolding text_meaning
meant (program d s) = text_meaning (structs_of d) s
