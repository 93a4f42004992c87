-- What a derivation means (02 §1): a relation between derivation trees of program text and the programs of 01, with numbers for names. Where a derivation
-- means no program, 17 holds: a name has no declaration alive at its place, a struct, parameter or local name is declared twice, a local is named as a
-- parameter of its struct, a literal is outside its type, or there is other than one argument per parameter. Counts are apart (`Holds`).
use Rattle.std.specs.Prelude.{ℕ, ◌<◌, ◌≡◌, true, false, List, [], ◌∷◌, map, length}
use Rattle.types.specs.Limits.{nat_end}
use Rattle.types.specs.Types.{Ty, Ty.int, Ty.nat, Ty.bool, Ty.ref}
use Rattle.types.specs.Values.{IntRange, int_word}
use Rattle.program.specs.Tree.{Var as Variable, Var.par as parameter, Var.loc as local, Expr, Expr.inv, Expr.make, Expr.path as path_of, Expr.int_lit}
use Rattle.program.specs.Tree.{Expr.nat_lit, Expr.bool_lit, Expr.null as null_of, Expr.self, Expr.op, Exprs, Exprs.none, Exprs.more, args}
use Rattle.program.specs.Tree.{Stmt, Stmt.when, Stmt.declare, Stmt.update as update_of, Stmt.create, Stmts, Stmts.end, Stmts.next, Item as Call}
use Rattle.program.specs.Tree.{Item.call, Item.call_in, Item.fix, Items, Items.stop, Items.item, Step as Named, Program}
use Rattle.syntax.specs.Syntax.{Id, TypeName, TypeName.int_type, TypeName.nat_type, TypeName.bool_type, TypeName.id_type, Literal}
use Rattle.syntax.specs.Syntax.{Literal.int_literal, Literal.nat_literal, Literal.bool_literal, Var, Var.id as one_id, Var.dot}
use Rattle.syntax.specs.Syntax.{Exp, Exp.binary, Exp.brackets, Exp.negation, Exp.constructor, Exp.variable, Exp.literal, Exp.null, Exp.this, Exps}
use Rattle.syntax.specs.Syntax.{Exps.no_exps, Exps.exps, Stat, Stat.if_then, Stat.assignment, Stat.update, Stat.construct, Stats, Stats.no_stats}
use Rattle.syntax.specs.Syntax.{Stats.stats}
use Rattle.syntax.specs.Syntax.{Par, Step, Step.step, Struct, Item, Item.execution, Item.typed_execution, Item.fixpoint, Sched, Sched.last_item}
use Rattle.syntax.specs.Syntax.{Sched.barrier, Program as Derivation, Program.program}
use Rattle.meaning.specs.Scope.{Found, Absent, Distinct, Each, par_id, par_type, struct_id, pars_of, steps_of, structs_of, Local}
use Rattle.meaning.specs.Scope.{Local.declared, local_id, local_number, local_type}
use Rattle.meaning.specs.StepNames.{step_names}
use Rattle.meaning.specs.Values.{decimal, signed}

-- literals by value
pub data LiteralMeans : Literal → Expr → Type 0 where
  int_means : {p : _} {ds : List ℕ} → IntRange (signed p (decimal ds)) → LiteralMeans (int_literal p ds) (int_lit (int_word (signed p (decimal ds))))
  nat_means : {ds : List ℕ} → decimal ds < nat_end → LiteralMeans (nat_literal ds) (nat_lit (decimal ds))
  true_means : LiteralMeans (bool_literal true) (bool_lit 1)
  false_means : LiteralMeans (bool_literal false) (bool_lit 0)

-- struct names are alive in the whole text
module _ (ds : List Struct) where
  pub data TypeMeans : TypeName → Ty → Type 0 where
    int_is : TypeMeans int_type int
    nat_is : TypeMeans nat_type nat
    bool_is : TypeMeans bool_type bool
    struct_is : {x : Id} {k : ℕ} {d : Struct} → Found struct_id x k d ds → TypeMeans (id_type x) (ref k)

  -- the struct that a value of a type refers to
  pub data Refers : TypeName → Struct → Type 0 where
    refers : {x : Id} {k : ℕ} {d : Struct} → Found struct_id x k d ds → Refers (id_type x) d

  -- the variables of a path behind one that refers to a struct: parameters there
  pub data Further : Struct → Var → List ℕ → Type 0 where
    last : {d : Struct} {x : Id} {i : ℕ} {q : Par} → Found par_id x i q (pars_of d) → Further d (one_id x) (i ∷ [])
    goes_on : {d e : Struct} {x : Id} {i : ℕ} {q : Par} {v : Var} {vs : List ℕ} → Found par_id x i q (pars_of d) → Refers (par_type q) e → Further e v vs
        → Further d (dot x v) (i ∷ vs)

  -- the first variable: a parameter of the struct at hand, or a living local
  pub data Starts (own : List Par) (alive : List Local) (x : Id) : Variable → TypeName → Type 0 where
    a_parameter : {i : ℕ} {q : Par} → Found par_id x i q own → Starts own alive x (parameter i) (par_type q)
    a_local : {i : ℕ} {l : Local} → Absent x (map par_id own) → Found local_id x i l alive → Starts own alive x (local (local_number l)) (local_type l)

  pub data PathMeans (own : List Par) (alive : List Local) : Var → Variable → List ℕ → Type 0 where
    alone : {x : Id} {u : Variable} {t : TypeName} → Starts own alive x u t → PathMeans own alive (one_id x) u []
    behind : {x : Id} {u : Variable} {t : TypeName} {d : Struct} {v : Var} {vs : List ℕ} → Starts own alive x u t → Refers t d → Further d v vs
        → PathMeans own alive (dot x v) u vs

  -- brackets leave nothing
  mutual
    pub data ExpMeans (own : List Par) (alive : List Local) : Exp → Expr → Type 0 where
      binary_means : {o : _} {a b : Exp} {c d : Expr} → ExpMeans own alive a c → ExpMeans own alive b d → ExpMeans own alive (binary o a b) (op o c d)
      brackets_mean : {e : Exp} {c : Expr} → ExpMeans own alive e c → ExpMeans own alive (brackets e) c
      negation_means : {e : Exp} {c : Expr} → ExpMeans own alive e c → ExpMeans own alive (negation e) (inv c)
      constructor_means : {x : Id} {k : ℕ} {d : Struct} {es : Exps} {cs : Exprs} → Found struct_id x k d ds → ExpsMean own alive es cs
          → args cs ≡ length (pars_of d) → ExpMeans own alive (constructor x es) (make k cs)
      variable_means : {v : Var} {u : Variable} {vs : List ℕ} → PathMeans own alive v u vs → ExpMeans own alive (variable v) (path_of u vs)
      literal_means : {l : Literal} {c : Expr} → LiteralMeans l c → ExpMeans own alive (literal l) c
      null_means : {t : TypeName} {u : Ty} → TypeMeans t u → ExpMeans own alive (null t) (null_of u)
      this_means : ExpMeans own alive this self

    pub data ExpsMean (own : List Par) (alive : List Local) : Exps → Exprs → Type 0 where
      no_exps_mean : ExpsMean own alive no_exps none
      exps_mean : {e : Exp} {c : Expr} {es : Exps} {cs : Exprs} → ExpMeans own alive e c → ExpsMean own alive es cs → ExpsMean own alive (exps e es) (more c cs)

  -- a statement with the locals alive before it and the names declared before it in its step, and with both behind it: a local is alive from the end of its
  -- declaration to the end of the innermost body, and its name stays declared
  mutual
    pub data StatMeans (own : List Par) : List Local → List Id → Stat → Stmt → List Local → List Id → Type 0 where
      if_means : {alive after : List Local} {met met' : List Id} {e : Exp} {c : Expr} {b : Stats} {t : Stmts} → ExpMeans own alive e c
          → StatsMean own alive met b t after met' → StatMeans own alive met (if_then e b) (when c t) alive met'
      assignment_means : {alive : List Local} {met : List Id} {t : TypeName} {u : Ty} {x : Id} {n : ℕ} {e : Exp} {c : Expr} → TypeMeans t u → Absent x met
          → Absent x (map par_id own) → n ≡ length met → ExpMeans own alive e c
          → StatMeans own alive met (assignment t x e) (declare u n c) (declared x n t ∷ alive) (x ∷ met)
      update_means : {alive : List Local} {met : List Id} {v : Var} {u : Variable} {vs : List ℕ} {e : Exp} {c : Expr} → PathMeans own alive v u vs
          → ExpMeans own alive e c → StatMeans own alive met (update v e) (update_of u vs c) alive met
      construct_means : {alive : List Local} {met : List Id} {x : Id} {k : ℕ} {d : Struct} {es : Exps} {cs : Exprs} → Found struct_id x k d ds
          → ExpsMean own alive es cs → args cs ≡ length (pars_of d) → StatMeans own alive met (construct x es) (create k cs) alive met

    pub data StatsMean (own : List Par) : List Local → List Id → Stats → Stmts → List Local → List Id → Type 0 where
      no_stats_mean : {alive : List Local} {met : List Id} → StatsMean own alive met no_stats end alive met
      stats_mean : {alive after last : List Local} {met met' met'' : List Id} {t : Stat} {u : Stmt} {b : Stats} {c : Stmts}
          → StatMeans own alive met t u after met'
          → StatsMean own after met' b c last met'' → StatsMean own alive met (stats t b) (next u c) last met''

  -- a parameter by its type; a step by the number of its name
  pub data ParMeans : Par → Ty → Type 0 where
    par_means : {q : Par} {u : Ty} → TypeMeans (par_type q) u → ParMeans q u

  pub data ParsMean : Struct → List Ty → Type 0 where
    pars_mean : {d : Struct} {us : List Ty} → Distinct (map par_id (pars_of d)) → Each ParMeans (pars_of d) us → ParsMean d us

  module _ (names : List Id) where
    pub data StepMeans (own : List Par) : Step → Named → Type 0 where
      step_means : {x y : Id} {n : ℕ} {b : Stats} {c : Stmts} {after : List Local} {met : List Id} → Found (λ z. z) x n y names
          → StatsMean own [] [] b c after met → StepMeans own (step x b) (record { name = n; body = c })

    pub data StepsMean : Struct → List Named → Type 0 where
      steps_mean : {d : Struct} {us : List Named} → Each (StepMeans (pars_of d)) (steps_of d) us → StepsMean d us

    mutual
      pub data ItemMeans : Item → Call → Type 0 where
        execution_means : {x y : Id} {n : ℕ} → Found (λ z. z) x n y names → ItemMeans (execution x) (call n)
        typed_means : {x y z : Id} {k n : ℕ} {d : Struct} → Found struct_id x k d ds → Found (λ z. z) y n z names
            → ItemMeans (typed_execution x y) (call_in k n)
        fix_means : {s : Sched} {is : Items} → SchedMeans s is → ItemMeans (fixpoint s) (fix is)

      pub data SchedMeans : Sched → Items → Type 0 where
        last_means : {i : Item} {c : Call} → ItemMeans i c → SchedMeans (last_item i) (item c stop)
        barrier_means : {i : Item} {c : Call} {s : Sched} {is : Items} → ItemMeans i c → SchedMeans s is → SchedMeans (barrier i s) (item c is)

-- structs and parameters get numbers in order of declaration
pub data Means : Derivation → Program → Type 0 where
  means : {d : _} {s : Sched} {us : List (List Ty)} {ts : List (List Named)} {is : Items}
      → Distinct (map struct_id (structs_of d))
      → Each (ParsMean (structs_of d)) (structs_of d) us
      → Each (StepsMean (structs_of d) (step_names (structs_of d))) (structs_of d) ts
      → SchedMeans (structs_of d) (step_names (structs_of d)) s is
      → Means (program d s) (record { params = us; steps = ts; schedule = is })
