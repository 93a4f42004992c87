-- Why a derivation means no program (02 §1, 17: "a name with no declaration alive at its place, a struct, parameter or local name declared twice or a local
-- named as a parameter of its struct, a literal outside its type, other than one argument per parameter"), each cause wherever it is in the text. What is
-- alive and what is declared before a statement is told from the statements before it alone. Counts are apart (`Holds`).
use Rattle.std.specs.Prelude.{ℕ, zero, suc, ◌≤◌, ◌≡◌, List, [], ◌∷◌, map, length}
use Rattle.types.specs.Limits.{nat_end}
use Rattle.types.specs.Values.{IntRange}
use Rattle.syntax.specs.Syntax.{Id, TypeName, TypeName.int_type, TypeName.nat_type, TypeName.bool_type, TypeName.id_type, Literal}
use Rattle.syntax.specs.Syntax.{Literal.int_literal, Literal.nat_literal, Var, Var.id as one_id, Var.dot}
use Rattle.syntax.specs.Syntax.{Exp, Exp.binary, Exp.brackets, Exp.negation, Exp.constructor, Exp.variable, Exp.literal, Exp.null, Exps}
use Rattle.syntax.specs.Syntax.{Exps.no_exps, Exps.exps, Stat, Stat.if_then, Stat.assignment, Stat.update, Stat.construct, Stats, Stats.no_stats}
use Rattle.syntax.specs.Syntax.{Stats.stats}
use Rattle.syntax.specs.Syntax.{Par, Step, Step.step, Struct, Item, Item.execution, Item.typed_execution, Item.fixpoint, Sched, Sched.last_item}
use Rattle.syntax.specs.Syntax.{Sched.barrier, Program as Derivation, Program.program}
use Rattle.meaning.specs.Scope.{Found, Absent, par_id, par_type, struct_id, pars_of, steps_of, structs_of, Local, Local.declared, local_id, local_type}
use Rattle.meaning.specs.StepNames.{all_steps}
use Rattle.meaning.specs.Values.{decimal, signed}

-- a name is one of some; one of some is there twice; something holds of one of a row
pub data Among (x : Id) : List Id → Type 0 where
  first : {y : Id} {l : List Id} → y ≡ x → Among x (y ∷ l)
  other : {y : Id} {l : List Id} → Among x l → Among x (y ∷ l)

pub data Twice : List Id → Type 0 where
  again : {x : Id} {l : List Id} → Among x l → Twice (x ∷ l)
  later_twice : {x : Id} {l : List Id} → Twice l → Twice (x ∷ l)

pub data One {A : Type 0} (C : A → Type 0) : List A → Type 0 where
  this_one : {a : A} {l : List A} → C a → One C (a ∷ l)
  later_one : {a : A} {l : List A} → One C l → One C (a ∷ l)

-- "a literal outside its type"
pub data Outside : Literal → Type 0 where
  int_outside : {p : _} {ds : List ℕ} → (IntRange (signed p (decimal ds)) → ⊥) → Outside (int_literal p ds)
  nat_outside : {ds : List ℕ} → nat_end ≤ decimal ds → Outside (nat_literal ds)

unfoldable pub arguments : Exps → ℕ
arguments no_exps = zero
arguments (exps e es) = suc (arguments es)

-- what is alive after a statement, and the names declared in its step: a local lives to the end of the innermost body, its name stays declared
unfoldable pub alive_after : Stat → List Local → List Id → List Local
alive_after (if_then e b) alive met = alive
alive_after (assignment t x e) alive met = declared x (length met) t ∷ alive
alive_after (update v e) alive met = alive
alive_after (construct x es) alive met = alive

unfoldable mutual
  pub met_after : Stat → List Id → List Id
  met_after (if_then e b) met = all_met b met
  met_after (assignment t x e) met = x ∷ met
  met_after (update v e) met = met
  met_after (construct x es) met = met

  pub all_met : Stats → List Id → List Id
  all_met no_stats met = met
  all_met (stats t b) met = all_met b (met_after t met)

module _ (ds : List Struct) where
  -- "a name with no declaration alive at its place": a struct's is alive in the whole text
  abbrev pub NoStruct : Id → Type 0
  NoStruct x = Absent x (map struct_id ds)

  pub data NoType : TypeName → Type 0 where
    no_type : {x : Id} → NoStruct x → NoType (id_type x)

  -- a type after whose values nothing is declared
  pub data LeadsNowhere : TypeName → Type 0 where
    int_nowhere : LeadsNowhere int_type
    nat_nowhere : LeadsNowhere nat_type
    bool_nowhere : LeadsNowhere bool_type
    no_struct_there : {x : Id} → NoStruct x → LeadsNowhere (id_type x)

  -- a variable after a dot: the struct before the dot has no such parameter, or the type before it leads nowhere
  mutual
    pub data NoFurther : Struct → Var → Type 0 where
      no_parameter : {d : Struct} {x : Id} → Absent x (map par_id (pars_of d)) → NoFurther d (one_id x)
      no_parameter_before : {d : Struct} {x : Id} {v : Var} → Absent x (map par_id (pars_of d)) → NoFurther d (dot x v)
      not_after : {d : Struct} {x : Id} {i : ℕ} {q : Par} {v : Var} → Found par_id x i q (pars_of d) → NotAfter (par_type q) v → NoFurther d (dot x v)

    pub data NotAfter : TypeName → Var → Type 0 where
      leads_nowhere : {t : TypeName} {v : Var} → LeadsNowhere t → NotAfter t v
      not_in : {x : Id} {k : ℕ} {d : Struct} {v : Var} → Found struct_id x k d ds → NoFurther d v → NotAfter (id_type x) v

  -- the first variable is neither a parameter of the struct at hand nor a living local, or what comes after it is not declared there
  pub data NoPath (own : List Par) (alive : List Local) : Var → Type 0 where
    no_variable : {x : Id} → Absent x (map par_id own) → Absent x (map local_id alive) → NoPath own alive (one_id x)
    no_variable_before : {x : Id} {v : Var} → Absent x (map par_id own) → Absent x (map local_id alive) → NoPath own alive (dot x v)
    not_after_parameter : {x : Id} {i : ℕ} {q : Par} {v : Var} → Found par_id x i q own → NotAfter (par_type q) v → NoPath own alive (dot x v)
    not_after_local : {x : Id} {i : ℕ} {l : Local} {v : Var} → Absent x (map par_id own) → Found local_id x i l alive → NotAfter (local_type l) v
        → NoPath own alive (dot x v)

  -- "other than one argument per parameter"
  pub data Miscounted : Id → Exps → Type 0 where
    miscounted : {x : Id} {k : ℕ} {d : Struct} {es : Exps} → Found struct_id x k d ds → (arguments es ≡ length (pars_of d) → ⊥) → Miscounted x es

  mutual
    pub data NoExp (own : List Par) (alive : List Local) : Exp → Type 0 where
      in_left : {o : _} {a b : Exp} → NoExp own alive a → NoExp own alive (binary o a b)
      in_right : {o : _} {a b : Exp} → NoExp own alive b → NoExp own alive (binary o a b)
      in_brackets : {e : Exp} → NoExp own alive e → NoExp own alive (brackets e)
      in_negation : {e : Exp} → NoExp own alive e → NoExp own alive (negation e)
      none_constructed : {x : Id} {es : Exps} → NoStruct x → NoExp own alive (constructor x es)
      in_arguments : {x : Id} {es : Exps} → NoExps own alive es → NoExp own alive (constructor x es)
      constructor_miscounted : {x : Id} {es : Exps} → Miscounted x es → NoExp own alive (constructor x es)
      in_variable : {v : Var} → NoPath own alive v → NoExp own alive (variable v)
      in_literal : {l : Literal} → Outside l → NoExp own alive (literal l)
      in_null : {t : TypeName} → NoType t → NoExp own alive (null t)

    pub data NoExps (own : List Par) (alive : List Local) : Exps → Type 0 where
      in_argument : {e : Exp} {es : Exps} → NoExp own alive e → NoExps own alive (exps e es)
      in_more : {e : Exp} {es : Exps} → NoExps own alive es → NoExps own alive (exps e es)

  mutual
    pub data NoStat (own : List Par) : List Local → List Id → Stat → Type 0 where
      in_condition : {alive : List Local} {met : List Id} {e : Exp} {b : Stats} → NoExp own alive e → NoStat own alive met (if_then e b)
      in_body : {alive : List Local} {met : List Id} {e : Exp} {b : Stats} → NoStats own alive met b → NoStat own alive met (if_then e b)
      in_type : {alive : List Local} {met : List Id} {t : TypeName} {x : Id} {e : Exp} → NoType t → NoStat own alive met (assignment t x e)
      -- "a local name declared twice or a local named as a parameter of its struct"
      local_twice : {alive : List Local} {met : List Id} {t : TypeName} {x : Id} {e : Exp} → Among x met → NoStat own alive met (assignment t x e)
      local_as_parameter : {alive : List Local} {met : List Id} {t : TypeName} {x : Id} {e : Exp} → Among x (map par_id own)
          → NoStat own alive met (assignment t x e)
      in_value : {alive : List Local} {met : List Id} {t : TypeName} {x : Id} {e : Exp} → NoExp own alive e → NoStat own alive met (assignment t x e)
      in_target : {alive : List Local} {met : List Id} {v : Var} {e : Exp} → NoPath own alive v → NoStat own alive met (update v e)
      in_update : {alive : List Local} {met : List Id} {v : Var} {e : Exp} → NoExp own alive e → NoStat own alive met (update v e)
      none_made : {alive : List Local} {met : List Id} {x : Id} {es : Exps} → NoStruct x → NoStat own alive met (construct x es)
      in_made : {alive : List Local} {met : List Id} {x : Id} {es : Exps} → NoExps own alive es → NoStat own alive met (construct x es)
      construct_miscounted : {alive : List Local} {met : List Id} {x : Id} {es : Exps} → Miscounted x es → NoStat own alive met (construct x es)

    pub data NoStats (own : List Par) : List Local → List Id → Stats → Type 0 where
      in_first : {alive : List Local} {met : List Id} {t : Stat} {b : Stats} → NoStat own alive met t → NoStats own alive met (stats t b)
      in_rest : {alive : List Local} {met : List Id} {t : Stat} {b : Stats} → NoStats own (alive_after t alive met) (met_after t met) b
          → NoStats own alive met (stats t b)

  pub data NoStep (own : List Par) : Step → Type 0 where
    in_statements : {x : Id} {b : Stats} → NoStats own [] [] b → NoStep own (step x b)

  pub data NoPar (q : Par) : Type 0 where
    in_par : NoType (par_type q) → NoPar q

  pub data NoDef (d : Struct) : Type 0 where
    -- "a parameter name declared twice"
    parameter_twice : Twice (map par_id (pars_of d)) → NoDef d
    in_parameter : One NoPar (pars_of d) → NoDef d
    in_step : One (NoStep (pars_of d)) (steps_of d) → NoDef d

  -- no struct has a step of the name
  mutual
    pub data NoItem : Item → Type 0 where
      no_step : {x : Id} → Absent x (all_steps ds) → NoItem (execution x)
      no_struct_before : {x y : Id} → NoStruct x → NoItem (typed_execution x y)
      no_typed_step : {x y : Id} → Absent y (all_steps ds) → NoItem (typed_execution x y)
      in_fix : {s : Sched} → NoSched s → NoItem (fixpoint s)

    pub data NoSched : Sched → Type 0 where
      in_last : {i : Item} → NoItem i → NoSched (last_item i)
      in_item : {i : Item} {s : Sched} → NoItem i → NoSched (barrier i s)
      in_items : {i : Item} {s : Sched} → NoSched s → NoSched (barrier i s)

pub data Unmeant : Derivation → Type 0 where
  -- "a struct name declared twice"
  struct_twice : {d : _} {s : Sched} → Twice (map struct_id (structs_of d)) → Unmeant (program d s)
  in_struct : {d : _} {s : Sched} → One (NoDef (structs_of d)) (structs_of d) → Unmeant (program d s)
  in_schedule : {d : _} {s : Sched} → NoSched (structs_of d) s → Unmeant (program d s)
