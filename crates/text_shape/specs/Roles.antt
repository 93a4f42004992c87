-- What the grammar makes of each token of a derivation: its role, which the passes behind the grammar go by. A token whose kind says it all is plain;
-- names, types, brackets, braces, commas and the schedule's < have a role by the production that they stand in. In a place of the text a role is a byte.
use Rattle.std.specs.Prelude.{ℕ, ◌+◌, List, [], ◌∷◌}
use Rattle.program.specs.Tree.{Op.op_lt}
use Rattle.tokens.specs.Tokens.{Word.w_struct, Word.w_if, Word.w_then, Word.w_null, Word.w_this, Word.w_fix, Sign.lpar, Sign.rpar, Sign.lbrace, Sign.rbrace}
use Rattle.tokens.specs.Tokens.{Sign.comma, Sign.colon, Sign.semicolon, Sign.assign, Sign.dot as dot_sign, Sign.bang, Token, Token.word, Token.sign, Token.op}
use Rattle.tokens.specs.Tokens.{Token.name}
use Rattle.syntax.specs.Syntax.{Id, TypeName, TypeName.int_type, TypeName.nat_type, TypeName.bool_type, TypeName.id_type, Var, Var.id, Var.dot}
use Rattle.syntax.specs.Syntax.{Exp, Exp.binary, Exp.brackets, Exp.negation, Exp.constructor, Exp.variable, Exp.literal, Exp.null, Exp.this, Exps, Exps.no_exps}
use Rattle.syntax.specs.Syntax.{Exps.exps, Stat, Stat.if_then, Stat.assignment, Stat.update, Stat.construct, Stats, Stats.no_stats, Stats.stats}
use Rattle.syntax.specs.Syntax.{Par, Par.par, Step, Step.step, Struct, Struct.struct, Defs, Defs.last_struct, Defs.defs, Item, Item.execution}
use Rattle.syntax.specs.Syntax.{Item.typed_execution, Item.fixpoint, Sched, Sched.last_item, Sched.barrier, Program, Program.program}
use Rattle.syntax.specs.Yield.{type_token, literal_token}
use Rattle.tokens.specs.Kinds.{kind}
use Rattle.text_shape.specs.RoleNames.{par_int_role, local_int_role, null_int_role, first_name_role, first_part_role}

-- what a type is that of: a parameter, a local where it is declared, null
pub data Typed : Type 0 where
  of_par of_local of_null : Typed

-- the names by what they do; the signs by what they belong to
pub data Naming : Type 0 where
  -- declares a struct, a parameter, a step, a local
  new_struct new_par new_step new_local : Naming
  -- the first variable of a path in an expression, and of the path that an update writes; a later variable of either
  first_read first_written later_variable : Naming
  -- the struct of a constructor in an expression, and of a construct statement
  made made_statement : Naming
  -- in the schedule: a step of every struct; a struct and, behind its dot, its step
  called called_struct called_step : Naming

pub data Part : Type 0 where
  -- ( and ) of an expression in brackets; of arguments, with a ) of its own where there are none; of parameters; of a Fix
  brackets_open brackets_close args_open args_close no_args_close pars_open pars_close fix_open fix_close : Part
  -- { and } round a struct's steps, a step's body, an if's body
  steps_open steps_close body_open body_close then_open then_close : Part
  -- , behind a parameter, behind an argument; < behind an item
  par_comma arg_comma barrier_sign : Part

pub data Role : Type 0 where
  plain : Token → Role
  naming : Naming → Id → Role
  typed : Typed → TypeName → Role
  part : Part → Role

-- As bytes -------------------------------------------------------------------------------

unfoldable pub naming_number : Naming → ℕ
naming_number new_struct = 0
naming_number new_par = 1
naming_number new_step = 2
naming_number new_local = 3
naming_number first_read = 4
naming_number first_written = 5
naming_number later_variable = 6
naming_number made = 7
naming_number made_statement = 8
naming_number called = 9
naming_number called_struct = 10
naming_number called_step = 11

-- behind the kinds of tokens
unfoldable pub naming_code : Naming → ℕ
unfolding naming_number
naming_code n = first_name_role + naming_number n

-- Int, Nat, Bool and a name behind each of these
unfoldable pub typed_code : Typed → ℕ
typed_code of_par = par_int_role
typed_code of_local = local_int_role
typed_code of_null = null_int_role

unfoldable pub type_number : TypeName → ℕ
type_number int_type = 0
type_number nat_type = 1
type_number bool_type = 2
type_number (id_type x) = 3

unfoldable pub part_number : Part → ℕ
part_number brackets_open = 0
part_number brackets_close = 1
part_number args_open = 2
part_number args_close = 3
part_number no_args_close = 4
part_number pars_open = 5
part_number pars_close = 6
part_number fix_open = 7
part_number fix_close = 8
part_number steps_open = 9
part_number steps_close = 10
part_number body_open = 11
part_number body_close = 12
part_number then_open = 13
part_number then_close = 14
part_number par_comma = 15
part_number arg_comma = 16
part_number barrier_sign = 17

-- behind the types
unfoldable pub part_code : Part → ℕ
unfolding part_number
part_code g = first_part_role + part_number g

unfoldable pub code : Role → ℕ
code (plain t) = kind t
code (naming n x) = naming_code n
code (typed u t) = typed_code u + type_number t
code (part g) = part_code g

-- the codes of every role but the plain ones, in order, as the code hands them out
unfoldable pub all_roles : List ℕ
unfolding naming_code naming_number typed_code type_number part_code part_number
all_roles =
    naming_code new_struct ∷ naming_code new_par ∷ naming_code new_step ∷ naming_code new_local ∷ naming_code first_read ∷ naming_code first_written
    ∷ naming_code later_variable ∷ naming_code made ∷ naming_code made_statement ∷ naming_code called ∷ naming_code called_struct
    ∷ naming_code called_step ∷ (typed_code of_par + type_number int_type) ∷ (typed_code of_par + type_number nat_type)
    ∷ (typed_code of_par + type_number bool_type) ∷ (typed_code of_par + type_number (id_type [])) ∷ (typed_code of_local + type_number int_type)
    ∷ (typed_code of_local + type_number nat_type) ∷ (typed_code of_local + type_number bool_type) ∷ (typed_code of_local + type_number (id_type []))
    ∷ (typed_code of_null + type_number int_type) ∷ (typed_code of_null + type_number nat_type) ∷ (typed_code of_null + type_number bool_type)
    ∷ (typed_code of_null + type_number (id_type [])) ∷ part_code brackets_open ∷ part_code brackets_close ∷ part_code args_open ∷ part_code args_close
    ∷ part_code no_args_close ∷ part_code pars_open ∷ part_code pars_close ∷ part_code fix_open ∷ part_code fix_close ∷ part_code steps_open
    ∷ part_code steps_close ∷ part_code body_open ∷ part_code body_close ∷ part_code then_open ∷ part_code then_close ∷ part_code par_comma
    ∷ part_code arg_comma ∷ part_code barrier_sign ∷ []

-- The token of a role ----------------------------------------------------------------------

unfoldable pub part_token : Part → Token
part_token brackets_open = sign lpar
part_token brackets_close = sign rpar
part_token args_open = sign lpar
part_token args_close = sign rpar
part_token no_args_close = sign rpar
part_token pars_open = sign lpar
part_token pars_close = sign rpar
part_token fix_open = sign lpar
part_token fix_close = sign rpar
part_token steps_open = sign lbrace
part_token steps_close = sign rbrace
part_token body_open = sign lbrace
part_token body_close = sign rbrace
part_token then_open = sign lbrace
part_token then_close = sign rbrace
part_token par_comma = sign comma
part_token arg_comma = sign comma
part_token barrier_sign = op op_lt

unfoldable pub token_of : Role → Token
token_of (plain t) = t
token_of (naming n x) = name x
token_of (typed u t) = type_token t
token_of (part g) = part_token g

-- The roles of each derivation, in front of some roles k, as its tokens (`syntax/specs/Yield.antt`) ----------

unfoldable pub roles_later : Var → List Role → List Role
roles_later (id x) k = naming later_variable x ∷ k
roles_later (dot x v) k = naming later_variable x ∷ plain (sign dot_sign) ∷ roles_later v k

-- a path, by what its first variable is
unfoldable pub roles_var : Naming → Var → List Role → List Role
roles_var n (id x) k = naming n x ∷ k
roles_var n (dot x v) k = naming n x ∷ plain (sign dot_sign) ∷ roles_later v k

-- the ) of arguments
unfoldable pub close_of : Exps → Role
close_of no_exps = part no_args_close
close_of (exps e es) = part args_close

unfoldable mutual
  pub roles_exp : Exp → List Role → List Role
  roles_exp (binary o a b) k = roles_exp a (plain (op o) ∷ roles_exp b k)
  roles_exp (brackets e) k = part brackets_open ∷ roles_exp e (part brackets_close ∷ k)
  roles_exp (negation e) k = plain (sign bang) ∷ roles_exp e k
  roles_exp (constructor x es) k = naming made x ∷ part args_open ∷ roles_exps es (close_of es ∷ k)
  roles_exp (variable v) k = roles_var first_read v k
  roles_exp (literal l) k = plain (literal_token l) ∷ k
  roles_exp (null t) k = plain (word w_null) ∷ typed of_null t ∷ k
  roles_exp this k = plain (word w_this) ∷ k

  pub roles_exps : Exps → List Role → List Role
  roles_exps no_exps k = k
  roles_exps (exps e es) k = roles_exp e (roles_exp_list es k)

  pub roles_exp_list : Exps → List Role → List Role
  roles_exp_list no_exps k = k
  roles_exp_list (exps e es) k = part arg_comma ∷ roles_exp e (roles_exp_list es k)

unfoldable mutual
  pub roles_stat : Stat → List Role → List Role
  roles_stat (if_then e b) k = plain (word w_if) ∷ roles_exp e (plain (word w_then) ∷ part then_open ∷ roles_stats b (part then_close ∷ k))
  roles_stat (assignment t x e) k =
      typed of_local t ∷ naming new_local x ∷ plain (sign assign) ∷ roles_exp e (plain (sign semicolon) ∷ k)
  roles_stat (update v e) k = roles_var first_written v (plain (sign assign) ∷ roles_exp e (plain (sign semicolon) ∷ k))
  roles_stat (construct x es) k =
      naming made_statement x ∷ part args_open ∷ roles_exps es (close_of es ∷ plain (sign semicolon) ∷ k)

  pub roles_stats : Stats → List Role → List Role
  roles_stats no_stats k = k
  roles_stats (stats t b) k = roles_stat t (roles_stats b k)

unfoldable pub roles_par : Par → List Role → List Role
roles_par (par x t) k = naming new_par x ∷ plain (sign colon) ∷ typed of_par t ∷ k

unfoldable pub roles_par_list : List Par → List Role → List Role
roles_par_list [] k = k
roles_par_list (p ∷ ps) k = part par_comma ∷ roles_par p (roles_par_list ps k)

unfoldable pub roles_pars : List Par → List Role → List Role
roles_pars [] k = k
roles_pars (p ∷ ps) k = roles_par p (roles_par_list ps k)

unfoldable pub roles_step : Step → List Role → List Role
roles_step (step x b) k = naming new_step x ∷ part body_open ∷ roles_stats b (part body_close ∷ k)

unfoldable pub roles_steps : List Step → List Role → List Role
roles_steps [] k = k
roles_steps (t ∷ ts) k = roles_step t (roles_steps ts k)

unfoldable pub roles_struct : Struct → List Role → List Role
roles_struct (struct x ps ts) k =
    plain (word w_struct) ∷ naming new_struct x ∷ part pars_open
    ∷ roles_pars ps (part pars_close ∷ part steps_open ∷ roles_steps ts (part steps_close ∷ k))

unfoldable pub roles_defs : Defs → List Role → List Role
roles_defs (last_struct d) k = roles_struct d k
roles_defs (defs d ds) k = roles_struct d (roles_defs ds k)

unfoldable mutual
  pub roles_item : Item → List Role → List Role
  roles_item (execution x) k = naming called x ∷ k
  roles_item (typed_execution x y) k = naming called_struct x ∷ plain (sign dot_sign) ∷ naming called_step y ∷ k
  roles_item (fixpoint s) k = plain (word w_fix) ∷ part fix_open ∷ roles_sched s (part fix_close ∷ k)

  pub roles_sched : Sched → List Role → List Role
  roles_sched (last_item i) k = roles_item i k
  roles_sched (barrier i s) k = roles_item i (part barrier_sign ∷ roles_sched s k)

unfoldable pub roles : Program → List Role
roles (program d s) = roles_defs d (roles_sched s [])
