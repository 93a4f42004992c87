-- The tokens that each derivation yields (000, section 3), in front of some tokens k. Nothing here speaks of reading.
use Rattle.std.specs.Prelude.{true, false, List, [], ◌∷◌}
use Rattle.program.specs.Tree.{Op.op_lt}
use Rattle.tokens.specs.Tokens.{Word.w_struct, Word.w_if, Word.w_then, Word.w_null, Word.w_this, Word.w_fix, Word.w_int, Word.w_nat, Word.w_bool}
use Rattle.tokens.specs.Tokens.{Word.w_true, Word.w_false, Sign.lpar, Sign.rpar, Sign.lbrace, Sign.rbrace, Sign.comma, Sign.colon, Sign.semicolon}
use Rattle.tokens.specs.Tokens.{Sign.assign, Sign.dot as dot_sign, Sign.bang, Token, Token.word, Token.sign, Token.op, Token.name, Token.int}
use Rattle.tokens.specs.Tokens.{Token.nat}
use Rattle.syntax.specs.Syntax.{TypeName, TypeName.int_type, TypeName.nat_type, TypeName.bool_type, TypeName.id_type, Literal}
use Rattle.syntax.specs.Syntax.{Literal.int_literal, Literal.nat_literal, Literal.bool_literal, Var, Var.id, Var.dot}
use Rattle.syntax.specs.Syntax.{Exp, Exp.binary, Exp.brackets, Exp.negation, Exp.constructor, Exp.variable, Exp.literal, Exp.null, Exp.this}
use Rattle.syntax.specs.Syntax.{Exps, Exps.no_exps, Exps.exps, Stat, Stat.if_then, Stat.assignment, Stat.update, Stat.construct, Stats}
use Rattle.syntax.specs.Syntax.{Stats.no_stats, Stats.stats}
use Rattle.syntax.specs.Syntax.{Par, Par.par, Step, Step.step, Struct, Struct.struct, Defs, Defs.last_struct, Defs.defs, Item, Item.execution}
use Rattle.syntax.specs.Syntax.{Item.typed_execution, Item.fixpoint, Sched, Sched.last_item, Sched.barrier, Program, Program.program}

unfoldable pub type_token : TypeName → Token
type_token int_type = word w_int
type_token nat_type = word w_nat
type_token bool_type = word w_bool
type_token (id_type x) = name x

unfoldable pub literal_token : Literal → Token
literal_token (int_literal p ds) = int p ds
literal_token (nat_literal ds) = nat ds
literal_token (bool_literal b) = elim b [ true ↦ word w_true | false ↦ word w_false ]

unfoldable pub yield_var : Var → List Token → List Token
yield_var (id x) k = name x ∷ k
yield_var (dot x v) k = name x ∷ sign dot_sign ∷ yield_var v k

-- brackets round a binary expression are those of the expression that it stands in
unfoldable mutual
  pub yield_exp : Exp → List Token → List Token
  yield_exp (binary o a b) k = yield_exp a (op o ∷ yield_exp b k)
  yield_exp (brackets e) k = sign lpar ∷ yield_exp e (sign rpar ∷ k)
  yield_exp (negation e) k = sign bang ∷ yield_exp e k
  yield_exp (constructor x es) k = name x ∷ sign lpar ∷ yield_exps es (sign rpar ∷ k)
  yield_exp (variable v) k = yield_var v k
  yield_exp (literal l) k = literal_token l ∷ k
  yield_exp (null t) k = word w_null ∷ type_token t ∷ k
  yield_exp this k = word w_this ∷ k

  -- Exp ExpList, or nothing
  pub yield_exps : Exps → List Token → List Token
  yield_exps no_exps k = k
  yield_exps (exps e es) k = yield_exp e (yield_exp_list es k)

  -- ',' Exp ExpList, or nothing
  pub yield_exp_list : Exps → List Token → List Token
  yield_exp_list no_exps k = k
  yield_exp_list (exps e es) k = sign comma ∷ yield_exp e (yield_exp_list es k)

unfoldable mutual
  pub yield_stat : Stat → List Token → List Token
  yield_stat (if_then e b) k = word w_if ∷ yield_exp e (word w_then ∷ sign lbrace ∷ yield_stats b (sign rbrace ∷ k))
  yield_stat (assignment t x e) k = type_token t ∷ name x ∷ sign assign ∷ yield_exp e (sign semicolon ∷ k)
  yield_stat (update v e) k = yield_var v (sign assign ∷ yield_exp e (sign semicolon ∷ k))
  yield_stat (construct x es) k = name x ∷ sign lpar ∷ yield_exps es (sign rpar ∷ sign semicolon ∷ k)

  pub yield_stats : Stats → List Token → List Token
  yield_stats no_stats k = k
  yield_stats (stats t b) k = yield_stat t (yield_stats b k)

unfoldable pub yield_par : Par → List Token → List Token
yield_par (par x t) k = name x ∷ sign colon ∷ type_token t ∷ k

unfoldable pub yield_par_list : List Par → List Token → List Token
yield_par_list [] k = k
yield_par_list (p ∷ ps) k = sign comma ∷ yield_par p (yield_par_list ps k)

unfoldable pub yield_pars : List Par → List Token → List Token
yield_pars [] k = k
yield_pars (p ∷ ps) k = yield_par p (yield_par_list ps k)

unfoldable pub yield_step : Step → List Token → List Token
yield_step (step x b) k = name x ∷ sign lbrace ∷ yield_stats b (sign rbrace ∷ k)

unfoldable pub yield_steps : List Step → List Token → List Token
yield_steps [] k = k
yield_steps (t ∷ ts) k = yield_step t (yield_steps ts k)

unfoldable pub yield_struct : Struct → List Token → List Token
yield_struct (struct x ps ts) k = word w_struct ∷ name x ∷ sign lpar ∷ yield_pars ps (sign rpar ∷ sign lbrace ∷ yield_steps ts (sign rbrace ∷ k))

unfoldable pub yield_defs : Defs → List Token → List Token
yield_defs (last_struct d) k = yield_struct d k
yield_defs (defs d ds) k = yield_struct d (yield_defs ds k)

unfoldable mutual
  pub yield_item : Item → List Token → List Token
  yield_item (execution x) k = name x ∷ k
  yield_item (typed_execution x y) k = name x ∷ sign dot_sign ∷ name y ∷ k
  yield_item (fixpoint s) k = word w_fix ∷ sign lpar ∷ yield_sched s (sign rpar ∷ k)

  pub yield_sched : Sched → List Token → List Token
  yield_sched (last_item i) k = yield_item i k
  yield_sched (barrier i s) k = yield_item i (op op_lt ∷ yield_sched s k)

unfoldable pub yield : Program → List Token
yield (program d s) = yield_defs d (yield_sched s [])
