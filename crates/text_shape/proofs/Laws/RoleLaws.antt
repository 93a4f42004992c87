-- The roles of a derivation are those of the tokens that it yields, one for one.
use Rattle.std.specs.Prelude.{◌≡◌, refl, List, [], ◌∷◌, map}
use Rattle.std.proofs.Common.{ap, ◌∙◌}
use Rattle.program.specs.Tree.{Op.op_lt}
use Rattle.tokens.specs.Tokens.{Word.w_struct, Word.w_if, Word.w_then, Word.w_fix, Sign.lpar, Sign.comma, Sign.bang, Sign.rpar, Sign.lbrace, Sign.rbrace}
use Rattle.tokens.specs.Tokens.{Sign.semicolon, Sign.assign, Sign.dot as dot_sign, Token, Token.word, Token.sign, Token.op, Token.name}
use Rattle.syntax.specs.Syntax.{Var, Var.id, Var.dot}
use Rattle.syntax.specs.Syntax.{Exp, Exp.binary, Exp.brackets, Exp.negation, Exp.constructor, Exp.variable, Exp.literal, Exp.null, Exp.this, Exps, Exps.no_exps}
use Rattle.syntax.specs.Syntax.{Exps.exps, Stat, Stat.if_then, Stat.assignment, Stat.update, Stat.construct, Stats, Stats.no_stats, Stats.stats}
use Rattle.syntax.specs.Syntax.{Par, Par.par, Step, Step.step, Struct, Struct.struct, Defs, Defs.last_struct, Defs.defs, Item, Item.execution}
use Rattle.syntax.specs.Syntax.{Item.typed_execution, Item.fixpoint, Sched, Sched.last_item, Sched.barrier, Program, Program.program}
use Rattle.syntax.specs.Yield.{type_token, yield_var, yield_exp, yield_exps, yield_exp_list, yield_stat, yield_stats, yield_par, yield_par_list, yield_pars}
use Rattle.syntax.specs.Yield.{yield_step, yield_steps, yield_struct, yield_defs, yield_item, yield_sched, yield}
use Rattle.text_shape.specs.Roles.{Naming, Naming.first_read, Naming.first_written, Part.brackets_close, Part.then_open, Part.then_close, Part.body_close}
use Rattle.text_shape.specs.Roles.{Part.pars_close, Part.steps_open, Part.steps_close, Part.fix_close, Part.barrier_sign, Role, Role.plain, Role.part}
use Rattle.text_shape.specs.Roles.{part_token, token_of, roles_later, roles_var, close_of, roles_exp, roles_exps, roles_exp_list, roles_stat, roles_stats}
use Rattle.text_shape.specs.Roles.{roles_par, roles_par_list, roles_pars, roles_step, roles_steps, roles_struct, roles_defs, roles_item}
use Rattle.text_shape.specs.Roles.{roles_sched, roles}

abbrev pub tokens_of : List Role → List Token
tokens_of k = map token_of k

later_tokens : (v : Var) (k : List Role) → tokens_of (roles_later v k) ≡ yield_var v (tokens_of k)
unfolding roles_later yield_var token_of
later_tokens (id x) k = refl
later_tokens (dot x v) k = ap (λ l. name x ∷ sign dot_sign ∷ l) (later_tokens v k)

var_tokens : (n : Naming) (v : Var) (k : List Role) → tokens_of (roles_var n v k) ≡ yield_var v (tokens_of k)
unfolding roles_var yield_var token_of
var_tokens n (id x) k = refl
var_tokens n (dot x v) k = ap (λ l. name x ∷ sign dot_sign ∷ l) (later_tokens v k)

close_token : (es : Exps) → token_of (close_of es) ≡ sign rpar
unfolding token_of close_of part_token
close_token no_exps = refl
close_token (exps e es) = refl

mutual
  unfolding roles_exp roles_exps roles_exp_list yield_exp yield_exps yield_exp_list token_of part_token

  exp_tokens : (e : Exp) (k : List Role) → tokens_of (roles_exp e k) ≡ yield_exp e (tokens_of k)
  exp_tokens (binary o a b) k = exp_tokens a (plain (op o) ∷ roles_exp b k) ∙ ap (λ l. yield_exp a (op o ∷ l)) (exp_tokens b k)
  exp_tokens (brackets e) k = ap (λ l. sign lpar ∷ l) (exp_tokens e (part brackets_close ∷ k))
  exp_tokens (negation e) k = ap (λ l. sign bang ∷ l) (exp_tokens e k)
  exp_tokens (constructor x es) k =
      ap (λ l. name x ∷ sign lpar ∷ l) (exps_tokens es (close_of es ∷ k) ∙ ap (λ t. yield_exps es (t ∷ tokens_of k)) (close_token es))
  exp_tokens (variable v) k = var_tokens first_read v k
  exp_tokens (literal l) k = refl
  exp_tokens (null t) k = refl
  exp_tokens this k = refl

  exps_tokens : (es : Exps) (k : List Role) → tokens_of (roles_exps es k) ≡ yield_exps es (tokens_of k)
  exps_tokens no_exps k = refl
  exps_tokens (exps e es) k = exp_tokens e (roles_exp_list es k) ∙ ap (yield_exp e) (exp_list_tokens es k)

  exp_list_tokens : (es : Exps) (k : List Role) → tokens_of (roles_exp_list es k) ≡ yield_exp_list es (tokens_of k)
  exp_list_tokens no_exps k = refl
  exp_list_tokens (exps e es) k = ap (λ l. sign comma ∷ l) (exp_tokens e (roles_exp_list es k) ∙ ap (yield_exp e) (exp_list_tokens es k))

mutual
  unfolding roles_stat roles_stats yield_stat yield_stats token_of part_token

  stat_tokens : (t : Stat) (k : List Role) → tokens_of (roles_stat t k) ≡ yield_stat t (tokens_of k)
  stat_tokens (if_then e b) k =
      ap (λ l. word w_if ∷ l)
      (exp_tokens e (plain (word w_then) ∷ part then_open ∷ roles_stats b (part then_close ∷ k))
      ∙ ap (λ l. yield_exp e (word w_then ∷ sign lbrace ∷ l)) (stats_tokens b (part then_close ∷ k)))
  stat_tokens (assignment t x e) k = ap (λ l. type_token t ∷ name x ∷ sign assign ∷ l) (exp_tokens e (plain (sign semicolon) ∷ k))
  stat_tokens (update v e) k =
      var_tokens first_written v (plain (sign assign) ∷ roles_exp e (plain (sign semicolon) ∷ k))
      ∙ ap (λ l. yield_var v (sign assign ∷ l)) (exp_tokens e (plain (sign semicolon) ∷ k))
  stat_tokens (construct x es) k =
      ap (λ l. name x ∷ sign lpar ∷ l)
      (exps_tokens es (close_of es ∷ plain (sign semicolon) ∷ k) ∙ ap (λ t. yield_exps es (t ∷ sign semicolon ∷ tokens_of k)) (close_token es))

  stats_tokens : (b : Stats) (k : List Role) → tokens_of (roles_stats b k) ≡ yield_stats b (tokens_of k)
  stats_tokens no_stats k = refl
  stats_tokens (stats t b) k = stat_tokens t (roles_stats b k) ∙ ap (yield_stat t) (stats_tokens b k)

par_tokens : (q : Par) (k : List Role) → tokens_of (roles_par q k) ≡ yield_par q (tokens_of k)
unfolding roles_par yield_par token_of
par_tokens (par x t) k = refl

par_list_tokens : (ps : List Par) (k : List Role) → tokens_of (roles_par_list ps k) ≡ yield_par_list ps (tokens_of k)
unfolding roles_par_list yield_par_list token_of part_token
par_list_tokens [] k = refl
par_list_tokens (q ∷ ps) k = ap (λ l. sign comma ∷ l) (par_tokens q (roles_par_list ps k) ∙ ap (yield_par q) (par_list_tokens ps k))

pars_tokens : (ps : List Par) (k : List Role) → tokens_of (roles_pars ps k) ≡ yield_pars ps (tokens_of k)
unfolding roles_pars yield_pars
pars_tokens [] k = refl
pars_tokens (q ∷ ps) k = par_tokens q (roles_par_list ps k) ∙ ap (yield_par q) (par_list_tokens ps k)

steps_tokens : (ts : List Step) (k : List Role) → tokens_of (roles_steps ts k) ≡ yield_steps ts (tokens_of k)
unfolding roles_steps roles_step yield_steps yield_step token_of part_token
steps_tokens [] k = refl
steps_tokens (step x b ∷ ts) k =
    ap (λ l. name x ∷ sign lbrace ∷ l) (stats_tokens b (part body_close ∷ roles_steps ts k) ∙ ap (λ l. yield_stats b (sign rbrace ∷ l)) (steps_tokens ts k))

struct_tokens : (d : Struct) (k : List Role) → tokens_of (roles_struct d k) ≡ yield_struct d (tokens_of k)
unfolding roles_struct yield_struct token_of part_token
struct_tokens (struct x ps ts) k =
    ap (λ l. word w_struct ∷ name x ∷ sign lpar ∷ l)
    (pars_tokens ps (part pars_close ∷ part steps_open ∷ roles_steps ts (part steps_close ∷ k))
    ∙ ap (λ l. yield_pars ps (sign rpar ∷ sign lbrace ∷ l)) (steps_tokens ts (part steps_close ∷ k)))

defs_tokens : (d : Defs) (k : List Role) → tokens_of (roles_defs d k) ≡ yield_defs d (tokens_of k)
unfolding roles_defs yield_defs
defs_tokens (last_struct d) k = struct_tokens d k
defs_tokens (defs d ds) k = struct_tokens d (roles_defs ds k) ∙ ap (yield_struct d) (defs_tokens ds k)

mutual
  unfolding roles_item roles_sched yield_item yield_sched token_of part_token

  item_tokens : (i : Item) (k : List Role) → tokens_of (roles_item i k) ≡ yield_item i (tokens_of k)
  item_tokens (execution x) k = refl
  item_tokens (typed_execution x y) k = refl
  item_tokens (fixpoint s) k = ap (λ l. word w_fix ∷ sign lpar ∷ l) (sched_tokens s (part fix_close ∷ k))

  sched_tokens : (s : Sched) (k : List Role) → tokens_of (roles_sched s k) ≡ yield_sched s (tokens_of k)
  sched_tokens (last_item i) k = item_tokens i k
  sched_tokens (barrier i s) k = item_tokens i (part barrier_sign ∷ roles_sched s k) ∙ ap (λ l. yield_item i (op op_lt ∷ l)) (sched_tokens s k)

pub roles_yield : (c : Program) → tokens_of (roles c) ≡ yield c
unfolding roles yield
roles_yield (program d s) = defs_tokens d (roles_sched s []) ∙ ap (yield_defs d) (sched_tokens s [])
