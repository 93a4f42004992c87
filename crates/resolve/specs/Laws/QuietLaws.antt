-- Bodies and the schedule declare no struct, no parameter and no step: what is asked of these alone is not changed by their roles. And parameters and steps,
-- where each adds one.
use Rattle.std.specs.Prelude.{ℕ, suc, ◌+◌, ◌≡◌, true}
use Rattle.std.proofs.Common.{arith, ◌∙◌}
use Rattle.std.proofs.Math.Path.{refl, ap}
use Rattle.std.proofs.Math.ListN.{length}
use mathlib.Core.List.{List, [], ◌∷◌, ◌++◌, map}
use Rattle.tokens.specs.Tokens.{Sign.semicolon, Sign.assign, Sign.dot as dot_sign, Sign.bang, Word.w_then, Word.w_if, Word.w_null, Word.w_this, Word.w_fix}
use Rattle.tokens.specs.Tokens.{Token.sign, Token.word, Token.op}
use Rattle.syntax.specs.Yield.{literal_token}
use Rattle.syntax.specs.Syntax.{Var, Var.id, Var.dot}
use Rattle.syntax.specs.Syntax.{Exp, Exp.binary, Exp.brackets, Exp.negation, Exp.constructor, Exp.variable, Exp.literal, Exp.null, Exp.this, Exps, Exps.no_exps}
use Rattle.syntax.specs.Syntax.{Exps.exps, Stat, Stat.if_then, Stat.assignment, Stat.update, Stat.construct, Stats, Stats.no_stats, Stats.stats}
use Rattle.syntax.specs.Syntax.{Par, Step, Step.step, Item, Item.execution, Item.typed_execution, Item.fixpoint, Sched, Sched.last_item, Sched.barrier}
use Rattle.meaning.specs.Scope.{step_id}
use Rattle.text_shape.specs.Roles.{Naming, Naming.new_step, Naming.new_local, Naming.first_read, Naming.first_written, Naming.later_variable, Naming.made}
use Rattle.text_shape.specs.Roles.{Naming.made_statement, Naming.called, Naming.called_struct, Naming.called_step, Part.args_open, Part.args_close}
use Rattle.text_shape.specs.Roles.{Part.no_args_close, Part.arg_comma, Part.par_comma, Part.body_open, Part.brackets_open, Part.brackets_close, Part.fix_open}
use Rattle.text_shape.specs.Roles.{Part.then_open, Part.then_close, Part.body_close, Part.fix_close, Part.barrier_sign, Role, Role.plain}
use Rattle.text_shape.specs.Roles.{Role.naming, Role.typed}
use Rattle.text_shape.specs.Roles.{Role.part, Typed.of_local, Typed.of_null}
use Rattle.text_shape.specs.Roles.{roles_later, roles_var, close_of, roles_exp, roles_exps, roles_exp_list, roles_stat, roles_stats, roles_par, roles_par_list}
use Rattle.text_shape.specs.Roles.{roles_pars, roles_step, roles_steps, roles_item, roles_sched}
use Rattle.resolve.specs.Declares.{inner, inner_name, inner_type}

-- Bodies and the schedule: nothing that is asked of declarations alone changes there
module _ {A : Type 0} (f : List Role → A) (quiet : (r : Role) (k : List Role) → inner r ≡ true → f (r ∷ k) ≡ f k) where
  later_quiet : (v : Var) (k : List Role) → f (roles_later v k) ≡ f k
  unfolding roles_later inner inner_name
  later_quiet (id x) k = quiet (naming later_variable x) k refl
  later_quiet (dot x v) k = quiet (naming later_variable x) _ refl ∙ quiet (plain (sign dot_sign)) _ refl ∙ later_quiet v k

  var_quiet : (m : Naming) (v : Var) (k : List Role) → inner_name m ≡ true → f (roles_var m v k) ≡ f k
  unfolding roles_var inner
  var_quiet m (id x) k e = quiet (naming m x) k e
  var_quiet m (dot x v) k e = quiet (naming m x) _ e ∙ quiet (plain (sign dot_sign)) _ refl ∙ later_quiet v k

  close_quiet : (es : Exps) (k : List Role) → f (close_of es ∷ k) ≡ f k
  unfolding close_of inner
  close_quiet no_exps k = quiet (part no_args_close) k refl
  close_quiet (exps e es) k = quiet (part args_close) k refl

  mutual
    unfolding roles_exp roles_exps roles_exp_list inner inner_name inner_type

    exp_quiet : (e : Exp) (k : List Role) → f (roles_exp e k) ≡ f k
    exp_quiet (binary o a b) k = exp_quiet a (plain (op o) ∷ roles_exp b k) ∙ quiet (plain (op o)) _ refl ∙ exp_quiet b k
    exp_quiet (brackets e) k = quiet (part brackets_open) _ refl ∙ exp_quiet e (part brackets_close ∷ k) ∙ quiet (part brackets_close) k refl
    exp_quiet (negation e) k = quiet (plain (sign bang)) _ refl ∙ exp_quiet e k
    exp_quiet (constructor x es) k =
        quiet (naming made x) _ refl ∙ quiet (part args_open) _ refl ∙ exps_quiet es (close_of es ∷ k) ∙ close_quiet es k
    exp_quiet (variable v) k = var_quiet first_read v k refl
    exp_quiet (literal l) k = quiet (plain (literal_token l)) k refl
    exp_quiet (null t) k = quiet (plain (word w_null)) _ refl ∙ quiet (typed of_null t) k refl
    exp_quiet this k = quiet (plain (word w_this)) k refl

    exps_quiet : (es : Exps) (k : List Role) → f (roles_exps es k) ≡ f k
    exps_quiet no_exps k = refl
    exps_quiet (exps e es) k = exp_quiet e (roles_exp_list es k) ∙ exp_list_quiet es k

    exp_list_quiet : (es : Exps) (k : List Role) → f (roles_exp_list es k) ≡ f k
    exp_list_quiet no_exps k = refl
    exp_list_quiet (exps e es) k = quiet (part arg_comma) _ refl ∙ exp_quiet e (roles_exp_list es k) ∙ exp_list_quiet es k

  mutual
    unfolding roles_stat roles_stats inner inner_name inner_type

    stat_quiet : (t : Stat) (k : List Role) → f (roles_stat t k) ≡ f k
    stat_quiet (if_then e b) k =
        quiet (plain (word w_if)) _ refl ∙ exp_quiet e (plain (word w_then) ∷ part then_open ∷ roles_stats b (part then_close ∷ k))
        ∙ quiet (plain (word w_then)) _ refl ∙ quiet (part then_open) _ refl ∙ stats_quiet b (part then_close ∷ k) ∙ quiet (part then_close) k refl
    stat_quiet (assignment t x e) k =
        quiet (typed of_local t) _ refl ∙ quiet (naming new_local x) _ refl ∙ quiet (plain (sign assign)) _ refl
        ∙ exp_quiet e (plain (sign semicolon) ∷ k) ∙ quiet (plain (sign semicolon)) k refl
    stat_quiet (update v e) k =
        var_quiet first_written v (plain (sign assign) ∷ roles_exp e (plain (sign semicolon) ∷ k)) refl ∙ quiet (plain (sign assign)) _ refl
        ∙ exp_quiet e (plain (sign semicolon) ∷ k) ∙ quiet (plain (sign semicolon)) k refl
    stat_quiet (construct x es) k =
        quiet (naming made_statement x) _ refl ∙ quiet (part args_open) _ refl ∙ exps_quiet es (close_of es ∷ plain (sign semicolon) ∷ k)
        ∙ close_quiet es (plain (sign semicolon) ∷ k) ∙ quiet (plain (sign semicolon)) k refl

    pub stats_quiet : (b : Stats) (k : List Role) → f (roles_stats b k) ≡ f k
    stats_quiet no_stats k = refl
    stats_quiet (stats t b) k = stat_quiet t (roles_stats b k) ∙ stats_quiet b k

  mutual
    unfolding roles_item roles_sched inner inner_name

    item_quiet : (i : Item) (k : List Role) → f (roles_item i k) ≡ f k
    item_quiet (execution x) k = quiet (naming called x) k refl
    item_quiet (typed_execution x y) k =
        quiet (naming called_struct x) _ refl ∙ quiet (plain (sign dot_sign)) _ refl ∙ quiet (naming called_step y) k refl
    item_quiet (fixpoint s) k =
        quiet (plain (word w_fix)) _ refl ∙ quiet (part fix_open) _ refl ∙ sched_quiet s (part fix_close ∷ k) ∙ quiet (part fix_close) k refl

    pub sched_quiet : (s : Sched) (k : List Role) → f (roles_sched s k) ≡ f k
    sched_quiet (last_item i) k = item_quiet i k
    sched_quiet (barrier i s) k = item_quiet i (part barrier_sign ∷ roles_sched s k) ∙ quiet (part barrier_sign) _ refl ∙ sched_quiet s k

  -- parameters and steps, where they change nothing either
  pub pars_quiet : ((p : Par) (k : List Role) → f (roles_par p k) ≡ f k) → (ps : List Par) (k : List Role) → f (roles_pars ps k) ≡ f k
  unfolding roles_pars roles_par_list inner
  pars_quiet h [] k = refl
  pars_quiet h (p ∷ ps) k = h p (roles_par_list ps k) ∙ rest ps
    where
      rest : (ps : List Par) → f (roles_par_list ps k) ≡ f k
      rest [] = refl
      rest (q ∷ ps) = quiet (part par_comma) _ refl ∙ h q (roles_par_list ps k) ∙ rest ps

  pub steps_quiet : ((x : List ℕ) (k : List Role) → f (naming new_step x ∷ k) ≡ f k) → (ts : List Step) (k : List Role) → f (roles_steps ts k) ≡ f k
  unfolding roles_steps roles_step inner
  steps_quiet h [] k = refl
  steps_quiet h (step x b ∷ ts) k =
      h x _ ∙ quiet (part body_open) _ refl ∙ stats_quiet b (part body_close ∷ roles_steps ts k) ∙ quiet (part body_close) _ refl ∙ steps_quiet h ts k

-- Rows of names, or of types: each parameter, or each step, adds one
module _ {B : Type 0} (f : List Role → List B) (quiet : (r : Role) (k : List Role) → inner r ≡ true → f (r ∷ k) ≡ f k) where
  pub pars_each : (h : Par → B) → ((p : Par) (k : List Role) → f (roles_par p k) ≡ h p ∷ f k) → (ps : List Par) (k : List Role)
      → f (roles_pars ps k) ≡ map h ps ++ f k
  unfolding roles_pars roles_par_list inner
  pars_each h e [] k = refl
  pars_each h e (p ∷ ps) k = e p (roles_par_list ps k) ∙ ap (λ l. h p ∷ l) (rest ps)
    where
      rest : (ps : List Par) → f (roles_par_list ps k) ≡ map h ps ++ f k
      rest [] = refl
      rest (q ∷ ps) = quiet (part par_comma) _ refl ∙ e q (roles_par_list ps k) ∙ ap (λ l. h q ∷ l) (rest ps)

  pub steps_each : (h : List ℕ → B) → ((x : List ℕ) (k : List Role) → f (naming new_step x ∷ k) ≡ h x ∷ f k) → (ts : List Step) (k : List Role)
      → f (roles_steps ts k) ≡ map (λ t. h (step_id t)) ts ++ f k
  unfolding roles_steps roles_step inner step_id
  steps_each h e [] k = refl
  steps_each h e (step x b ∷ ts) k =
      e x _
      ∙ ap (λ l. h x ∷ l)
      (quiet (part body_open) _ refl ∙ stats_quiet f quiet b (part body_close ∷ roles_steps ts k) ∙ quiet (part body_close) _ refl ∙ steps_each h e ts k)

-- Counts: each parameter, or each step, adds one
module _ {A : Type 0} (f : ℕ → List Role → A) (quiet : (n : ℕ) (r : Role) (k : List Role) → inner r ≡ true → f n (r ∷ k) ≡ f n k) where
  pub pars_counted : ((n : ℕ) (p : Par) (k : List Role) → f n (roles_par p k) ≡ f (suc n) k) → (ps : List Par) (n : ℕ) (k : List Role)
      → f n (roles_pars ps k) ≡ f (n + length ps) k
  unfolding roles_pars roles_par_list inner
  pars_counted e [] n k = ap (λ m. f m k) (omega arith)
  pars_counted e (p ∷ ps) n k = e n p (roles_par_list ps k) ∙ rest ps (suc n) ∙ ap (λ m. f m k) (omega arith)
    where
      rest : (ps : List Par) (n : ℕ) → f n (roles_par_list ps k) ≡ f (n + length ps) k
      rest [] n = ap (λ m. f m k) (omega arith)
      rest (q ∷ ps) n = quiet n (part par_comma) _ refl ∙ e n q (roles_par_list ps k) ∙ rest ps (suc n) ∙ ap (λ m. f m k) (omega arith)

  pub steps_counted : ((n : ℕ) (x : List ℕ) (k : List Role) → f n (naming new_step x ∷ k) ≡ f (suc n) k) → (ts : List Step) (n : ℕ) (k : List Role)
      → f n (roles_steps ts k) ≡ f (n + length ts) k
  unfolding roles_steps roles_step inner
  steps_counted e [] n k = ap (λ m. f m k) (omega arith)
  steps_counted e (step x b ∷ ts) n k =
      e n x _ ∙ quiet (suc n) (part body_open) _ refl ∙ stats_quiet (f (suc n)) (quiet (suc n)) b (part body_close ∷ roles_steps ts k)
      ∙ quiet (suc n) (part body_close) _ refl ∙ steps_counted e ts (suc n) k ∙ ap (λ m. f m k) (omega arith)
