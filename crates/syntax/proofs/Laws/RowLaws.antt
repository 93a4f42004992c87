-- Rows that were read, the last one first, yield what was read of them, and keep to the brackets.
use Rattle.std.specs.Prelude.{◌≡◌, refl}
use mathlib.Core.List.{List, [], ◌∷◌, reverse_aux}
use Rattle.tokens.specs.Tokens.{Token}
use Rattle.syntax.specs.Syntax.{Id, Var, Var.dot}
use Rattle.syntax.specs.Syntax.{Exp, Exps, Exps.exps, Stat, Stats, Stats.stats}
use Rattle.syntax.specs.Syntax.{Par, Step, Step.step as a_step, Struct, Defs, Defs.defs, Item, Sched, Sched.barrier}
use Rattle.syntax.specs.Places.{var_onto, exps_onto, stats_onto, defs_onto, sched_onto}
use Rattle.syntax.specs.Yield.{yield_var, yield_exps, yield_exp_list, yield_stats, yield_par_list, yield_pars, yield_steps, yield_defs, yield_sched}
use Rattle.syntax.specs.Bracketing.{FitsExps, FitsStats, FitsSteps, FitsDefs}
use Rattle.syntax.specs.SoFar.{structs_rev, pars_rev, steps_rev, ids_rev, exps_rev, stats_rev, items_rev, FitsAll, FitsBefore, FitsStructs}

pub var_yield : (xs : List Id) (v : Var) (k : List Token) → yield_var (var_onto xs v) k ≡ ids_rev xs (yield_var v k)
unfolding var_onto ids_rev yield_var
var_yield [] v k = refl
var_yield (x ∷ xs) v k = var_yield xs (dot x v) k

pub exps_yield : (l : List Exp) (e : Exp) (es : Exps) (k : List Token) → yield_exps (exps_onto l (exps e es)) k ≡ exps_rev l (yield_exps (exps e es) k)
unfolding exps_onto exps_rev yield_exps yield_exp_list
exps_yield [] e es k = refl
exps_yield (f ∷ l) e es k = exps_yield l f (exps e es) k

pub stats_yield : (l : List Stat) (b : Stats) (k : List Token) → yield_stats (stats_onto l b) k ≡ stats_rev l (yield_stats b k)
unfolding stats_onto stats_rev yield_stats
stats_yield [] b k = refl
stats_yield (t ∷ l) b k = stats_yield l (stats t b) k

pub pars_yield : (l : List Par) (p : Par) (ps : List Par) (k : List Token) → yield_pars (reverse_aux l (p ∷ ps)) k ≡ pars_rev l (yield_pars (p ∷ ps) k)
unfolding pars_rev yield_pars yield_par_list
pars_yield [] p ps k = refl
pars_yield (q ∷ l) p ps k = pars_yield l q (p ∷ ps) k

pub steps_yield : (l ts : List Step) (k : List Token) → yield_steps (reverse_aux l ts) k ≡ steps_rev l (yield_steps ts k)
unfolding steps_rev yield_steps
steps_yield [] ts k = refl
steps_yield (t ∷ l) ts k = steps_yield l (t ∷ ts) k

pub defs_yield : (l : List Struct) (d : Defs) (k : List Token) → yield_defs (defs_onto l d) k ≡ structs_rev l (yield_defs d k)
unfolding defs_onto structs_rev yield_defs
defs_yield [] d k = refl
defs_yield (s ∷ l) d k = defs_yield l (defs s d) k

pub sched_yield : (l : List Item) (s : Sched) (k : List Token) → yield_sched (sched_onto l s) k ≡ items_rev l (yield_sched s k)
unfolding sched_onto items_rev yield_sched
sched_yield [] s k = refl
sched_yield (i ∷ l) s k = sched_yield l (barrier i s) k

-- Brackets ---------------------------------------------------------------------------------------

pub exps_fit : (l : List Exp) (es : Exps) → FitsAll l → FitsExps es → FitsExps (exps_onto l es)
unfolding exps_onto FitsAll
exps_fit [] es f g = g
exps_fit (e ∷ l) es f g = exps_fit l (exps e es) f.1 (f.0, g)

pub stats_fit : (l : List Stat) (b : Stats) → FitsBefore l → FitsStats b → FitsStats (stats_onto l b)
unfolding stats_onto FitsBefore
stats_fit [] b f g = g
stats_fit (t ∷ l) b f g = stats_fit l (stats t b) f.1 (f.0, g)

pub steps_fit : (l ts : List Step) → FitsSteps l → FitsSteps ts → FitsSteps (reverse_aux l ts)
steps_fit [] ts f g = g
steps_fit (a_step x b ∷ l) ts f g = steps_fit l (a_step x b ∷ ts) f.1 (f.0, g)

pub defs_fit : (l : List Struct) (d : Defs) → FitsStructs l → FitsDefs d → FitsDefs (defs_onto l d)
unfolding defs_onto FitsStructs
defs_fit [] d f g = g
defs_fit (s ∷ l) d f g = defs_fit l (defs s d) f.1 (f.0, g)
