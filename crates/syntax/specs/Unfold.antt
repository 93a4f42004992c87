-- Groups of definitions that proofs look into together: where an `unfolding` line has the name of a group, all of the group unfolds.
use Rattle.syntax.specs.Bracketing.{level, left}
use Rattle.syntax.specs.Yield.{type_token, literal_token, yield_var, yield_exp, yield_exps, yield_exp_list, yield_stat, yield_stats, yield_par}
use Rattle.syntax.specs.Yield.{yield_par_list, yield_pars, yield_step, yield_steps, yield_struct, yield_defs, yield_item, yield_sched}
use Rattle.syntax.specs.Expecting.{word_number, sign_number, on_word, on_sign, on_name, on_op, less, on_less, literal_word, on_literal}
use Rattle.syntax.specs.Expecting.{type_word, on_type_word, on_type}
use Rattle.syntax.specs.Places.{var_onto, exps_onto, stats_onto, defs_onto, sched_onto}
use Rattle.syntax.specs.Reading.{closed, least, extended, tighter, behind, wanted, item_wanted, item_behind, begun, step, run, whole, ended, read}
use Rattle.syntax.specs.SoFar.{structs_rev, pars_rev, steps_rev, ids_rev, exps_rev, stats_rev, items_rev, before_name, before_pars}
use Rattle.syntax.specs.SoFar.{before_steps, before_body, before_stat, before, before_row, before_item, so_far, FitsAll, FitsBefore}
use Rattle.syntax.specs.SoFar.{FitsStructs, SitsBody, room, SitsPlace, SitsRow, Sits}

-- what a token is read as
unfoldable pub expecting : Type 0
unfolding word_number sign_number on_word on_sign on_name on_op less on_less literal_word on_literal type_word on_type_word on_type
expecting = Unit {0}

-- the reader, from one token to the whole
unfoldable pub reading : Type 0
unfolding expecting var_onto exps_onto stats_onto defs_onto sched_onto level left closed least extended tighter behind wanted
    item_wanted item_behind begun step run whole ended read
reading = Unit {0}

-- the tokens of types and literals
unfoldable pub leaf_tokens : Type 0
unfolding type_token literal_token
leaf_tokens = Unit {0}

-- the yields of statements, and of structs and the schedule
unfoldable pub stat_yields : Type 0
unfolding leaf_tokens yield_var yield_exp yield_exps yield_exp_list yield_stat yield_stats
stat_yields = Unit {0}

unfoldable pub yields : Type 0
unfolding stat_yields yield_par yield_par_list yield_pars yield_step yield_steps yield_struct yield_defs yield_item yield_sched
yields = Unit {0}

-- where brackets stand
unfoldable pub fitting : Type 0
unfolding FitsAll FitsBefore FitsStructs
fitting = Unit {0}

-- what was read so far
unfoldable pub reversed : Type 0
unfolding structs_rev pars_rev steps_rev ids_rev exps_rev stats_rev items_rev
reversed = Unit {0}

-- what stands before a place, and that it fits
unfoldable pub before_places : Type 0
unfolding before before_name before_pars before_steps before_body before_stat before_row before_item
before_places = Unit {0}

unfoldable pub sitting : Type 0
unfolding yields fitting reversed before_places so_far Sits SitsBody room SitsPlace SitsRow
sitting = Unit {0}
