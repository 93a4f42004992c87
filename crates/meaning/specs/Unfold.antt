-- Groups of definitions that rows and proofs look into together: where an `unfolding` line has the name of a group, all of the group unfolds.
use Rattle.types.specs.Values.{in_int, int_word}
use Rattle.tokens.specs.Tokens.{same}
use Rattle.meaning.specs.Scope.{par_id, par_type, step_id, struct_id, pars_of, steps_of, structs_of, local_id, local_number, local_type}
use Rattle.meaning.specs.StepNames.{among, once, all_steps, step_names}
use Rattle.meaning.specs.Values.{decimal_from, decimal, signed}
use Rattle.meaning.specs.HoldsDecide.{all, few, a_type, a_var, a_path, holds_expr, holds_exprs, holds_stmt, holds_stmts, holds_step, holds_item}
use Rattle.meaning.specs.HoldsDecide.{holds_items, holds_schedule, counted, holds}
use Rattle.meaning.specs.Finding.{find, one_later, absent, distinct}
use Rattle.meaning.specs.Meant.{then, provided, each, literal_meaning, type_meaning, referred, further, started, start, path_meaning, exp_meaning}
use Rattle.meaning.specs.Meant.{exps_meaning, stat_meaning, stats_meaning, pars_meaning, step_meaning, steps_meaning, item_meaning, sched_meaning}
use Rattle.meaning.specs.Meant.{text_meaning, meant}

-- names, and where they are declared
unfoldable pub finding : Type 0
unfolding same find one_later absent distinct par_id par_type step_id struct_id pars_of steps_of structs_of local_id local_number local_type
finding = Unit {0}

-- numbers for step names
unfoldable pub numbering : Type 0
unfolding among once all_steps step_names
numbering = Unit {0}

-- literals and types
unfoldable pub literals : Type 0
unfolding decimal_from decimal signed in_int int_word literal_meaning type_meaning
literals = Unit {0}

-- expressions and statements
unfoldable pub statements : Type 0
unfolding then provided each referred further started start path_meaning exp_meaning exps_meaning stat_meaning stats_meaning
statements = Unit {0}

-- and a whole text
unfoldable pub meanings : Type 0
unfolding finding numbering literals statements pars_meaning step_meaning steps_meaning item_meaning sched_meaning text_meaning meant
meanings = Unit {0}

-- what a stream holds
unfoldable pub holding : Type 0
unfolding all few a_type a_var a_path holds_expr holds_exprs holds_stmt holds_stmts holds_step holds_item holds_items holds_schedule counted holds
holding = Unit {0}
