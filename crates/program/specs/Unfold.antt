-- Groups of definitions that rows and proofs look into together: where an `unfolding` line has the name of a group, all of the group unfolds.
use Rattle.types.specs.Types.{type_of, code}
use Rattle.types.specs.TypeBytes.{is_type}
use Rattle.program.specs.Tree.{size, items, args}
use Rattle.program.specs.Encoding.{enc_word, flat, op_code, var_code, enc_path, enc_expr, enc_exprs, enc_stmt, enc_stmts, enc_item, enc_items}
use Rattle.program.specs.Encoding.{enc_step, enc_program}
use Rattle.program.specs.Reader.{then, pair, made, many, guard, ended, whole, lookup, form, kind, item_sort, between, var_of, byte, tested}
use Rattle.program.specs.Reader.{ranged, counted}
use Rattle.program.specs.Reader.{opened, read_word, read_type, read_var, read_local, read_path, read_params, read_make, rule_expr, read_expr, read_body}
use Rattle.program.specs.Reader.{read_when, read_declare, read_update, rule_stmt, read_stmt, read_step, read_steps, read_items, rule_item, read_item}
use Rattle.program.specs.Reader.{read_program, read}

-- how readers are put together
unfoldable pub joining : Type 0
unfolding then pair made many guard ended whole lookup between byte tested ranged counted opened
joining = Unit {0}

-- the readers of numbers, types, variables and paths
unfoldable pub leaves : Type 0
unfolding joining type_of is_type var_of read_word read_type read_var read_local read_path
leaves = Unit {0}

-- the readers of expressions, statements and steps
unfoldable pub steps : Type 0
unfolding leaves form kind read_make rule_expr read_expr read_body read_when read_declare read_update rule_stmt read_stmt read_step read_steps
steps = Unit {0}

-- those of the schedule
unfoldable pub schedules : Type 0
unfolding joining item_sort read_items rule_item read_item
schedules = Unit {0}

-- and that of a whole stream
unfoldable pub programs : Type 0
unfolding steps schedules read_params read_program read
programs = Unit {0}

-- a program as a stream
unfoldable pub encodings : Type 0
unfolding code size items args enc_word flat op_code var_code enc_path enc_expr enc_exprs enc_stmt enc_stmts enc_item enc_items enc_step enc_program
encodings = Unit {0}
