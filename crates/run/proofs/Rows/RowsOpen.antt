-- The stream-level parts of the entries with every definition open that they compute through; where one of these is unfolded,
-- a row is a fact by computation.
use Rattle.std.specs.Prelude.{ℕ, List}
use Rattle.types.specs.TypeBytes.{word_end, struct_of}
use Rattle.types.specs.Types.{code}
use Rattle.types.specs.Stages.{on, asked}
use Rattle.types.specs.Values.{default, in_int, int_word, word_int, word, value_of}
use Rattle.program.specs.Encoding.{enc_word, flat, op_code, var_code}
use Rattle.commands.specs.Coding.{coded, com_word, command_word, words}
use Rattle.commands.specs.Context.{find_step}
use Rattle.commands.specs.Noted.{walk, store, read_path, write_path, note_expr, note_exprs, note_stmt, note_body, noted, now_written}
use Rattle.operators.specs.Operators.{quotient, remainder}
use Rattle.operators.specs.Apply.{same_int, same_bool, same_val, int_answer, nat_answer, by_nonzero, compute, answer, on_truths, on_labels, apply}
use Rattle.table.specs.Table.{struct_at, enc_value, enc_record, enc_table}
use Rattle.table.specs.TableReader.{read_value, read_values, read_record, read_count, read_table, is_struct, refers, refers_each, references, table_number}
use Rattle.table.specs.TableReader.{table_answer, table_of_stream}
use Rattle.machine.specs.Published.{called, before, of_item, of_items, lookup, assign}
use Rattle.machine.specs.Rules.{meet}
use Rattle.machine.specs.Measure.{weight, bound}
use Rattle.machine.specs.Machine.{update_env, leaves_stable, read_from, read_at, read as read_variable, write_to, write_parameter, write_at, write, negate}
use Rattle.machine.specs.Machine.{branch, operated, operate, construct, perform, command_of, command_at, command, given, started, repeat, move_by}
use Rattle.run.specs.Turns.{labels_from, round_from, chosen}
use Rattle.run.specs.Holders.{holds_code, holders, none_of, due}
use Rattle.run.specs.Run.{later, is_done, moved, settle_by, settle, fuel, taken, turn, at_last, run}
use Rattle.run.specs.Begin.{nulls, first_instances, begin, record_of, table_of}
use Rattle.commands.specs.ProgramWords.{steps_list, structs_list, structs_words, program_words}
use Rattle.verdict.specs.Verdict.{verdict_of}
use Rattle.verdict.proofs.Rows.{checking}
use Rattle.run.specs.Entry.{with_room}
use Rattle.run.specs.EntryStreams.{Summary, of_outcome, summed, streams, begins_streams}

-- what a run of program stream, table stream and turn bytes comes to, where output and list have room
unfoldable pub running : List ℕ → List ℕ → List ℕ → Summary
unfolding checking word_end var_code coded com_word command_word words steps_list structs_list structs_words program_words code default in_int int_word word_int
    word value_of enc_word flat op_code struct_of walk store read_path write_path note_expr note_exprs note_stmt note_body noted quotient remainder same_int
    same_bool same_val int_answer nat_answer by_nonzero compute answer on_truths on_labels apply struct_at enc_value enc_record enc_table read_value read_values
    read_record read_count read_table is_struct refers refers_each references table_number table_answer table_of_stream before of_item of_items lookup assign
    find_step meet weight bound update_env leaves_stable read_from read_at read_variable write_to write_parameter write_at write negate branch operated operate
    construct perform now_written command_of command_at command called given started repeat move_by labels_from round_from chosen holds_code holders none_of
    due later is_done moved settle_by settle fuel taken turn at_last run nulls first_instances begin record_of table_of on asked with_room verdict_of of_outcome
    summed streams
    begins_streams
running s t es = summed (begins_streams s t es) es
