-- Rows that pin the text of a trace (docs/FORMAT.md, 'Traces'): a line of each form, a command that is refused, a table that is. The laws say which
-- machines a line is of, and when there is one.
use Rattle.std.specs.Prelude.{ℕ, ◌≡◌, refl, List, [], ◌∷◌, ◌++◌, map, replicate}
use Prim.Native.String.{String}
use Rattle.program.specs.Rows.{program, adding, addings}
use Rattle.commands.specs.Noted.{erase}
use Rattle.verdict.proofs.Rows.{P}
use Rattle.run.specs.EntryStreams.{begins_streams}
use Rattle.run.proofs.Rows.RowsOpen.{running}
use Rattle.run.proofs.Rows.RowPrograms.{one_in_fix, cell, single, empty, cells}
use Rattle.text.specs.Listing.{digits, decimal, column, tail, row}
use Rattle.text.specs.CommandText.{shown, command_text}
use Rattle.text.specs.Rows.{bytes, line_bytes}
use Rattle.trace.specs.Trace.{move_line, moves_by, moves, turn_line, turn_lines, trace}
use Rattle.trace.specs.LineText.{tagged_text, stack_text, bits, stability_text, step_name, step_size, position, next_text, change_text, param_text}
use Rattle.trace.specs.LineText.{target_text, flat_writes, written_text, columns, front_text, acted_text, line_text, step_behind, turn_behind, lines_text}
use Rattle.trace.specs.LineText.{end_text}
use Rattle.trace.specs.TraceText.{end_of, run_text, begun_text}

-- two structs, of which the second has a Bool and the step 2: where it is true, a local takes it, `not` of the local is written, and a struct 0 is
-- constructed; Fix (Fix (2))
unfoldable pub turned_off : List ℕ
turned_off =
    2 ∷ 0 ∷ 1 ∷ 2 ∷ 0 ∷ 1 ∷ 2 ∷ 1 ∷ 1 ∷ 18 ∷ 1 ∷ 0 ∷ 3 ∷ 2 ∷ 2 ∷ 8 ∷ 18 ∷ 1 ∷ 0 ∷ 3 ∷ 1 ∷ 0 ∷ 16 ∷ 18 ∷ 1 ∷ 8 ∷ 4 ∷ 0
    ∷ 1 ∷ 3 ∷ 1 ∷ 3 ∷ 1 ∷ 1 ∷ 2 ∷ []

-- streams and turn bytes; the lines
pub record TraceRow : Type 0 where
  pub program : List ℕ
  pub table : List ℕ
  pub turns : List ℕ
  pub lines : List String

abbrev traced : List ℕ → List ℕ → List ℕ → List String → TraceRow
traced s t es ls = record { program = s; table = t; turns = es; lines = ls }

unfoldable pub trace_rows : List TraceRow
trace_rows =
    -- P on (5,2),(7,1): a turn for each command of the first record; the last one writes
    traced P (cells 2 (cell 5 2 ++ cell 7 1)) (1 ∷ replicate 7 2) (
    "move s"
    ∷ "0 1 1 0 0 0 push this [ 16:1 ] s"
    ∷ "1 2 1 0 0 1 rd 0 [ 0:5 ] s"
    ∷ "2 2 1 0 0 2 push this [ 0:5 16:1 ] s"
    ∷ "3 2 1 0 0 3 rd 1 [ 0:5 16:2 ] s"
    ∷ "4 2 1 0 0 4 rd 0 [ 0:5 0:7 ] s"
    ∷ "5 2 1 0 0 5 op 41 [ 0:12 ] s"
    ∷ "6 2 1 0 0 6 push this [ 0:12 16:1 ] s"
    ∷ "7 2 1 0 0 7 wr 0 [ ] 1.0 5 12 s"
    ∷ "end 33 8"
    ∷ []
    )
    -- the second record's sum is out of range
    ∷ traced P (cells 2 (cell 1 0 ++ cell 2147483647 1)) (replicate 8 2) (
    "move s"
    ∷ "0 2 2 0 0 0 push this [ 16:2 ] s"
    ∷ "1 2 2 0 0 1 rd 0 [ 0:2147483647 ] s"
    ∷ "2 2 2 0 0 2 push this [ 0:2147483647 16:2 ] s"
    ∷ "3 2 2 0 0 3 rd 1 [ 0:2147483647 16:1 ] s"
    ∷ "4 2 2 0 0 4 rd 0 [ 0:2147483647 0:1 ] s"
    ∷ "end 35 5"
    ∷ []
    )
    -- load := 1 in a Fix: an instance's write makes its entry false, and that to the null instance is dropped
    ∷ traced one_in_fix (cells 1 (single 0)) (replicate 3 1 ++ replicate 9 0) (
    "move s1"
    ∷ "move s1"
    ∷ "0 1 1 0 0 0 push 0 1 [ 0:1 ] s1"
    ∷ "1 1 1 0 0 1 push this [ 0:1 16:1 ] s1"
    ∷ "2 1 1 0 0 2 wr 0 [ ] 1.0 0 1 s0"
    ∷ "3 0 0 0 0 0 push 0 1 [ 0:1 ] s0"
    ∷ "4 0 0 0 0 1 push this [ 0:1 16:0 ] s0"
    ∷ "5 0 0 0 0 2 wr 0 [ ] s0"
    ∷ "move s1"
    ∷ "move s1"
    ∷ "6 0 1 0 0 0 push 0 1 [ 0:1 ] s1"
    ∷ "7 0 0 0 0 0 push 0 1 [ 0:1 ] s1"
    ∷ "8 0 1 0 0 1 push this [ 0:1 16:1 ] s1"
    ∷ "9 0 0 0 0 1 push this [ 0:1 16:0 ] s1"
    ∷ "10 0 1 0 0 2 wr 0 [ ] 1.0 1 1 s1"
    ∷ "11 0 0 0 0 2 wr 0 [ ] s1"
    ∷ "move s"
    ∷ "end 0 12"
    ∷ []
    )
    -- another struct than 0, another step than 0, Fixes in one another, a local, an if that is taken and one that is not, `not` and `cons`
    ∷ traced turned_off (cells 1 (1 ∷ 1 ∷ 0 ∷ 0 ∷ 0 ∷ [])) (replicate 13 1 ++ replicate 15 0) (
    "move s1"
    ∷ "move s11"
    ∷ "move s11"
    ∷ "0 1 2 1 2 0 push this [ 17:2 ] s11"
    ∷ "1 1 2 1 2 1 rd 0 [ 2:1 ] s11"
    ∷ "2 1 2 1 2 2 if 10 [ ] s11"
    ∷ "3 1 2 1 2 3 push this [ 17:2 ] s11"
    ∷ "4 1 2 1 2 4 rd 0 [ 2:1 ] s11"
    ∷ "5 1 2 1 2 5 push this [ 2:1 17:2 ] s11"
    ∷ "6 1 2 1 2 6 wr 8 [ ] s11"
    ∷ "7 1 2 1 2 7 push this [ 17:2 ] s11"
    ∷ "8 1 2 1 2 8 rd 8 [ 2:1 ] s11"
    ∷ "9 1 2 1 2 9 not [ 2:0 ] s11"
    ∷ "10 1 2 1 2 10 push this [ 2:0 17:2 ] s11"
    ∷ "11 1 2 1 2 11 wr 0 [ ] 2.0 1 0 s00"
    ∷ "12 1 2 1 2 12 cons 0 [ 16:3 ] s00"
    ∷ "13 0 1 1 2 0 push this [ 17:1 ] s00"
    ∷ "14 0 1 1 2 1 rd 0 [ 2:0 ] s00"
    ∷ "15 0 1 1 2 2 if 10 [ ] s00"
    ∷ "move s10"
    ∷ "move s10"
    ∷ "16 0 2 1 2 0 push this [ 17:2 ] s10"
    ∷ "17 0 1 1 2 0 push this [ 17:1 ] s10"
    ∷ "18 0 2 1 2 1 rd 0 [ 2:0 ] s10"
    ∷ "19 0 1 1 2 1 rd 0 [ 2:0 ] s10"
    ∷ "20 0 2 1 2 2 if 10 [ ] s10"
    ∷ "21 0 1 1 2 2 if 10 [ ] s10"
    ∷ "move s0"
    ∷ "move s1"
    ∷ "move s11"
    ∷ "move s11"
    ∷ "22 0 2 1 2 0 push this [ 17:2 ] s11"
    ∷ "23 0 1 1 2 0 push this [ 17:1 ] s11"
    ∷ "24 0 2 1 2 1 rd 0 [ 2:0 ] s11"
    ∷ "25 0 1 1 2 1 rd 0 [ 2:0 ] s11"
    ∷ "26 0 2 1 2 2 if 10 [ ] s11"
    ∷ "27 0 1 1 2 2 if 10 [ ] s11"
    ∷ "move s1"
    ∷ "move s"
    ∷ "end 0 28"
    ∷ []
    )
    -- a table that ends early
    ∷ traced P (1 ∷ 0 ∷ []) [] ("end 11 0" ∷ [])
    ∷ []

-- every row's streams have its lines
pub trace_rows_right : map (λ r. begun_text (begins_streams r.program r.table r.turns) r.turns) trace_rows
    ≡ map (λ r. line_bytes r.lines) trace_rows
unfolding trace_rows turned_off running program adding addings P one_in_fix cell single cells erase digits decimal column tail row shown command_text
    bytes line_bytes move_line moves_by moves turn_line turn_lines trace tagged_text stack_text bits stability_text step_name step_size position
    next_text change_text param_text target_text flat_writes written_text columns front_text acted_text line_text step_behind turn_behind lines_text
    end_text end_of run_text begun_text
trace_rows_right = refl
