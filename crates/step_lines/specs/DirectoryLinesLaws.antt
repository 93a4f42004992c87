-- The rows of a program's directory have its lines, in a list that begins with its words (01, 'Bench rows').
use Rattle.std.specs.Prelude.{ℕ, suc, ◌+◌, ◌*◌, ◌≤◌, ◌≡◌, length}
use Rattle.std.proofs.Common.{arith, ◌∙◌}
use Rattle.std.proofs.Math.Path.{refl}
use mathlib.Core.List.{List, [], ◌∷◌, ◌++◌}
use Rattle.std.proofs.lemmas.List.{length-map}
use Rattle.types.specs.Limits.{max_structs, max_steps}
use Rattle.program.specs.Tree.{Step, Program}
use Rattle.program.specs.Encoding.{flat}
use Rattle.program.specs.Counts.{All, Few, CountsStep, Counts}
use Rattle.commands.specs.Bounds.{total, arities, step_size, program_size}
use Rattle.commands.specs.ProgramWords.{steps_words, structs_words, program_words}
use Rattle.directory.specs.declared.Row.{Row}
use Rattle.directory.specs.Directory.{steps_rows, structs_rows, directory}
use Rattle.directory.specs.Rows.{row_places, rows_from}
use Rattle.directory.specs.Held.{Holds}
use Rattle.directory.proofs.HeldLaws.{holds_program, holds_step, holds_struct, holds_words}
use Rattle.directory.proofs.DirectoryLaws.{RowInRange, all_both, directory_ranged, directory_inside, directory_size}
use Rattle.step_lines.specs.Lines.{steps_lines, structs_lines, program_lines}
use Rattle.step_lines.specs.RowLines.{line_most, row_lines, rows_lines, Listable}
use Rattle.step_lines.specs.RowLinesLaws.{flat_append}
use Rattle.step_lines.specs.ListedLaws.{step_text}

module _ (list ar : List ℕ) (few : length ar ≤ max_structs) where
  steps_text : (k a : ℕ) (ts : List Step) → All (CountsStep ar) ts → Holds list a (steps_words ts)
      → rows_lines list (steps_rows k a ts) ≡ steps_lines k ts
  unfolding steps_rows flat row_lines
  steps_text k a [] c h = refl
  steps_text k a (t ∷ ts) c h =
      rw (
        holds_words t (holds_step t ts h).0,
        step_text ar k t few c.0,
        steps_text k (a + step_size t) ts c.1 (holds_step t ts h).1,
      )

  structs_text : (k a : ℕ) (tss : List (List Step)) → All (Few 0 max_steps (CountsStep ar)) tss → Holds list a (structs_words tss)
      → rows_lines list (structs_rows k a tss) ≡ structs_lines k tss
  unfolding structs_rows structs_lines flat
  structs_text k a [] c h = refl
  structs_text k a (ts ∷ tss) c h =
      flat_append (row_lines list) (steps_rows k a ts) _
      ∙ rw (
        steps_text k a ts c.0.2 (holds_struct ts tss h).0,
        structs_text (suc k) (a + total step_size ts) tss c.1 (holds_struct ts tss h).1,
      )

-- they are the program's
pub directory_lines : (p : Program) → Counts p → (list back : List ℕ) → list ≡ program_words p ++ back
    → rows_lines list (directory p) ≡ program_lines p
unfolding Counts directory program_lines
directory_lines p c list back e =
    structs_text list (arities p) (omega (arith, length-map p.params length, c.0.1)) 0 0 p.steps c.2 (holds_program p list back e)

-- and they may be listed, where there is room
pub directory_listable : (p : Program) → Counts p → (rows : List ℕ) (n : ℕ) (list out : List ℕ) (k : ℕ) → rows_from rows 0 n ≡ directory p
    → row_places * n ≤ length rows → program_size p ≤ length list → k + line_most * program_size p ≤ length out → Listable rows n list out k
directory_listable p c rows n list out k e numbers inside room =
    record {
      numbers = numbers;
      fits = rw e (all_both RowInRange (λ (r : Row). r.start + r.size ≤ length list) (directory p) (directory_ranged p c)
          (directory_inside p (length list) inside));
      room = rw (e, directory_size p) room;
    }
