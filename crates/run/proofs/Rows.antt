-- Rows that pin what no law does, by computation: runs (01, 'Slips seen before', 'Table and turns', 'Numbers from the state'), numbers
-- of damaged images and of lengths ('Blocks', 'Numbers from the input'), and what a run leaves in memory. 01's own rows are in Bench.
pub mod RowsOpen
pub mod RowPrograms
pub mod Swept
pub mod RowLaws
pub mod Bench
use Rattle.std.specs.Prelude.{ℕ, ◌≡◌, refl, List, [], ◌∷◌, ◌++◌, map, take, set, replicate, pos}
use Rattle.std.proofs.Common.{arith}
use Rattle.std.proofs.Math.Option.{Option, none, some}
use Rattle.types.specs.Values.{Val, Val.int_val}
use Rattle.little_endian.specs.Numbers.{pair_at}
use Rattle.block.specs.Block.{pair, index, used, used_part, unused_part, used_right, zeros as zero_bytes, laid_out, front, block_of}
use Rattle.blocks.specs.Images.{length_right, block, is_last, joined, stream, piece, image_of, image}
use Rattle.program.specs.Counts.{All}
use Rattle.program.specs.Encoding.{enc_word}
use Rattle.program.specs.Rows.{program, adding, addings}
use Rattle.verdict.specs.Verdict.{of_image}
use Rattle.run.specs.Entry.{of_table_image, report_of, run_report_by}
use Rattle.run.specs.EntryStreams.{summary, begins_streams}
use Rattle.run.proofs.Rows.RowsOpen.{running}
use Rattle.verdict.proofs.Rows.{P}
use Rattle.run.proofs.Rows.RowPrograms.{P-with, once, twice, one_in_fix, local_7, both_sides, makers, chained, constructing, inner_fix, itself}
use Rattle.run.proofs.Rows.RowPrograms.{nothing, chosen_by, along_path, leaving, cell, single, empty, cells, plain}
use Rattle.run.proofs.Rows.Swept.{plain_sum, falling_sum, swept_right, swept_fault, swept_block, block_is, first_swept, swept}
use Rattle.run.proofs.Rows.RowLaws.{each, Row, RowRight, computed, said, rows_follow, ImageRow, reports, swept_number, swept_over, images_follow, Kept}
use Rattle.run.proofs.Rows.RowLaws.{at_last, kept}
use Rattle.run.proofs.Rows.Bench.{row, ok, zeros, of_P, two}

-- Runs ---------------------------------------------------------------------------------

unfoldable pub rows : List Row
rows =
    -- the table as it stands, not as given, at 33 and at 35; 33 comes before what the next command would meet
    row (P-with 1 twice) (two 5 0 7 1) (zeros 25) (ok 1 1 8 2) (summary 33 25 2 3 (two 5 0 12 1))
    ∷ row (P-with 1 twice) (two 1 0 2147483646 1) (zeros 48) (ok 1 1 8 2) (summary 35 41 2 3 (two 1 0 2147483647 1))
    ∷ of_P (two 1 0 2147483647 1) (zeros 17) 33 17 3 (two 1 0 2147483647 1)
    -- the schedule moves on after the last byte
    ∷ row (P-with 1 twice) (two 5 0 7 1) (zeros 24) (ok 1 1 8 2) (summary 33 24 2 3 (two 5 0 12 1))
    ∷ row nothing empty [] (ok 1 1 0 0) (summary 0 0 0 0 empty)
    -- bytes above the number of holders
    ∷ of_P (two 5 2 7 1) (replicate 8 254 ++ replicate 8 3 ++ replicate 8 200) 0 24 0 (two 17 2 12 1)
    -- counting goes on where it was when a step starts; after the highest label comes the one that its own command made
    ∷ row makers (2 ∷ 0 ∷ 0 ∷ 1 ∷ []) (replicate 8 1) (ok 4 2 2 1) (summary 0 8 1 0 (10 ∷ 0 ∷ 0 ∷ 1 ∷ 3 ∷ 3 ∷ 2 ∷ 2 ∷ 2 ∷ 2 ∷ 3 ∷ 3 ∷ []))
    ∷ row chained empty (zeros 11) (ok 2 2 8 2) (summary 0 11 2 0 (cells 3 (1 ∷ enc_word 4 10 ++ single 10 ++ single 0)))
    -- a null instance runs, and a write to its parameter is dropped and leaves stability; its locals are written
    ∷ row one_in_fix empty (zeros 9) (ok 1 1 3 2) (summary 0 3 2 0 empty)
    ∷ row one_in_fix (cells 1 (single 0)) (zeros 20) (ok 1 1 3 2) (summary 0 12 2 0 (cells 1 (single 1)))
    ∷ row local_7 empty (zeros 9) (ok 1 1 6 2) (summary 0 6 2 0 (cells 1 (single 7)))
    -- both sides of and, or
    ∷ row (both_sides 43 0) empty (zeros 20) (ok 1 1 9 3) (summary 35 3 3 1 empty)
    ∷ row (both_sides 44 1) empty (zeros 20) (ok 1 1 9 3) (summary 35 3 3 1 empty)
    -- a constructor makes stability false; a change in the inner Fix sends the outer round again
    ∷ row constructing empty (zeros 5) (ok 2 1 1 1) (summary 33 5 1 1 (plain 5 1))
    ∷ row inner_fix (cells 1 (single 0)) (zeros 99) (ok 1 2 11 2) (summary 0 54 2 0 (cells 1 (single 1)))
    -- a new instance holds no commands until a later item; 256 instances, null ones too
    ∷ row (itself twice) empty (zeros 9) (ok 1 1 1 1) (summary 0 3 1 0 (plain 3 0))
    ∷ row (itself once) (plain 255 0) (zeros 9) (ok 1 1 1 1) (summary 34 0 1 256 (plain 255 0))
    ∷ row (itself once) (plain 254 0) (zeros 9) (ok 1 1 1 1) (summary 34 1 1 254 (plain 255 0))
    -- a step of every struct that has it, and of one; an update follows its path
    ∷ row (chosen_by once) empty (zeros 9) (ok 3 2 4 1) (summary 0 3 1 0 (plain 1 2))
    ∷ row (chosen_by (1 ∷ 2 ∷ 0 ∷ 0 ∷ [])) empty (zeros 9) (ok 3 2 4 1) (summary 0 1 1 0 (plain 1 2))
    ∷ row (chosen_by (1 ∷ 2 ∷ 1 ∷ 0 ∷ [])) empty (zeros 9) (ok 3 2 4 1) (summary 0 2 1 0 empty)
    ∷ row along_path (cells 3 (cell 5 2 ++ cell 6 3 ++ cell 7 0)) (zeros 24) (ok 1 1 6 2)
    (summary 0 24 2 0 (cells 3 (cell 5 2 ++ cell 6 3 ++ cell 5 0)))
    -- 65,536 turns, and one more
    ∷ of_P (cells 1 (cell 5 0)) (zeros 65536) 0 16 0 (cells 1 (cell 5 0))
    ∷ row P (cells 1 (cell 5 0)) (zeros 65537) (ok 1 1 8 2) (summary 14 0 0 0 [])
    ∷ []

rows_computed : map computed rows ≡ map said rows
unfolding rows running program adding addings P P-with one_in_fix local_7 both_sides makers chained constructing inner_fix itself nothing chosen_by along_path
    cell single cells plain
rows_computed = refl

-- every row is right
pub rows_right : All RowRight rows
rows_right = rows_follow rows rows_computed

-- Images -------------------------------------------------------------------------------

-- a byte of sum B, or the index without its sums
abbrev wrong_sum : List ℕ → List ℕ
wrong_sum x = set x 510 1

abbrev wrong_index : List ℕ → List ℕ
wrong_index x = set x 0 9

abbrev image_row : List ℕ → List ℕ → ℕ → ℕ → ℕ → ImageRow
image_row x y n m k = record { program = x; table = y; turns = replicate 16 0; out = n; list = m; number = k }

abbrev of_program : List ℕ → ℕ → ImageRow
of_program x k = image_row x [] 0 0 k

-- of a program's image, a table's, and a right block of index 1
module _ (program_image table_image second : List ℕ) where
  abbrev of_table : List ℕ → ℕ → ImageRow
  of_table y k = image_row program_image y 0 0 k

  abbrev rows_of : List ImageRow
  rows_of =
      of_program [] 1
      -- 64 blocks, whose length is right; 65
      ∷ of_program (replicate 32768 0) 3
      ∷ of_program (replicate 33280 0) 1
      -- a byte too few, one too many; sums; index; the first faulty block, its sums before its layout
      ∷ of_program (take 511 program_image) 1
      ∷ of_program (program_image ++ 0 ∷ []) 1
      ∷ of_program (wrong_sum program_image) 2
      ∷ of_program (wrong_index program_image) 2
      ∷ of_program second 3
      ∷ of_program (second ++ wrong_sum second) 3
      ∷ of_program (wrong_sum second ++ second) 2
      ∷ of_program (program_image ++ wrong_sum second) 3
      -- the same of a table
      ∷ of_table [] 9
      ∷ of_table (take 511 table_image) 9
      ∷ of_table (wrong_sum table_image) 10
      ∷ of_table second 10
      ∷ of_table program_image 12
      -- output and list
      ∷ of_table table_image 13
      ∷ image_row program_image table_image 8703 1024 13
      ∷ image_row program_image table_image 8704 1023 13
      ∷ image_row program_image table_image 8704 1024 0
      ∷ []

abbrev one_cell : List ℕ
one_cell = cells 1 (cell 5 0)

unfoldable pub image_rows : List ImageRow
image_rows = rows_of (image P) (image one_cell) (block_of 1 P)

images_computed : map swept_number (swept_over rows_of P one_cell) ≡ map (λ r. r.number) (swept_over rows_of P one_cell)
unfolding swept_number running plain_sum falling_sum swept_right swept_fault swept_block first_swept swept pair_at pair index used used_part unused_part
    used_right zero_bytes laid_out front length_right block is_last joined stream of_image of_table_image report_of run_report_by P cell cells
images_computed = refl

program_is : image P ≡ swept_block 0 P
unfolding P image image_of piece
program_is = block_is 0 P

table_is : image one_cell ≡ swept_block 0 one_cell
unfolding running cells cell image image_of piece
table_is = block_is 0 one_cell

-- every row's report has its number
pub image_rows_right : All (λ r. (reports r).number ≡ r.number) image_rows
unfolding image_rows
image_rows_right = images_follow P one_cell program_is table_is rows_of images_computed

-- Memory -------------------------------------------------------------------------------

-- Starting a step empties the stacks of the instances that have it and of no others, and clears no local: no output shows it, so these
-- rows look at the last machine.

-- a schedule of `leaving`, and what is kept after it
pub record KeptRow : Type 0 where
  pub schedule : List ℕ
  pub keeps : List Kept

abbrev has : ℕ → Option Val → Kept
has h v = record { height = h; local = v }

abbrev kept_row : List ℕ → List Kept → KeptRow
kept_row s k = record { schedule = s; keeps = k }

unfoldable pub kept_rows : List KeptRow
kept_rows =
    kept_row once (has 1 (some (int_val (pos 7))) ∷ has 0 none ∷ has 0 none ∷ [])
    -- a step of the other struct, and one that struct 0 has
    ∷ kept_row (2 ∷ 1 ∷ 0 ∷ 1 ∷ 1 ∷ []) (has 1 (some (int_val (pos 7))) ∷ has 0 none ∷ has 0 none ∷ [])
    ∷ kept_row (2 ∷ 1 ∷ 0 ∷ 1 ∷ 2 ∷ []) (has 0 (some (int_val (pos 7))) ∷ has 0 none ∷ has 0 none ∷ [])
    ∷ kept_row twice (has 1 (some (int_val (pos 7))) ∷ has 0 none ∷ has 0 none ∷ has 0 none ∷ [])
    ∷ []

abbrev pub leaves : KeptRow → List Kept
leaves r = kept (begins_streams (leaving r.schedule) empty (replicate 9 0)) (replicate 9 0)

kept_rows_computed : map leaves kept_rows ≡ map (λ r. r.keeps) kept_rows
unfolding kept_rows kept at_last running leaving
kept_rows_computed = refl

-- every schedule leaves what its row says
pub kept_rows_right : All (λ r. leaves r ≡ r.keeps) kept_rows
kept_rows_right = each leaves (λ r. r.keeps) (λ r e. e) kept_rows kept_rows_computed
