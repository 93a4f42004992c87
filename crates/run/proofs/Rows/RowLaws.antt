-- How a row by computation becomes a fact of the entries (01, 'Bench rows'): of the images of streams, of damaged images, of what a
-- run leaves in memory.
use Rattle.std.specs.Prelude.{ℕ, ◌*◌, ◌≤◌, ◌≡◌, Bool, true, ◌&&◌, List, [], ◌∷◌, ◌++◌, map, length, drop, replicate, leb, Option as Maybe}
use Rattle.std.proofs.Common.{ap, ap₂, ◌∙◌}
use Rattle.std.proofs.Math.Option.{Option}
use Rattle.types.specs.Limits.{program_blocks, table_blocks, max_commands, first_local}
use Rattle.types.specs.Values.{Val}
use Rattle.types.specs.Reflects.{Reflects, reflects_iff, reflects_both, le_reflects}
use Rattle.types.specs.Stages.{Stage.went, Stage.stopped, on}
use Rattle.block.specs.Block.{block_size, payload_size, block_of}
use Rattle.blocks.specs.Images.{image, pieces}
use Rattle.block.specs.declared.Fault.{Fault}
use Rattle.program.specs.Counts.{All}
use Rattle.program.specs.Reader.{read}
use Rattle.machine.specs.Published.{lookup}
use Rattle.run.specs.Run.{Outcome, Outcome.stopped as ended, Outcome.jammed, run}
use Rattle.run.specs.Begin.{begin}
use Rattle.verdict.specs.Verdict.{Verdict, verdict_of, check_verdict, of_read, of_image, checked}
use Rattle.run.specs.Entry.{Begun, begun, of_table_image, with_table, images, with_room, begins, Report, run_report_by}
use Rattle.run.specs.Entry.{run_output_by, run_report, run_output}
use Rattle.run.specs.EntryStreams.{Summary, summed, reported, begins_streams}
use Rattle.run.proofs.Laws.EntryStreamLaws.{report_summed, output_summed, begins_image}
use Rattle.verdict.proofs.VerdictLaws.{checked_image, checks_room}
use Rattle.run.proofs.Rows.Swept.{swept_block, block_is, swept, fault_is}

-- of every element of a list P holds, where it follows from an equation of two functions, and these are equal on the list
pub each : {A B : Type 0} {P : A → Type 0} (f g : A → B) → ((a : A) → f a ≡ g a → P a) → (l : List A) → map f l ≡ map g l → All P l
each f g h [] e = tt
each f g h (a ∷ l) e = (h a (cc), each f g h l (cc))

-- Images of streams --------------------------------------------------------------------

-- streams and turn bytes; the verdict on the program; number, turns, depth and the last table's stream
pub record Row : Type 0 where
  pub program : List ℕ
  pub table : List ℕ
  pub turns : List ℕ
  pub verdict : Verdict
  pub comes_to : Summary

-- the last table's blocks, later bytes untouched
abbrev pub left_in : Summary → List ℕ → List ℕ
left_in z out = image z.left ++ drop (block_size * pieces (length z.left)) out

-- what a row says of the entries on its images, whatever the output and the list hold, where they have room
pub record RowRight (r : Row) : Type 0 where
  pub checked : (list : List ℕ) → max_commands ≤ length list → check_verdict (image r.program) list ≡ r.verdict
  pub report : (out list : List ℕ) → block_size * table_blocks ≤ length out → max_commands ≤ length list
      → run_report (image r.program) (image r.table) r.turns out list ≡ reported r.comes_to
  pub output : (out list : List ℕ) → block_size * table_blocks ≤ length out → max_commands ≤ length list
      → run_output (image r.program) (image r.table) r.turns out list
      ≡ left_in r.comes_to out

-- some bytes, and at most what so many blocks hold
abbrev pub fits : ℕ → List ℕ → Bool
fits blocks s = leb 1 (length s) && leb (length s) (payload_size * blocks)

pub record Computed : Type 0 where
  pub verdict : Verdict
  pub comes_to : Summary
  pub fit : Bool

abbrev pub computed : Row → Computed
computed r = record {
  verdict = verdict_of (of_read (read r.program));
  comes_to = summed (begins_streams r.program r.table r.turns) r.turns;
  fit = fits program_blocks r.program && fits table_blocks r.table;
}

abbrev pub said : Row → Computed
said r = record { verdict = r.verdict; comes_to = r.comes_to; fit = true }

fits_reflects : (blocks : ℕ) (s : List ℕ) → Reflects ((1 ≤ length s) × (length s ≤ payload_size * blocks)) (fits blocks s)
fits_reflects blocks s = reflects_both (le_reflects 1 (length s)) (le_reflects (length s) (payload_size * blocks))

-- what is computed of a row's streams holds of the entries on its images
row_right : (r : Row) → computed r ≡ said r → RowRight r
unfolding check_verdict run_report run_output
row_right r e =
    let s = r.program in
    let t = r.table in
    let es = r.turns in
    let fit = (reflects_iff (reflects_both (fits_reflects program_blocks s) (fits_reflects table_blocks t))).0 (ap (λ (c : Computed). c.fit) e) in
    let begun = begins_image s t fit.0.0 fit.0.1 fit.1.0 fit.1.1 es in
    record {
      checked = λ list h.
          ap verdict_of (checks_room (image s) list h ∙ checked_image s fit.0.0 fit.0.1)
          ∙ ap (λ (c : Computed). c.verdict) e;
      report = λ out list h k.
          ap (λ (b : Begun). run_report_by b es) (begun out list h k)
          ∙ report_summed (begins_streams s t es) es
          ∙ ap (λ (c : Computed). reported c.comes_to) e;
      output = λ out list h k.
          ap (λ (b : Begun). run_output_by b es out) (begun out list h k)
          ∙ output_summed (begins_streams s t es) es out
          ∙ ap (λ (c : Computed). left_in c.comes_to out) e;
    }

-- every row is right where its streams come to what it says
pub rows_follow : (rs : List Row) → map computed rs ≡ map said rs → All RowRight rs
rows_follow = each computed said row_right

-- Damaged images, short outputs and lists --------------------------------------------------

-- images, turn bytes, the lengths of output and list, and the number
pub record ImageRow : Type 0 where
  pub program : List ℕ
  pub table : List ℕ
  pub turns : List ℕ
  pub out : ℕ
  pub list : ℕ
  pub number : ℕ

-- places of which nothing is known but how many
abbrev pub lent : ℕ → List ℕ
lent n = replicate n 0

abbrev pub reports : ImageRow → Report
reports r = run_report r.program r.table r.turns (lent r.out) (lent r.list)

-- what program and table come to, by what their blocks are found as
abbrev pub found : ImageRow → Maybe Fault → Maybe Fault → Begun
found r f g = on (of_image f r.program) λ p. on (of_table_image p.params g r.table) λ rs. begun p rs

-- the number by what program and table come to
abbrev pub number_by : ImageRow → Begun → ℕ
number_by r b = (run_report_by (on b (with_room r.turns (lent r.out) (lent r.list))) r.turns).number

-- the number by one sweep over each block
unfoldable pub swept_number : ImageRow → ℕ
swept_number r = number_by r (found r (swept program_blocks r.program) (swept table_blocks r.table))

number_is : (r : ImageRow) → (reports r).number ≡ swept_number r
unfolding run_report begins images with_table checked swept_number
number_is r = ap (number_by r) (ap₂ (found r) (fault_is program_blocks r.program) (fault_is table_blocks r.table))

-- rows over the images of two streams and a second block, whose sums are swept up
abbrev pub swept_over : (List ℕ → List ℕ → List ℕ → List ImageRow) → List ℕ → List ℕ → List ImageRow
swept_over rows_of_lem s t = rows_of_lem (swept_block 0 s) (swept_block 0 t) (swept_block 1 s)

-- they hold of the images where they do so
pub images_follow : (s t : List ℕ) → image s ≡ swept_block 0 s → image t ≡ swept_block 0 t → (rows_of_lem : List ℕ → List ℕ → List ℕ → List ImageRow)
    → map swept_number (swept_over rows_of_lem s t) ≡ map (λ r. r.number) (swept_over rows_of_lem s t)
    → All (λ r. (reports r).number ≡ r.number) (rows_of_lem (image s) (image t) (block_of 1 s))
images_follow s t one_s one_t rows_of_lem e =
    rw (one_s, one_t, block_is 1 s) (each swept_number (λ r. r.number) (λ r q. number_is r ∙ q) (swept_over rows_of_lem s t) e)

-- What a run leaves in memory --------------------------------------------------------------

-- of each instance: the height of its stack, its first local
pub record Kept : Type 0 where
  pub height : ℕ
  pub local : Option Val

unfoldable pub at_last : Outcome → List Kept
at_last (ended n t m) = map (λ i. record { height = length i.stack; local = lookup i.env first_local }) m.instances
at_last jammed = []

unfoldable pub kept : Begun → List ℕ → List Kept
kept (went (p, rs)) es = at_last (run p (begin p rs) es)
kept (stopped n) es = []
