-- On the images of streams the entries come to what the streams say (01, 'Blocks').
use Rattle.std.specs.Prelude.{ℕ, ◌*◌, ◌≤◌, ◌≡◌, refl, List, ◌++◌, length, drop}
use Rattle.std.proofs.Common.{arith, ◌∙◌}
use Rattle.std.proofs.Math.Path.{ap}
use borrow.Author.Tests.{le-ltb}
use Rattle.types.specs.Limits.{program_blocks, table_blocks, max_commands}
use Rattle.types.specs.Stages.{Stage.went, Stage.stopped, on, asked}
use Rattle.types.proofs.Laws.StageLaws.{on_same}
use Rattle.block.specs.Block.{block_size, payload_size}
use Rattle.blocks.specs.Images.{image, image_of, pieces}
use Rattle.blocks.proofs.ImageRoundTrip.{image_accepted, image_stream}
use Rattle.run.specs.Run.{Outcome, Outcome.stopped as ended, Outcome.jammed, run}
use Rattle.run.specs.Begin.{begin}
use Rattle.run.specs.Entry.{Begun, of_table_image, with_table, images, with_room, begins, report_of, output_of, run_report_by, run_output_by}
use Rattle.program.specs.Reader.{read}
use Rattle.verdict.specs.Verdict.{Checked, of_read}
use Rattle.verdict.proofs.VerdictLaws.{checked_image}
use Rattle.run.specs.EntryStreams.{of_outcome, summed, reported, streams, begins_streams}

-- the report and the output of a run, from number, turns, depth and stream
pub report_summed : (b : Begun) (es : List ℕ) → run_report_by b es ≡ reported (summed b es)
unfolding run_report_by summed report_of of_outcome
report_summed (stopped n) es = refl
report_summed (went (p, rs)) es = go (run p (begin p rs) es)
  where
    go : (o : Outcome) → report_of p o ≡ reported (of_outcome p o)
    go (ended n t m) = refl
    go jammed = refl

pub output_summed : (b : Begun) (es out : List ℕ)
    → run_output_by b es out ≡ image (summed b es).left ++ drop (block_size * pieces (length (summed b es).left)) out
unfolding run_output_by summed output_of of_outcome image image_of
output_summed (stopped n) es out = refl
output_summed (went (p, rs)) es out = go (run p (begin p rs) es)
  where
    go : (o : Outcome) → output_of p o out ≡ image (of_outcome p o).left ++ drop (block_size * pieces (length (of_outcome p o).left)) out
    go (ended n t m) = refl
    go jammed = refl

-- a run of images begins as their streams say
module _ (s t : List ℕ) (some : 1 ≤ length s) (fits : length s ≤ payload_size * program_blocks) (has : 1 ≤ length t)
    (small : length t ≤ payload_size * table_blocks) where
  images_streams : images (image s) (image t) ≡ streams s t
  unfolding images with_table of_table_image streams
  images_streams =
      ap (λ (c : Checked). on c (with_table (image t))) (checked_image s some fits)
      ∙ on_same (of_read (read s)) (λ p. rw (image_accepted t has table_blocks (omega arith), of_table_image, image_stream t has))

  pub begins_image : (es out list : List ℕ) → block_size * table_blocks ≤ length out → max_commands ≤ length list
      → begins (image s) (image t) es out list ≡ begins_streams s t es
  unfolding begins with_room begins_streams asked
  begins_image es out list h k =
      ap (λ (b : Begun). on b (with_room es out list)) images_streams
      ∙ on_same (streams s t) (λ q. rw (le-ltb (length out) (block_size * table_blocks) h, le-ltb (length list) max_commands k))
