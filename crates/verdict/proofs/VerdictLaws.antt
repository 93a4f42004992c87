-- The image of a program's stream is checked as its stream (01, 'Blocks'); with room in the list, nothing but the image is asked for.
use Rattle.std.specs.Prelude.{ℕ, ◌*◌, ◌≤◌, ◌≡◌, List, length}
use Rattle.std.proofs.Common.{arith, ◌∙◌, le-ltb}
use Rattle.types.specs.Limits.{program_blocks, max_commands}
use Rattle.types.specs.Stages.{asked}
use Rattle.types.proofs.Laws.StageLaws.{on_same, on_went}
use Rattle.block.specs.Block.{payload_size}
use Rattle.blocks.specs.Images.{image}
use Rattle.blocks.proofs.ImageRoundTrip.{image_accepted, image_stream}
use Rattle.program.specs.Reader.{read}
use Rattle.verdict.specs.Verdict.{of_read, of_image, checked, checks}

pub checked_image : (s : List ℕ) → 1 ≤ length s → length s ≤ payload_size * program_blocks → checked (image s) ≡ of_read (read s)
unfolding checked of_image
checked_image s some fits = rw (image_accepted s some program_blocks (omega arith), of_image, image_stream s some)

pub checks_room : (x list : List ℕ) → max_commands ≤ length list → checks x list ≡ checked x
unfolding checks asked
checks_room x list h = on_same (checked x) (λ p. rw (le-ltb (length list) max_commands h)) ∙ on_went (checked x)
