-- Reading a text and then checking what was written (02 §1: 15, 16 and 17 are "checked in that order, before 1"): the image in front of the output, the
-- verdict on both, and their conditions in one order.
use Rattle.std.specs.Prelude.{ℕ, ◌*◌, ◌≤◌, ◌≡◌, ◌⊎◌, List, ◌++◌, take}
use Rattle.types.specs.Orders.{Order}
use Rattle.types.specs.Stages.{on}
use Rattle.block.specs.Block.{block_size}
use Rattle.verdict.specs.Verdict.{Checked, checks, Verdict, verdict_of}
use Rattle.verdict.specs.ProgramInput.{check_order}
use Rattle.source.specs.Source.{text_order}
use Rattle.source.specs.TextReader.{outcome, text_blocks, text_output}

-- the blocks written, none after a refusal
unfoldable pub written_image : List ℕ → List ℕ → List ℕ
written_image x out = take (block_size * text_blocks x out) (text_output x out)

-- 0, 5, 6, 7 or 8
abbrev pub Answers : ℕ → Type 0
Answers n = (n ≡ 0) ⊎ ((5 ≤ n) × (n ≤ 8))

-- what was written is checked; a text that was refused is not
unfoldable pub text_checks : List ℕ → List ℕ → List ℕ → Checked
text_checks x out list = on (outcome x out) λ p. checks (written_image x out) list

unfoldable pub text_verdict : List ℕ → List ℕ → List ℕ → Verdict
text_verdict x out list = verdict_of (text_checks x out list)

-- the conditions of reading and then those of checking
abbrev pub both_order : List ℕ → List ℕ → List ℕ → Order
both_order x out list = text_order x out ++ check_order (written_image x out) list
