-- Each way to the end of reading: what is answered and what is left in the output are those of the text's outcome (02 §1).
use Rattle.std.specs.Prelude.{ℕ, ◌*◌, ◌<◌, ◌≤◌, ◌≡◌, Bool, false, not, List, length, ltb, Result, Ok}
use Rattle.std.proofs.Common.{arith, ◌∙◌}
use Rattle.std.proofs.Math.Path.{refl, sym}
use Rattle.std.proofs.Math.Bool.{true}
use Rattle.std.proofs.Math.Option.{Option, none, some}
use borrow.Author.Tests.{le-leb, lt-ltb, le-ltb}
use Rattle.types.specs.Limits.{program_blocks}
use Rattle.types.specs.Numbers.{no_room, no_program}
use Rattle.types.specs.Stages.{Stage.went as written, Stage.stopped as refused, on, asked, given}
use Rattle.block.specs.Block.{block_size}
use Rattle.blocks.specs.Images.{image, pieces, stream_right, write, written_into}
use Rattle.blocks.proofs.ImageLaws.{image_length}
use Rattle.blocks.proofs.WriteWays.{write_done}
use Rattle.program.specs.Tree.{Program}
use Rattle.program.specs.Encoding.{enc_program}
use Rattle.meaning.specs.Meant.{then, provided}
use Rattle.meaning.specs.HoldsDecide.{holds}
use Rattle.source.specs.Source.{Outcome, number_of, blocks_of, output_of}
use Rattle.source.specs.TextReader.{of_program}
use Rattle.read_text.specs.Ending.{Ending.wrote, Ending.stopped, with_room, ended, answer, left, ending}
use Rattle.meaning.specs.Holds.{max_stream, block_bytes}
use Rattle.blocks.specs.declared.WriteError.{WriteError}

-- Of an outcome ----------------------------------------------------------------------------------

pub answered : (o : Outcome) → ((answer (ending o)).number ≡ number_of o) × ((answer (ending o)).blocks ≡ blocks_of o)
unfolding ending number_of blocks_of
answered (written p) = (refl, refl)
answered (refused n) = (refl, refl)

pub output_left : (o : Outcome) (out : List ℕ) → left (ending o) out ≡ output_of o out
unfolding left ending output_of
output_left (written p) out = refl
output_left (refused n) out = refl

-- a program ends as its stream does, where a stream holds it
pub program_ends : (o : Option Program) (out : List ℕ) → ended (then o (λ p. provided (holds p) (some (enc_program p)))) out ≡ ending (of_program o out)
unfolding then provided ended ending with_room of_program on asked given
program_ends none out = refl
program_ends (some p) out = held (holds p)
  where
    roomy : (b : Bool) → with_room b (enc_program p) ≡ ending (asked b no_room (written p))
    roomy true = refl
    roomy false = refl

    held : (b : Bool) → ended (provided b (some (enc_program p))) out
        ≡ ending (asked (not b) no_program (asked (ltb (length out) (block_size * program_blocks)) no_room (written p)))
    held true = roomy (ltb (length out) (block_size * program_blocks))
    held false = refl

-- Of a stream ------------------------------------------------------------------------------------

module _ (s out : List ℕ) where
  short_ends : length out < block_size * program_blocks → ended (some s) out ≡ stopped no_room
  unfolding ended with_room
  short_ends h = rw (lt-ltb (length out) (block_size * program_blocks) h, with_room) refl

  pub short_told : length out < block_size * program_blocks → (answer (stopped no_room) ≡ answer (ended (some s) out)) × (out ≡ left (ended (some s) out) out)
  unfolding left
  short_told h = rw (short_ends h) (refl, refl)

  module _ (room : block_size * program_blocks ≤ length out) (one : 1 ≤ length s) (fits : length s ≤ max_stream) where
    room_ends : ended (some s) out ≡ wrote s
    unfolding ended with_room
    room_ends = rw (le-ltb (length out) (block_size * program_blocks) room, with_room) refl

    pub blocks_are : write program_blocks (length s) (length out) ≡ Ok (pieces (length s))
    unfolding stream_right
    blocks_are =
        sym (write_done program_blocks (length s) (length out) true
        (rw (le-leb 1 (length s) one, le-leb (length s) (block_bytes * program_blocks) (omega arith))) refl (omega arith))

    pub few_written : (w : Result ℕ WriteError) (k : ℕ) → w ≡ write program_blocks (length s) (length out) → w ≡ Ok k → k ≤ program_blocks
    few_written w k e f = let b : k ≡ pieces (length s) = cc blocks_are in omega arith

    -- what writing the image answers and leaves
    pub image_ends : (w : Result ℕ WriteError) (k : ℕ) (o : List ℕ) → w ≡ write program_blocks (length s) (length out) → w ≡ Ok k → o ≡ written_into w s out
        → (record { number = 0; blocks = k } ≡ answer (ended (some s) out)) × (o ≡ left (ended (some s) out) out)
    unfolding left written_into image
    image_ends w k o e f g =
        let b : k ≡ pieces (length s) = cc blocks_are in
        rw room_ends (rw b refl, g ∙ rw (f, b, image_length s (pieces (length s))) refl)
