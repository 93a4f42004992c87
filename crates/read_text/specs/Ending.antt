-- How reading a text ends (02 §1), by the stream that it is read as: 17 where there is none, 13 for an output that is too short, or the image of the stream.
-- What is answered, and what is left in the output.
use Rattle.std.specs.Prelude.{ℕ, ◌*◌, Bool, true, false, List, ◌++◌, length, drop, ltb, Result, Ok, Err}
use Rattle.std.proofs.Math.Option.{Option, none, some}
use Rattle.types.specs.Limits.{program_blocks}
use Rattle.types.specs.Numbers.{no_room, no_program}
use Rattle.types.specs.Stages.{Stage.went as written, Stage.stopped as refused}
use Rattle.block.specs.Block.{block_size}
use Rattle.blocks.specs.Images.{image, pieces}
use Rattle.program.specs.Encoding.{enc_program}
use Rattle.source.specs.Source.{Outcome}
use Rattle.read_text.specs.declared.Answer.{Answer}

pub data Ending : Type 0 where
  wrote : List ℕ → Ending
  stopped : ℕ → Ending

unfoldable pub with_room : Bool → List ℕ → Ending
with_room true s = stopped no_room
with_room false s = wrote s

unfoldable pub ended : Option (List ℕ) → List ℕ → Ending
unfolding with_room
ended none out = stopped no_program
ended (some s) out = with_room (ltb (length out) (block_size * program_blocks)) s

abbrev pub answer : Ending → Answer
answer (wrote s) = record { number = 0; blocks = pieces (length s) }
answer (stopped n) = record { number = n; blocks = 0 }

-- the same of a result: the blocks that are written, or the number of the refusal
abbrev pub answer_of : Result ℕ ℕ → Answer
answer_of (Ok k) = record { number = 0; blocks = k }
answer_of (Err n) = record { number = n; blocks = 0 }

unfoldable pub left : Ending → List ℕ → List ℕ
left (wrote s) out = image s ++ drop (length (image s)) out
left (stopped n) out = out

-- of what a text is read as
unfoldable pub ending : Outcome → Ending
ending (written p) = wrote (enc_program p)
ending (refused n) = stopped n
