-- Reading program text (02 §1): what a text is read as, the conditions of 15, 16, 17 and 13 and their order, and the output. Nothing here speaks of a reader.
use Rattle.std.specs.Prelude.{ℕ, ◌*◌, ◌<◌, ◌⊎◌, List, [], ◌∷◌, ◌++◌, length, drop}
use Rattle.types.specs.Limits.{program_blocks}
use Rattle.types.specs.Numbers.{no_room, no_token, no_derivation, no_program}
use Rattle.types.specs.Orders.{Order}
use Rattle.types.specs.Stages.{Stage, Stage.went as written, Stage.stopped as refused}
use Rattle.block.specs.Block.{block_size}
use Rattle.blocks.specs.Images.{image, pieces}
use Rattle.program.specs.Tree.{Program}
use Rattle.program.specs.Encoding.{enc_program}
use Rattle.tokens.specs.Tokens.{Token}
use Rattle.tokens.specs.Lexing.{Lexed}
use Rattle.syntax.specs.Syntax.{Program as Derivation}
use Rattle.syntax.specs.Bracketing.{Derives}
use Rattle.meaning.specs.Means.{Means}
use Rattle.meaning.specs.Holds.{Holds}

abbrev pub max_text : ℕ
max_text = 65536

-- a text parts into tokens that a derivation yields
pub record Derived (x : List ℕ) (c : Derivation) : Type 0 where
  pub tokens : List Token
  pub lexed : Lexed x tokens
  pub derives : Derives tokens c

-- a text is read as a program
pub record Reading (x : List ℕ) (p : Program) : Type 0 where
  pub derivation : Derivation
  pub derived : Derived x derivation
  pub means : Means derivation p

-- The conditions -----------------------------------------------------------------------------

-- 15: the text is too long, or does not part into tokens (an unclosed comment, or a character sequence that is no token)
abbrev pub NoTokens : List ℕ → Type 0
NoTokens x = (max_text < length x) ⊎ ((ts : List Token) → Lexed x ts → ⊥)

-- 16: the grammar derives none of it
abbrev pub NoDerivation : List ℕ → Type 0
NoDerivation x = (c : Derivation) → Derived x c → ⊥

-- 17: it means no program, or one that the stream does not hold
abbrev pub NoProgram : List ℕ → Type 0
NoProgram x = (p : Program) → Reading x p → Holds p → ⊥

-- 13: the output is shorter than the largest image, 64 blocks
abbrev pub ShortOutput : List ℕ → Type 0
ShortOutput out = length out < block_size * program_blocks

-- checked in that order
abbrev pub text_order : List ℕ → List ℕ → Order
text_order x out = (no_token, NoTokens x) ∷ (no_derivation, NoDerivation x) ∷ (no_program, NoProgram x) ∷ (no_room, ShortOutput out) ∷ []

-- The answer ------------------------------------------------------------------------------------

-- a program that is written, or the number of a refusal
abbrev pub Outcome : Type 0
Outcome = Stage Program

-- 0 or the number of the refusal; the blocks that are written
unfoldable pub number_of : Outcome → ℕ
number_of (written p) = 0
number_of (refused n) = n

unfoldable pub blocks_of : Outcome → ℕ
blocks_of (written p) = pieces (length (enc_program p))
blocks_of (refused n) = 0

-- the image of the program's stream in front, the rest as it was; a refusal leaves all
unfoldable pub output_of : Outcome → List ℕ → List ℕ
output_of (written p) out = image (enc_program p) ++ drop (length (image (enc_program p))) out
output_of (refused n) out = out
