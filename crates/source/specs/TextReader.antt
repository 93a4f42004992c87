-- What a text is read as, computed: its tokens, their derivation, the program that it means.
use Rattle.std.specs.Prelude.{ℕ, ◌*◌, not, List, length, ltb}
use Rattle.std.proofs.Math.Option.{Option}
use Rattle.types.specs.Limits.{program_blocks}
use Rattle.types.specs.Numbers.{no_room, no_token, no_derivation, no_program}
use Rattle.types.specs.Stages.{Stage.went as written, on, asked, given}
use Rattle.block.specs.Block.{block_size}
use Rattle.program.specs.Tree.{Program}
use Rattle.tokens.specs.Tokens.{Token}
use Rattle.tokens.specs.Scanning.{lex}
use Rattle.syntax.specs.Syntax.{Program as Derivation}
use Rattle.syntax.specs.Reading.{read}
use Rattle.meaning.specs.Meant.{meant}
use Rattle.meaning.specs.HoldsDecide.{holds}
use Rattle.source.specs.Source.{max_text, Outcome, number_of, blocks_of, output_of}

-- 17 and 13, from the program that a derivation means
unfoldable pub of_program : Option Program → List ℕ → Outcome
of_program o out =
    on (given o no_program) λ p.
    asked (not (holds p)) no_program (asked (ltb (length out) (block_size * program_blocks)) no_room (written p))

-- 16, from the derivation of the tokens
unfoldable pub of_derivation : Option Derivation → List ℕ → Outcome
of_derivation o out = on (given o no_derivation) λ c. of_program (meant c) out

-- 15, from the tokens
unfoldable pub of_tokens : Option (List Token) → List ℕ → Outcome
of_tokens o out = on (given o no_token) λ ts. of_derivation (read ts) out

-- a text and the output that is lent
unfoldable pub outcome : List ℕ → List ℕ → Outcome
outcome x out = asked (ltb max_text (length x)) no_token (of_tokens (lex 0 x) out)

-- the number, the blocks and the output after reading
unfoldable pub text_number : List ℕ → List ℕ → ℕ
unfolding outcome number_of
text_number x out = number_of (outcome x out)

unfoldable pub text_blocks : List ℕ → List ℕ → ℕ
unfolding outcome blocks_of
text_blocks x out = blocks_of (outcome x out)

unfoldable pub text_output : List ℕ → List ℕ → List ℕ
unfolding outcome output_of
text_output x out = output_of (outcome x out) out
