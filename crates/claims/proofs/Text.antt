-- Program text (02 §1, §2): what has one reading at most, which number a text is refused with, what is written otherwise, and what the checker says to it.
use Rattle.std.specs.Prelude.{ℕ, ◌*◌, ◌≤◌, ◌≡◌, ◌↔◌, List, ◌++◌, length, drop}
use Rattle.types.specs.Limits.{program_blocks, max_commands}
use Rattle.types.specs.Numbers.{wrong_byte, wrong_names, no_derivation}
use Rattle.types.specs.Orders.{NoneOf, Foremost}
use Rattle.types.specs.Stages.{Stage.stopped as CheckedRefused, Stage.went as written, Stage.stopped as refused}
use Rattle.block.specs.Block.{block_size}
use Rattle.blocks.specs.Images.{image, pieces}
use Rattle.program.specs.Tree.{Op, Program}
use Rattle.program.specs.Encoding.{enc_program}
use Rattle.commands.specs.Bounds.{Within}
use Rattle.verdict.specs.Verdict.{checked, refusal, check_verdict}
use Rattle.tokens.specs.Tokens.{Token}
use Rattle.tokens.specs.Lexing.{Lexed}
use Rattle.tokens.specs.Straying.{Strays}
use Rattle.tokens.proofs.Laws.LexingLaws.{lexed_one as lexed_law}
use Rattle.tokens.proofs.Laws.StrayLaws.{no_tokens_exactly as straying_law}
use Rattle.syntax.specs.Syntax.{Exp, Exp.binary, Program as Derivation}
use Rattle.syntax.specs.Yield.{yield}
use Rattle.syntax.specs.Bracketing.{level, comparisons, Fits, Derives}
use Rattle.syntax.specs.Bracketed.{BracketedProgram, NoComparison}
use Rattle.syntax.proofs.Laws.CompleteLaws.{one_derivation as derivation_law}
use Rattle.syntax.proofs.Laws.BracketLaws.{brackets_kept as brackets_law, no_two_comparisons as comparisons_law}
use Rattle.syntax.proofs.SumRows.{compared, two_compared as compared_law}
use Rattle.meaning.specs.Holds.{max_stream}
use Rattle.meaning.specs.Means.{Means}
use Rattle.meaning.specs.Nesting.{Shallow}
use Rattle.source.specs.Source.{Derived, Reading, NoTokens, NoProgram, text_order}
use Rattle.source.specs.Causes.{Cause}
use Rattle.source.specs.TextReader.{outcome, text_number, text_blocks, text_output}
use Rattle.source.proofs.Laws.SourceLaws.{derived_one as derived_law, one_reading as reading_law, text_refused_exactly as refused_law}
use Rattle.source.proofs.Laws.SourceLaws.{text_written as written_law}
use Rattle.source.proofs.Laws.SourceLaws.{text_untouched as untouched_law, escapes_16 as escapes_law}
use Rattle.source.proofs.Laws.CauseLaws.{no_program_exactly as causes_law}
use Rattle.source.specs.Stepping.{StepsRight}
use Rattle.source.specs.Checking.{Answers, written_image, text_verdict, both_order}
use Rattle.source.proofs.Laws.CheckingLaws.{bytes_blocks, image_written, text_answered as answered_law, deep_exactly, seven_for_steps}
use Rattle.source.proofs.Laws.CheckingLaws.{text_checked as checked_law, text_order_exact as order_law}

-- "The longest token is taken first": a text parts into tokens in one way at most,
pub lexed_one : {x : List ℕ} {ts us : List Token} → Lexed x ts → Lexed x us → ts ≡ us
lexed_one a b = lexed_law a b

-- and in none exactly where it strays: "an unclosed comment, or a character sequence that is no token", after gaps and longest tokens;
pub no_tokens_exactly : (x : List ℕ) → ((ts : List Token) → Lexed x ts → ⊥) ↔ Strays x
no_tokens_exactly x = straying_law x

-- tokens have one derivation at most,
pub one_derivation : (ts : List Token) (c d : Derivation) → Derives ts c → Derives ts d → c ≡ d
one_derivation ts c d a b = derivation_law ts c d a b

-- "Two comparisons in a row without brackets give 16" (02 §2): the operands of a bare comparison are none
pub no_two_comparisons : (l : ℕ) (o : Op) (a b : Exp) → level o ≡ comparisons → Fits l (binary o a b) → (NoComparison a) × (NoComparison b)
no_two_comparisons l o a b q f = comparisons_law l o a b q f

-- whatever the two are: tokens with a o b p c have no derivation
pub two_compared : (o p : Op) → level o ≡ comparisons → level p ≡ comparisons → (d : Derivation) → Derives (compared o p) d → ⊥
two_compared o p e f d h = compared_law o p e f d h

-- "and then has one reading": one derivation of the text,
pub derived_one : {x : List ℕ} {c d : Derivation} → Derived x c → Derived x d → c ≡ d
derived_one a b = derived_law a b

-- and one program at most that it means
pub one_reading : {x : List ℕ} {p q : Program} → Reading x p → Reading x q → p ≡ q
one_reading a b = reading_law a b

-- 17 by its causes: a derived text is read as no program that a stream holds exactly where its derivation has one ("a name with no declaration alive at its
-- place, a struct, parameter or local name declared twice or a local named as a parameter of its struct, a literal outside its type, other than one
-- argument per parameter, or more of anything than the stream's counts, numbers or bytes hold")
pub no_program_exactly : {x : List ℕ} {c : Derivation} → Derived x c → (NoProgram x) ↔ (Cause c)
no_program_exactly d = causes_law d

-- "more .. than the stream's .. bytes hold": as many bytes as the 64 blocks of the largest image have room for
pub text_bytes : (p : Program) → (length (enc_program p) ≤ max_stream) ↔ (pieces (length (enc_program p)) ≤ program_blocks)
text_bytes p = bytes_blocks (length (enc_program p))

-- "Fully bracketed text keeps its stream" (02 §2): what is read as a program by a derivation in which each binary expression stands in brackets, is read so
pub brackets_kept : {x : List ℕ} {ts : List Token} {c : Derivation} {p : Program} → Lexed x ts → BracketedProgram c → yield c ≡ ts → Means c p → Reading x p
brackets_kept {ts = ts} {c = c} l f y m =
    record { derivation = c; derived = record { tokens = ts; lexed = l; derives = brackets_law ts c f y }; means = m }

module _ (x out : List ℕ) where
  -- "Text free of 15 escapes 16 precisely when the grammar, written without the reader, derives it"
  pub escapes_16 : (NoTokens x → ⊥) → ((outcome x out ≡ refused no_derivation → ⊥) ↔ ((c : Derivation) × Derived x c))
  escapes_16 f = escapes_law x out f

  -- 15, 16, 17 and 13, "checked in that order": a text is refused with the foremost number,
  pub text_refused_exactly : (n : ℕ) → (outcome x out ≡ refused n) ↔ Foremost (text_order x out) n
  text_refused_exactly n = refused_law x out n

  -- and otherwise written as the program of its one reading
  pub text_written : (p : Program) → (outcome x out ≡ written p) ↔ ((NoneOf (text_order x out)) × (Reading x p))
  text_written p = written_law x out p

  -- "whose image is written unless 17 holds": the blocks written are the image of its stream,
  pub text_image : (p : Program) → outcome x out ≡ written p → written_image x out ≡ image (enc_program p)
  text_image p e = image_written x out p e

  -- with number 0, in front of the output, and all later bytes as they were;
  pub text_answered : (p : Program) → outcome x out ≡ written p
      → (text_number x out ≡ 0) × (text_output x out ≡ image (enc_program p) ++ drop (block_size * text_blocks x out) out)
  text_answered p e = answered_law x out p e

  -- and a refusal answers its number and 0 blocks, and leaves the output
  pub text_untouched : (n : ℕ) → outcome x out ≡ refused n → (text_number x out ≡ n) × (text_blocks x out ≡ 0) × (text_output x out ≡ out)
  text_untouched n e = untouched_law x out n e

  -- "nesting apart": to what was written the checker says 5 exactly where it nests deeper than 01's levels,
  pub text_nesting : (p : Program) → outcome x out ≡ written p → (checked (written_image x out) ≡ CheckedRefused wrong_byte) ↔ (Shallow p → ⊥)
  text_nesting p e = deep_exactly x out p e

  -- 7 exactly for steps, since 17 has judged all other names: one twice in its struct, or a typed call of one that its struct has not,
  pub text_steps : (p : Program) → outcome x out ≡ written p
      → (checked (written_image x out) ≡ CheckedRefused wrong_names) ↔ ((Shallow p) × (Within p) × (StepsRight p → ⊥))
  text_steps p e = seven_for_steps x out p e

  -- and 0, 5, 6, 7 or 8, no other number
  pub text_checked : (p : Program) → outcome x out ≡ written p → (list : List ℕ) → max_commands ≤ length list
      → Answers (check_verdict (written_image x out) list).number
  text_checked p e list h = checked_law x out p e list h

  -- "before 1": reading and then checking gives the first number of both whose condition holds
  pub text_order_exact : (list : List ℕ) (n : ℕ) → (text_verdict x out list ≡ refusal n) ↔ Foremost (both_order x out list) n
  text_order_exact list n = order_law x out list n
