-- What holds of results that the papers leave free, or that the definitions take from the kit's library (01, 'What contracts here
-- say': "a result that these papers leave free is named, with what holds of it").
use Rattle.std.specs.Prelude.{◌≡◌, ◌↔◌, List, map, ℕ, length, take, ℤ, pos}
use Rattle.std.proofs.Math.Option.{some}
use Rattle.program.specs.Tree.{Program}
use Rattle.program.specs.Counts.{Counts}
use Rattle.commands.specs.Bounds.{Within}
use Rattle.commands.specs.Commands.{Flat}
use Rattle.commands.specs.Coding.{command_word}
use Rattle.commands.specs.ProgramWords.{structs_list, program_words}
use Rattle.commands.specs.Decoding.{decode, InRanges}
use Rattle.commands.proofs.Laws.CodingLaws.{word_injective}
use Rattle.operators.specs.Operators.{quotient, remainder}
use Rattle.operators.specs.Rounding.{TowardMinusInfinity, DivisorSigned}
use Rattle.operators.proofs.Laws.RoundingLaws.{quotient_downward, quotient_unique, remainder_signed, remainder_unique}
use Rattle.verdict.specs.Verdict.{listed}
use Rattle.verdict.proofs.ListLaws.{listed_decoded, words_determine}

-- The coding of a command in its place of the list: its word determines it,
pub word_determines : (c d : Flat) → InRanges c → InRanges d → command_word c ≡ command_word d → c ≡ d
word_determines c d h k e = word_injective c d h k e

-- and the words of an accepted program its commands
pub list_determines : (p q : Program) → Counts p → Within p → Counts q → Within q → program_words p ≡ program_words q
    → structs_list p.steps ≡ structs_list q.steps
list_determines p q c w d v e = words_determine p c w q d v e

-- read off the list after a check, they are those commands
pub list_decoded : (p : Program) → Counts p → Within p → (list : List ℕ)
    → map decode (take (length (program_words p)) (listed p list)) ≡ map some (structs_list p.steps)
list_decoded p c w list = listed_decoded p c w list

-- "Int division now rounds toward minus infinity" (02, 'Retarders below zero'): the library's quotient is the one that does
pub quotient_rounds : (a b q : ℤ) → (b ≡ pos 0 → ⊥) → TowardMinusInfinity a b q ↔ (q ≡ quotient a b)
quotient_rounds a b q h = (λ t. quotient_unique a b q h t, λ e. rw e (quotient_downward a b h))

-- "and the remainder takes the divisor's sign": 0 or of that sign, smaller in amount, and a is b × quotient and the remainder
pub remainder_rounds : (a b q r : ℤ) → (b ≡ pos 0 → ⊥) → DivisorSigned a b q r ↔ ((q ≡ quotient a b) × (r ≡ remainder a b))
remainder_rounds a b q r h = (λ t. remainder_unique a b q r t, λ e. rw (e.0, e.1) (remainder_signed a b h))
