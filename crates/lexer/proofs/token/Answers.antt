-- `token` meets its contract: by the class of the first byte.
use Rattle.std.proofs.Common.{sym, ap, ◌∙◌, arith}
use Rattle.tokens.specs.Marking.{spot_of}
use Rattle.tokens.specs.Scanning.{front}
use Rattle.lexer.specs.FrontSpots.{none_spot, first_rest, first_taken, letter_spot, digit_spot, blank_spot, other_spot}
use Rattle.lexer.proofs.token.Goals as goal

pub returns-in_default : goal.returns-in_default
returns-in_default c = none_spot _ (omega arith)

pub returns-then-is_letter : goal.returns-then-is_letter
returns-then-is_letter c =
    c.name.ensures ∙ letter_spot _ _ (sym c.is_letter.ensures ∙ c.if-is_letter.true)
    ∙ ap (λ s. spot_of (front s)) (first_rest _ c.in-len1-up.len_at_least)

pub returns-then-is_digit : goal.returns-then-is_digit
returns-then-is_digit c =
    c.nat.ensures _ ∙ digit_spot _ _ (sym c.is_letter.ensures ∙ c.if-is_letter.false) (sym c.is_digit.ensures ∙ c.if-is_digit.true)
    ∙ ap (λ s. spot_of (front s)) (first_taken _ c.in-len1-up.len_at_least)

pub returns-then-is_blank : goal.returns-then-is_blank
returns-then-is_blank c =
    blank_spot _ _ (sym c.is_letter.ensures ∙ c.if-is_letter.false) (sym c.is_digit.ensures ∙ c.if-is_digit.false)
    (sym c.is_blank.ensures ∙ c.if-is_blank.true)
    ∙ ap (λ s. spot_of (front s)) (first_rest _ c.in-len1-up.len_at_least)

pub returns : goal.returns
returns c =
    c.other.ensures ∙ other_spot _ _ (sym c.is_letter.ensures ∙ c.if-is_letter.false) (sym c.is_digit.ensures ∙ c.if-is_digit.false)
    (sym c.is_blank.ensures ∙ c.if-is_blank.false)
    ∙ ap (λ s. spot_of (front s)) (first_taken _ c.in-len1-up.len_at_least)
