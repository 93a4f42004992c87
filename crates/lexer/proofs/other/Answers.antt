-- `other` meets its contract.
use Rattle.std.proofs.Common.{arith, sym, ap, ◌∙◌, length, length-drop}
use Rattle.std.proofs.lemmas.List.{take_rest}
use Rattle.tokens.specs.Marking.{spot_of}
use Rattle.tokens.specs.Scanning.{comment_front}
use Rattle.lexer.specs.FrontSpots.{inside_spot, comment_spot, comment_none, comment_some, int_spot, sign_spot}
use Rattle.lexer.proofs.other.Goals as goal

pub returns-in_err-inside : goal.returns-in_err-inside
returns-in_err-inside c =
    c.from_residual.ensures ∙ comment_none _ (sym (inside_spot _ c.in_err-inside.ensures.value))
    ∙ comment_spot _ _ c.byte-c.ensures (sym c.opens.ensures ∙ c.if-opens.true)

pub overflow_add-result : goal.overflow_add-result
overflow_add-result c = omega (arith, c.in_ok-inside.ensures.some.1, length-drop 1 c.args.rest.now, ap length (take_rest c.args.rest.now 1))

pub returns-then-opens : goal.returns-then-opens
returns-then-opens c =
    comment_some _ c.in_ok-inside.ensures.some.0 ∙ ap (λ n. spot_of (comment_front n)) (inside_spot _ c.in_ok-inside.ensures.value)
    ∙ comment_spot _ _ c.byte-c.ensures (sym c.opens.ensures ∙ c.if-opens.true)

pub returns-then-signed : goal.returns-then-signed
returns-then-signed c =
    int_spot _ _ c.byte-c.ensures (sym c.opens.ensures ∙ c.if-opens.false) _ (sym c.signed.ensures ∙ c.if-signed.true) c.digits.ensures

pub returns : goal.returns
returns c =
    c.sign.ensures ∙ sign_spot _ _ c.byte-c.ensures (sym c.opens.ensures ∙ c.if-opens.false) (sym c.signed.ensures ∙ c.if-signed.false)
