-- `literal` meets its contract: one law for each way.
use Rattle.std.proofs.Common.{ap, ◌∙◌}
use Rattle.compose.specs.Fits.{word_value}
use Rattle.compose.proofs.Laws.FitsLaws.{value_int, value_nat, value_none}
use Rattle.composing.specs.PutLaws.{word_or}
use Rattle.composing.proofs.literal.Goals as goal

pub returns-then-c-eq-INT : goal.returns-then-c-eq-INT
returns-then-c-eq-INT c =
    let args = c.args in
    c.unwrap_or.ensures ∙ word_or _ ∙ ap word_value c.int_word.ensures ∙ value_int args.text.now args.i args.c c.if-c-eq-INT.true

pub returns-then-c-eq-NAT : goal.returns-then-c-eq-NAT
returns-then-c-eq-NAT c =
    let args = c.args in
    c.unwrap_or-then-c-eq-NAT.ensures
    ∙ word_or _
    ∙ ap word_value c.nat_word.ensures
    ∙ value_nat args.text.now args.i args.c c.if-c-eq-INT.false c.if-c-eq-NAT.true

pub returns : goal.returns
returns c =
    let args = c.args in
    value_none args.text.now args.i args.c c.if-c-eq-INT.false c.if-c-eq-NAT.false
