-- `read` meets its contract: a text that is too long is refused, any other goes through the passes.
use Rattle.std.proofs.Common.{arith, ◌∙◌, sym, length, length-take-le}
use Rattle.lexer.specs.GapLaws.{gap_fresh}
use Rattle.read_text.specs.PassLaws.{read_long, read_on}
use Rattle.source.specs.Source.{max_text}
use Rattle.read_text.proofs.read.Goals as goal

pub returns-then-n-gt-MAX_TEXT : goal.returns-then-n-gt-MAX_TEXT
returns-then-n-gt-MAX_TEXT c =
    let args = c.args in
    let both = read_long args.text.now args.out.now c.answered.result c.if-n-gt-MAX_TEXT.true c.answered.ensures in
    record {
      number_value = both.0;
      out_after = both.1;
    }

pub slice_bounds-passes-end : goal.slice_bounds-passes-end
slice_bounds-passes-end c = sym (length-take-le _ _ c.if-n-gt-MAX_TEXT.false)

pub passes-requires : goal.passes-requires
passes-requires c =
    let args = c.args in
    record {
      kinds_len = (length-take-le _ _ c.if-n-gt-MAX_TEXT.false, c.if-n-gt-MAX_TEXT.false, omega (arith, c.if-n-gt-MAX_TEXT.false));
      gap = gap_fresh (length args.text.now) max_text;
    }

pub returns : goal.returns
returns c =
    let args = c.args in
    let both = read_on args.text.now args.out.now _ c.answered-2.result c.if-n-gt-MAX_TEXT.false (c.answered-2.ensures ∙ c.passes.ensures.value, c.passes.ensures.out_after) in
    record {
      number_value = both.0;
      out_after = both.1;
    }
