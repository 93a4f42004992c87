-- `place` meets its contract: a text that is too long stops behind its 65,536 bytes, any other is looked through.
use Rattle.std.proofs.Common.{arith, sym, length, length-take-le}
use Rattle.lexer.specs.GapLaws.{gap_fresh}
use Rattle.text_place.specs.PlaceLaws.{long_place}
use Rattle.source.specs.Source.{max_text}
use Rattle.text_place.proofs.place.Goals as goal

pub returns-then-n-gt-MAX_TEXT : goal.returns-then-n-gt-MAX_TEXT
returns-then-n-gt-MAX_TEXT c = long_place c.args.text.now c.if-n-gt-MAX_TEXT.true

pub slice_bounds-stopped-end : goal.slice_bounds-stopped-end
slice_bounds-stopped-end c = sym (length-take-le _ _ c.if-n-gt-MAX_TEXT.false)

pub stopped-requires : goal.stopped-requires
stopped-requires c =
    let less = c.if-n-gt-MAX_TEXT.false in let same = length-take-le _ _ less in
    record { kinds_len = (same, less, omega (arith, same, less)); gap = gap_fresh (length c.args.text.now) max_text }
