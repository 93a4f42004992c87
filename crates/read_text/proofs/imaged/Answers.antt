-- `imaged` meets its contract: the output is too short, or the image of the stream fits it.
use Rattle.std.proofs.Common.{arith, ◌≡◌, ◌∙◌, length}
use Rattle.blocks.specs.Images.{pieces}
use Rattle.read_text.specs.EndingLaws.{short_told, few_written, blocks_are, image_ends}
use Rattle.read_text.proofs.imaged.Goals as goal
use Rattle.std.specs.Prelude.{Ok}

pub returns-then-out-lt-OUTPUT : goal.returns-then-out-lt-OUTPUT
returns-then-out-lt-OUTPUT c =
    let args = c.args in
    let w = short_told args.stream.now args.out.now c.if-out-lt-OUTPUT.true in record { value = w.0; out_after = w.1 }

pub returns-in_default : goal.returns-in_default
returns-in_default c =
    let blocks' : c.write_image-w.result ≡ Ok (pieces (length c.args.stream.now)) = let args = c.args in c.write_image-w.ensures.value ∙ blocks_are
    args.stream.now args.out.now c.if-out-lt-OUTPUT.false c.requires.0 c.requires.1 in
    absurd (c.in_default.not-Ok _ blocks')

pub overflow_cast-result : goal.overflow_cast-result
overflow_cast-result c =
    let args = c.args in
    let w = c.write_image-w in
    let few = few_written args.stream.now args.out.now c.if-out-lt-OUTPUT.false c.requires.0 c.requires.1 w.result _ w.ensures.value c.in-Ok.is in
    omega (arith, few)

pub returns : goal.returns
returns c =
    let args = c.args in
    let w = c.write_image-w in
    let both = image_ends args.stream.now args.out.now c.if-out-lt-OUTPUT.false c.requires.0 c.requires.1 w.result _ _ w.ensures.value c.in-Ok.is
    w.ensures.out_after in
    record {
      value = both.0;
      out_after = both.1;
    }
