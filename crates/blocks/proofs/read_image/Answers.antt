-- `read_image` meets its contract: a fault before a short buffer, and the stream only where neither is.
use Rattle.std.proofs.Common.{◌∙◌, sym, refl, arith}
use Rattle.blocks.specs.Images.{stream, read_into}
use Rattle.blocks.proofs.ImageWays.{accepted, read_refused, read_short, read_done, read_after}
use Rattle.blocks.proofs.read_image.Goals as goal

pub returns-in-Some : goal.returns-in-Some
unfolding read_into
returns-in-Some c =
    let args = c.args in
    record { value = read_refused _ args.image.now _ _ (sym c.image_fault.ensures ∙ c.in-Some.is); buffer_after = refl }

pub stream_length-length-requires : goal.stream_length-length-requires
stream_length-length-requires c =
    let args = c.args in
    let ok = accepted args.max args.image.now (sym c.image_fault.ensures ∙ c.in_default.is) in
    record { image_len = (ok.0, ok.1); all_right = ok.2 }

pub returns-then-buffer-length : goal.returns-then-buffer-length
unfolding read_into stream
returns-then-buffer-length c =
    let args = c.args in let x = args.image.now in record { value = read_short args.max x _ _ (sym c.image_fault.ensures ∙ c.in_default.is) c.stream_length-length.ensures c.if-buffer-length.true; buffer_after = refl }

pub join-requires : goal.join-requires
join-requires c =
    let args = c.args in
    let ok = accepted args.max args.image.now (sym c.image_fault.ensures ∙ c.in_default.is) in
    record { image_len = ok.0; all_right = ok.2; n_in_bounds = omega (arith, c.stream_length-length.ensures) }

pub shape_of-buffer : goal.shape_of-buffer
shape_of-buffer c = c.join.auto.buffer

pub returns : goal.returns
unfolding stream
returns c =
    let args = c.args in
    let x = args.image.now in record { value = read_done args.max x _ _ (sym c.image_fault.ensures ∙ c.in_default.is) c.stream_length-length.ensures c.if-buffer-length.false; buffer_after = c.join.ensures ∙ read_after x args.buffer.now _ c.stream_length-length.ensures }
