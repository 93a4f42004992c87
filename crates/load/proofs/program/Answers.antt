-- `program` meets its contract: the image is refused, or its stream is loaded.
use Rattle.std.proofs.Common.{arith, ◌≡◌, sym, ◌∙◌, take, length-take-le}
use Rattle.blocks.specs.Images.{stream}
use Rattle.blocks.proofs.OpeningLaws.{opened_fault, opened_stream, opened_as, opened_front}
use Rattle.verdict.specs.Verdict.{checked}
use Rattle.load.specs.LoadLaws.{image_refused, image_read, refused_told, refused_held, refused_rows, stream_held}
use Rattle.load.proofs.program.Goals as goal

pub returns-in-Err : goal.returns-in-Err
returns-in-Err c =
    let x = c.args.image.now in let told = c.in-Err.is in
    let e = image_refused x _ (opened_fault _ x _ (sym c.open_image.ensures.value ∙ told)) in
    record { value = rw c.program_number.ensures (refused_told (stream x) e); held = refused_held _ _ _ _ _ _ _ e; rows_held = refused_rows _ e }

pub slice_bounds-of_stream-end : goal.slice_bounds-of_stream-end
slice_bounds-of_stream-end c =
    let h = opened_stream _ c.args.image.now _ (sym c.open_image.ensures.value ∙ c.in-Ok.is) in
    omega (arith, h.2, c.open_image.auto.buffer, c.requires.program_blocks_in_bounds)

pub slice_bounds-of_stream-end-in-Ok : goal.slice_bounds-of_stream-end-in-Ok
slice_bounds-of_stream-end-in-Ok c =
    let h = opened_stream _ c.args.image.now _ (sym c.open_image.ensures.value ∙ c.in-Ok.is) in
    sym (length-take-le _ _ (omega (arith, h.2, c.open_image.auto.buffer, c.requires.program_blocks_in_bounds)))

pub of_stream-requires : goal.of_stream-requires
of_stream-requires c =
    let h = opened_stream _ c.args.image.now _ (sym c.open_image.ensures.value ∙ c.in-Ok.is) in
    let n = length-take-le c.in-Ok.n c.open_image.new.buffer (omega (arith, h.2, c.open_image.auto.buffer, c.requires.program_blocks_in_bounds)) in
    record { counts_len = c.requires.counts_len; s_len_bound = (omega (arith, n, h.2), c.requires.directory_places_in_bounds) }

pub returns-in-Ok : goal.returns-in-Ok
returns-in-Ok c =
    let told = c.in-Ok.is in let args = c.args in let x = args.image.now in
    let h = opened_stream _ x _ (sym c.open_image.ensures.value ∙ told) in
    let f : take c.in-Ok.n c.open_image.new.buffer ≡ stream x =
    opened_front x _ _ told c.open_image.ensures.buffer_after h.1 in record { value = rw (f, ← image_read x h.0) at c.of_stream.ensures.value; held = stream_held (checked x) (stream x) _ _ _ args.counts.now c.of_stream.new.counts args.types.now c.of_stream.new.types h.1 (opened_as x _ _ told c.open_image.ensures.buffer_after) (rw (f, ← image_read x h.0) at c.of_stream.ensures.tables_held); rows_held = rw (f, ← image_read x h.0) at c.of_stream.ensures.rows_held }
