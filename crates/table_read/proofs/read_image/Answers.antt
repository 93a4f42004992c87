-- `read_image` meets its contract: the image is refused, or its stream is read.
use Rattle.std.proofs.Common.{◌≡◌, ◌≤◌, ◌∙◌, sym, refl, arith, length, take, length-take-le}
use Rattle.blocks.specs.Images.{stream}
use Rattle.blocks.proofs.OpeningLaws.{opened_fault, opened_stream, opened_front}
use Rattle.table_read.specs.Params.{lists_of}
use Rattle.table_read.specs.Laws.TableWays.{image_refused, image_read}
use Rattle.table_read.proofs.read_image.Goals as goal

pub returns-in-Err : goal.returns-in-Err
returns-in-Err c =
    let args = c.args in let y = args.image.now in let told = c.in-Err.is in
    let q = image_refused y (lists_of args.p.counts.now args.p.types.now) _ (opened_fault _ y _ (sym c.open_image.ensures.value ∙ told)) in
    record { value = rw (q, c.table_number.ensures) refl; table_laid = rw q tt }

pub slice_bounds-read-end : goal.slice_bounds-read-end
slice_bounds-read-end c =
    let h = opened_stream _ c.args.image.now _ (sym c.open_image.ensures.value ∙ c.in-Ok.is) in
    omega (arith, h.2, c.open_image.auto.buffer, c.requires.table_blocks_in_bounds)

pub slice_bounds-read-end-in-Ok : goal.slice_bounds-read-end-in-Ok
slice_bounds-read-end-in-Ok c =
    let h = opened_stream _ c.args.image.now _ (sym c.open_image.ensures.value ∙ c.in-Ok.is) in
    let k : c.in-Ok.n ≤ length c.open_image.new.buffer =
    omega (arith, h.2, c.open_image.auto.buffer, c.requires.table_blocks_in_bounds) in
    sym (length-take-le _ _ k)

pub returns-in-Ok : goal.returns-in-Ok
returns-in-Ok c =
    let told = c.in-Ok.is in let args = c.args in let y = args.image.now in
    let h = opened_stream _ y _ (sym c.open_image.ensures.value ∙ told) in
    let f : take c.in-Ok.n c.open_image.new.buffer ≡ stream y = opened_front y _ _ told c.open_image.ensures.buffer_after h.1 in
    let q = image_read y (lists_of args.p.counts.now args.p.types.now) h.0 in
    record { value = rw q (rw f at c.read.ensures.value); table_laid = rw q (rw f at c.read.ensures.table_laid) }
