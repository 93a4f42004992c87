-- `image::listing` meets its contract: the image is refused, or its head and the lines of its commands are written.
use Rattle.std.proofs.Common.{ℕ, arith, ◌≡◌, sym, ap, ◌∙◌, length-take-le}
use Rattle.std.proofs.lemmas.List.{length-replicate}
use Rattle.types.specs.Limits.{max_commands}
use Rattle.load.specs.LoadLaws.{LoadedAs, load_refused, load_value, length_fits, structs_few, admitted}
use Rattle.checker.specs.CheckLaws.{writable, wrote}
use Rattle.text.specs.ListingLaws.{placed_as, placed_on}
use Rattle.listing.specs.ImageLaws.{image_listing, accepted_listing, accepted_lines, accepted_listable}
use Rattle.listing.proofs.image.listing.Goals as goal

pub returns-in-Err : goal.returns-in-Err
returns-in-Err c =
    let x = c.args.image.now in
    let e = load_refused x _ (sym c.in-Err.ensures.value) in
    record { placed = placed_as (image_listing x _ _ (c.from-in-Err.ensures ∙ c.from.ensures) e) c.row.ensures.placed; upper_bound = omega (arith, c.row.ensures.upper_bound, c.requires) }

pub slice_bounds-stream-end : goal.slice_bounds-stream-end
slice_bounds-stream-end c =
    let loads' : LoadedAs c.args.image.now c.in-Ok.p = load_value _ _ (sym c.in-Ok.ensures.value) in
    omega (arith, length_fits _ _ loads', c.program-r.auto.buffer)

pub slice_bounds-program-end-5 : goal.slice_bounds-program-end-5
slice_bounds-program-end-5 c =
    sym (length-take-le _ _ (let loads' : LoadedAs c.args.image.now c.in-Ok.p = load_value _ _ (sym c.in-Ok.ensures.value) in omega (arith, length_fits _ _ loads', c.program-r.auto.buffer)))

pub slice_bounds-counts-end : goal.slice_bounds-counts-end
slice_bounds-counts-end c =
    let loads' : LoadedAs c.args.image.now c.in-Ok.p = load_value _ _ (sym c.in-Ok.ensures.value) in
    omega (arith, structs_few _ _ loads', c.program-r.auto.counts)

pub slice_bounds-program-end-6 : goal.slice_bounds-program-end-6
slice_bounds-program-end-6 c =
    sym (length-take-le _ _ (let loads' : LoadedAs c.args.image.now c.in-Ok.p = load_value _ _ (sym c.in-Ok.ensures.value) in omega (arith, structs_few _ _ loads', c.program-r.auto.counts)))

pub program-requires : goal.program-requires
program-requires c =
    let loads' : LoadedAs c.args.image.now c.in-Ok.p = load_value _ _ (sym c.in-Ok.ensures.value) in
    let l = loads' in let a = admitted _ _ l _ _ _ _ _ _ c.program-r.ensures.held in
    writable _ _ l _ _ a _ (simp length-replicate (omega arith))

pub row-k-requires : goal.row-k-requires
row-k-requires c = omega (arith, c.requires)

pub slice_bounds-program-end-8 : goal.slice_bounds-program-end-8
slice_bounds-program-end-8 c = omega (arith, c.program-r.auto.rows)

pub program-requires-2 : goal.program-requires-2
program-requires-2 c =
    let loads' : LoadedAs c.args.image.now c.in-Ok.p = load_value _ _ (sym c.in-Ok.ensures.value) in
    let l = loads' in let a = admitted _ _ l _ _ _ _ _ _ c.program-r.ensures.held in
    accepted_listable _ _ l _ c.program-r.ensures.rows_held _ (wrote _ _ l _ _ a _ c.program.ensures) _ _ c.program-r.auto.rows
    (omega (arith, c.program.auto.list, length-replicate {A = ℕ} max_commands 0))
    (omega (arith, c.row-k.ensures.upper_bound, c.row-k.auto.out, c.requires))

pub returns : goal.returns
returns c =
    let loads' : LoadedAs c.args.image.now c.in-Ok.p = load_value _ _ (sym c.in-Ok.ensures.value) in
    let l = loads' in let a = admitted _ _ l _ _ _ _ _ _ c.program-r.ensures.held in
    let e = accepted_lines _ _ l _ c.program-r.ensures.rows_held _ (wrote _ _ l _ _ a _ c.program.ensures) in record { placed = placed_as (accepted_listing _ _ l) (placed_on c.row-k.ensures.placed (placed_as (sym e) c.program-2.ensures.placed)); upper_bound = omega (arith, c.program-2.ensures.upper_bound, c.row-k.auto.out) }
