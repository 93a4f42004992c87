-- `admit` meets its contract: the image is refused, or its stream, which is short, is moved.
use Rattle.std.proofs.Common.{arith, sym, ◌∙◌, length-take-le}
use Rattle.std.proofs.lemmas.Result.{err_from_is_err_and}
use Rattle.load.specs.LoadLaws.{LoadedAs, load_refused, load_value, length_fits, refused_held, refused_rows}
use Rattle.seating.specs.SizeLaws.{loaded_short}
use Rattle.seating.specs.AdmitLaws.{kept_held}
use Rattle.seating.proofs.admit.Goals as goal

pub returns-in_err-p : goal.returns-in_err-p
returns-in_err-p c =
    let e = load_refused c.args.image.now _ (sym c.in_err-p.ensures.value) in
    let p = err_from_is_err_and c.from_residual.result c.from_residual.ensures.1 in
    rw (p.1, p.2) (record { value = c.in_err-p.ensures.value; held = refused_held _ _ _ _ _ _ _ e; rows_held = refused_rows _ e })

pub slice_bounds-stream-end : goal.slice_bounds-stream-end
slice_bounds-stream-end c =
    let loads' : LoadedAs c.args.image.now c.in_ok-p.p = load_value _ _ (sym c.in_ok-p.ensures.value) in
    omega (arith, length_fits _ _ loads', c.program.auto.buffer)

pub slice_bounds-copy-end : goal.slice_bounds-copy-end
slice_bounds-copy-end c =
    sym (length-take-le _ _ (let loads' : LoadedAs c.args.image.now c.in_ok-p.p = load_value _ _ (sym c.in_ok-p.ensures.value) in omega (arith, length_fits _ _ loads', c.program.auto.buffer)))

pub copy-requires : goal.copy-requires
copy-requires c =
    let loads' : LoadedAs c.args.image.now c.in_ok-p.p = load_value _ _ (sym c.in_ok-p.ensures.value) in
    omega (
      arith,
      loaded_short _ _ loads',
      length-take-le c.in_ok-p.p.length c.program.new.buffer (let loads' : LoadedAs c.args.image.now c.in_ok-p.p = load_value _ _ (sym c.in_ok-p.ensures.value) in omega (arith, length_fits _ _ loads', c.program.auto.buffer)),
      c.requires.most_bytes_in_bounds,
    )

pub returns : goal.returns
returns c =
    let loads' : LoadedAs c.args.image.now c.in_ok-p.p = load_value _ _ (sym c.in_ok-p.ensures.value) in
    record { value = c.in_ok-p.ensures.value; held = kept_held _ _ loads' _ _ _ _ _ _ _ _ c.program.ensures.held c.copy.ensures; rows_held = c.program.ensures.rows_held }
