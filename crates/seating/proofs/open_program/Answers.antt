-- `open_program` meets its contract: the image is refused, or its program is opened.
use Rattle.std.proofs.Common.{arith, sym, length}
use Rattle.std.proofs.lemmas.Result.{err_from_is_err_and}
use Rattle.load.specs.LoadLaws.{LoadedAs, load_refused, load_value}
use Rattle.seating.specs.SizeLaws.{loaded_short}
use Rattle.seating.specs.AdmitLaws.{held_opens}
use Rattle.seating.proofs.open_program.Goals as goal

pub returns-in_err-loaded : goal.returns-in_err-loaded
returns-in_err-loaded c =
    let p = err_from_is_err_and c.from_residual.result c.from_residual.ensures.1 in
    rw (p.1, p.2) (load_refused c.args.image.now _ (sym c.in_err-loaded.ensures.value))

pub returns : goal.returns
returns c =
    let loads : LoadedAs c.args.image.now c.in_ok-loaded.loaded = load_value _ _ (sym c.in_ok-loaded.ensures.value) in
    let short = loaded_short _ _ loads in (
      loads.program,
      loads.accepts,
      omega (arith, short, c.admit.auto.buffer, c.requires.most_bytes_in_bounds),
      held_opens _ _ loads _ c.in_ok-loaded.ensures.rows_held (omega (arith, c.admit.auto.rows, c.requires.directory_places_in_bounds)) _ _ _ _ _ _
          c.in_ok-loaded.ensures.held (omega (arith, c.admit.auto.counts)) (omega (arith, c.admit.auto.types)),
    )
