-- `of_stream` meets its contract: the stream is refused, its number is not 0, or its program is loaded.
use Rattle.std.proofs.Common.{Ok, ap, sym, ◌∙◌}
use Rattle.std.proofs.lemmas.Result.{err_from_is_err_and}
use Rattle.load.specs.StreamLaws.{Behind, breach, stream_stops, stream_value, numbered, small}
use Rattle.load.specs.LoadLaws.{refused_told, refused_tables, refused_rows, value_told, value_tables, value_rows}
use Rattle.load.proofs.of_stream.Goals as goal

pub returns-in_err-at : goal.returns-in_err-at
returns-in_err-at c =
    let s = c.args.s.now in
    let stops = stream_stops s _ (sym c.in_err-at.ensures.value) in
    let p = err_from_is_err_and c.from_residual.result c.from_residual.ensures.1 in
    rw (p.1, p.2) (record { value = refused_told s stops; tables_held = refused_tables _ _ _ _ stops; rows_held = refused_rows _ stops })

pub breach-requires : goal.breach-requires
breach-requires c =
    let behind' : Behind c.args.s.now c.in_ok-at.at c.in_ok-at.p = stream_value _ _ _ (sym c.in_ok-at.ensures.value) in
    breach _ _ _ behind' c.if-p-ne0.true

pub returns-then-p-ne0 : goal.returns-then-p-ne0
returns-then-p-ne0 c =
    let behind' : Behind c.args.s.now c.in_ok-at.at c.in_ok-at.p = stream_value _ _ _ (sym c.in_ok-at.ensures.value) in
    let e = numbered _ _ _ behind' c.if-p-ne0.true in
    rw c.breach.ensures (record { value = refused_told _ e; tables_held = refused_tables _ _ _ _ e; rows_held = refused_rows _ e })

pub summed-requires : goal.summed-requires
summed-requires c =
    let behind' : Behind c.args.s.now c.in_ok-at.at c.in_ok-at.p = stream_value _ _ _ (sym c.in_ok-at.ensures.value) in
    small _ _ _ behind' c.if-p-ne0.false

pub returns : goal.returns
returns c =
    let behind' : Behind c.args.s.now c.in_ok-at.at c.in_ok-at.p = stream_value _ _ _ (sym c.in_ok-at.ensures.value) in
    record {
      value = ap Ok c.summed.ensures ∙ value_told _ _ _ behind' c.if-p-ne0.false;
      tables_held = value_tables _ _ _ behind' c.if-p-ne0.false _ _ _ _ c.program.ensures.params_kept;
      rows_held = value_rows _ _ _ behind' c.if-p-ne0.false _ c.program.ensures.read_listed;
    }
