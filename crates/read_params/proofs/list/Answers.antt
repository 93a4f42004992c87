-- `list` meets its contract.
use Rattle.std.proofs.Common.{arith, ap, sym, ◌∙◌, length-set}
use Rattle.std.proofs.lemmas.Result.{err_from_is_err_and}
use Rattle.program.specs.Reader.{read_type}
use Rattle.read_params.specs.ParamsTold.{place_told}
use Rattle.read_params.specs.ParamsWays.{list_stop, list_more, kept_list, span_from}
use Rattle.read_params.proofs.list.Goals as goal

pub returns-in_err-n : goal.returns-in_err-n
returns-in_err-n c =
    let a = c.args in
    let p = err_from_is_err_and c.from_residual.result c.from_residual.ensures.1 in
    let q = list_stop a.s.now a.structs a.at _ (sym c.in_err-n.ensures.value) in
    rw (p.1, p.2) (record { value = sym (ap place_told q.1); place_span = tt; list_kept = rw q.1 tt })

pub bounds-counts-k : goal.bounds-counts-k
bounds-counts-k c = omega (arith, c.requires)

pub row-requires : goal.row-requires
row-requires c = omega (arith, c.from.ensures, c.in_ok-n.ensures.byte_span, c.requires)

pub shape_of-counts : goal.shape_of-counts
shape_of-counts c = simp length-set

pub shape_of-types : goal.shape_of-types
shape_of-types c = c.row.auto.types

pub returns : goal.returns
returns c =
    let a = c.args in
    let span = c.in_ok-n.ensures.byte_span in
    let h = list_more a.s.now a.structs a.at _ _ (sym c.in_ok-n.ensures.value) in
    let kept = rw c.from.ensures at c.row.ensures.row_kept in
    record {
      value = rw c.from.ensures at c.row.ensures.value ∙ sym (ap place_told h);
      place_span = span_from a.s.now _ _ c.row.result (omega arith) c.row.ensures.place_span;
      list_kept = rw h (kept_list (read_type a.s.now a.structs) c.in_ok-n.n c.in_ok-n.m a.k a.counts.now a.types.now c.row.new.types kept);
    }
