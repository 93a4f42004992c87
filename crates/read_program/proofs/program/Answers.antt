-- `program` meets its contract: the parameters are not read, or are, with the rest behind them.
use Rattle.std.proofs.Common.{length, ◌≤◌, arith, sym, ◌∙◌, length-take-le}
use Rattle.std.proofs.lemmas.Result.{err_from_is_err_and}
use Rattle.types.specs.Limits.{max_structs}
use Rattle.read_program.specs.WholeWays.{program_stop, program_read, program_listed, listed_none}
use Rattle.read_program.proofs.program.Goals as goal

pub returns-in_err-at : goal.returns-in_err-at
returns-in_err-at c =
    let a = c.args in
    let e = sym c.in_err-at.ensures.value in
    let p = err_from_is_err_and c.from_residual.result c.from_residual.ensures.1 in
    rw (p.1, p.2) (record { value = sym (program_stop a.s.now _ e); params_kept = c.params.ensures.params_kept; read_listed = listed_none a.s.now _ _ e })

pub slice_bounds-rest-end : goal.slice_bounds-rest-end
slice_bounds-rest-end c =
    let spans' : (1 ≤ c.in_ok-at.structs) × (c.in_ok-at.structs ≤ max_structs) × (c.in_ok-at.at ≤ length c.args.s.now) = c.in_ok-at.ensures.params_span in
    omega (arith, spans', c.params.auto.counts, c.requires)

pub slice_bounds-rest-end-2 : goal.slice_bounds-rest-end-2
slice_bounds-rest-end-2 c =
    let spans' : (1 ≤ c.in_ok-at.structs) × (c.in_ok-at.structs ≤ max_structs) × (c.in_ok-at.at ≤ length c.args.s.now) = c.in_ok-at.ensures.params_span in
    let span = spans' in
    sym (length-take-le _ _ (omega (arith, c.params.auto.counts, c.requires)))

pub slice_bounds-rest-end-3 : goal.slice_bounds-rest-end-3
slice_bounds-rest-end-3 c =
    let spans' : (1 ≤ c.in_ok-at.structs) × (c.in_ok-at.structs ≤ max_structs) × (c.in_ok-at.at ≤ length c.args.s.now) = c.in_ok-at.ensures.params_span in
    omega (arith, spans', c.params.auto.types, c.requires)

pub slice_bounds-rest-end-4 : goal.slice_bounds-rest-end-4
slice_bounds-rest-end-4 c =
    let spans' : (1 ≤ c.in_ok-at.structs) × (c.in_ok-at.structs ≤ max_structs) × (c.in_ok-at.at ≤ length c.args.s.now) = c.in_ok-at.ensures.params_span in
    let span = spans' in
    sym (length-take-le _ _ (omega (arith, c.params.auto.types, c.requires)))

pub rest-requires : goal.rest-requires
rest-requires c =
    let spans' : (1 ≤ c.in_ok-at.structs) × (c.in_ok-at.structs ≤ max_structs) × (c.in_ok-at.at ≤ length c.args.s.now) = c.in_ok-at.ensures.params_span in
    let span = spans' in let pre = c.requires in record { ar_len = (length-take-le _ _ (omega (arith, c.params.auto.counts, pre)), span.1, span.2); s_len_bound = pre.s_len_bound }

pub returns : goal.returns
returns c =
    let a = c.args in let kept = c.params.ensures.params_kept in
    let e = sym c.in_ok-at.ensures.value in record { value = c.rest.ensures.value ∙ program_read a.s.now _ _ _ _ _ _ e kept; params_kept = kept; read_listed = program_listed a.s.now _ _ _ _ _ _ _ e kept c.rest.ensures.rest_listed }
