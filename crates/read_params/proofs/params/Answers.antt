-- `params` meets its contract.
use Rattle.std.proofs.Common.{arith, ap, sym, ◌∙◌, [], ◌∷◌}
use Rattle.std.proofs.lemmas.Result.{err_from_is_err_and}
use Rattle.program.specs.Reader.{many}
use Rattle.read_params.specs.ParamsTold.{read_list, params_told}
use Rattle.read_params.specs.ParamsWays.{place_stops, params_stop, params_more, params_value, kept_params}
use Rattle.read_params.proofs.params.Goals as goal

pub returns-in_err-n : goal.returns-in_err-n
returns-in_err-n c =
    let a = c.args in
    let p = err_from_is_err_and c.from_residual.result c.from_residual.ensures.1 in
    let q = params_stop a.s.now 0 0 _ (sym c.in_err-n.ensures.value) in
    rw (p.1, p.2) (record { value = sym (ap params_told q.1); params_span = tt; params_kept = rw q.1 tt })

pub lists-requires : goal.lists-requires
lists-requires c = omega (arith, c.in_ok-n.ensures.byte_span, c.requires)

pub returns-in_err-next : goal.returns-in_err-next
returns-in_err-next c =
    let a = c.args in
    let lists = many [] ◌∷◌ (read_list a.s.now c.in_ok-n.n) c.in_ok-n.n c.in_ok-n.m in
    let p = err_from_is_err_and c.from_residual-in_err-next.result c.from_residual-in_err-next.ensures.1 in
    let q = place_stops lists _ (sym (rw c.from.ensures at c.in_err-next.ensures.value)) in
    let h = params_more a.s.now c.in_ok-n.n 0 _ (sym c.in_ok-n.ensures.value) ∙ q.1 in
    rw (p.1, p.2) (record { value = sym (ap params_told h); params_span = tt; params_kept = rw h tt })

pub returns : goal.returns
returns c =
    let a = c.args in
    let n = c.in_ok-n.n in
    let m = c.in_ok-n.m in
    let span = c.in_ok-n.ensures.byte_span in
    let next = c.in_ok-next.ensures.place_span in
    let h = params_more a.s.now n 0 _ (sym c.in_ok-n.ensures.value) in
    let value = params_value (read_list a.s.now n) n m _ (sym (rw c.from.ensures at c.in_ok-next.ensures.value)) in
    let kept = kept_params (read_list a.s.now n) n m a.counts.now c.lists.new.counts a.types.now c.lists.new.types
    (omega (arith, c.requires)) (omega (arith, c.requires)) (rw c.from.ensures at c.in_ok-next.ensures.lists_kept) in
    record { value = sym (ap params_told h ∙ value); params_span = omega arith; params_kept = rw h kept }
