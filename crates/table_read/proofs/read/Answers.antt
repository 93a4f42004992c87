-- `read` meets its contract: N is refused, or what stands behind it decides.
use Rattle.std.proofs.Common.{refl}
use Rattle.std.proofs.lemmas.Result.{err_from_is_err_and}
use Rattle.table_read.specs.Params.{lists_of}
use Rattle.table_read.specs.Laws.ParamsLaws.{lists_length}
use Rattle.table_read.specs.Laws.TableWays.{table_refused, table_behind}
use Rattle.table_read.proofs.read.Goals as goal

pub returns-in_err-n : goal.returns-in_err-n
returns-in_err-n c =
    let p = err_from_is_err_and c.from_residual.result c.from_residual.ensures.1 in
    let pss = lists_of c.args.p.counts.now c.args.p.types.now in
    let q = table_refused c.args.s.now pss _ (c.in_err-n.ensures.value pss (lists_length c.args.p.types.now 0 c.args.p.counts.now)) in
    record { value = rw (p.1, p.2, q) refl; table_laid = rw q tt }

pub returns : goal.returns
returns c =
    let pss = lists_of c.args.p.counts.now c.args.p.types.now in
    let q = table_behind c.args.s.now pss (λ i. (c.type_inv.s i).fits) c.in_ok-n.ensures.counted.0 c.in_ok-n.n
    (c.in_ok-n.ensures.value pss (lists_length c.args.p.types.now 0 c.args.p.counts.now)) in
    record { value = rw q c.behind.ensures.value; table_laid = rw q c.behind.ensures.table_laid }
