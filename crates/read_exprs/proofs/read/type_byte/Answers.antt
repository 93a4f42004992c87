-- `read::type_byte` meets its contract: the byte is not read, is no type, or is one.
use Rattle.std.proofs.Common.{arith, sym, ◌∙◌}
use Rattle.std.proofs.lemmas.Result.{err_from_is_err_and}
use Rattle.types.specs.TypeBytes.{is_type}
use Rattle.read_exprs.specs.ByteWays.{tested_stop, tested_pass, tested_fail, type_below}
use Rattle.read_exprs.proofs.read.type_byte.Goals as goal

pub returns-in_err-b : goal.returns-in_err-b
returns-in_err-b c =
    let a = c.args in
    let p = err_from_is_err_and c.from_residual.result c.from_residual.ensures.1 in
    rw (p.1, p.2) (record { value = sym (tested_stop a.s.now a.at (is_type a.n) _ (sym c.in_err-b.ensures.value)); byte_span = tt })

pub returns-then-not-is_type : goal.returns-then-not-is_type
returns-then-not-is_type c =
    let a = c.args in
    record { value = sym (tested_fail a.s.now a.at (is_type a.n) _ _ (sym c.in_ok-b.ensures.value) (sym c.is_type.ensures ∙ c.if-not-is_type.true)); byte_span = tt }

pub returns : goal.returns
returns c =
    let a = c.args in
    let f = sym c.is_type.ensures ∙ c.if-not-is_type.false in
    let below = type_below a.n _ f in
    let span = c.in_ok-b.ensures.byte_span in
    record { value = sym (tested_pass a.s.now a.at (is_type a.n) _ _ (sym c.in_ok-b.ensures.value) f); byte_span = omega arith }
