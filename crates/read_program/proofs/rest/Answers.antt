-- `rest` meets its contract: a step is not read, or all are, with the schedule behind them.
use Rattle.std.proofs.Common.{arith, refl, ap, sym, ◌∙◌}
use Rattle.std.proofs.lemmas.Result.{err_from_is_err_and}
use Rattle.judge.specs.ProgramFacts.{no_totals}
use Rattle.read_program.specs.declared.totals.Totals.{Totals}
use Rattle.read_program.specs.OwnLaws.{led_zero}
use Rattle.read_program.specs.WholeWays.{begun, rest_stop, rest_on, listed_stop, listed_on}
use Rattle.read_program.proofs.rest.Goals as goal

pub structs-requires : goal.structs-requires
unfolding no_totals
structs-requires c =
    let pre = c.requires in let all = pre.ar_len in
    record { ar_len_bound = (omega (arith, all), pre.s_len_bound.0, all.1); low = rw c.none.ensures (omega arith, all.2, (omega (arith, pre), omega (arith, all))); led = rw c.none.ensures (led_zero 0 _ _ refl) }

pub returns-in_err-m : goal.returns-in_err-m
returns-in_err-m c =
    let a = c.args in
    let read = begun a.at a.ar.now a.types.now a.s.now _ _ _ _ _ (sym c.requires.ar_len.0) c.none.ensures c.in_err-m.ensures.told in
    let stops = sym read.0 in
    let p = err_from_is_err_and c.from_residual.result c.from_residual.ensures.1 in
    rw (p.1, p.2) (record { value = sym (rest_stop a.at a.ar.now a.types.now a.s.now _ stops); rest_listed = listed_stop a.at a.ar.now a.types.now a.s.now _ _ stops })

pub end-requires : goal.end-requires
unfolding no_totals
end-requires c = omega (arith, c.in_ok-m.ensures.bounded.2, ap (λ (t : Totals). t.steps) c.none.ensures, c.requires.ar_len.1)

pub returns : goal.returns
returns c =
    let a = c.args in
    let all = begun a.at a.ar.now a.types.now a.s.now _ _ _ _ _ (sym c.requires.ar_len.0) c.none.ensures c.in_ok-m.ensures.told in
    let pre = c.requires.ar_len.0 in
    record { value = c.end.ensures a.ar.now pre ∙ sym (rest_on a.at a.ar.now a.types.now a.s.now _ _ _ _ pre all); rest_listed = listed_on a.at a.ar.now a.types.now a.s.now _ _ _ all }
