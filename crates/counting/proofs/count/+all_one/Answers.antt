use Rattle.std.proofs.Common.{ℕ, ◌<◌, ◌≡◌, true, false, List, length, refl, sym, ap, subst, ◌∙◌, arith}
use Rattle.types.specs.Limits.{max_instances}
use Rattle.layout.specs.Layout.{holds}
use Rattle.layout.specs.State.{State, state_of}
use Rattle.counts.specs.Tally.{Kind.ends, Kind.stops}
use Rattle.counting.specs.Framed.{restored_heads, restored_cells}
use Rattle.counting.specs.Counting.{count_of, Follows}
use Rattle.counting.specs.Laws.StoodLaws.{asked_within, rest_told}
use Rattle.counting.specs.Laws.SumLaws.{sums_first, sums_more, sums_fit, sums_last}
use Rattle.counting.specs.Laws.OneLaws.{saves_sized, follows_same, row_below, fresh_low, idle_follows, one_fits, one_counted, after_heads_long, after_cells_long}
use Rattle.counting.specs.Laws.OneLaws.{put_back, stop_untouched, stop_follows, next_fewer, next_countable, next_follows}
use Rattle.counting.proofs.count.+all_one.Goals as goal

-- All sequences --------------------------------------------------------------------

pub all-resting-requires : goal.all-resting-requires
all-resting-requires t c = asked_within c.requires.stood

pub all-returns-then-machine-eq0-clause-tallies : goal.all-returns-then-machine-eq0-clause-tallies
all-returns-then-machine-eq0-clause-tallies t c = λ p m s κ. ap (count_of κ) c.resting.ensures ∙ rest_told s c.if-machine-eq0.true κ

pub all-loop-h-init : goal.all-loop-h-init
all-loop-h-init t c =
    let z : State = state_of c.args.machine.numbers c.args.heads.now c.args.cells.now in
    (omega arith, refl, refl, refl, rw c.nothing-sum.ensures (sums_first _ _ _ z c.if-machine-eq0.false))

pub all-add-sum-requires : goal.all-add-sum-requires
all-add-sum-requires t c =
    let z : State = state_of c.args.machine.numbers c.args.heads.now c.args.cells.now in
    let inv = c.loop-h.invariant in
    let more : Follows c.args.counts.now c.args.list.now c.args.a c.loop-h.h z c.one-more.result =
    follows_same _ _ _ _ _ _ inv.2 inv.3 c.one-more.ensures.follows in
    let fit = sums_fit _ _ _ z c.loop-h.h (omega (arith, inv.1)) c.loop-h.sum inv.4 c.one-more.result more c.requires in
    (fit (ends true), fit (ends false), fit stops)

pub all-loop-h-preserved : goal.all-loop-h-preserved
all-loop-h-preserved t c =
    let z : State = state_of c.args.machine.numbers c.args.heads.now c.args.cells.now in
    let inv = c.loop-h.invariant in
    let more : Follows c.args.counts.now c.args.list.now c.args.a c.loop-h.h z c.one-more.result =
    follows_same _ _ _ _ _ _ inv.2 inv.3 c.one-more.ensures.follows in (
      omega arith,
      inv.1,
      c.one-more.ensures.heads_unchanged.0 ∙ inv.2,
      c.one-more.ensures.heads_unchanged.1 ∙ inv.3,
      rw c.add-sum.ensures (sums_more _ _ _ z c.loop-h.h (omega (arith, inv.1)) c.loop-h.sum inv.4 c.one-more.result more),
    )

pub all-returns-clause-tallies : goal.all-returns-clause-tallies
all-returns-clause-tallies t c =
    let z : State = state_of c.args.machine.numbers c.args.heads.now c.args.cells.now in
    let inv = c.loop-h.invariant in
    sums_last _ _ _ z c.loop-h.h (omega (arith, inv.1, c.loop-h-test.false)) c.loop-h.sum inv.4

-- Those of one label ---------------------------------------------------------------

pub one-returns-then-not-holds-clause-follows : goal.one-returns-then-not-holds-clause-follows
one-returns-then-not-holds-clause-follows t c =
    let z : State = state_of c.args.machine.numbers c.args.heads.now c.args.cells.now in
    rw c.nothing.ensures
    (idle_follows z c.requires.countable c.args.h c.requires.h_lt_count (sym c.holds.ensures ∙ c.if-not-holds.true))

pub one-save-saved-requires : goal.one-save-saved-requires
one-save-saved-requires t c =
    let z : State = state_of c.args.machine.numbers c.args.heads.now c.args.cells.now in
    let busy : holds c.args.heads.now c.args.h ≡ true = sym c.holds.ensures ∙ c.if-not-holds.false in (
      (c.args.counts.now, c.args.machine.numbers, one_fits z c.requires.countable c.args.h c.requires.h_lt_count busy),
      rw c.fresh_row-f.ensures (fresh_low z c.requires.countable c.args.h c.requires.h_lt_count),
    )

pub one-command-next-requires-clause-fit : goal.one-command-next-requires-clause-fit
one-command-next-requires-clause-fit t c =
    let z : State = state_of c.args.machine.numbers c.args.heads.now c.args.cells.now in
    one_fits z c.requires.countable c.args.h c.requires.h_lt_count (sym c.holds.ensures ∙ c.if-not-holds.false)

pub one-command-next-requires-clause-holding_nonzero : goal.one-command-next-requires-clause-holding_nonzero
one-command-next-requires-clause-holding_nonzero t c =
    let z : State = state_of c.args.machine.numbers c.args.heads.now c.args.cells.now in
    one_counted z c.requires.countable c.args.h c.requires.h_lt_count (sym c.holds.ensures ∙ c.if-not-holds.false)

pub one-returns-then-next-ne0-clause-follows : goal.one-returns-then-next-ne0-clause-follows
one-returns-then-next-ne0-clause-follows t c =
    let z : State = state_of c.args.machine.numbers c.args.heads.now c.args.cells.now in
    let y : State = state_of c.command-next.result.numbers c.command-next.new.heads c.command-next.new.cells in
    stop_follows z c.requires.countable c.args.h c.requires.h_lt_count (sym c.holds.ensures ∙ c.if-not-holds.false) y c.command-next.ensures
    c.if-next-ne0.true

pub one-returns-then-next-ne0-clause-heads_unchanged : goal.one-returns-then-next-ne0-clause-heads_unchanged
one-returns-then-next-ne0-clause-heads_unchanged t c =
    let z : State = state_of c.args.machine.numbers c.args.heads.now c.args.cells.now in
    let y : State = state_of c.command-next.result.numbers c.command-next.new.heads c.command-next.new.cells in
    stop_untouched z c.requires.countable c.args.h c.requires.h_lt_count (sym c.holds.ensures ∙ c.if-not-holds.false) y c.command-next.ensures
    c.if-next-ne0.true

pub one-all-r-requires : goal.one-all-r-requires
one-all-r-requires t c =
    let z : State = state_of c.args.machine.numbers c.args.heads.now c.args.cells.now in
    let y : State = state_of c.command-next.result.numbers c.command-next.new.heads c.command-next.new.cells in
    let busy : holds c.args.heads.now c.args.h ≡ true = sym c.holds.ensures ∙ c.if-not-holds.false in
    let fewer = next_fewer z c.requires.countable c.args.h c.requires.h_lt_count busy y c.command-next.ensures c.if-next-ne0.false in (
      omega (arith, fewer, c.decreases),
      next_countable z c.requires.countable c.args.h c.requires.h_lt_count busy y c.command-next.ensures c.if-next-ne0.false,
    )

pub one-restore-requires : goal.one-restore-requires
one-restore-requires t c =
    let z : State = state_of c.args.machine.numbers c.args.heads.now c.args.cells.now in
    let y : State = state_of c.command-next.result.numbers c.command-next.new.heads c.command-next.new.cells in
    let busy : holds c.args.heads.now c.args.h ≡ true = sym c.holds.ensures ∙ c.if-not-holds.false in
    let low = row_below z c.requires.countable c.args.h c.requires.h_lt_count in
    let fresh : c.fresh_row-f.result < max_instances =
    rw c.fresh_row-f.ensures (fresh_low z c.requires.countable c.args.h c.requires.h_lt_count) in
    let st = c.requires.countable.stood.stands in
    let hl = after_heads_long z c.requires.countable c.args.h c.requires.h_lt_count busy y c.command-next.ensures in
    let cl = after_cells_long z c.requires.countable c.args.h c.requires.h_lt_count busy y c.command-next.ensures in
    record {
      l_lt_max_instances = (
        low,
        fresh,
        omega (arith, c.save-saved.ensures.1, st.cells_long, cl, c.all-r.auto.cells),
        saves_sized _ _ _ _ _ _ c.save-saved.ensures.0 low fresh st.heads_long st.cells_long,
      );
      heads_len = (c.all-r.auto.heads ∙ hl, c.all-r.auto.cells ∙ cl);
    }

pub one-returns-clause-follows : goal.one-returns-clause-follows
one-returns-clause-follows t c =
    let z : State = state_of c.args.machine.numbers c.args.heads.now c.args.cells.now in
    let y : State = state_of c.command-next.result.numbers c.command-next.new.heads c.command-next.new.cells in
    let busy : holds c.args.heads.now c.args.h ≡ true = sym c.holds.ensures ∙ c.if-not-holds.false in
    next_follows z c.requires.countable c.args.h c.requires.h_lt_count busy y c.command-next.ensures c.if-next-ne0.false c.all-r.ensures.tallies

pub one-returns-clause-heads_unchanged : goal.one-returns-clause-heads_unchanged
one-returns-clause-heads_unchanged t c =
    let z : State = state_of c.args.machine.numbers c.args.heads.now c.args.cells.now in
    let y : State = state_of c.command-next.result.numbers c.command-next.new.heads c.command-next.new.cells in
    let busy : holds c.args.heads.now c.args.h ≡ true = sym c.holds.ensures ∙ c.if-not-holds.false in
    let f = c.fresh_row-f.result in let saved = c.save-saved.result in
    let back =
    put_back z c.requires.countable c.args.h c.requires.h_lt_count busy y c.command-next.ensures c.fresh_row-f.ensures c.save-saved.ensures.0
    (subst (λ (n : ℕ). n < length c.args.cells.now) c.save-saved.ensures.0.at c.save-saved.ensures.1) in (
      c.restore.ensures.0 ∙ ap (λ (x : List ℕ). restored_heads x c.args.h f saved) c.all-r.ensures.heads_unchanged.0 ∙ back.0,
      c.restore.ensures.1 ∙ ap (λ (x : List ℕ). restored_cells x c.args.h f saved) c.all-r.ensures.heads_unchanged.1 ∙ back.1,
    )
