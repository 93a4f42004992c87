-- `begin::begin_all` meets its contract. The loop's invariant: what is left to do with the heads as they are comes to what there was to do
-- at first. The measure is how many instances are left.
use Rattle.std.proofs.Common.{◌-◌, ◌≡◌, refl, sym, ap, ◌∙◌, arith}
use Rattle.memory.specs.Move.{begin_all}
use Rattle.memory.proofs.Laws.BeginLaws.{one_length}
use Rattle.scheduler.specs.BeginWays.{row_of, one_rows, all_done, all_next}
use Rattle.scheduler.proofs.begin.begin_all.Goals as goal

pub loop-l-init : goal.loop-l-init
loop-l-init c =
    let args = c.args in
    let z : args.n - 0 ≡ args.n = omega arith in
    (omega arith, refl, c.requires.rows, ap (begin_all args.spans.now args.c args.heads.now 0) z)

pub begin_one-requires : goal.begin_one-requires
begin_one-requires c =
    record { spans_size_in_bounds = c.requires.spans_size_in_bounds; row = row_of c.loop-l.invariant.2 c.loop-l-test.true }

pub loop-l-preserved : goal.loop-l-preserved
loop-l-preserved c =
    let args = c.args in let s = args.spans.now in (
      omega arith,
      rw c.begin_one.ensures
          (one_length s args.c c.loop-l.heads c.loop-l.l ∙ c.loop-l.invariant.1),
      rw c.begin_one.ensures
          (one_rows s args.c c.loop-l.heads c.loop-l.l c.loop-l.invariant.2),
      rw c.begin_one.ensures (sym (all_next s args.c c.loop-l.heads args.n c.loop-l.l
          c.loop-l-test.true) ∙ c.loop-l.invariant.3),
    )

pub shape_of-heads : goal.shape_of-heads
shape_of-heads c = c.loop-l.invariant.1

pub returns : goal.returns
returns c =
    let args = c.args in
    sym (all_done args.spans.now args.c c.loop-l.heads args.n c.loop-l.l c.loop-l-test.false) ∙ c.loop-l.invariant.3
