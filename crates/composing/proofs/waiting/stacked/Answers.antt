-- `waiting::stacked` meets its contract: one law for each mark.
use Rattle.std.proofs.Common.{ℕ, ◌≤◌, arith, refl, ap, ◌∙◌}
use Rattle.compose.specs.Writing.{opened, stackings}
use Rattle.composing.specs.Pens.{stands, Near}
use Rattle.compose.specs.Fits.{kept}
use Rattle.composing.specs.PenLaws.{near_same, near_within, near_then}
use Rattle.composing.specs.PutLaws.{picked, picked_none}
use Rattle.composing.specs.declared.Pen.{Pen}
use Rattle.composing.proofs.waiting.stacked.Goals as goal

-- as near as what a role does to what waits leaves a pen
near : {a h : ℕ} {p q : Pen} → Near a h 0 p q → a ≤ 1 → h ≤ 1 → Near 1 1 0 p q
near x c d = near_within 1 1 0 x c d (omega arith)

pub returns-in-1 : goal.returns-in-1
unfolding stackings
returns-in-1 c =
    record {
      by_index = λ n. picked kept (stackings _) _ c.in-1.is (c.more.ensures.by_index _ n);
      near = near c.more.ensures.near (omega arith) (omega arith);
    }

pub returns-in-2 : goal.returns-in-2
unfolding stackings
returns-in-2 c =
    record {
      by_index = λ n. picked kept (stackings _) _ c.in-2.is (c.more-in-2.ensures.by_index _ n);
      near = near c.more-in-2.ensures.near (omega arith) (omega arith);
    }

pub returns-in-3 : goal.returns-in-3
unfolding stackings
returns-in-3 c =
    record {
      by_index = λ n. picked kept (stackings _) _ c.in-3.is (ap kept (c.opened.ensures.by_index _ n));
      near = near c.opened.ensures.place_value.1 (omega arith) (omega arith);
    }

pub returns-in-4 : goal.returns-in-4
unfolding stackings
returns-in-4 c =
    record {
      by_index = λ n. picked kept (stackings _) _ c.in-4.is (ap kept (c.counted.ensures.by_index n));
      near = near c.counted.ensures.height_le_height.1 (omega arith) (omega arith);
    }

pub returns-in-5 : goal.returns-in-5
unfolding stackings
returns-in-5 c =
    record {
      by_index = λ n. picked kept (stackings _) _ c.in-5.is (ap kept (c.opened-in-5.ensures.by_index _ n));
      near = near c.opened-in-5.ensures.place_value.1 (omega arith) (omega arith);
    }

pub returns-in-6 : goal.returns-in-6
unfolding stackings
returns-in-6 c =
    record {
      by_index = λ n. picked kept (stackings _) _ c.in-6.is (ap kept (c.opened-in-6.ensures.by_index _ n ∙ ap (opened 0)
          (c.counted-q.ensures.by_index n)));
      near = near_then 1 1 0 c.counted-q.ensures.height_le_height.1 c.opened-in-6.ensures.place_value.1 (omega arith) (omega arith) (omega arith);
    }

pub returns-in_default : goal.returns-in_default
unfolding stackings
returns-in_default c =
    let args = c.args in
    record {
      by_index = λ n. ap kept (picked_none (stackings args.o) args.mark (stands args.out.now args.stack.now n args.p) refl
          (λ l. omega arith));
      near = near (near_same args.p) (omega arith) (omega arith);
    }
