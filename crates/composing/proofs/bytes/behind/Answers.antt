-- `bytes::behind` meets its contract: one law for each mark.
use Rattle.std.proofs.Common.{ℕ, ◌≤◌, arith, refl, ap, ◌∙◌}
use Rattle.compose.specs.Writing.{lengthened, pathed, behinds}
use Rattle.composing.specs.Pens.{stands, Near}
use Rattle.compose.specs.Fits.{kept}
use Rattle.composing.specs.PenLaws.{near_same, near_within, near_then}
use Rattle.composing.specs.PutLaws.{picked, picked_none}
use Rattle.composing.specs.declared.Pen.{Pen}
use Rattle.composing.proofs.bytes.behind.Goals as goal

-- as near as what stands behind a form's byte leaves a pen
near : {a l : ℕ} {p q : Pen} → Near a 0 l p q → a ≤ 4 → l ≤ 1 → Near 4 0 1 p q
near x c d = near_within 4 0 1 x c (omega arith) d

pub returns-in-1 : goal.returns-in-1
unfolding behinds
returns-in-1 c =
    record {
      by_index = λ w. picked kept (behinds _) _ c.in-1.is (ap kept (c.numbered.ensures.by_index w));
      near = near c.numbered.ensures.later_value.1 (omega arith) (omega arith);
    }

pub returns-in-2 : goal.returns-in-2
unfolding behinds
returns-in-2 c =
    record {
      by_index = λ w. picked kept (behinds _) _ c.in-2.is (ap kept (c.lengthened.ensures.by_index _ w _ ∙ ap lengthened
          (c.numbered-in-2.ensures.by_index w)));
      near = near_then 4 0 1 c.numbered-in-2.ensures.later_value.1 c.lengthened.ensures.place_value.1 (omega arith) (omega arith) (omega arith);
    }

pub returns-in-3 : goal.returns-in-3
unfolding behinds
returns-in-3 c =
    record {
      by_index = λ w. picked kept (behinds _) _ c.in-3.is (c.pathed.ensures.by_index w _ ∙ ap (λ y. kept (pathed y)) (c.numbered-q.ensures.by_index w));
      near = near_then 4 0 1 c.numbered-q.ensures.later_value.1 c.pathed.ensures.near (omega arith) (omega arith) (omega arith);
    }

pub returns-in-4 : goal.returns-in-4
unfolding behinds
returns-in-4 c =
    record {
      by_index = λ w. picked kept (behinds _) _ c.in-4.is (ap kept (c.worded.ensures.by_index w _));
      near = near c.worded.ensures.near (omega arith) (omega arith);
    }

pub returns-in-5 : goal.returns-in-5
unfolding behinds
returns-in-5 c =
    record {
      by_index = λ w. picked kept (behinds _) _ c.in-5.is (ap kept (c.wrote.ensures.by_index w _));
      near = near c.wrote.ensures.place_value.1 (omega arith) (omega arith);
    }

pub returns-in-6 : goal.returns-in-6
unfolding behinds
returns-in-6 c =
    record {
      by_index = λ w. picked kept (behinds _) _ c.in-6.is (ap kept (c.wrote-in-6.ensures.by_index w _));
      near = near c.wrote-in-6.ensures.place_value.1 (omega arith) (omega arith);
    }

pub returns-in_default : goal.returns-in_default
unfolding behinds
returns-in_default c =
    let args = c.args in
    record {
      by_index = λ w. ap kept (picked_none (behinds args.v) args.mark (stands args.out.now w args.numbers.now args.p) refl
          (λ l. omega arith));
      near = near (near_same args.p) (omega arith) (omega arith);
    }
