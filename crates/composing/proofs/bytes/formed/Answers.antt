-- `bytes::formed` meets its contract: 0 is no form.
use Rattle.std.proofs.Common.{arith, ◌∙◌}
use Rattle.composing.specs.Pens.{stands}
use Rattle.composing.specs.PenLaws.{near_same, near_within, formed_none, formed_some}
use Rattle.composing.proofs.bytes.formed.Goals as goal

pub returns-then-b-eq0 : goal.returns-then-b-eq0
returns-then-b-eq0 c =
    let args = c.args in
    record {
      by_index = λ w n. formed_none args.b (stands args.out.now w n args.p) c.if-b-eq0.true;
      near = near_within 1 0 0 (near_same args.p) (omega arith) (omega arith) (omega arith);
    }

pub returns-else-b-eq0 : goal.returns-else-b-eq0
returns-else-b-eq0 c =
    let args = c.args in
    record {
      by_index = λ w n. c.wrote.ensures.by_index w n ∙ formed_some args.b (stands args.out.now w n args.p) c.if-b-eq0.false;
      near = c.wrote.ensures.place_value.1;
    }
