-- `passes` meets its contract: 15, 16, or on behind the derivation of the text.
use Rattle.std.specs.Prelude.{not}
use Rattle.std.proofs.Common.{arith, refl, ap, ◌∙◌}
use Rattle.read_text.specs.PassLaws.{way_15, way_16, roled_there, way_on}
use Rattle.read_text.proofs.passes.Goals as goal

pub returns-then-not-mark : goal.returns-then-not-mark
returns-then-not-mark c =
    let args = c.args in let r = c.mark in
    let both = way_15 args.text.now args.kinds.now _ c.requires.kinds_len.0 r.result r.ensures.value r.ensures.kinds_after args.out.now
    (ap not c.if-not-mark.true) _ refl in
    record {
      value = both.0;
      out_after = both.1;
    }

pub returns-then-not-derived : goal.returns-then-not-derived
returns-then-not-derived c =
    let d = c.derived in let args = c.args in let r = c.mark in
    let both = way_16 args.text.now args.kinds.now _ c.requires.kinds_len.0 r.result r.ensures.value r.ensures.kinds_after args.out.now
    (ap not c.if-not-mark.false) _ d.result d.ensures.value d.ensures.kinds_after (ap not c.if-not-derived.true) _
    refl in
    record {
      value = both.0;
      out_after = both.1;
    }

pub meant-requires : goal.meant-requires
meant-requires c =
    let d = c.derived in
    let args = c.args in
    let r = c.mark in
    record {
      roles_len = (
        d.auto.kinds ∙ r.auto.kinds ∙ c.requires.kinds_len.0,
        c.requires.kinds_len.1,
        omega
            (arith, c.requires.kinds_len.0, c.requires.kinds_len.2, r.auto.kinds, d.auto.kinds, d.auto.stack),
      );
      roled = roled_there args.text.now args.kinds.now _ c.requires.kinds_len.0 r.result r.ensures.value r.ensures.kinds_after args.out.now
          (ap not c.if-not-mark.false) _ d.result d.ensures.value d.ensures.kinds_after (ap not c.if-not-derived.false);
    }

pub returns : goal.returns
returns c =
    let d = c.derived in let args = c.args in let r = c.mark in
    let both = way_on args.text.now args.kinds.now _ c.requires.kinds_len.0 r.result r.ensures.value r.ensures.kinds_after args.out.now
    (ap not c.if-not-mark.false) _ d.result d.ensures.value d.ensures.kinds_after (ap not c.if-not-derived.false) _ _
    (c.meant.ensures.value, c.meant.ensures.out_after) in
    record {
      value = both.0;
      out_after = both.1;
    }
