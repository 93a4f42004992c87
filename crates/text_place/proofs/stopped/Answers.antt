-- `stopped` meets its contract: marking stops, no derivation goes on, or names are looked through.
use Rattle.std.specs.Prelude.{not}
use Rattle.std.proofs.Common.{arith, ap, ◌∙◌}
use Rattle.text_place.specs.PlaceLaws.{stray_place, stuck_place, fronted_there, names_place}
use Rattle.text_place.proofs.stopped.Goals as goal

pub returns-then-not-mark : goal.returns-then-not-mark
returns-then-not-mark c =
    let args = c.args in let r = c.mark in
    stray_place args.text.now args.kinds.now _ c.requires.kinds_len.1 c.requires.kinds_len.0 r.result r.ensures.value r.ensures.kinds_after
    (ap not c.if-not-mark.true)
    c.unmarked.result c.unmarked.ensures

pub returns-then-not-derived : goal.returns-then-not-derived
returns-then-not-derived c =
    let d = c.derived in let args = c.args in let r = c.mark in
    stuck_place args.text.now args.kinds.now _ c.requires.kinds_len.1 c.requires.kinds_len.0 r.result r.ensures.value r.ensures.kinds_after
    (ap not c.if-not-mark.false) _ d.result
    d.ensures.value d.ensures.kinds_after (ap not c.if-not-derived.true) c.stuck-p.result c.stuck-p.ensures

pub unnamed-requires : goal.unnamed-requires
unnamed-requires c =
    let d = c.derived in
    let args = c.args in
    let r = c.mark in
    record {
      roles_len = (
        d.auto.kinds ∙ r.auto.kinds ∙ c.requires.kinds_len.0,
        c.requires.kinds_len.1,
        omega
            (arith, c.requires.kinds_len.2, r.auto.kinds, c.stuck-p.auto.stack, d.auto.kinds, d.auto.stack),
      );
      fronted = fronted_there args.text.now args.kinds.now _ c.requires.kinds_len.1 c.requires.kinds_len.0 r.result r.ensures.value
          r.ensures.kinds_after (ap not c.if-not-mark.false) _ d.result d.ensures.value d.ensures.kinds_after (ap not c.if-not-derived.false);
    }

pub returns : goal.returns
returns c =
    let d = c.derived in
    let args = c.args in let r = c.mark in
    names_place args.text.now args.kinds.now _ c.requires.kinds_len.1 c.requires.kinds_len.0 r.result r.ensures.value r.ensures.kinds_after
    (ap not c.if-not-mark.false) _ d.result
    d.ensures.value d.ensures.kinds_after (ap not c.if-not-derived.false) (d.auto.kinds ∙ r.auto.kinds ∙ c.requires.kinds_len.0) c.unnamed.result
    c.unnamed.ensures
