-- `telling::settle` meets its contract. The loop's invariant: the text is told as far as memory has moved, whichever machine it held, with a line at most
-- for each move. The measure is the moves that are left.
use Rattle.std.proofs.Common.{ap, not, arith, ◌+◌, ◌*◌, ◌<◌, ◌≤◌, ◌≡◌, refl, ◌∙◌, length}
use Rattle.types.specs.Limits.{fix_levels}
use Rattle.trace_lines.specs.Parts.{line_most}
use Rattle.trace_images.specs.Telling.{items_most}
use Rattle.trace_images.specs.TellingLaws.{nobody_holds, somebody_holds}
use Rattle.trace_images.specs.SettlingWays.{left_at, silent_none, silent_more}
use Rattle.trace_images.specs.SettlingWays.{settling_within, settling_moveable, settling_less, settling_most, settling_some}
use Rattle.trace_images.proofs.telling.settle.Goals as goal

pub loop-place-init : goal.loop-place-init
loop-place-init c = (refl, refl, silent_none _ _ _, c.requires.standing.1, refl, refl, omega arith)

pub offset_bounds-items-place : goal.offset_bounds-items-place
offset_bounds-items-place c =
    let within' : c.loop-place.next.coming.machine.numbers.place < length c.args.items.now = settling_within c.args.s c.args.heads.now c.args.out.now c.requires.standing.0 c.loop-place.next c.loop-place.heads c.loop-place.out c.loop-place.invariant.2 in
    omega (arith, within')

pub bounds-items-place : goal.bounds-items-place
bounds-items-place c =
    let within' : c.loop-place.next.coming.machine.numbers.place < length c.args.items.now = settling_within c.args.s c.args.heads.now c.args.out.now c.requires.standing.0 c.loop-place.next c.loop-place.heads c.loop-place.out c.loop-place.invariant.2 in
    within'

pub returns-then-items-place-eq-END : goal.returns-then-items-place-eq-END
returns-then-items-place-eq-END c =
    let most' : left_at c.args.items.now c.args.s ≤ (fix_levels + 1) * items_most = settling_most c.args.s c.args.heads.now c.args.out.now c.requires.standing.0 c.requires.len_bound.0 in
    let i = c.loop-place.invariant in
    record { tells = i.2; still = λ e. c.if-items-place-eq-END.true; named = i.3; taken = i.4; place = i.5; short = omega (arith, i.6, most') }

pub moved-next-requires : goal.moved-next-requires
moved-next-requires c =
    let most' : left_at c.args.items.now c.args.s ≤ (fix_levels + 1) * items_most = settling_most c.args.s c.args.heads.now c.args.out.now c.requires.standing.0 c.requires.len_bound.0 in
    let i = c.loop-place.invariant in record { moveable = settling_moveable c.args.s c.args.heads.now c.args.out.now c.requires.standing.0 c.loop-place.next c.loop-place.heads c.loop-place.out i.2 c.if-items-place-eq-END.false (nobody_holds c.loop-place.next.coming.machine.numbers c.due.ensures (ap not c.loop-place-test.true)) i.3; line_most_bound = omega (arith, i.6, most', c.requires.len_bound.1, settling_some c.args.s c.args.heads.now c.args.out.now c.requires.standing.0 c.loop-place.next c.loop-place.heads c.loop-place.out i.2) }

pub loop-place-smaller : goal.loop-place-smaller
loop-place-smaller c =
    settling_less c.args.s c.args.heads.now c.args.out.now c.requires.standing.0 c.loop-place.next c.loop-place.heads c.loop-place.out c.loop-place.invariant.2
    c.if-items-place-eq-END.false c.moved-next.result c.moved-next.new.heads c.moved-next.ensures.goes

pub loop-place-preserved : goal.loop-place-preserved
loop-place-preserved c =
    let i = c.loop-place.invariant in
    let r = c.moved-next.ensures in (
      c.moved-next.auto.heads ∙ i.0,
      c.moved-next.auto.out ∙ i.1,
      silent_more i.2 r.tells,
      r.named,
      r.taken ∙ i.4,
      r.place ∙ i.5,
      omega (arith, r.short, i.6, (settling_less c.args.s c.args.heads.now c.args.out.now c.requires.standing.0 c.loop-place.next c.loop-place.heads c.loop-place.out c.loop-place.invariant.2 c.if-items-place-eq-END.false c.moved-next.result c.moved-next.new.heads c.moved-next.ensures.goes)),
    )

pub returns : goal.returns
returns c =
    let most' : left_at c.args.items.now c.args.s ≤ (fix_levels + 1) * items_most = settling_most c.args.s c.args.heads.now c.args.out.now c.requires.standing.0 c.requires.len_bound.0 in
    let i = c.loop-place.invariant in
    record {
      tells = i.2;
      still = λ e. absurd (omega (arith, e, somebody_holds c.loop-place.next.coming.machine.numbers c.due.ensures (ap not c.loop-place-test.false)));
      named = i.3;
      taken = i.4;
      place = i.5;
      short = omega (arith, i.6, most');
    }
