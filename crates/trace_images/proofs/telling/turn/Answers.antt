-- `telling::turn` meets its contract: the turn is that of `trace_lines`, and its line is put on the page; a refused one has none.
use Rattle.std.proofs.Common.{arith, ◌≡◌, refl, sym, ℕ, List, take, length-take, length-take-le}
use Rattle.std.proofs.lemmas.List.{length-replicate}
use Rattle.trace_images.specs.TellingLaws.{turn_tells, turn_stops}
use Rattle.trace_images.proofs.telling.turn.Goals as goal

pub returns-then-next-ne0 : goal.returns-then-next-ne0
returns-then-next-ne0 c =
    let part' : List ℕ = c.turn-made.new.out in
    rw c.behind.ensures
    (record {
      tells = λ k. absurd (c.if-next-ne0.true k);
      stops = λ k lent p m es whole fs items st.
          turn_stops c.args.out.now c.args.s c.turn-made.result part' c.requires.takeable.turnable.held c.turn-made.ensures.cells_after st k;
      counted = λ k. absurd (c.if-next-ne0.true k);
      kept = λ k. refl;
      rest = refl;
      named = refl;
      place = refl;
      short = λ k. absurd (c.if-next-ne0.true k);
      same = λ k. refl;
    })

pub slice_bounds-put-end : goal.slice_bounds-put-end
slice_bounds-put-end c =
    sym (length-take-le _ _ (omega (arith, c.turn-made.ensures.length_le_line_most, simp length-replicate at c.turn-made.auto.out)))

pub put-page-requires : goal.put-page-requires
put-page-requires c =
    let part' : List ℕ = c.turn-made.new.out in
    omega (arith, length-take c.turn-made.result.length part', c.turn-made.ensures.length_le_line_most, c.requires.line_most_bound)

pub overflow_add-coming : goal.overflow_add-coming
overflow_add-coming c = omega (arith, c.requires.takeable.early)

pub shape_of-heads : goal.shape_of-heads
shape_of-heads c = c.turn-made.auto.heads

pub returns : goal.returns
returns c =
    let part' : List ℕ = c.turn-made.new.out in
    rw (c.behind-2.ensures, c.put-page.ensures.value)
    (record {
      tells = λ k lent p' m es whole fs items st.
          turn_tells c.args.out.now c.args.s c.turn-made.result part' c.requires.takeable.turnable.held c.turn-made.ensures.cells_after st c.put-page.new.out
          c.put-page.ensures.grows c.turn-made.ensures.turn_told k;
      stops = λ k. absurd (k c.if-next-ne0.false);
      counted = λ k. refl;
      kept = λ k. absurd (k c.if-next-ne0.false);
      rest = refl;
      named = refl;
      place = refl;
      short = λ k. omega (arith, length-take c.turn-made.result.length part', c.turn-made.ensures.length_le_line_most);
      same = λ k. absurd (k c.if-next-ne0.false);
    })
