-- `telling::moved` meets its contract: the move is that of `trace_lines`, and its line is put on the page.
use Rattle.std.proofs.Common.{arith, refl, sym, take, length-take, length-take-le}
use Rattle.std.proofs.lemmas.List.{length-replicate}
use Rattle.trace_images.specs.TellingLaws.{move_tells}
use Rattle.trace_images.proofs.telling.moved.Goals as goal

pub advance-made-requires : goal.advance-made-requires
advance-made-requires c =
    record { movable = c.requires.moveable.movable; fixes_le_fix_levels = (c.requires.moveable.few, simp length-replicate (omega arith)); step_lt_step_names = c.requires.moveable.named }

pub slice_bounds-put-end : goal.slice_bounds-put-end
slice_bounds-put-end c =
    sym (length-take-le _ _ (omega (arith, c.advance-made.ensures.step_lt_step_names_2.1, simp length-replicate at c.advance-made.auto.out)))

pub put-page-requires : goal.put-page-requires
put-page-requires c =
    omega (arith, length-take c.advance-made.result.length c.advance-made.new.out, c.advance-made.ensures.step_lt_step_names_2.1, c.requires.line_most_bound)

pub returns : goal.returns
returns c =
    let part = c.advance-made.new.out in
    let made = c.advance-made.result in
    rw (c.behind.ensures, c.put-page.ensures.value)
    (record {
      goes = c.advance-made.ensures.by_index;
      tells = move_tells c.args.out.now c.args.s made part c.put-page.new.out c.put-page.ensures.grows c.requires.moveable c.advance-made.ensures.by_index
          c.advance-made.ensures.by_index_2;
      named = c.advance-made.ensures.step_lt_step_names_2.0;
      taken = refl;
      place = refl;
      short = omega (arith, length-take made.length part, c.advance-made.ensures.step_lt_step_names_2.1);
    })
