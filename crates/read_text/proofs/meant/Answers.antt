-- `meant` meets its contract: 17 for names or declarations, 17 for counts or bytes, or a stream that is written.
use Rattle.std.proofs.Common.{ℕ, arith, refl, ◌≡◌, sym, ◌∙◌, length, length-take-le}
use Rattle.std.proofs.lemmas.List.{length-replicate}
use Rattle.uses.specs.Laws.DeclaringLaws.{roles_fronted}
use Rattle.read_text.specs.MeantLaws.{unnamed_ends, rows_there, count_told, over_ends, at_ends, ok_or_some, ok_or_none, none_refused, same_refused, stream_long, inside}
use Rattle.composing.specs.Sizes.{output_size}
use Rattle.uses.specs.Layout.{table_size}
use Rattle.read_text.proofs.meant.Goals as goal

pub numbers-requires : goal.numbers-requires
numbers-requires c =
    let args = c.args in
    let pre = c.requires.roles_len in
    let r = c.requires.roled in
    record {
      roles_len = (pre.0, pre.2);
      roles_in_bounds = (simp length-replicate (omega (arith, pre.0, pre.1)), length-replicate {A = ℕ} table_size 0);
      fronted = roles_fronted r.derivation r.stands;
    }

pub returns-in_err-n : goal.returns-in_err-n
returns-in_err-n c =
    let args = c.args in
    let both = unnamed_ends args.text.now args.roles.now args.out.now _ c.numbers.result c.numbers.ensures.result_after _ c.in_err-n.was _
    (none_refused _ c.from_residual.ensures.1) in
    record {
      value = both.0;
      out_after = both.1;
    }

pub slice_bounds-numbers-end-3 : goal.slice_bounds-numbers-end-3
slice_bounds-numbers-end-3 c =
    let args = c.args in
    let r = c.numbers in
    (count_told args.text.now args.roles.now args.out.now _ r.result r.ensures.result_after _ c.in_ok-n.was r.ensures.counted).0

pub slice_bounds-composed-end : goal.slice_bounds-composed-end
slice_bounds-composed-end c =
    let args = c.args in
    let r = c.numbers in
    let few = (count_told args.text.now args.roles.now args.out.now _ r.result r.ensures.result_after _ c.in_ok-n.was r.ensures.counted).0 in
    sym (length-take-le _ _ few)

pub composed-placed-requires : goal.composed-placed-requires
composed-placed-requires c =
    let args = c.args in
    let pre = c.requires.roles_len in
    let r = c.numbers in
    record {
      roles_in_bounds = (omega (arith, pre.0), omega (arith, pre.2, r.auto.stack), length-replicate {A = ℕ} output_size 0);
      roled = (
        c.requires.roled,
        (count_told args.text.now args.roles.now args.out.now _ r.result r.ensures.result_after _ c.in_ok-n.was
            r.ensures.counted).1,
      );
      rows = rows_there args.text.now args.roles.now args.out.now _ r.result r.ensures.result_after _ c.in_ok-n.was c.requires.roled;
    }

pub returns-in_err-p : goal.returns-in_err-p
returns-in_err-p c =
    let args = c.args in
    let r = c.numbers in
    let few = (count_told args.text.now args.roles.now args.out.now _ r.result r.ensures.result_after _ c.in_ok-n.was r.ensures.counted).0 in
    let both = over_ends args.text.now args.roles.now args.out.now _ r.result r.ensures.result_after _ c.in_ok-n.was
    few _ c.composed-placed.result c.composed-placed.ensures (ok_or_none _ _ _ c.ok_or.ensures.value c.in_err-p.was).0 _
    (same_refused _ (ok_or_none _ _ _ c.ok_or.ensures.value c.in_err-p.was).1 c.from_residual-in_err-p.ensures.1) in
    record {
      value = both.0;
      out_after = both.1;
    }

pub slice_bounds-imaged-count : goal.slice_bounds-imaged-count
slice_bounds-imaged-count c =
    let same : length c.composed-placed.new.stream ≡ output_size = c.composed-placed.auto.stream ∙ length-replicate {A = ℕ} output_size 0 in
    let args = c.args in
    let r = c.numbers in
    let few = (count_told args.text.now args.roles.now args.out.now _ r.result r.ensures.result_after _ c.in_ok-n.was r.ensures.counted).0 in
    let low = inside args.text.now args.roles.now args.out.now _ r.result r.ensures.result_after _ c.in_ok-n.was few
    _ c.composed-placed.result c.composed-placed.ensures _ (ok_or_some _ _ _ c.ok_or.ensures.value c.in_ok-p.was) in
    omega (arith, low, same)

pub slice_bounds-imaged-start : goal.slice_bounds-imaged-start
slice_bounds-imaged-start c =
    let same : length c.composed-placed.new.stream ≡ output_size = c.composed-placed.auto.stream ∙ length-replicate {A = ℕ} output_size 0 in
    let args = c.args in
    let r = c.numbers in
    let few = (count_told args.text.now args.roles.now args.out.now _ r.result r.ensures.result_after _ c.in_ok-n.was r.ensures.counted).0 in
    let low = inside args.text.now args.roles.now args.out.now _ r.result r.ensures.result_after _ c.in_ok-n.was few
    _ c.composed-placed.result c.composed-placed.ensures _ (ok_or_some _ _ _ c.ok_or.ensures.value c.in_ok-p.was) in
    omega (arith, low, same)

pub imaged-requires : goal.imaged-requires
imaged-requires c =
    let same : length c.composed-placed.new.stream ≡ output_size = c.composed-placed.auto.stream ∙ length-replicate {A = ℕ} output_size 0 in
    let args = c.args in
    let r = c.numbers in
    let few = (count_told args.text.now args.roles.now args.out.now _ r.result r.ensures.result_after _ c.in_ok-n.was r.ensures.counted).0 in
    stream_long args.text.now args.roles.now args.out.now _ r.result r.ensures.result_after _ c.in_ok-n.was few
    _ c.composed-placed.result c.composed-placed.ensures _ (ok_or_some _ _ _ c.ok_or.ensures.value c.in_ok-p.was) output_size same

pub returns : goal.returns
returns c =
    let same : length c.composed-placed.new.stream ≡ output_size = c.composed-placed.auto.stream ∙ length-replicate {A = ℕ} output_size 0 in
    let args = c.args in
    let r = c.numbers in
    let few = (count_told args.text.now args.roles.now args.out.now _ r.result r.ensures.result_after _ c.in_ok-n.was r.ensures.counted).0 in
    let both = at_ends args.text.now args.roles.now args.out.now _ r.result r.ensures.result_after _ c.in_ok-n.was
    few _ c.composed-placed.result c.composed-placed.ensures _ (ok_or_some _ _ _ c.ok_or.ensures.value c.in_ok-p.was) output_size same _ _
    (c.imaged.ensures.value, c.imaged.ensures.out_after) in
    record {
      value = both.0;
      out_after = both.1;
    }
