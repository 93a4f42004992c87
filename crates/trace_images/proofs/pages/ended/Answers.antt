-- `pages::ended` meets its contract: the last line is put behind the text, and what is answered is of the page then.
use Rattle.std.proofs.Common.{arith, ◌≡◌, sym, ap, subst, ◌∙◌, ℕ, min, List, ◌++◌, length, take, length-take, length-take-le}
use Rattle.trace.specs.LineText.{end_text}
use Rattle.trace_images.specs.declared.pages.Page.{Page}
use Rattle.trace_images.specs.Pages.{Paged}
use Rattle.trace_images.specs.PageLaws.{placed_line, page_answers}
use Rattle.trace_images.proofs.pages.ended.Goals as goal

pub slice_bounds-put-end : goal.slice_bounds-put-end
slice_bounds-put-end c = sym (length-take-le _ _ (omega arith))

pub put-p-requires : goal.put-p-requires
put-p-requires c = omega (arith, length-take c.row-n.result c.row-n.new.out, c.requires.0)

pub returns : goal.returns
unfolding end_text
returns c =
    λ text lent h.
    let a = c.args in
    let line = take c.row-n.result c.row-n.new.out in
    let told : line ≡ end_text a.number a.taken = placed_line c.row-n.ensures.placed (omega (arith, c.row-n.ensures.upper_bound)) in
    let paged =
    subst (λ (w : List ℕ). Paged (text ++ w) lent c.put-p.result c.put-p.new.out) told
    (subst (λ (g : Page). Paged (text ++ line) lent g c.put-p.new.out) (sym c.put-p.ensures.value) (c.put-p.ensures.grows text lent h)) in
    page_answers paged (ap (λ (g : Page). g.from) c.put-p.ensures.value) a.number a.taken c.least-count.result
    (c.least-count.ensures ∙ ap (min (length c.put-p.new.out)) c.saturating_sub.ensures)
