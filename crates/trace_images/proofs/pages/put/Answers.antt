-- `pages::put` meets its contract: the part of the line that lies on the page is copied there.
use Rattle.std.proofs.Common.{arith, ◌-◌, min, ◌≡◌, refl, ap, ◌∙◌, length}
use Rattle.trace_images.specs.PageLaws.{at, start, computed_end, computed_within, computed_grows}
use Rattle.trace_images.proofs.pages.put.Goals as goal

pub overflow_add-end : goal.overflow_add-end
overflow_add-end c =
    let at_is' : c.least-at.result ≡ at c.args.g c.args.line.now c.args.out.now = c.least-at.ensures ∙ ap (min (length c.args.out.now)) c.saturating_sub.ensures in
    let start_is' : c.least-start.result ≡ start c.args.g c.args.line.now c.args.out.now = c.least-start.ensures ∙ ap (min (length c.args.line.now)) c.saturating_sub-2.ensures in
    let a = c.args in
    omega (arith, computed_end a.g a.line.now a.out.now at_is' start_is' c.least.ensures)

pub slice_bounds-copy-end : goal.slice_bounds-copy-end
slice_bounds-copy-end c =
    let at_is' : c.least-at.result ≡ at c.args.g c.args.line.now c.args.out.now = c.least-at.ensures ∙ ap (min (length c.args.out.now)) c.saturating_sub.ensures in
    let start_is' : c.least-start.result ≡ start c.args.g c.args.line.now c.args.out.now = c.least-start.ensures ∙ ap (min (length c.args.line.now)) c.saturating_sub-2.ensures in
    let a = c.args in
    computed_end a.g a.line.now a.out.now at_is' start_is' c.least.ensures

pub copy-requires : goal.copy-requires
copy-requires c =
    let at_is' : c.least-at.result ≡ at c.args.g c.args.line.now c.args.out.now = c.least-at.ensures ∙ ap (min (length c.args.out.now)) c.saturating_sub.ensures in
    let start_is' : c.least-start.result ≡ start c.args.g c.args.line.now c.args.out.now = c.least-start.ensures ∙ ap (min (length c.args.line.now)) c.saturating_sub-2.ensures in
    let a = c.args in
    computed_within a.g a.line.now a.out.now at_is' start_is' c.least.ensures

pub returns : goal.returns
returns c =
    let at_is' : c.least-at.result ≡ at c.args.g c.args.line.now c.args.out.now = c.least-at.ensures ∙ ap (min (length c.args.out.now)) c.saturating_sub.ensures in
    let start_is' : c.least-start.result ≡ start c.args.g c.args.line.now c.args.out.now = c.least-start.ensures ∙ ap (min (length c.args.line.now)) c.saturating_sub-2.ensures in
    let a = c.args in
    record { value = refl; grows = computed_grows a.g a.line.now a.out.now at_is' start_is' c.least.ensures c.copy.ensures }
