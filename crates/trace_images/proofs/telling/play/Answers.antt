-- `telling::play` meets its contract: the program is prepared, memory is ready for the machine that is seated, and its run is told. The loop's
-- invariant: a run that has come to where the loop begins has come to where it stands. The measure is the turns that are left.
use Rattle.std.proofs.Common.{arith, ℕ, ◌+◌, ◌*◌, ◌<◌, ◌≤◌, ◌≡◌, refl, sym, ap, subst, ◌∙◌, List, length, take, length-take-le}
use Rattle.std.proofs.Math.Option.{some}
use Rattle.std.proofs.lemmas.List.{length-replicate}
use Rattle.types.specs.Limits.{max_commands, schedule_items}
use Rattle.program.specs.Tree.{Program}
use Rattle.machine.specs.Machine.{Machine}
use Rattle.layout.specs.State.{state_of}
use Rattle.compile.specs.Spans.{span_places}
use Rattle.interpreter.specs.Ready.{Ready}
use Rattle.run_images.specs.RunLaws.{opens_preparable, admitted_ready, seated_ready}
use Rattle.trace_images.specs.declared.pages.Page.{Page}
use Rattle.trace_images.specs.declared.telling.Telling.{Telling}
use Rattle.trace_images.specs.Telling.{Starts}
use Rattle.trace_images.specs.PlayWays.{Goes, goes_takeable, refused_goes, taken_standing, taken_goes, first_goes, goes_ran}
use Rattle.trace_images.specs.PlayWays.{first_standing, first_named, first_blank, told_named, told_page, told_taken, told_less, refused_less}
use Rattle.trace_images.proofs.telling.play.Goals as goal

-- The program ----------------------------------------------------------------------------
pub slice_bounds-counts-end : goal.slice_bounds-counts-end
slice_bounds-counts-end c = let o = c.requires.starting.2.opens in omega (arith, o.few, o.wide.0)

pub slice_bounds-cs-end : goal.slice_bounds-cs-end
slice_bounds-cs-end c = sym (length-take-le _ _ (let o = c.requires.starting.2.opens in omega (arith, o.few, o.wide.0)))

pub program-requires : goal.program-requires
program-requires c =
    opens_preparable c.requires.starting.2.opens _ _ (simp length-replicate (omega arith)) (simp length-replicate (omega arith))

pub program-requires-2 : goal.program-requires-2
program-requires-2 c = admitted_ready c.requires.starting.2.seated.admitted _ (simp length-replicate (omega arith))

pub slice_bounds-settle-end : goal.slice_bounds-settle-end
slice_bounds-settle-end c =
    let items_of' : List ℕ = c.program.new.codes in
    let items_length' : length items_of' ≡ 2 * schedule_items + 1 = c.program.auto.codes ∙ simp length-replicate in
    omega (arith, items_length')

pub slice_bounds-settle-end-2 : goal.slice_bounds-settle-end-2
slice_bounds-settle-end-2 c =
    let spans_of' : List ℕ = c.program.new.spans in
    let spans_length' : length spans_of' ≡ span_places = c.program.auto.spans ∙ simp length-replicate in
    omega (arith, spans_length')

pub settle-begun-requires : goal.settle-begun-requires
settle-begun-requires c =
    let counts_of' : List ℕ = let o = c.args.start.opened in take o.loaded.structs o.counts in
    let list_of' : List ℕ = c.program-2.new.list in
    let spans_of' : List ℕ = c.program.new.spans in
    let items_of' : List ℕ = c.program.new.codes in
    let spans_length' : length spans_of' ≡ span_places = c.program.auto.spans ∙ simp length-replicate in
    let items_length' : length items_of' ≡ 2 * schedule_items + 1 = c.program.auto.codes ∙ simp length-replicate in
    let StartsHere' : Program → Machine → Type 0 = λ p m. let a = c.args in Starts a.s.now a.rows.now a.start a.heads.now a.cells.now p m in
    let ready' : (p : Program) (m : Machine) → StartsHere' p m → Ready p counts_of' list_of' items_of' spans_of' m (state_of c.args.start.seat.numbers c.args.heads.now c.args.cells.now) = λ p m w. seated_ready w.seated _ _ c.program.ensures c.program-2.ensures spans_length' in
    let z = c.args.start in
    let e = c.first.ensures in record { standing = (first_standing z e (ready' c.requires.starting.0 c.requires.starting.1 c.requires.starting.2), first_named z e); len_bound = (omega (arith, items_length'), omega (arith, ap (λ (g : Page). g.length) (first_blank z e))) }

pub loop-next-init : goal.loop-next-init
loop-next-init c =
    let a = c.args in
    let es = a.turns.now in
    let x = c.settle-begun.result in
    let e = c.told_at-next.ensures in
    let same = told_page es x c.told_at-next.result e in (
      refl,
      refl,
      refl,
      told_named es x c.told_at-next.result e c.settle-begun.ensures.named,
      omega (
        arith,
        ap (λ (g : Page). g.length) same,
        c.settle-begun.ensures.short,
        ap (λ (g : Page). g.length) (first_blank a.start c.first.ensures),
      ),
      refl,
      λ lent p m g. g,
    )

-- what the loop lends
pub slice_bounds-turn-end : goal.slice_bounds-turn-end
slice_bounds-turn-end c =
    let list_of' : List ℕ = c.program-2.new.list in
    let list_length' : length list_of' ≡ max_commands = c.program-2.auto.list ∙ simp length-replicate in
    omega (arith, list_length')

pub slice_bounds-turn-end-in-loop-next : goal.slice_bounds-turn-end-in-loop-next
slice_bounds-turn-end-in-loop-next c =
    let spans_of' : List ℕ = c.program.new.spans in
    let spans_length' : length spans_of' ≡ span_places = c.program.auto.spans ∙ simp length-replicate in
    omega (arith, spans_length')

pub turn-next-requires : goal.turn-next-requires
turn-next-requires c =
    let counts_of' : List ℕ = let o = c.args.start.opened in take o.loaded.structs o.counts in
    let list_of' : List ℕ = c.program-2.new.list in
    let spans_of' : List ℕ = c.program.new.spans in
    let items_of' : List ℕ = c.program.new.codes in
    let spans_length' : length spans_of' ≡ span_places = c.program.auto.spans ∙ simp length-replicate in
    let StartsHere' : Program → Machine → Type 0 = λ p m. let a = c.args in Starts a.s.now a.rows.now a.start a.heads.now a.cells.now p m in
    let ready' : (p : Program) (m : Machine) → StartsHere' p m → Ready p counts_of' list_of' items_of' spans_of' m (state_of c.args.start.seat.numbers c.args.heads.now c.args.cells.now) = λ p m w. seated_ready w.seated _ _ c.program.ensures c.program-2.ensures spans_length' in
    let goes' : (p : Program) (m : Machine) → StartsHere' p m → Goes (some c.args.out.now) p m c.args.turns.now counts_of' list_of' items_of' spans_of' c.loop-next.next c.loop-next.heads c.loop-next.cells c.loop-next.out = λ p m w. let a = c.args in c.loop-next.invariant.6 (some a.out.now) p m (subst (λ (r : Telling). Goes (some a.out.now) p m a.turns.now counts_of' list_of' items_of' spans_of' r c.settle-begun.new.heads a.cells.now c.settle-begun.new.out) (sym c.told_at-next.ensures) (first_goes (some a.out.now) p m a.turns.now counts_of' list_of' items_of' spans_of' a.start refl c.first.ensures (ready' p m w) c.settle-begun.ensures)) in
    let the_program' : Program = c.requires.starting.0 in
    let the_machine' : Machine = c.requires.starting.1 in
    let g = goes' the_program' the_machine' c.requires.starting.2 in record { takeable = goes_takeable _ _ _ _ _ _ _ _ g c.loop-next-test.true c.loop-next.invariant.3 (omega (arith, c.requires.turns_len_bound)); line_most_bound = omega (arith, c.loop-next.invariant.4, g.early c.loop-next-test.true, c.requires.turns_len_bound) }

pub slice_bounds-settle-end-then-next-eq0 : goal.slice_bounds-settle-end-then-next-eq0
slice_bounds-settle-end-then-next-eq0 c =
    let items_of' : List ℕ = c.program.new.codes in
    let items_length' : length items_of' ≡ 2 * schedule_items + 1 = c.program.auto.codes ∙ simp length-replicate in
    omega (arith, items_length')

pub slice_bounds-settle-end-then-next-eq0-2 : goal.slice_bounds-settle-end-then-next-eq0-2
slice_bounds-settle-end-then-next-eq0-2 c =
    let spans_of' : List ℕ = c.program.new.spans in
    let spans_length' : length spans_of' ≡ span_places = c.program.auto.spans ∙ simp length-replicate in
    omega (arith, spans_length')

pub settle-settled-requires : goal.settle-settled-requires
settle-settled-requires c =
    let counts_of' : List ℕ = let o = c.args.start.opened in take o.loaded.structs o.counts in
    let list_of' : List ℕ = c.program-2.new.list in
    let spans_of' : List ℕ = c.program.new.spans in
    let items_of' : List ℕ = c.program.new.codes in
    let spans_length' : length spans_of' ≡ span_places = c.program.auto.spans ∙ simp length-replicate in
    let items_length' : length items_of' ≡ 2 * schedule_items + 1 = c.program.auto.codes ∙ simp length-replicate in
    let StartsHere' : Program → Machine → Type 0 = λ p m. let a = c.args in Starts a.s.now a.rows.now a.start a.heads.now a.cells.now p m in
    let ready' : (p : Program) (m : Machine) → StartsHere' p m → Ready p counts_of' list_of' items_of' spans_of' m (state_of c.args.start.seat.numbers c.args.heads.now c.args.cells.now) = λ p m w. seated_ready w.seated _ _ c.program.ensures c.program-2.ensures spans_length' in
    let goes' : (p : Program) (m : Machine) → StartsHere' p m → Goes (some c.args.out.now) p m c.args.turns.now counts_of' list_of' items_of' spans_of' c.loop-next.next c.loop-next.heads c.loop-next.cells c.loop-next.out = λ p m w. let a = c.args in c.loop-next.invariant.6 (some a.out.now) p m (subst (λ (r : Telling). Goes (some a.out.now) p m a.turns.now counts_of' list_of' items_of' spans_of' r c.settle-begun.new.heads a.cells.now c.settle-begun.new.out) (sym c.told_at-next.ensures) (first_goes (some a.out.now) p m a.turns.now counts_of' list_of' items_of' spans_of' a.start refl c.first.ensures (ready' p m w) c.settle-begun.ensures)) in
    let the_program' : Program = c.requires.starting.0 in
    let the_machine' : Machine = c.requires.starting.1 in
    let g = goes' the_program' the_machine' c.requires.starting.2 in record { standing = (taken_standing _ _ _ _ _ _ _ _ g c.loop-next-test.true c.turn-next.ensures c.if-next-eq0.true, rw c.turn-next.ensures.named c.loop-next.invariant.3); len_bound = (omega (arith, items_length'), omega (arith, c.turn-next.ensures.short c.if-next-eq0.true, c.loop-next.invariant.4, g.early c.loop-next-test.true, c.requires.turns_len_bound)) }

pub loop-next-smaller-then-next-eq0 : goal.loop-next-smaller-then-next-eq0
loop-next-smaller-then-next-eq0 c =
    let counts_of' : List ℕ = let o = c.args.start.opened in take o.loaded.structs o.counts in
    let list_of' : List ℕ = c.program-2.new.list in
    let spans_of' : List ℕ = c.program.new.spans in
    let items_of' : List ℕ = c.program.new.codes in
    let spans_length' : length spans_of' ≡ span_places = c.program.auto.spans ∙ simp length-replicate in
    let StartsHere' : Program → Machine → Type 0 = λ p m. let a = c.args in Starts a.s.now a.rows.now a.start a.heads.now a.cells.now p m in
    let ready' : (p : Program) (m : Machine) → StartsHere' p m → Ready p counts_of' list_of' items_of' spans_of' m (state_of c.args.start.seat.numbers c.args.heads.now c.args.cells.now) = λ p m w. seated_ready w.seated _ _ c.program.ensures c.program-2.ensures spans_length' in
    let goes' : (p : Program) (m : Machine) → StartsHere' p m → Goes (some c.args.out.now) p m c.args.turns.now counts_of' list_of' items_of' spans_of' c.loop-next.next c.loop-next.heads c.loop-next.cells c.loop-next.out = λ p m w. let a = c.args in c.loop-next.invariant.6 (some a.out.now) p m (subst (λ (r : Telling). Goes (some a.out.now) p m a.turns.now counts_of' list_of' items_of' spans_of' r c.settle-begun.new.heads a.cells.now c.settle-begun.new.out) (sym c.told_at-next.ensures) (first_goes (some a.out.now) p m a.turns.now counts_of' list_of' items_of' spans_of' a.start refl c.first.ensures (ready' p m w) c.settle-begun.ensures)) in
    let the_program' : Program = c.requires.starting.0 in
    let the_machine' : Machine = c.requires.starting.1 in
    told_less c.args.turns.now c.settle-settled.result c.told_at-next-then-next-eq0.result c.told_at-next-then-next-eq0.ensures c.loop-next.next
    (c.settle-settled.ensures.taken ∙ c.turn-next.ensures.counted c.if-next-eq0.true)
    ((goes' the_program' the_machine' c.requires.starting.2).early c.loop-next-test.true) c.loop-next-test.true

pub loop-next-preserved-then-next-eq0 : goal.loop-next-preserved-then-next-eq0
loop-next-preserved-then-next-eq0 c =
    let e = c.told_at-next-then-next-eq0.ensures in
    let es = c.args.turns.now in
    let v = c.loop-next.invariant in (
      c.settle-settled.auto.heads ∙ c.turn-next.auto.heads ∙ v.0,
      c.turn-next.auto.cells ∙ v.1,
      c.settle-settled.auto.out ∙ c.turn-next.auto.out ∙ v.2,
      told_named es c.settle-settled.result c.told_at-next-then-next-eq0.result e c.settle-settled.ensures.named,
      omega (
        arith,
        ap (λ (g : Page). g.length) (told_page es c.settle-settled.result c.told_at-next-then-next-eq0.result e),
        told_taken es c.settle-settled.result c.told_at-next-then-next-eq0.result e,
        c.settle-settled.ensures.short,
        c.settle-settled.ensures.taken,
        c.turn-next.ensures.short c.if-next-eq0.true,
        c.turn-next.ensures.counted c.if-next-eq0.true,
        v.4,
      ),
      ap (λ (g : Page). g.from) (told_page es c.settle-settled.result c.told_at-next-then-next-eq0.result e) ∙ c.settle-settled.ensures.place ∙ c.turn-next.ensures.place ∙ v.5,
      λ lent p m g. rw e (taken_goes _ _ _ _ _ _ _ _ (v.6 lent p m g) c.loop-next-test.true c.turn-next.ensures c.if-next-eq0.true c.settle-settled.ensures),
    )

pub loop-next-smaller : goal.loop-next-smaller
loop-next-smaller c =
    refused_less c.args.turns.now c.loop-next.next c.turn-next.result (c.turn-next.ensures.kept c.if-next-eq0.false) c.turn-next.ensures.rest
    c.loop-next-test.true

pub loop-next-preserved : goal.loop-next-preserved
loop-next-preserved c =
    let v = c.loop-next.invariant in (
      c.turn-next.auto.heads ∙ v.0,
      c.turn-next.auto.cells ∙ v.1,
      c.turn-next.auto.out ∙ v.2,
      rw c.turn-next.ensures.named v.3,
      omega (arith, ap (λ (g : Page). g.length) (c.turn-next.ensures.same c.if-next-eq0.false), c.turn-next.ensures.kept c.if-next-eq0.false, v.4),
      c.turn-next.ensures.place ∙ v.5,
      λ lent p m g. refused_goes _ _ _ _ _ _ _ _ (v.6 lent p m g) c.loop-next-test.true c.turn-next.ensures c.if-next-eq0.false,
    )

pub returns : goal.returns
returns c =
    let counts_of' : List ℕ = let o = c.args.start.opened in take o.loaded.structs o.counts in
    let list_of' : List ℕ = c.program-2.new.list in
    let spans_of' : List ℕ = c.program.new.spans in
    let items_of' : List ℕ = c.program.new.codes in
    let spans_length' : length spans_of' ≡ span_places = c.program.auto.spans ∙ simp length-replicate in
    let StartsHere' : Program → Machine → Type 0 = λ p m. let a = c.args in Starts a.s.now a.rows.now a.start a.heads.now a.cells.now p m in
    let ready' : (p : Program) (m : Machine) → StartsHere' p m → Ready p counts_of' list_of' items_of' spans_of' m (state_of c.args.start.seat.numbers c.args.heads.now c.args.cells.now) = λ p m w. seated_ready w.seated _ _ c.program.ensures c.program-2.ensures spans_length' in
    let goes' : (p : Program) (m : Machine) → StartsHere' p m → Goes (some c.args.out.now) p m c.args.turns.now counts_of' list_of' items_of' spans_of' c.loop-next.next c.loop-next.heads c.loop-next.cells c.loop-next.out = λ p m w. let a = c.args in c.loop-next.invariant.6 (some a.out.now) p m (subst (λ (r : Telling). Goes (some a.out.now) p m a.turns.now counts_of' list_of' items_of' spans_of' r c.settle-begun.new.heads a.cells.now c.settle-begun.new.out) (sym c.told_at-next.ensures) (first_goes (some a.out.now) p m a.turns.now counts_of' list_of' items_of' spans_of' a.start refl c.first.ensures (ready' p m w) c.settle-begun.ensures)) in
    let the_program' : Program = c.requires.starting.0 in
    let the_machine' : Machine = c.requires.starting.1 in
    let told = c.told_at-next in
    let few = (goes' the_program' the_machine' c.requires.starting.2).within in
    record {
      ran = λ p m w. goes_ran _ _ _ _ _ _ _ _ (goes' p m w) c.loop-next-test.false c.args.out.now refl;
      begins = c.loop-next.invariant.5
          ∙ ap (λ (g : Page). g.from) (told_page c.args.turns.now c.settle-begun.result told.result told.ensures)
          ∙ c.settle-begun.ensures.place
          ∙ ap (λ (g : Page). g.from) (first_blank c.args.start c.first.ensures);
      short = omega (arith, c.loop-next.invariant.4, few, c.requires.turns_len_bound);
      few = omega (arith, few, c.requires.turns_len_bound);
    }
