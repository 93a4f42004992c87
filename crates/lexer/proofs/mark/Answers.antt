-- `mark` meets its contract. The loop's invariant: what is left leads to the answer and to the marks of the whole. The measure is what is left.
use Rattle.std.proofs.Common.{refl, sym, ◌∙◌, arith}
use Rattle.tokens.proofs.Laws.MarkingLaws.{reached_out, reached_next, ends_inside}
use Rattle.lexer.specs.FrontSpots.{rest_spot}
use Rattle.lexer.proofs.mark.Goals as goal

pub loop-kind-init : goal.loop-kind-init
loop-kind-init c =
    record { inner = omega arith; kept = refl; answer = refl; written = refl; clear = c.requires.1.zeros }

pub slice_bounds-token-count : goal.slice_bounds-token-count
slice_bounds-token-count c = c.loop-kind.invariant.inner

pub bounds-kinds-i : goal.bounds-kinds-i
bounds-kinds-i c =
    omega (
      arith,
      c.loop-kind.invariant.kept,
      c.requires.0,
      ends_inside c.loop-kind.invariant (rest_spot c.args.text.now c.loop-kind.i (sym c.in-Some.is ∙ c.token.ensures)),
    )

pub overflow_add-i : goal.overflow_add-i
overflow_add-i c = omega (arith, ends_inside c.loop-kind.invariant (rest_spot c.args.text.now c.loop-kind.i (sym c.in-Some.is ∙ c.token.ensures)))

pub overflow_add-i-in-Some : goal.overflow_add-i-in-Some
overflow_add-i-in-Some c =
    omega (arith, ends_inside c.loop-kind.invariant (rest_spot c.args.text.now c.loop-kind.i (sym c.in-Some.is ∙ c.token.ensures)))

pub loop-kind-smaller : goal.loop-kind-smaller
loop-kind-smaller c = omega (arith, ends_inside c.loop-kind.invariant (rest_spot c.args.text.now c.loop-kind.i (sym c.in-Some.is ∙ c.token.ensures)))

pub loop-kind-preserved : goal.loop-kind-preserved
loop-kind-preserved c =
    reached_next c.loop-kind.invariant (rest_spot c.args.text.now c.loop-kind.i (sym c.in-Some.is ∙ c.token.ensures)) c.requires.0

pub returns-clause-value : goal.returns-clause-value
returns-clause-value c =
    (reached_out c.loop-kind.invariant (rest_spot c.args.text.now c.loop-kind.i (sym c.in_default.is ∙ c.token.ensures))).0

pub returns-clause-kinds_after : goal.returns-clause-kinds_after
returns-clause-kinds_after c =
    (reached_out c.loop-kind.invariant (rest_spot c.args.text.now c.loop-kind.i (sym c.in_default.is ∙ c.token.ensures))).1
