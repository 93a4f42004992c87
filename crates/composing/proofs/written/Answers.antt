-- `written` meets its contract: the loop's invariant is `Reached`, its measure the place.
use Rattle.std.proofs.Common.{ℕ, ◌≡◌, ◌-◌, ◌<◌, List, length, get_or, arith, sym, ◌∙◌, set, length-set}
use Rattle.compose.specs.Fits.{value_at, within}
use Rattle.compose.specs.Writing.{put}
use Rattle.composing.specs.Pens.{stands, Near}
use Rattle.composing.specs.Sizes.{margin}
use Rattle.composing.specs.declared.Pen.{Pen}
use Rattle.composing.specs.LoopLaws.{Reached, Took, reached_start, reached_gap, reached_token, reached_refused, reached_end}
use Rattle.composing.proofs.written.Goals as goal

-- a role and what it leaves
took : {text roles numbers out₀ stack₀ out stack : List ℕ} {p : Pen} {i : ℕ} (out₁ stack₁ : List ℕ) (q : Pen) (v : ℕ)
    → Reached text roles numbers out₀ stack₀ out stack p i → 0 < i → Near p.place 1 1 p q → length out₁ ≡ length out → length stack₁ ≡ length stack
    → v ≡ value_at text (i - 1) (get_or roles (i - 1) 0)
    → within (length out - margin) (stands out₁ stack₁ numbers q) ≡ within (length out - margin)
    (put (get_or roles (i - 1) 0) v (stands out stack numbers p))
    → Took text roles numbers out₀ stack₀ out stack p out₁ stack₁ q i
took out₁ stack₁ q v a b c d e f g = record { reached = a; more = b; near = c; same_out = d; same_stack = e; v = v; value = f; made = g }

pub bounds-stack-0 : goal.bounds-stack-0
bounds-stack-0 c = omega (arith, c.requires.1)

pub loop-i-init : goal.loop-i-init
loop-i-init c =
    let args = c.args in
    reached_gap args.text.now args.roles.now args.numbers.now args.out.now (set args.stack.now 0 0) _ _ _ c.start-i.ensures
    (reached_start args.text.now args.roles.now args.numbers.now args.out.now args.stack.now c.requires.1 c.requires.2)

pub overflow_sub-i : goal.overflow_sub-i
overflow_sub-i c = omega (arith, c.loop-i-test.true)

pub bounds-roles-i : goal.bounds-roles-i
bounds-roles-i c = omega (arith, c.loop-i-test.true, c.loop-i.invariant.inner)

pub literal-requires : goal.literal-requires
literal-requires c =
    omega (arith, c.loop-i-test.true, c.loop-i.invariant.inner, c.requires.0)

pub put-p-requires : goal.put-p-requires
put-p-requires c =
    let inv = c.loop-i.invariant in
    let further = c.loop-i-test.true in
    record {
      margin_le_place = (inv.front, inv.behind, omega (arith, inv.low, inv.high, further));
      left_in_bounds = (inv.rest, omega (arith, inv.short, inv.inner, further));
    }

pub roomy-requires : goal.roomy-requires
roomy-requires c = tt

pub spoilt-requires : goal.spoilt-requires
spoilt-requires c = tt

pub shape_of-stack-then-not-roomy : goal.shape_of-stack-then-not-roomy
shape_of-stack-then-not-roomy c =
    c.put-p.auto.stack ∙ c.loop-i.invariant.tall ∙ length-set c.args.stack.now 0 0

pub shape_of-out-then-not-roomy : goal.shape_of-out-then-not-roomy
shape_of-out-then-not-roomy c =
    c.put-p.auto.out ∙ c.loop-i.invariant.room

pub returns-then-not-roomy : goal.returns-then-not-roomy
returns-then-not-roomy c =
    let k = took c.put-p.new.out c.put-p.new.stack c.put-p.result c.literal.result c.loop-i.invariant c.loop-i-test.true c.put-p.ensures.near
    c.put-p.auto.out c.put-p.auto.stack c.literal.ensures c.put-p.ensures.result_after in
    let long = length-set c.args.stack.now 0 0 in
    record {
      result_after = reached_refused k (sym c.roomy.ensures ∙ c.if-not-roomy.true) c.spoilt.result c.spoilt.ensures.4;
      place_in_bounds = (
        omega (arith, c.spoilt.ensures.0, k.near.behind, k.reached.behind, k.reached.room),
        omega (arith, c.spoilt.ensures.1, k.near.height, k.reached.low, k.reached.high, k.reached.tall, long),
      );
    }

pub start-i-requires-in-loop-i : goal.start-i-requires-in-loop-i
start-i-requires-in-loop-i c =
    omega (arith, c.loop-i.invariant.inner)

pub loop-i-smaller : goal.loop-i-smaller
loop-i-smaller c =
    omega (arith, c.loop-i-test.true, c.start-i-in-loop-i.ensures.behind)

pub loop-i-preserved : goal.loop-i-preserved
loop-i-preserved c =
    let args = c.args in
    let k = took c.put-p.new.out c.put-p.new.stack c.put-p.result c.literal.result c.loop-i.invariant c.loop-i-test.true c.put-p.ensures.near
    c.put-p.auto.out c.put-p.auto.stack c.literal.ensures c.put-p.ensures.result_after in
    reached_gap args.text.now args.roles.now args.numbers.now args.out.now (set args.stack.now 0 0) _ _ _ c.start-i-in-loop-i.ensures
    (reached_token k (sym c.roomy.ensures ∙ c.if-not-roomy.false))

pub shape_of-stack : goal.shape_of-stack
shape_of-stack c =
    c.loop-i.invariant.tall ∙ length-set c.args.stack.now 0 0

pub shape_of-out : goal.shape_of-out
shape_of-out c = c.loop-i.invariant.room

pub returns : goal.returns
returns c =
    let args = c.args in
    let here = c.loop-i in
    let long = length-set args.stack.now 0 0 in
    record {
      result_after = reached_end args.text.now args.roles.now args.numbers.now args.out.now (set args.stack.now 0 0) here.out here.stack here.p here.i
          here.invariant (omega (arith, c.loop-i-test.false));
      place_in_bounds = (
        omega (arith, here.invariant.behind, here.invariant.room),
        omega (arith, here.invariant.low, here.invariant.high, here.invariant.tall, long),
      );
    }
