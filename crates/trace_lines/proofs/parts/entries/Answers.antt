-- `parts::entries` meets its contract. The loop's invariant: the entries left lead to all. The measure is how many are left.
use Rattle.std.proofs.Common.{arith, ◌+◌, ◌-◌, ◌≤◌, ◌≡◌, refl, ◌∙◌, length}
use Rattle.trace_lines.specs.PartsLaws.{bits_begin, bits_next, bits_end, bits_length}
use Rattle.trace_lines.proofs.parts.entries.Goals as goal

pub loop-i-init : goal.loop-i-init
loop-i-init c = (refl, bits_begin)

pub byte-at-requires : goal.byte-at-requires
byte-at-requires c =
    omega (
      arith,
      bits_length
          c.loop-i.invariant.1,
      c.loop-i.invariant.0,
      c.put-at.auto.out,
      c.put-at.ensures.end,
      c.loop-i-test.true,
      c.requires,
    )

pub loop-i-preserved : goal.loop-i-preserved
loop-i-preserved c = (
  c.byte-at.auto.out ∙ c.loop-i.invariant.0,
  bits_next c.loop-i.invariant.1 c.loop-i-test.true c.byte-at.ensures,
)

pub shape_of-out : goal.shape_of-out
shape_of-out c = c.loop-i.invariant.0 ∙ c.put-at.auto.out

pub returns : goal.returns
returns c =
    record { placed = bits_end c.loop-i.invariant.1 c.loop-i-test.false c.put-at.ensures; upper_bound = omega (arith, bits_length c.loop-i.invariant.1, c.loop-i.invariant.1.within, c.put-at.ensures.end, c.requires) }
