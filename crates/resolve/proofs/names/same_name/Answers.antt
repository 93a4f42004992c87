-- `names::same_name` meets its contract. The loop's invariant: the names are the same if what is left of them is. The measure is what is left of the text.
use Rattle.std.proofs.Common.{refl, arith}
use Rattle.resolve.specs.Laws.NamedLaws.{alike_inside, alike_end, byte_on, byte_inside, byte_not}
use Rattle.resolve.proofs.names.same_name.Goals as goal

pub loop-c-init : goal.loop-c-init
loop-c-init c = record { at_hand = c.letter-c.ensures; rest = refl }

pub returns-then-byte-c : goal.returns-then-byte-c
returns-then-byte-c c = byte_not c.loop-c.invariant c.byte.ensures c.loop-c-test.true c.if-byte-c.true

pub overflow_add-p : goal.overflow_add-p
overflow_add-p c = omega (arith, alike_inside c.loop-c.invariant c.loop-c-test.true)

pub overflow_add-q : goal.overflow_add-q
overflow_add-q c =
    omega (arith, byte_inside c.loop-c.invariant c.byte.ensures c.loop-c-test.true c.if-byte-c.false)

pub loop-c-smaller : goal.loop-c-smaller
loop-c-smaller c = omega (arith, alike_inside c.loop-c.invariant c.loop-c-test.true)

pub loop-c-preserved : goal.loop-c-preserved
loop-c-preserved c =
    record {
      at_hand = c.letter-c-in-loop-c.ensures;
      rest = byte_on c.loop-c.invariant c.byte.ensures c.loop-c-test.true c.if-byte-c.false;
    }

pub returns : goal.returns
returns c = alike_end c.loop-c.invariant c.letter.ensures c.loop-c-test.false
