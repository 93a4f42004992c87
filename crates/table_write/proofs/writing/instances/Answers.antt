-- `writing::instances` meets its contract. The loop's invariant: the instances that are left make of the output, and of the place, what all of them do.
-- The measure is how many are left.
use Rattle.std.proofs.Common.{◌<◌, ◌≤◌, ◌∙◌, refl, arith, length, length-set}
use Rattle.types.specs.Limits.{max_params}
use Rattle.table_write.specs.WrittenWays.{rows_place, rows_turn, rows_end}
use Rattle.table_write.proofs.writing.instances.Goals as goal

pub loop-l-init : goal.loop-l-init
loop-l-init c = ((omega arith, omega arith, refl), (refl, refl))

pub head-k-requires : goal.head-k-requires
head-k-requires c = omega (arith, c.requires.filled.heads_long)

pub bounds-counts-k : goal.bounds-counts-k
bounds-counts-k c =
    let known' : c.head-k.result < length c.args.counts.now = omega (arith, c.head-k.ensures.0, c.requires.filled.structs c.loop-l.l c.loop-l-test.true) in
    known'

pub overflow_cast-out : goal.overflow_cast-out
overflow_cast-out c =
    let known' : c.head-k.result < length c.args.counts.now = omega (arith, c.head-k.ensures.0, c.requires.filled.structs c.loop-l.l c.loop-l-test.true) in
    omega (arith, known', c.requires.filled.few)

pub overflow_mul-l : goal.overflow_mul-l
overflow_mul-l c = omega (arith, c.requires.filled.cells_long)

pub values-requires : goal.values-requires
values-requires c =
    let few' : c.index-m.result ≤ max_params = omega (arith, c.index-m.ensures.0, c.requires.filled.each c.head-k.result) in
    simp length-set (omega (arith, few', c.requires.filled.cells_long))

pub overflow_mul-next : goal.overflow_mul-next
overflow_mul-next c =
    let few' : c.index-m.result ≤ max_params = omega (arith, c.index-m.ensures.0, c.requires.filled.each c.head-k.result) in
    omega (arith, few')

pub overflow_add-next : goal.overflow_add-next
overflow_add-next c =
    let few' : c.index-m.result ≤ max_params = omega (arith, c.index-m.ensures.0, c.requires.filled.each c.head-k.result) in
    omega (arith, few')

pub loop-l-preserved : goal.loop-l-preserved
loop-l-preserved c =
    let few' : c.index-m.result ≤ max_params = omega (arith, c.index-m.ensures.0, c.requires.filled.each c.head-k.result) in
    let args = c.args in let loop = c.loop-l in let b = c.loop-l-test.true in (
      (
        omega arith,
        omega (arith, few'),
        c.values.auto.out ∙ length-set loop.out loop.next c.head-k.result ∙ loop.invariant.0.2,
      ),
      (
        rows_place args.counts.now args.heads.now args.cells.now args.n loop.l b c.head-k.result c.index-m.result
            c.head-k.ensures.0 c.index-m.ensures.0 loop.next ∙ loop.invariant.1.0,
        rows_turn args.counts.now args.heads.now args.cells.now args.n loop.l b c.head-k.result c.index-m.result
            c.head-k.ensures.0 c.index-m.ensures.0 loop.next loop.out c.values.new.out c.values.ensures
            ∙ loop.invariant.1.1,
      ),
    )

pub shape_of-out : goal.shape_of-out
shape_of-out c = c.loop-l.invariant.0.2

pub returns : goal.returns
returns c =
    let args = c.args in let loop = c.loop-l in
    let none = rows_end args.counts.now args.heads.now args.cells.now args.n loop.l c.loop-l-test.false loop.next loop.out in
    record { value = none.0 ∙ loop.invariant.1.0; out_after = none.1 ∙ loop.invariant.1.1 }
