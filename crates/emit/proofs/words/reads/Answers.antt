-- `emit::words::reads` meets its contract. The invariant: the reads that are left give what is to come out.
use Rattle.std.proofs.Common.{◌+◌, ◌-◌, ◌≡◌, arith, refl, ◌∙◌, length}
use Rattle.emit.specs.Laws.LeafLaws.{reads_none, reads_more}
use Rattle.emit.proofs.words.reads.Goals as goal

pub loop-x-init : goal.loop-x-init
loop-x-init c =
    let a = c.args in
    let at : a.at + 0 ≡ a.at = omega arith in
    let n : a.n - 0 ≡ a.n = omega arith in
    let k : a.k + 0 ≡ a.k = omega arith in
    (refl, rw (at, n, k) (record { gives = refl }))

pub loop-x-preserved : goal.loop-x-preserved
loop-x-preserved c =
    let a = c.args in
    let x = c.loop-x.x in
    let i = c.from-i.ensures in
    let at : a.at + (x + 1) ≡ a.at + x + 1 = omega arith in
    let n : a.n - (x + 1) ≡ a.n - x - 1 = omega arith in
    let k : a.k + (x + 1) ≡ a.k + x + 1 = omega arith in (
      c.store.auto.out ∙ c.loop-x.invariant.0,
      rw (at, n, k) (reads_more _ _ _ _ c.loop-x.invariant.1 (λ z. omega arith) (rw i at c.from.ensures) c.coded-v.ensures (rw i at c.store.ensures)),
    )

pub shape_of-out : goal.shape_of-out
shape_of-out c = c.loop-x.invariant.0

pub returns : goal.returns
returns c =
    let two = c.from-2.ensures in
    let three = c.from-3.ensures in
    (omega arith, omega arith, reads_none _ _ _ _ c.loop-x.invariant.1 (omega arith))
