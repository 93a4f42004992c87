-- `fault::worst` meets its contract.
use Rattle.std.proofs.Common.{◌≡◌, ◌<◌, arith, eq-eqb, ne_eqb, lt-ltb, le-ltb}
use Rattle.std.proofs.Math.Decide.{dec_lt}
use Rattle.judge.specs.Facts.{worst}
use Rattle.judging.proofs.fault.worst.Goals as goal

pub returns-then-a-eq0 : goal.returns-then-a-eq0
unfolding worst
returns-then-a-eq0 c = simp (worst, eq-eqb _ _ c.if-a-eq0.true)

pub returns-then-b-eq0 : goal.returns-then-b-eq0
unfolding worst
returns-then-b-eq0 c = simp (worst, ne_eqb _ _ c.if-a-eq0.false, eq-eqb _ _ c.if-b-eq0.true)

pub returns : goal.returns
unfolding worst
returns c = go (dec_lt c.args.a c.args.b)
  where
    go : Dec (c.args.a < c.args.b) → c.min.result ≡ worst c.args.a c.args.b
    go (yes h) = let e : c.min.result ≡ c.args.a = omega (arith, c.min.ensures) in rw e (simp (worst, ne_eqb _ _ c.if-a-eq0.false, ne_eqb _ _ c.if-b-eq0.false, lt-ltb _ _ h))
    go (no h) = let e : c.min.result ≡ c.args.b = omega (arith, c.min.ensures) in rw e (simp (worst, ne_eqb _ _ c.if-a-eq0.false, ne_eqb _ _ c.if-b-eq0.false, le-ltb c.args.a c.args.b (omega arith)))
