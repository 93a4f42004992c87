-- `read::is_type` meets its contract: the number of structs is that of types, or more than a byte names.
use Rattle.std.proofs.Common.{arith, ◌<◌, ◌∙◌}
use Rattle.std.proofs.Math.Path.{◌≡◌}
use Rattle.std.proofs.Math.Decide.{dec_lt}
use Rattle.types.specs.TypeBytes.{is_type}
use Rattle.read_exprs.specs.ByteWays.{type_many}
use Rattle.read_exprs.proofs.read.is_type.Goals as goal

pub returns : goal.returns
returns c = c.is_type.ensures ∙ go (dec_lt c.args.n 255)
  where
    go : Dec (c.args.n < 255) → is_type c.min.result c.args.b ≡ is_type c.args.n c.args.b
    go (yes h) = let e : c.min.result ≡ c.args.n = omega (arith, c.min.ensures) in rw e
    go (no h) =
        let e : c.min.result ≡ 255 = omega (arith, c.min.ensures) in
        rw e (type_many 255 c.args.n c.args.b (omega (arith, c.ranges.b)) (omega (arith, c.ranges.b)))
