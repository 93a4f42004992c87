-- `tables::counted` meets its contract.
use Rattle.std.proofs.Common.{◌≡◌, ◌+◌, ap, ◌∙◌, ℕ, Bool, true, false, arith}
use Rattle.resolve.specs.Tables.{with_one}
use Rattle.resolve.proofs.tables.counted.Goals as goal

pub returns : goal.returns
unfolding with_one
returns c = ap (λ k. c.args.n + k) c.from.ensures ∙ go c.args.n c.args.is
  where
    go : (n : ℕ) (t : Bool) → n + mir.Val.bool_byte t ≡ with_one t n
    go n true = omega arith
    go n false = omega arith
