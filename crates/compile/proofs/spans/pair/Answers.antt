-- `spans::pair` meets its contract: two numbers side by side.
use Rattle.std.proofs.Common.{refl}
use Rattle.compile.specs.SpansLaws.{paired_is}
use Rattle.compile.proofs.spans.pair.Goals as goal

pub returns : goal.returns
returns c =
    let a = c.args in
    paired_is a.i a.from a.to a.spans.now _ _ refl refl
