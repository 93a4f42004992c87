use Rattle.std.proofs.Common.{◌≡◌, ◌-◌, ◌*◌, ◌%◌}
use Rattle.block.specs.Sums.{byte, sum}
use Rattle.block.proofs.sums.Given as goal

abbrev pub invariant-loop-byte : goal.invariant-loop-byte
invariant-loop-byte l =
    (l.a ≡ sum l.byte-index (λ j. byte l.block j) % 65536) × (l.b ≡ sum l.byte-index (λ j. (l.byte-index - j) * byte l.block j) % 65536)
