use Rattle.std.proofs.Common.{ℕ, ◌+◌, ◌<◌}
use Rattle.lexer.specs.RunLaws.{Closes}
use Rattle.lexer.proofs.bytes.close_place.Given as goal

abbrev pub invariant-loop-i : goal.invariant-loop-i
invariant-loop-i l = (k : ℕ) → k + 1 < l.i → Closes l.text k → ⊥
