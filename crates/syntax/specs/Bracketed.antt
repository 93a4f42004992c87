-- Fully bracketed text, which is 02 §1's: each binary expression stands directly in brackets, and its operands are none. And expressions that are no bare
-- comparison (02 §2).
use Rattle.std.specs.Prelude.{ℕ, suc, ◌≡◌}
use Rattle.program.specs.Tree.{Op}
use Rattle.syntax.specs.Syntax.{Exp, Exp.binary, Exp.brackets, Exp.negation, Exp.constructor, Exp.variable, Exp.literal, Exp.null, Exp.this, Program}
use Rattle.syntax.specs.Bracketing.{loosest, comparisons, StandsProgram, level}

-- all operators are of one level: directly in brackets each may stand bare, as every level may; but none beside another, and none in a whole expression
abbrev pub one_level : Op → ℕ
one_level o = loosest

abbrev pub none_bare : ℕ
none_bare = suc loosest

abbrev pub none_left : Op → ℕ
none_left o = none_bare

unfoldable pub BracketedProgram : Program → Type 0
BracketedProgram = StandsProgram one_level none_left none_bare

-- an expression whose bare operator, if any, is no comparison
unfoldable pub NoComparison : Exp → Type 0
NoComparison (binary o a b) = level o ≡ comparisons → ⊥
NoComparison (brackets e) = Unit {0}
NoComparison (negation e) = Unit {0}
NoComparison (constructor x es) = Unit {0}
NoComparison (variable v) = Unit {0}
NoComparison (literal l) = Unit {0}
NoComparison (null t) = Unit {0}
NoComparison this = Unit {0}
