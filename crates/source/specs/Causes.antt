-- The causes of 17 (02 §1): what leaves a derivation without a program (`Unmeant`), "or more of anything than the stream's counts, numbers or bytes hold"
-- (`Exceeds`).
use Rattle.program.specs.Tree.{Program}
use Rattle.syntax.specs.Syntax.{Program as Derivation}
use Rattle.meaning.specs.Means.{Means}
use Rattle.meaning.specs.Unmeant.{Unmeant}
use Rattle.meaning.specs.Exceeds.{Exceeds}

pub data Cause (c : Derivation) : Type 0 where
  unmeant : Unmeant c → Cause c
  too_much : {p : Program} → Means c p → Exceeds p → Cause c
