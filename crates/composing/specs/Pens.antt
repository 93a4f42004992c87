-- How writing stands in memory: bytes from a place of the output on, what waits as the front of a stack, the numbers left as the front of theirs.
use Rattle.std.specs.Prelude.{ℕ, ◌+◌, ◌≤◌, ◌≡◌, false, List, drop}
use Rattle.derive.specs.Held.{held}
use Rattle.compose.specs.Writing.{Writing, Writing.writing}
use Rattle.composing.specs.declared.Pen.{Pen}
use Rattle.composing.specs.Sizes.{margin}

unfoldable pub stands : List ℕ → List ℕ → List ℕ → Pen → Writing
stands out stack numbers p = writing (drop p.place out) (held stack p.height) (held numbers p.left) p.later p.fits

-- a pen at which counts did not keep to what a stream holds, and else the same
abbrev pub Spoilt : Pen → Pen → Type 0
Spoilt p r = (r.place ≡ p.place) × (r.height ≡ p.height) × (r.left ≡ p.left) × (r.later ≡ p.later) × (r.fits ≡ false)

-- a pen at which one less waits
abbrev pub Popped : Pen → Pen → Type 0
Popped p r = (r.place ≡ p.place) × (r.height + 1 ≡ p.height) × (r.left ≡ p.left) × (r.later ≡ p.later) × (r.fits ≡ p.fits)

-- a pen at most b bytes further, with at most h more that wait and at most l more later variables
pub record Near (b h l : ℕ) (p r : Pen) : Type 0 where
  pub front : p.place ≤ r.place + b
  pub behind : r.place ≤ p.place
  pub height : r.height ≤ p.height + h
  pub left : r.left ≤ p.left
  pub later : r.later ≤ p.later + l

-- a pen behind operators that were written: with room for a role's own bytes, and with no more that wait
pub record Poured (p r : Pen) : Type 0 where
  pub front : margin ≤ r.place
  pub behind : r.place ≤ p.place
  pub height : r.height ≤ p.height
  pub left : r.left ≡ p.left
  pub later : r.later ≡ p.later
