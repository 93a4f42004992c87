-- Operators that wait (02 §2): in a row as they stand before what waited already, and what they and the bytes come to.
use Rattle.std.specs.Prelude.{ℕ, suc, ◌≤◌, ◌≡◌, Bool}
use Rattle.std.proofs.Common.{arith, ◌∙◌, lt-ltb, le-ltb}
use Rattle.std.proofs.Math.Path.{refl, ap}
use mathlib.Core.List.{List, [], ◌∷◌, ◌++◌}
use Rattle.program.specs.Tree.{Op, Op.op_eq, Op.op_ne, Op.op_le, Op.op_ge, Op.op_lt, Op.op_gt, Op.op_mul, Op.op_div, Op.op_rem, Op.op_add, Op.op_sub, Op.op_and}
use Rattle.program.specs.Tree.{Op.op_or}
use Rattle.program.specs.Encoding.{op_code}
use Rattle.syntax.specs.Bracketing.{level, tightest}
use Rattle.syntax.proofs.Laws.LevelLaws.{level_most}
use Rattle.compose.specs.Writing.{Writing.writing, tightness, pour, poured, passed, begun}

-- an operator's byte tells its level
pub tight_op : (o : Op) → tightness (op_code o) ≡ suc (level o)
unfolding tightness op_code level
tight_op op_eq = refl
tight_op op_ne = refl
tight_op op_le = refl
tight_op op_ge = refl
tight_op op_lt = refl
tight_op op_gt = refl
tight_op op_mul = refl
tight_op op_div = refl
tight_op op_rem = refl
tight_op op_add = refl
tight_op op_sub = refl
tight_op op_and = refl
tight_op op_or = refl

-- operators that wait, all of level l and tighter
unfoldable pub From : ℕ → List Op → Type 0
From l [] = Unit {0}
From l (o ∷ os) = (l ≤ level o) × (From l os)

-- the first that waits is no tighter than l
unfoldable pub Upto : ℕ → List ℕ → Type 0
Upto l [] = Unit {0}
Upto l (c ∷ w) = tightness c ≤ suc l

unfoldable pub waiting : List Op → List ℕ → List ℕ
waiting [] w = w
waiting (o ∷ os) w = op_code o ∷ waiting os w

unfoldable pub spilt : List Op → List ℕ → List ℕ
spilt [] s = s
spilt (o ∷ os) s = spilt os (op_code o ∷ s)

pub from_down : (l m : ℕ) (os : List Op) → l ≤ m → From m os → From l os
unfolding From
from_down l m [] h f = tt
from_down l m (o ∷ os) h f = (omega (arith, f.0), from_down l m os h f.1)

pub from_end : (l : ℕ) (os : List Op) (o : Op) → From l os → l ≤ level o → From l (os ++ (o ∷ []))
unfolding From
from_end l [] o f h = (h, tt)
from_end l (r ∷ os) o f h = (f.0, from_end l os o f.1 h)

pub waiting_end : (os : List Op) (o : Op) (w : List ℕ) → waiting (os ++ (o ∷ [])) w ≡ waiting os (op_code o ∷ w)
unfolding waiting
waiting_end [] o w = refl
waiting_end (r ∷ os) o w = ap (λ l. op_code r ∷ l) (waiting_end os o w)

pub spilt_end : (os : List Op) (o : Op) (s : List ℕ) → spilt (os ++ (o ∷ [])) s ≡ op_code o ∷ spilt os s
unfolding spilt
spilt_end [] o s = refl
spilt_end (r ∷ os) o s = spilt_end os o (op_code r ∷ s)

-- nothing waits that is tighter than every operator
pub from_tightest : (os : List Op) → From tightest os → os ≡ []
unfolding From
from_tightest [] f = refl
from_tightest (o ∷ os) f = absurd (omega (arith, f.0, level_most o))

pub upto_up : (l m : ℕ) (w : List ℕ) → l ≤ m → Upto l w → Upto m w
unfolding Upto
upto_up l m [] h u = tt
upto_up l m (c ∷ w) h u = omega arith

-- Pouring ----------------------------------------------------------------------------------------

module _ (n : List ℕ) (k : ℕ) (f : Bool) where
  -- an operator lets tighter ones go first, and what is looser or none waits on
  stays : (l : ℕ) (s w : List ℕ) → Upto l w → pour (suc l) s w n k f ≡ writing s w n k f
  unfolding pour Upto
  stays l s [] u = refl
  stays l s (c ∷ w) u = rw (le-ltb (suc l) (tightness c) u, pour) refl

  pour_row : (t : ℕ) (os : List Op) (s w : List ℕ) → From t os → pour t s (waiting os w) n k f ≡ pour t (spilt os s) w n k f
  unfolding pour From waiting spilt
  pour_row t [] s w g = refl
  pour_row t (o ∷ os) s w g =
      rw (lt-ltb t (tightness (op_code o)) (omega (arith, tight_op o, g.0)), pour) (pour_row t os (op_code o ∷ s) w g.1)

  pub pours_tighter : (l : ℕ) (os : List Op) (s w : List ℕ) → From (suc l) os → Upto l w
      → poured (suc l) (writing s (waiting os w) n k f) ≡ writing (spilt os s) w n k f
  unfolding poured
  pours_tighter l os s w g u = pour_row (suc l) os s w g ∙ stays l (spilt os s) w u

  -- where an expression begins, all go down to its end
  pub pours_all : (os : List Op) (s w : List ℕ) → From 0 os → begun (writing s (waiting os (0 ∷ w)) n k f) ≡ writing (spilt os s) w n k f
  unfolding begun poured passed pour tightness
  pours_all os s w g = ap passed (pour_row 0 os s (0 ∷ w) g)
