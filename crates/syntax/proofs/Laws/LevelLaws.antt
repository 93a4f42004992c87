-- Laws of the levels (02 §2): what fits a level fits a looser one; none is tighter than the tightest.
use Rattle.std.specs.Prelude.{ℕ, suc, ◌≤◌, ◌≡◌, refl, Bool, true, false, eqb}
use Rattle.std.proofs.Common.{arith}
use Rattle.program.specs.Tree.{Op, Op.op_eq, Op.op_ne, Op.op_le, Op.op_ge, Op.op_lt, Op.op_gt, Op.op_mul, Op.op_div, Op.op_rem, Op.op_add, Op.op_sub}
use Rattle.program.specs.Tree.{Op.op_and, Op.op_or}
use Rattle.tokens.specs.Tokens.{Token, Token.word, Token.sign, Token.op, Token.name, Token.int, Token.nat}
use Rattle.syntax.specs.Syntax.{Exp, Exp.binary, Exp.brackets, Exp.negation, Exp.constructor, Exp.variable, Exp.literal, Exp.null, Exp.this}
use Rattle.syntax.specs.Places.{Place, Place.in_brackets, Place.in_negation, Place.in_right, Place.in_constructor, Place.in_construct, Place.in_if}
use Rattle.syntax.specs.Places.{Place.in_assignment, Place.in_update}
use Rattle.syntax.specs.Expecting.{on_op}
use Rattle.syntax.specs.Bracketing.{level, comparisons, tightest, left, Fits}
use Rattle.syntax.specs.Reading.{least}
use Rattle.syntax.specs.SoFar.{room}

pub level_most : (o : Op) → suc (level o) ≤ tightest
unfolding level
level_most op_eq = omega arith
level_most op_ne = omega arith
level_most op_le = omega arith
level_most op_ge = omega arith
level_most op_lt = omega arith
level_most op_gt = omega arith
level_most op_mul = omega arith
level_most op_div = omega arith
level_most op_rem = omega arith
level_most op_add = omega arith
level_most op_sub = omega arith
level_most op_and = omega arith
level_most op_or = omega arith

pub left_from : (o : Op) → (level o ≤ left o) × (left o ≤ suc (level o))
unfolding left
left_from o = go (eqb (level o) comparisons) refl
  where
    go : (b : Bool) → eqb (level o) comparisons ≡ b → (level o ≤ left o) × (left o ≤ suc (level o))
    go true u = rw (u, left) (omega arith, omega arith)
    go false u = rw (u, left) (omega arith, omega arith)

pub least_most : (t : Token) → least t ≤ tightest
unfolding least on_op
least_most (word w) = omega arith
least_most (sign g) = omega arith
least_most (op o) = omega (arith, left_from o, level_most o)
least_most (name x) = omega arith
least_most (int p ds) = omega arith
least_most (nat ds) = omega arith

pub room_most : (p : Place) → room p ≤ tightest
unfolding room
room_most (in_brackets p) = omega arith
room_most (in_negation p) = omega arith
room_most (in_right o a p) = level_most o
room_most (in_constructor x es p) = omega arith
room_most (in_construct x es l c) = omega arith
room_most (in_if l c) = omega arith
room_most (in_assignment a x l c) = omega arith
room_most (in_update v l c) = omega arith

pub fits_down : (n m : ℕ) (e : Exp) → n ≤ m → Fits m e → Fits n e
fits_down n m (binary o a b) h f = (omega (arith, f.0), f.1, f.2)
fits_down n m (brackets e) h f = f
fits_down n m (negation e) h f = f
fits_down n m (constructor x es) h f = f
fits_down n m (variable v) h f = f
fits_down n m (literal l) h f = f
fits_down n m (null t) h f = f
fits_down n m this h f = f
