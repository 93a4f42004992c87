-- An operator's sort by its byte (01, 'Program stream' and 'Names, types, commands').
use Rattle.std.specs.Prelude.{ℕ, ◌<◌, ◌≤◌, Bool, ◌≡◌, eqb}
use Rattle.std.proofs.Common.{arith}
use Rattle.std.proofs.Math.Bool.{true, false}
use Rattle.std.proofs.Math.Path.{refl}
use Rattle.std.proofs.Math.Dec.{ltb}
use borrow.Author.Tests.{lt-ltb, le-ltb}
use Rattle.program.specs.Tree.{Op, Op.op_eq, Op.op_ne, Op.op_le, Op.op_ge, Op.op_lt, Op.op_gt, Op.op_mul, Op.op_div, Op.op_rem, Op.op_add, Op.op_sub}
use Rattle.program.specs.Tree.{Op.op_and, Op.op_or}
use Rattle.program.specs.Reader.{form, Form.form_op}
use Rattle.program.specs.Encoding.{op_code}
use Rattle.program.proofs.Laws.ExprLaws.{Opens, opens}
use Rattle.commands.specs.Typing.{Sort, Sort.equality, Sort.order, Sort.arithmetic, Sort.logic, sort}
use Rattle.judge.specs.Facts.{bool_code, takes, gives}

unfoldable pub sort_by : ℕ → Sort
sort_by b = elim (ltb b 34) [
  | true ↦ equality
  | false ↦ elim (ltb b 38) [ true ↦ order | false ↦ elim (ltb b 43) [ true ↦ arithmetic | false ↦ logic ] ]
]

sort_code : (o : Op) → sort_by (op_code o) ≡ sort o
unfolding sort_by op_code
sort_code op_eq = refl
sort_code op_ne = refl
sort_code op_le = refl
sort_code op_ge = refl
sort_code op_lt = refl
sort_code op_gt = refl
sort_code op_mul = refl
sort_code op_div = refl
sort_code op_rem = refl
sort_code op_add = refl
sort_code op_sub = refl
sort_code op_and = refl
sort_code op_or = refl

-- the sort of the operator that a byte opens
pub sort_form : (b : ℕ) (o : Op) → form b ≡ form_op o → sort_by b ≡ sort o
sort_form b o e = let h : Opens b (form_op o) = rw e at (opens b) in rw h (sort_code o)

-- what operators take and give, by their bytes
module _ (b t : ℕ) where
  pub takes_low : b < 34 → takes (sort_by b) t ≡ true
  unfolding sort_by takes
  takes_low h = simp (sort_by, lt-ltb b 34 h)

  pub takes_middle : 34 ≤ b → b < 43 → takes (sort_by b) t ≡ ltb t bool_code
  unfolding sort_by takes
  takes_middle h k = go (ltb b 38) refl
    where
      go : (p : Bool) → ltb b 38 ≡ p → takes (sort_by b) t ≡ ltb t bool_code
      go true e = simp (sort_by, le-ltb b 34 h, e)
      go false e = simp (sort_by, le-ltb b 34 h, e, lt-ltb b 43 k)

  pub takes_high : 43 ≤ b → takes (sort_by b) t ≡ eqb t bool_code
  unfolding sort_by takes
  takes_high h = simp (sort_by, le-ltb b 34 (omega arith), le-ltb b 38 (omega arith), le-ltb b 43 h)

  pub gives_low : b < 38 → gives (sort_by b) t ≡ bool_code
  unfolding sort_by gives
  gives_low h = go (ltb b 34) refl
    where
      go : (p : Bool) → ltb b 34 ≡ p → gives (sort_by b) t ≡ bool_code
      go true e = simp (sort_by, e)
      go false e = simp (sort_by, e, lt-ltb b 38 h)

  pub gives_middle : 38 ≤ b → b < 43 → gives (sort_by b) t ≡ t
  unfolding sort_by gives
  gives_middle h k = simp (sort_by, le-ltb b 34 (omega arith), le-ltb b 38 h, lt-ltb b 43 k)

  pub gives_high : 43 ≤ b → gives (sort_by b) t ≡ bool_code
  unfolding sort_by gives
  gives_high h = simp (sort_by, le-ltb b 34 (omega arith), le-ltb b 38 (omega arith), le-ltb b 43 h)
