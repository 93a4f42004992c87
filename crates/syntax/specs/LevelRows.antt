-- Rows that pin the levels, by computation (02 §2): what a bare expression is read as, and which expressions do not derive. The laws hold of every table of
-- levels; these rows tell one from another.
use Rattle.std.specs.Prelude.{◌≡◌, refl, false, List, [], ◌∷◌, ◌++◌}
use Rattle.std.proofs.Math.Option.{some}
use Rattle.program.specs.Tree.{Op.op_eq, Op.op_ne, Op.op_le, Op.op_ge, Op.op_lt, Op.op_gt, Op.op_mul, Op.op_div, Op.op_rem, Op.op_add, Op.op_sub}
use Rattle.program.specs.Tree.{Op.op_and, Op.op_or}
use Rattle.tokens.specs.Tokens.{Sign.lpar, Sign.rpar, Sign.semicolon, Sign.assign, Sign.bang, Token, Token.sign, Token.op, Token.name}
use Rattle.syntax.specs.Syntax.{Id, Var.id, Exp, Exp.binary, Exp.brackets, Exp.negation, Exp.variable}
use Rattle.syntax.specs.Syntax.{Stat.update, Stats.no_stats, Stats.stats, Step.step as a_step, Struct.struct, Defs.last_struct}
use Rattle.syntax.specs.Syntax.{Item.execution, Sched.last_item, Program, Program.program}
use Rattle.syntax.specs.Letters.{A, a, b, c, s}
use Rattle.syntax.specs.Reading.{read}
use Rattle.syntax.specs.Rows.{derivable, Row, row, stepped, Rows, Rows.no_more as no_rows, Rows.and_then as and_row}
use Rattle.syntax.specs.Unfold.{reading}

-- the tokens of an expression, and the expression
pub record Reads : Type 0 where
  pub tokens : List Token
  pub exp : Exp

abbrev reads : List Token → Exp → Reads
reads ts e = record { tokens = ts; exp = e }

-- a := e;
abbrev valued : List Token → List Token
valued ts = stepped (name a ∷ sign assign ∷ (ts ++ (sign semicolon ∷ [])))

abbrev value : Exp → Program
value e = program (last_struct (struct A [] (a_step s (stats (update (id a) e) no_stats) ∷ []))) (last_item (execution s))

pub data Readings : List Reads → Type 0 where
  no_more : Readings []
  and_then : {r : Reads} {rs : List Reads} → read (valued r.tokens) ≡ some (value r.exp) → Readings rs → Readings (r ∷ rs)

abbrev v : Id → Exp
v x = variable (id x)

unfoldable pub levels : List Reads
levels =
    -- a || b && c
    reads (name a ∷ op op_or ∷ name b ∷ op op_and ∷ name c ∷ []) (binary op_or (v a) (binary op_and (v b) (v c)))
    -- a && b || c
    ∷ reads (name a ∷ op op_and ∷ name b ∷ op op_or ∷ name c ∷ []) (binary op_or (binary op_and (v a) (v b)) (v c))
    -- a && b = c
    ∷ reads (name a ∷ op op_and ∷ name b ∷ op op_eq ∷ name c ∷ []) (binary op_and (v a) (binary op_eq (v b) (v c)))
    -- a = b && c
    ∷ reads (name a ∷ op op_eq ∷ name b ∷ op op_and ∷ name c ∷ []) (binary op_and (binary op_eq (v a) (v b)) (v c))
    -- a < b + c
    ∷ reads (name a ∷ op op_lt ∷ name b ∷ op op_add ∷ name c ∷ []) (binary op_lt (v a) (binary op_add (v b) (v c)))
    -- a + b < c
    ∷ reads (name a ∷ op op_add ∷ name b ∷ op op_lt ∷ name c ∷ []) (binary op_lt (binary op_add (v a) (v b)) (v c))
    -- a + b * c
    ∷ reads (name a ∷ op op_add ∷ name b ∷ op op_mul ∷ name c ∷ []) (binary op_add (v a) (binary op_mul (v b) (v c)))
    -- a * b + c
    ∷ reads (name a ∷ op op_mul ∷ name b ∷ op op_add ∷ name c ∷ []) (binary op_add (binary op_mul (v a) (v b)) (v c))
    -- ! a * ! b
    ∷ reads (sign bang ∷ name a ∷ op op_mul ∷ sign bang ∷ name b ∷ []) (binary op_mul (negation (v a)) (negation (v b)))
    -- ! ! a = b
    ∷ reads (sign bang ∷ sign bang ∷ name a ∷ op op_eq ∷ name b ∷ []) (binary op_eq (negation (negation (v a))) (v b))
    -- a || b || c
    ∷ reads (name a ∷ op op_or ∷ name b ∷ op op_or ∷ name c ∷ []) (binary op_or (binary op_or (v a) (v b)) (v c))
    -- a && b && c
    ∷ reads (name a ∷ op op_and ∷ name b ∷ op op_and ∷ name c ∷ []) (binary op_and (binary op_and (v a) (v b)) (v c))
    -- a + b - c
    ∷ reads (name a ∷ op op_add ∷ name b ∷ op op_sub ∷ name c ∷ []) (binary op_sub (binary op_add (v a) (v b)) (v c))
    -- a - b + c
    ∷ reads (name a ∷ op op_sub ∷ name b ∷ op op_add ∷ name c ∷ []) (binary op_add (binary op_sub (v a) (v b)) (v c))
    -- a * b / c % a
    ∷ reads (name a ∷ op op_mul ∷ name b ∷ op op_div ∷ name c ∷ op op_rem ∷ name a ∷ []) (binary op_rem (binary op_div (binary op_mul (v a) (v b)) (v c)) (v a))
    -- a % b / c * a
    ∷ reads (name a ∷ op op_rem ∷ name b ∷ op op_div ∷ name c ∷ op op_mul ∷ name a ∷ []) (binary op_mul (binary op_div (binary op_rem (v a) (v b)) (v c)) (v a))
    -- a < b && b < c
    ∷ reads (name a ∷ op op_lt ∷ name b ∷ op op_and ∷ name b ∷ op op_lt ∷ name c ∷ []) (binary op_and (binary op_lt (v a) (v b)) (binary op_lt (v b) (v c)))
    -- ( a < b ) = c
    ∷ reads (sign lpar ∷ name a ∷ op op_lt ∷ name b ∷ sign rpar ∷ op op_eq ∷ name c ∷ []) (binary op_eq (brackets (binary op_lt (v a) (v b))) (v c))
    -- a || b && c = a + b * ! c
    ∷ reads (name a ∷ op op_or ∷ name b ∷ op op_and ∷ name c ∷ op op_eq ∷ name a ∷ op op_add ∷ name b ∷ op op_mul ∷ sign bang ∷ name c ∷ [])
    (binary op_or (v a) (binary op_and (v b) (binary op_eq (v c) (binary op_add (v a) (binary op_mul (v b) (negation (v c)))))))
    -- ! a * b + c < a && b || c
    ∷ reads (sign bang ∷ name a ∷ op op_mul ∷ name b ∷ op op_add ∷ name c ∷ op op_lt ∷ name a ∷ op op_and ∷ name b ∷ op op_or ∷ name c ∷ [])
    (binary op_or (binary op_and (binary op_lt (binary op_add (binary op_mul (negation (v a)) (v b)) (v c)) (v a)) (v b)) (v c))
    ∷ []

unfoldable pub refused : List Row
refused =
    -- a < b < c
    row false (valued (name a ∷ op op_lt ∷ name b ∷ op op_lt ∷ name c ∷ []))
    -- a = b != c
    ∷ row false (valued (name a ∷ op op_eq ∷ name b ∷ op op_ne ∷ name c ∷ []))
    -- a != b <= c
    ∷ row false (valued (name a ∷ op op_ne ∷ name b ∷ op op_le ∷ name c ∷ []))
    -- a <= b >= c
    ∷ row false (valued (name a ∷ op op_le ∷ name b ∷ op op_ge ∷ name c ∷ []))
    -- a >= b < c
    ∷ row false (valued (name a ∷ op op_ge ∷ name b ∷ op op_lt ∷ name c ∷ []))
    -- a < b > c
    ∷ row false (valued (name a ∷ op op_lt ∷ name b ∷ op op_gt ∷ name c ∷ []))
    -- a > b = c
    ∷ row false (valued (name a ∷ op op_gt ∷ name b ∷ op op_eq ∷ name c ∷ []))
    -- a < b + c < a
    ∷ row false (valued (name a ∷ op op_lt ∷ name b ∷ op op_add ∷ name c ∷ op op_lt ∷ name a ∷ []))
    -- ( a < b < c )
    ∷ row false (valued (sign lpar ∷ name a ∷ op op_lt ∷ name b ∷ op op_lt ∷ name c ∷ sign rpar ∷ []))
    -- a + b +
    ∷ row false (valued (name a ∷ op op_add ∷ name b ∷ op op_add ∷ []))
    -- a + * b
    ∷ row false (valued (name a ∷ op op_add ∷ op op_mul ∷ name b ∷ []))
    ∷ []

pub levels_hold : Readings levels
unfolding levels reading
levels_hold =
    (and_then refl (and_then refl (and_then refl (and_then refl (and_then refl (and_then refl (and_then refl (and_then refl
    (and_then refl (and_then refl (and_then refl (and_then refl (and_then refl (and_then refl (and_then refl (and_then refl
    (and_then refl (and_then refl (and_then refl (and_then refl no_more))))))))))))))))))))

pub refused_hold : Rows refused
unfolding refused derivable reading
refused_hold =
    (and_row refl (and_row refl (and_row refl (and_row refl (and_row refl (and_row refl (and_row refl (and_row refl
    (and_row refl (and_row refl (and_row refl no_rows)))))))))))
