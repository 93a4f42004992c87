-- Exhibits of what is fully bracketed (02 §1) and of two comparisons in a row (02 §2).
use Rattle.std.specs.Prelude.{ℕ, ◌≡◌, refl, true, List, [], ◌∷◌}
use Rattle.std.proofs.Common.{arith, sym, ◌∙◌}
use Rattle.std.proofs.Math.Option.{none, some}
use Rattle.program.specs.Tree.{Op, Op.op_eq, Op.op_ne, Op.op_le, Op.op_ge, Op.op_lt, Op.op_gt, Op.op_mul, Op.op_div, Op.op_rem, Op.op_add, Op.op_sub, Op.op_and, Op.op_or}
use Rattle.tokens.specs.Tokens.{Word.w_struct, Word.w_int, Word.w_fix, Sign.lpar, Sign.rpar, Sign.lbrace, Sign.rbrace, Sign.comma, Sign.semicolon, Sign.assign}
use Rattle.tokens.specs.Tokens.{Token, Token.word, Token.sign, Token.op, Token.name}
use Rattle.syntax.specs.Syntax.{Id, Var.id, Exp, Exp.binary, Exp.brackets, Exp.variable}
use Rattle.syntax.specs.Syntax.{Stat.update, Stats.no_stats, Stats.stats, Step.step as a_step, Struct.struct, Defs.last_struct}
use Rattle.syntax.specs.Syntax.{Item.execution, Sched.last_item, Program, Program.program}
use Rattle.syntax.specs.Letters.{A, a, b, c, s}
use Rattle.syntax.specs.Bracketing.{level, comparisons, left, Derives}
use Rattle.syntax.specs.Bracketed.{BracketedProgram}
use Rattle.syntax.specs.Reading.{read}
use Rattle.syntax.specs.Rows.{derivable, Row, row, stepped, Rows, Rows.no_more as no_rows, Rows.and_then as and_row}
use Rattle.syntax.proofs.Laws.CompleteLaws.{derives_read}
use Rattle.syntax.specs.Unfold.{reading}

abbrev value : Exp → Program
value e = program (last_struct (struct A [] (a_step s (stats (update (id a) e) no_stats) ∷ []))) (last_item (execution s))

abbrev v : Id → Exp
v x = variable (id x)

-- a := (b + c);
pub sum_bracketed : BracketedProgram (value (brackets (binary op_add (v b) (v c))))
unfolding BracketedProgram
sum_bracketed = (((omega arith, tt, tt), tt), tt)

-- a := ((b + c) + b);
pub sums_bracketed : BracketedProgram (value (brackets (binary op_add (brackets (binary op_add (v b) (v c))) (v b))))
unfolding BracketedProgram
sums_bracketed = (((omega arith, (omega arith, tt, tt), tt), tt), tt)

-- a := b + c;
pub bare_sum : BracketedProgram (value (binary op_add (v b) (v c))) → ⊥
unfolding BracketedProgram
bare_sum f = omega (arith, f.0.0.0)

-- a := (b + c + b);
pub sums_in_one : BracketedProgram (value (brackets (binary op_add (binary op_add (v b) (v c)) (v b)))) → ⊥
unfolding BracketedProgram
sums_in_one f = omega (arith, f.0.0.1.0)

-- a := a o b p c;
abbrev pub compared : Op → Op → List Token
compared o p = stepped (name a ∷ sign assign ∷ name a ∷ op o ∷ name b ∷ op p ∷ name c ∷ sign semicolon ∷ [])

abbrev Each : (Op → Type 0) → Type 0
Each P = (P op_eq) × (P op_ne) × (P op_le) × (P op_ge) × (P op_lt) × (P op_gt)

-- what holds of the six comparisons holds of every operator of their level
of_level : (P : Op → Type 0) → Each P → (o : Op) → level o ≡ comparisons → P o
unfolding level
of_level P h op_eq e = h.0
of_level P h op_ne e = h.1
of_level P h op_le e = h.2
of_level P h op_ge e = h.3
of_level P h op_lt e = h.4
of_level P h op_gt e = h.5
of_level P h op_mul e = absurd (omega (arith, e))
of_level P h op_div e = absurd (omega (arith, e))
of_level P h op_rem e = absurd (omega (arith, e))
of_level P h op_add e = absurd (omega (arith, e))
of_level P h op_sub e = absurd (omega (arith, e))
of_level P h op_and e = absurd (omega (arith, e))
of_level P h op_or e = absurd (omega (arith, e))

abbrev Unread : Op → Op → Type 0
Unread o p = read (compared o p) ≡ none

all_unread : Each (λ o. Each (Unread o))
unfolding reading left level
all_unread = (
  (refl, refl, refl, refl, refl, refl),
  (refl, refl, refl, refl, refl, refl),
  (refl, refl, refl, refl, refl, refl),
  (refl, refl, refl, refl, refl, refl),
  (refl, refl, refl, refl, refl, refl),
  (refl, refl, refl, refl, refl, refl),
)

unread : (o p : Op) → level o ≡ comparisons → level p ≡ comparisons → Unread o p
unread o p e f = of_level (Unread o) (of_level (λ q. Each (Unread q)) all_unread o e) p f

-- "Two comparisons in a row without brackets give 16"
pub two_compared : (o p : Op) → level o ≡ comparisons → level p ≡ comparisons → (d : Program) → Derives (compared o p) d → ⊥
two_compared o p e f d h = let z : none ≡ some d = sym (unread o p e f) ∙ derives_read (compared o p) d h in let y : ◌≡◌ {A = ℕ} 0 1 = cc in omega arith

-- where bare operators may stand, and forms that no other row has
unfoldable pub places : List Row
places =
    -- Int a := b + c;
    row true (stepped (word w_int ∷ name a ∷ sign assign ∷ name b ∷ op op_add ∷ name c ∷ sign semicolon ∷ []))
    -- A(b + c, b < c);
    ∷ row true (stepped (name A ∷ sign lpar ∷ name b ∷ op op_add ∷ name c ∷ sign comma ∷ name b ∷ op op_lt ∷ name c ∷ sign rpar ∷ sign semicolon ∷ []))
    -- a := A(b + c, A());
    ∷ row true (stepped (name a ∷ sign assign ∷ name A ∷ sign lpar ∷ name b ∷ op op_add ∷ name c ∷ sign comma ∷ name A ∷ sign lpar ∷ sign rpar ∷ sign rpar
    ∷ sign semicolon ∷ []))
    -- struct A() { } Fix(s) < s
    ∷ row true (word w_struct ∷ name A ∷ sign lpar ∷ sign rpar ∷ sign lbrace ∷ sign rbrace ∷ word w_fix ∷ sign lpar ∷ name s ∷ sign rpar ∷ op op_lt ∷ name s ∷ [])
    ∷ []

pub places_hold : Rows places
unfolding places derivable reading
places_hold = and_row refl (and_row refl (and_row refl (and_row refl no_rows)))
