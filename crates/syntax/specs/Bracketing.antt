-- Where a binary expression may stand: bare, by levels of the operators, or in brackets. The levels are 02 §2's. And what it is to derive tokens. Nothing here
-- speaks of reading.
use Rattle.std.specs.Prelude.{ℕ, suc, ◌≤◌, ◌≡◌, true, false, List, [], ◌∷◌, eqb}
use Rattle.program.specs.Tree.{Op, Op.op_eq, Op.op_ne, Op.op_le, Op.op_ge, Op.op_lt, Op.op_gt, Op.op_mul, Op.op_div, Op.op_rem, Op.op_add, Op.op_sub}
use Rattle.program.specs.Tree.{Op.op_and, Op.op_or}
use Rattle.tokens.specs.Tokens.{Token}
use Rattle.syntax.specs.Syntax.{Exp, Exp.binary, Exp.brackets, Exp.negation, Exp.constructor, Exp.variable, Exp.literal, Exp.null, Exp.this}
use Rattle.syntax.specs.Syntax.{Exps, Exps.no_exps, Exps.exps, Stat, Stat.if_then, Stat.assignment, Stat.update, Stat.construct, Stats}
use Rattle.syntax.specs.Syntax.{Stats.no_stats, Stats.stats}
use Rattle.syntax.specs.Syntax.{Step, Step.step, Struct, Struct.struct, Defs, Defs.last_struct, Defs.defs, Program, Program.program}
use Rattle.syntax.specs.Yield.{yield}

-- every operator may stand bare; the level of the comparisons; no operator may, as in what a not stands before
abbrev pub loosest : ℕ
loosest = 0

abbrev pub comparisons : ℕ
comparisons = 2

abbrev pub tightest : ℕ
tightest = 5

-- By any levels --------------------------------------------------------------------------------------

-- the level of each operator; the loosest level that may stand bare left of it; and in a whole expression: an argument, a condition, what is assigned
module _ (of left_of : Op → ℕ) (whole : ℕ) where
  -- an expression in which no operator stands bare that is looser than l
  abbrev mutual
    pub Stands : ℕ → Exp → Type 0
    Stands l (binary o a b) = (l ≤ of o) × (Stands (left_of o) a) × (Stands (suc (of o)) b)
    Stands l (brackets e) = Stands loosest e
    Stands l (negation e) = Stands tightest e
    Stands l (constructor x es) = StandsExps es
    Stands l (variable v) = Unit {0}
    Stands l (literal a) = Unit {0}
    Stands l (null t) = Unit {0}
    Stands l this = Unit {0}

    pub StandsExps : Exps → Type 0
    StandsExps no_exps = Unit {0}
    StandsExps (exps e es) = (Stands whole e) × (StandsExps es)

  abbrev mutual
    pub StandsStat : Stat → Type 0
    StandsStat (if_then e b) = (Stands whole e) × (StandsStats b)
    StandsStat (assignment t x e) = Stands whole e
    StandsStat (update v e) = Stands whole e
    StandsStat (construct x es) = StandsExps es

    pub StandsStats : Stats → Type 0
    StandsStats no_stats = Unit {0}
    StandsStats (stats t b) = (StandsStat t) × (StandsStats b)

  abbrev pub StandsSteps : List Step → Type 0
  StandsSteps [] = Unit {0}
  StandsSteps (step x b ∷ ts) = (StandsStats b) × (StandsSteps ts)

  abbrev pub StandsStruct : Struct → Type 0
  StandsStruct (struct x ps ts) = StandsSteps ts

  abbrev pub StandsDefs : Defs → Type 0
  StandsDefs (last_struct d) = StandsStruct d
  StandsDefs (defs d ds) = (StandsStruct d) × (StandsDefs ds)

  abbrev pub StandsProgram : Program → Type 0
  StandsProgram (program d s) = StandsDefs d

-- By 02 §2's --------------------------------------------------------------------------------------------

-- from the loosest up
unfoldable pub level : Op → ℕ
level op_or = 0
level op_and = 1
level op_eq = 2
level op_ne = 2
level op_le = 2
level op_ge = 2
level op_lt = 2
level op_gt = 2
level op_add = 3
level op_sub = 3
level op_mul = 4
level op_div = 4
level op_rem = 4

-- the loosest level that may stand bare left of an operator: its own, as each level goes from left to right, but no comparison left of one
unfoldable pub left : Op → ℕ
left o = elim (eqb (level o) comparisons) [ true ↦ suc (level o) | false ↦ level o ]

-- in a whole expression every operator may stand bare
abbrev pub Fits : ℕ → Exp → Type 0
Fits = Stands level left loosest

abbrev pub FitsExps : Exps → Type 0
FitsExps = StandsExps level left loosest

abbrev pub FitsStat : Stat → Type 0
FitsStat = StandsStat level left loosest

abbrev pub FitsStats : Stats → Type 0
FitsStats = StandsStats level left loosest

abbrev pub FitsSteps : List Step → Type 0
FitsSteps = StandsSteps level left loosest

abbrev pub FitsStruct : Struct → Type 0
FitsStruct = StandsStruct level left loosest

abbrev pub FitsDefs : Defs → Type 0
FitsDefs = StandsDefs level left loosest

abbrev pub FitsProgram : Program → Type 0
FitsProgram = StandsProgram level left loosest

-- a derivation of the tokens
pub record Derives (ts : List Token) (c : Program) : Type 0 where
  pub fits : FitsProgram c
  pub yields : yield c ≡ ts
