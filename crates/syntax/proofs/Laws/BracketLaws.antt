-- What 02 §2 leaves of 02 §1: fully bracketed text keeps its derivation. And no two comparisons stand in a row without brackets.
use Rattle.std.specs.Prelude.{ℕ, suc, ◌≤◌, ◌≡◌, List, [], ◌∷◌}
use Rattle.std.proofs.Common.{arith, eq-eqb}
use Rattle.program.specs.Tree.{Op}
use Rattle.tokens.specs.Tokens.{Token}
use Rattle.syntax.specs.Syntax.{Exp, Exp.binary, Exp.brackets, Exp.negation, Exp.constructor, Exp.variable, Exp.literal, Exp.null, Exp.this}
use Rattle.syntax.specs.Syntax.{Exps, Exps.no_exps, Exps.exps, Stat, Stat.if_then, Stat.assignment, Stat.update, Stat.construct, Stats}
use Rattle.syntax.specs.Syntax.{Stats.no_stats, Stats.stats}
use Rattle.syntax.specs.Syntax.{Step, Step.step, Struct, Struct.struct, Defs, Defs.last_struct, Defs.defs, Program, Program.program}
use Rattle.syntax.specs.Yield.{yield}
use Rattle.syntax.specs.Bracketing.{loosest, comparisons, tightest, Stands, StandsExps, StandsStat, StandsStats, StandsSteps, StandsStruct, StandsDefs}
use Rattle.syntax.specs.Bracketing.{level, left, Fits, FitsExps, FitsStat, FitsStats, FitsSteps, FitsStruct, FitsDefs, FitsProgram, Derives}
use Rattle.syntax.specs.Bracketed.{one_level, none_bare, none_left, BracketedProgram, NoComparison}

-- Fully bracketed text ---------------------------------------------------------------------------

mutual
  bare_fits : (e : Exp) (l m : ℕ) → none_bare ≤ m → Stands one_level none_left none_bare m e → Fits l e
  bare_fits (binary o a b) l m h f = absurd (omega (arith, h, f.0))
  bare_fits (brackets e) l m h f = in_fits e f
  bare_fits (negation e) l m h f = bare_fits e tightest tightest (omega arith) f
  bare_fits (constructor x es) l m h f = exps_fit es f
  bare_fits (variable v) l m h f = tt
  bare_fits (literal a) l m h f = tt
  bare_fits (null t) l m h f = tt
  bare_fits this l m h f = tt

  in_fits : (e : Exp) → Stands one_level none_left none_bare loosest e → Fits loosest e
  in_fits (binary o a b) f =
      (omega arith, bare_fits a (left o) none_bare (omega arith) f.1, bare_fits b (suc (level o)) none_bare (omega arith) f.2)
  in_fits (brackets e) f = in_fits e f
  in_fits (negation e) f = bare_fits e tightest tightest (omega arith) f
  in_fits (constructor x es) f = exps_fit es f
  in_fits (variable v) f = tt
  in_fits (literal a) f = tt
  in_fits (null t) f = tt
  in_fits this f = tt

  exps_fit : (es : Exps) → StandsExps one_level none_left none_bare es → FitsExps es
  exps_fit no_exps f = tt
  exps_fit (exps e es) f = (bare_fits e loosest none_bare (omega arith) f.0, exps_fit es f.1)

free_fits : (e : Exp) → Stands one_level none_left none_bare none_bare e → Fits loosest e
free_fits e f = bare_fits e loosest none_bare (omega arith) f

mutual
  stat_fits : (t : Stat) → StandsStat one_level none_left none_bare t → FitsStat t
  stat_fits (if_then e b) f = (free_fits e f.0, stats_fit b f.1)
  stat_fits (assignment t x e) f = free_fits e f
  stat_fits (update v e) f = free_fits e f
  stat_fits (construct x es) f = exps_fit es f

  stats_fit : (b : Stats) → StandsStats one_level none_left none_bare b → FitsStats b
  stats_fit no_stats f = tt
  stats_fit (stats t b) f = (stat_fits t f.0, stats_fit b f.1)

steps_fit : (ts : List Step) → StandsSteps one_level none_left none_bare ts → FitsSteps ts
steps_fit [] f = tt
steps_fit (step x b ∷ ts) f = (stats_fit b f.0, steps_fit ts f.1)

struct_fits : (d : Struct) → StandsStruct one_level none_left none_bare d → FitsStruct d
struct_fits (struct x ps ts) f = steps_fit ts f

defs_fit : (d : Defs) → StandsDefs one_level none_left none_bare d → FitsDefs d
defs_fit (last_struct d) f = struct_fits d f
defs_fit (defs d ds) f = (struct_fits d f.0, defs_fit ds f.1)

program_fits : (c : Program) → BracketedProgram c → FitsProgram c
unfolding BracketedProgram
program_fits (program d s) f = defs_fit d f

-- what 02 §1's grammar derives is derived as before
pub brackets_kept : (ts : List Token) (c : Program) → BracketedProgram c → yield c ≡ ts → Derives ts c
brackets_kept ts c f y = record { fits = program_fits c f; yields = y }

-- Comparisons --------------------------------------------------------------------------------------

tighter_none : (l : ℕ) (e : Exp) → suc comparisons ≤ l → Fits l e → NoComparison e
unfolding NoComparison
tighter_none l (binary o a b) h f = λ q. omega (arith, f.0)
tighter_none l (brackets e) h f = tt
tighter_none l (negation e) h f = tt
tighter_none l (constructor x es) h f = tt
tighter_none l (variable v) h f = tt
tighter_none l (literal a) h f = tt
tighter_none l (null t) h f = tt
tighter_none l this h f = tt

-- the operands of a comparison are none, unless in brackets
pub no_two_comparisons : (l : ℕ) (o : Op) (a b : Exp) → level o ≡ comparisons → Fits l (binary o a b) → (NoComparison a) × (NoComparison b)
unfolding left
no_two_comparisons l o a b q f =
    (tighter_none (left o) a (rw (eq-eqb (level o) comparisons q, left) (omega arith)) f.1, tighter_none (suc (level o)) b (omega arith) f.2)
