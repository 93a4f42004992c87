-- What is totalled up over steps: how many steps and commands, how deep, and whether a step passes its limits (01, number 6).
use Rattle.std.specs.Prelude.{ℕ, suc, ◌+◌, max, Bool, ◌&&◌, ◌||◌, ◌≡◌, refl, length, leb}
use Rattle.std.proofs.Common.{arith, ◌∙◌, leb-true, leb-false, le-ltb, lt-ltb}
use Rattle.std.proofs.Math.Bool.{true, false, not, and-true, and_assoc}
use mathlib.Core.List.{List, [], ◌∷◌}
use Rattle.std.proofs.Math.Path.{ap}
use Rattle.std.proofs.Math.Dec.{ltb}
use Rattle.types.specs.Limits.{step_commands, max_depth}
use Rattle.program.specs.Tree.{Step}
use Rattle.commands.specs.Sizes.{body_size}
use Rattle.commands.specs.Depth.{height}
use Rattle.commands.specs.Bounds.{total, greatest}
use Rattle.commands.specs.Decide.{every}
use Rattle.judge.specs.Facts.{no_locals, body_facts}
use Rattle.judge.specs.Verdicts.{flag}
use Rattle.judge.proofs.Laws.SizeFactsLaws.{body_facts_size, body_facts_height}
use Rattle.judge.specs.ProgramFacts.{Totals, added, struct_totals, step_totals}

-- U is T and so many steps and commands more, so deep, and over a limit unless w holds
pub record Grown (T U : Totals) (s c d : ℕ) (w : Bool) : Type 0 where
  pub steps : U.steps ≡ T.steps + s
  pub commands : U.commands ≡ T.commands + c
  pub depth : U.depth ≡ max T.depth d
  pub over : (ok : Bool) → T.over ≡ flag (not ok) → U.over ≡ flag (not (ok && w))

unchanged : (T : Totals) → Grown T T 0 0 0 true
unchanged T = record { steps = omega arith; commands = omega arith; depth = omega arith; over = λ ok e. rw and-true e }

grown_then : {T U W : Totals} {s c d s' c' d' : ℕ} {w w' : Bool} → Grown T U s c d w → Grown U W s' c' d' w'
    → Grown T W (s + s') (c + c') (max d d') (w && w')
grown_then {w = w} {w' = w'} g h = record {
  steps = omega arith;
  commands = omega arith;
  depth = omega arith;
  over = λ ok e. h.over (ok && w) (g.over ok e) ∙ ap (λ b. flag (not b)) (and_assoc ok w w');
}

-- above a bound, or not
pub above : (a b : ℕ) → ltb b a ≡ not (leb a b)
above a b = go (leb a b) refl
  where
    go : (t : Bool) → leb a b ≡ t → ltb b a ≡ not t
    go true e = le-ltb b a (leb-true a b e)
    go false e = lt-ltb b a (leb-false a b e)

-- a step within its limits
abbrev pub step_fits : Step → Bool
step_fits t = leb (body_size t.body) step_commands && leb (height t.body) max_depth

module _ (ar types : List ℕ) where
  step_grown : (k : ℕ) (t : Step) (T : Totals)
      → Grown T (added k t.name (body_facts ar types k t.body no_locals) T) 1 (body_size t.body) (height t.body) (step_fits t)
  unfolding added
  step_grown k t T = record {
    steps = omega arith;
    commands = rw (body_facts_size ar types k t.body no_locals);
    depth = rw (body_facts_height ar types k t.body no_locals);
    over = λ ok e.
        ap {B = ℕ} (λ q. elim q [ true ↦ 1 | false ↦ T.over ]) test
        ∙ go (leb (body_size t.body) step_commands) (leb (height t.body) max_depth) ok e;
  }
    where
      test : (ltb step_commands (body_facts ar types k t.body no_locals).size || ltb max_depth (body_facts ar types k t.body no_locals).height)
          ≡ (not (leb (body_size t.body) step_commands) || not (leb (height t.body) max_depth))
      test =
          rw (
            body_facts_size ar types k t.body no_locals,
            body_facts_height ar types k t.body no_locals,
            above (body_size t.body) step_commands,
            above (height t.body) max_depth,
          )

      go : (a b ok : Bool) → T.over ≡ flag (not ok) → ◌≡◌ {A = ℕ} (elim (not a || not b) [ true ↦ 1 | false ↦ T.over ]) (flag (not (ok && (a && b))))
      go true true ok e = rw and-true e
      go true false true e = refl
      go true false false e = refl
      go false b true e = refl
      go false b false e = refl

  struct_grown : (ts : List Step) (k : ℕ) (T : Totals)
      → Grown T (struct_totals ar types k ts T) (length ts) (total (λ t. body_size t.body) ts) (greatest (λ t. height t.body) ts) (every step_fits ts)
  unfolding struct_totals total greatest every
  struct_grown [] k T = unchanged T
  struct_grown (t ∷ ts) k T =
      let U = added k t.name (body_facts ar types k t.body no_locals) T in
      let g = grown_then (step_grown k t T) (struct_grown ts k U) in
      record { steps = omega arith; commands = g.commands; depth = g.depth; over = g.over }

  -- over the steps of each struct: how many, their commands, their greatest height, and whether each is within its limits
  pub steps_grown : (tss : List (List Step)) (k : ℕ) (T : Totals)
      → Grown T (step_totals ar types k tss T) (total length tss) (total (total (λ t. body_size t.body)) tss)
      (greatest (greatest (λ t. height t.body)) tss)
      (every (every step_fits) tss)
  unfolding step_totals total greatest every
  steps_grown [] k T = unchanged T
  steps_grown (ts ∷ tss) k T = grown_then (struct_grown ts k T) (steps_grown tss (suc k) (struct_totals ar types k ts T))
