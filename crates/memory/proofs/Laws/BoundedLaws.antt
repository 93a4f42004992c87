-- An accepted program keeps to the limits that the layout rests on (01, numbers 5 and 6).
use Rattle.std.specs.Prelude.{ℕ, ◌≤◌, refl, List, [], ◌∷◌, map, length}
use Rattle.std.proofs.Common.{arith}
use Rattle.types.specs.Limits.{max_depth}
use Rattle.program.specs.Tree.{Step, Program}
use Rattle.program.specs.Counts.{All, Counts}
use Rattle.commands.specs.Bounds.{greatest, step_depth, program_depth, Within}
use Rattle.commands.specs.Accepted.{Accepted}
use Rattle.memory.specs.Frame.{Bounded}

greatest_most : {A : Type 0} (f : A → ℕ) (l : List A) → All (λ a. f a ≤ max_depth) l → greatest f l ≤ max_depth
unfolding greatest
greatest_most f [] h = omega arith
greatest_most f (a ∷ l) h = omega (arith, h.0, greatest_most f l h.1)

depths : (p : Program) (tss : List (List Step)) → All (All (λ t. step_depth p t ≤ max_depth)) tss → All (λ ts. greatest (step_depth p) ts ≤ max_depth) tss
depths p [] h = tt
depths p (ts ∷ tss) h = (greatest_most (step_depth p) ts h.0, depths p tss h.1)

pub accepted_bounded : {p : Program} → Accepted p → Bounded p (map length p.params)
unfolding Counts Within program_depth
accepted_bounded {p} a = record {
  deep = greatest_most (greatest (step_depth p)) p.steps (depths p p.steps a.1.2);
  few = a.0.0.1;
  steps = a.0.1;
  counted = refl;
}
