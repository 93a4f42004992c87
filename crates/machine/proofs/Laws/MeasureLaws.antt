-- Laws of the measures: moves cannot go on for ever without a command, nor commands without a move (01, 'Table and turns').
use Rattle.std.specs.Prelude.{ℕ, zero, suc, max, ◌+◌, ◌<◌, ◌≤◌, ◌≡◌, refl, Bool, true, false, set, drop}
use Rattle.std.proofs.Math.Path.{ap, sym}
use Rattle.std.proofs.Common.{◌∙◌, arith, length-drop}
use Rattle.std.proofs.Math.Option.{Option, none, some}
use mathlib.Core.List.{List, [], ◌∷◌, ◌++◌, map}
use Rattle.std.proofs.Math.ListN.{length, get_elem?}
use Rattle.std.proofs.lemmas.List.{length-map}
use Rattle.types.specs.Types.{Ty.ref}
use Rattle.types.specs.Values.{Val.label}
use Rattle.program.specs.Tree.{Stmts, Program}
use Rattle.commands.specs.Context.{context}
use Rattle.commands.specs.Noted.{Note, erase, noted, now_written}
use Rattle.commands.proofs.Laws.NotedLaws.{erased}
use Rattle.machine.specs.Published.{StepCall, called, Sched, Sched.done, Sched.start, Sched.fixpoint, Sched.active, before, Env, arity}
use Rattle.machine.specs.Machine.{Tagged, tagged, Instance, Machine, Out, Out.next, Out.refused, Out.stuck, Moved, Moved.next, Moved.stuck, with_code}
use Rattle.machine.specs.Machine.{with_written, acting, update_env, made, command, given, started, repeat, move_by, move}
use Rattle.machine.proofs.Laws.RepresentsLaws.{Still}
use Rattle.machine.specs.Performed.{Performed, Performed.pushed, Performed.pushed_this, Performed.negated, Performed.read_one, Performed.skipped}
use Rattle.machine.specs.Performed.{Performed.wrote, Performed.calculated, Performed.exceeding, Performed.constructed, Performed.filled}
use Rattle.machine.specs.Performed.{Performed.branched, Performed.no_way}
use Rattle.machine.proofs.Laws.PerformedLaws.{by_ways}
use Rattle.machine.specs.Measure.{weight, bound, passages, measure, total, codes, count, share, share_of}

-- Moves ----------------------------------------------------------------------------

weight_before : (f s : Sched) → weight (before f s) ≡ weight f + weight s
unfolding weight before
weight_before done s = omega arith
weight_before (start a r) s = omega (arith, weight_before r s)
weight_before (fixpoint g r) s = omega (arith, weight_before r s)
weight_before (active g r) s = omega (arith, weight_before r s)

bound_before : (f s : Sched) → bound (before f s) ≡ max (bound f) (bound s)
unfolding bound before
bound_before done s = omega arith
bound_before (start a r) s = bound_before r s
bound_before (fixpoint g r) s = omega (arith, bound_before r s)
bound_before (active g r) s = omega (arith, bound_before r s)

-- the measure is below M, and the bound at most B
abbrev Falls : ℕ → ℕ → Moved → Type 0
Falls B M (next m) = (measure B m < M) × (bound m.sched ≤ B)
Falls B M stuck = Unit {0}

falls_by : (p : Program) (B : ℕ) (s : Sched) (is : List Instance) (b : List Bool) (n : ℕ) → bound s ≤ B
    → Falls B (passages B b + weight s) (move_by p s is b n)
unfolding move_by repeat measure weight bound passages
falls_by p B done is b n h = tt
falls_by p B (start a s) is b n h = (omega arith, h)
falls_by p B (fixpoint f s) is b n h = (omega (arith, weight_before f (active f s)), omega (arith, bound_before f (active f s)))
falls_by p B (active f s) is [] n h = tt
falls_by p B (active f s) is (true ∷ b) n h = (omega arith, omega arith)
falls_by p B (active f s) is (false ∷ b) n h = (omega (arith, weight_before f (active f s)), omega (arith, bound_before f (active f s)))

-- with every move the measure falls, and the bound does not grow: moves alone come to an end
pub move_falls : (p : Program) (B : ℕ) (m : Machine) {m' : Machine} → bound m.sched ≤ B → move p m ≡ next m' → (measure B m' < measure B m)
    × (bound m'.sched ≤ B)
unfolding measure
move_falls p B m h e = rw e at (falls_by p B m.sched m.instances m.stability m.from h)

-- Commands -------------------------------------------------------------------------

codes_set : (is : List Instance) (l : ℕ) {i : Instance} (j : Instance) → get_elem? is l ≡ some i
    → codes (set is l j) + length i.code ≡ codes is + length j.code
unfolding codes total
codes_set [] l j e = let z : ◌≡◌ {A = ℕ} 0 1 = cc in absurd (omega arith)
codes_set (x ∷ is) zero {i} j e = let h : x ≡ i = cc in rw h (omega arith)
codes_set (x ∷ is) (suc l) {i} j e = omega (arith, codes_set is l {i = i} j e)

codes_env : (is : List Instance) (l : ℕ) (ξ : Env) → codes (update_env is l ξ) ≡ codes is
unfolding codes total update_env
codes_env [] l ξ = refl
codes_env (i ∷ is) zero ξ = refl
codes_env (i ∷ is) (suc l) ξ = rw (codes_env is l ξ)

codes_append : (is : List Instance) (i : Instance) → codes (is ++ i ∷ []) ≡ codes is + length i.code
unfolding codes total
codes_append [] i = omega arith
codes_append (x ∷ is) i = omega (arith, codes_append is i)

-- fewer than n commands are held
abbrev Fewer : ℕ → Out → Type 0
Fewer n (next m) = codes m.instances < n
Fewer n (refused k) = Unit {0}
Fewer n stuck = Unit {0}

-- every way through a command with r after it leaves r or less
module _ (p : Program) (m : Machine) (l : ℕ) {i₀ : Instance} (g : get_elem? m.instances l ≡ some i₀) (i : Instance) (r : List Note)
    (h : length r < length i₀.code) where
  kept : (r' : List Note) (χ : List Tagged) → length r' ≤ length r → codes (set m.instances l (with_code i r' χ)) < codes m.instances
  kept r' χ k = omega (arith, codes_set m.instances l (with_code i r' χ) g)

  all : (χ : List Tagged) → codes (set m.instances l (with_code i r χ)) < codes m.instances
  all χ = kept r χ (omega arith)

  fewer : {n : Note} {o : Out} → Performed p m l i r n o → Fewer (codes m.instances) o
  fewer pushed = all _
  fewer pushed_this = all _
  fewer (negated x) = all _
  fewer (read_one k x j a) = all _
  fewer (skipped k x j u a) = all _
  fewer (wrote {χ = χ} k x j u a) = rw codes_env (all χ)
  fewer (calculated x a) = all _
  fewer (exceeding x a) = tt
  fewer (constructed {k = k} a u) =
      let χ : List Tagged = tagged (ref k) (label (length m.instances)) ∷ drop (arity p k) i.stack in
      omega (arith, all χ, codes_append (set m.instances l (with_code i r χ)) (made p m l i k (arity p k) i.stack))
  fewer (filled u) = tt
  fewer (branched {b = true} x) = all _
  fewer (branched {n = n} {b = false} {χ = χ} x) = kept (drop n r) χ (rw length-drop (omega arith))
  fewer no_way = tt

-- each command leaves fewer commands held in all
pub command_shortens : (p : Program) (l : ℕ) (m : Machine) {m' : Machine} → command p l m ≡ next m' → codes m'.instances < codes m.instances
command_shortens p l m e =
    rw e at (by_ways (Fewer (codes m.instances)) p m l tt
    λ i n r o g f h. fewer p (acting l m) l g (with_written i (now_written n i.written)) r (omega (arith, ap length f)) h)

-- Starts ---------------------------------------------------------------------------

codes_map : (f : Instance → Instance) (g : Instance → ℕ) → ((i : Instance) → i.code ≡ [] → length (f i).code ≡ g i) → (is : List Instance) → Still is
    → codes (map f is) ≡ total g is
unfolding codes total
codes_map f g h [] t = refl
codes_map f g h (i ∷ is) t = rw (h i t.0, codes_map f g h is t.1)

-- nothing is held where no instance holds commands
codes_still : (g : Instance → ℕ) → ((i : Instance) → g i ≡ 0) → (is : List Instance) → Still is → codes is ≡ total g is
unfolding codes total
codes_still g h [] t = refl
codes_still g h (i ∷ is) t = rw (h i, codes_still g h is t.1, t.0)

module _ (p : Program) where
  given_code : (o : Option Stmts) (i : Instance) → i.code ≡ [] → length (given p o i).code ≡ count o
  unfolding given count
  given_code none i e = ap length e
  given_code (some b) i e = sym (length-map (noted (context p i.struct b) b) erase) ∙ ap length (erased (context p i.struct b) b)

  started_code : (a : StepCall) (i : Instance) → i.code ≡ [] → length (started p a i).code ≡ share p a i
  unfolding started share
  started_code a i e = given_code (called p a i.struct) i e

  -- what a move leaves held in all, where it is made
  abbrev Holding : ℕ → Moved → Type 0
  Holding k (next m) = codes m.instances ≡ k
  Holding k stuck = Unit {0}

  moves_codes : (s : Sched) (is : List Instance) (b : List Bool) (n : ℕ) → Still is → Holding (total (share_of p s) is) (move_by p s is b n)
  unfolding move_by repeat share_of
  moves_codes done is b n t = tt
  moves_codes (start a s) is b n t = codes_map (started p a) (share p a) (started_code a) is t
  moves_codes (fixpoint f s) is b n t = codes_still (share_of p (fixpoint f s)) (λ i. refl) is t
  moves_codes (active f s) is [] n t = tt
  moves_codes (active f s) is (true ∷ b) n t = codes_still (share_of p (active f s)) (λ i. refl) is t
  moves_codes (active f s) is (false ∷ b) n t = codes_still (share_of p (active f s)) (λ i. refl) is t

  -- a move where no instance holds commands leaves the sum of the command counts of the step that it starts, each over its instances
  pub moved_codes : (m : Machine) {m' : Machine} → Still m.instances → move p m ≡ next m'
      → codes m'.instances ≡ total (share_of p m.sched) m.instances
  moved_codes m t e = rw e at (moves_codes m.sched m.instances m.stability m.from t)
