-- A run over the published rules comes to one number, after so many turns, in one configuration (01, 'Numbers from the state').
use Rattle.std.specs.Prelude.{ℕ, ◌≡◌, refl, List}
use Rattle.std.proofs.Common.{sym, ◌∙◌, subst}
use Rattle.program.specs.Tree.{Program}
use Rattle.machine.specs.Published.{State.state}
use Rattle.machine.specs.Machine.{Machine, machine}
use Rattle.machine.proofs.Laws.RepresentsLaws.{represents_unique}
use Rattle.machine.proofs.Laws.RuleUnique.{represented}
use Rattle.run.specs.Runs.{Config, Config.config, StandsFor, Runs}
use Rattle.run.specs.Run.{Outcome.stopped}
use Rattle.run.proofs.Laws.RunAgrees.{run_complete}

-- every configuration has a machine that stands for it,
configured : (c : Config) → (m : Machine) × (StandsFor m c)
configured (config n (state s σ b)) =
    let (m, R) = represented (state s σ b) in (machine m.sched m.instances m.stability n, (refl, R))

-- and a machine stands for at most one
pub stands_unique : (m : Machine) (c c' : Config) → StandsFor m c → StandsFor m c' → c ≡ c'
stands_unique m (config n st) (config k st') (q, R) (q', R') = let h = represents_unique m st st' R R' in let e : n ≡ k = sym q ∙ q' in cc

-- two derivations from one configuration with one list of bytes agree on number, turns and last configuration
pub runs_unique : (p : Program) {c z z' : Config} {es : List ℕ} {n n' t t' : ℕ} → Runs p c es n t z → Runs p c es n' t' z'
    → (n ≡ n') × (t ≡ t') × (z ≡ z')
runs_unique p {c} {z} {z'} {n = n} {n'} {t} {t'} r q =
    let (m, R) = configured c in
    let (y, e, S) = run_complete p m R r in
    let (y', f, Q) = run_complete p m R q in
    let g : stopped n t y ≡ stopped n' t' y' = sym e ∙ f in
    let h : y' ≡ y = cc in
    (cc, cc, stands_unique y z z' S (subst (λ x. StandsFor x z') h Q))
