-- Where a run by the published rules has come to a number, no rule leads on, and every run that comes to a number ends so (01, 'Numbers
-- from the state', 'The words of demand 3').
use Rattle.std.specs.Prelude.{ℕ, ◌≡◌, refl, ◌⊎◌, List, ◌∷◌, drop}
use Rattle.std.proofs.Common.{sym, subst, inl, inr, arith}
use Rattle.program.specs.Tree.{Program}
use Rattle.machine.specs.Published.{Sched.done, State, State.state}
use Rattle.machine.specs.Rules.{Actor.instance, Actor.schedule, Rule, Rule.InitG, Rule.InitL, Rule.FixInit, Rule.FixIter, Rule.FixTerm}
use Rattle.machine.specs.Stops.{Full, Exceeded, ended, out_of_turns, full, exceeded}
use Rattle.machine.proofs.Laws.RuleUnique.{rule_not_full, rule_not_exceeded}
use Rattle.run.specs.Runs.{Due, Config, Config.config, picked, Halts, Halts.at_end, Halts.at_33, Halts.at_34, Halts.at_35, Runs}
use Rattle.run.specs.Steps.{Steps.here}
use Rattle.run.proofs.Laws.StepsLaws.{steps_left}
use Rattle.run.proofs.Laws.RunsUnique.{runs_unique}

-- no other number than these
pub halts_numbers : {c : Config} {es : List ℕ} {n : ℕ} → Halts c es n → (n ≡ ended) ⊎ ((n ≡ out_of_turns) ⊎ ((n ≡ full) ⊎ (n ≡ exceeded)))
halts_numbers (at_end d) = inl refl
halts_numbers (at_33 n) = inr (inl refl)
halts_numbers (at_34 n f) = inr (inr (inl refl))
halts_numbers (at_35 n f) = inr (inr (inr refl))

module _ (p : Program) where
  -- no move leads on from an empty schedule
  abbrev Left : State → Type 0
  Left (state s σ b) = s ≡ done → ⊥

  move_left : {st st' : State} → Rule p schedule st st' → Left st
  move_left (InitG d e) = λ q. let z : ◌≡◌ {A = ℕ} 0 1 = cc in omega arith
  move_left (InitL d e) = λ q. let z : ◌≡◌ {A = ℕ} 0 1 = cc in omega arith
  move_left (FixInit d e) = λ q. let z : ◌≡◌ {A = ℕ} 0 1 = cc in omega arith
  move_left (FixIter d e) = λ q. let z : ◌≡◌ {A = ℕ} 0 1 = cc in omega arith
  move_left (FixTerm d) = λ q. let z : ◌≡◌ {A = ℕ} 0 1 = cc in omega arith

  -- where a run has come to a number, no move that is due is made,
  pub halted_moves : {k : ℕ} {st st' : State} {es : List ℕ} {n : ℕ} → Halts (config k st) es n → Due st → Rule p schedule st st' → ⊥
  halted_moves (at_end d) a r = move_left r refl
  halted_moves (at_33 n) a r = n a
  halted_moves (at_34 n f) a r = n a
  halted_moves (at_35 n f) a r = n a

  -- and the instance that the next byte picks takes no command
  pub halted_takes : {k : ℕ} {st st' : State} {e : ℕ} {fs es : List ℕ} {n : ℕ} → Halts (config k st) fs n → fs ≡ e ∷ es → (Due st → ⊥)
      → Rule p (instance (picked k e st)) st st' → ⊥
  halted_takes (at_end d) q k r = k d
  halted_takes (at_33 n) q k r = let z : ◌≡◌ {A = ℕ} 0 1 = cc in omega arith
  halted_takes {k = j} {st = st} (at_34 n f) q k r = rule_not_full p r (subst (λ x. Full (picked j x st) st) (cc) f)
  halted_takes {k = j} {st = st} (at_35 n f) q k r = rule_not_exceeded p r (subst (λ x. Exceeded (picked j x st) st) (cc) f)

  -- at most one number
  pub halts_one : {c : Config} {es : List ℕ} {n k : ℕ} → Halts c es n → Halts c es k → n ≡ k
  halts_one {es = es} a b = (runs_unique p (es, here, a) (es, here, b)).0

  -- a run has come to its number in its last configuration, with the bytes after its turns left
  pub runs_halts : {c z : Config} {es : List ℕ} {n t : ℕ} → Runs p c es n t z → Halts z (drop t es) n
  runs_halts {z = z} {n = n} (fs, v, h) = subst (λ gs. Halts z gs n) (sym (steps_left v)) h
