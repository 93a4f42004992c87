-- Number, turns, holders and last table of a run are those of the one run by the published rules, from any machine and the configuration that it
-- stands for (000, section 4; 01, 'Table and turns', 'Numbers from the state').
use Rattle.std.specs.Prelude.{ℕ, zero, suc, ◌≤◌, ◌≡◌, refl, ◌↔◌, ◌⊎◌, List, [], ◌∷◌, map, length, drop}
use Rattle.std.proofs.Common.{arith, ap, sym, ◌∙◌, inl, inr}
use Rattle.program.specs.Tree.{Program}
use Rattle.table.specs.Table.{Record}
use Rattle.machine.specs.Published.{Env.env, structs, Inst, Inst.inst, State, State.state}
use Rattle.machine.specs.Machine.{Instance, Machine}
use Rattle.machine.specs.Represents.{RepresentsInst, RepresentsAll, Represents}
use Rattle.machine.specs.Stops.{ended, out_of_turns, full, exceeded}
use Rattle.run.specs.Runs.{Config, Config.config, StandsFor, Runs, Halts, Halts.at_end, Halts.at_33, Halts.at_34, Halts.at_35}
use Rattle.run.specs.Turns.{labels_from}
use Rattle.run.specs.Holders.{holders}
use Rattle.run.specs.Run.{Outcome.stopped, Outcome.jammed, run}
use Rattle.run.specs.Begin.{record_of, table_of}
use Rattle.run.specs.Comes.{to_record, table_in, holding_in, Comes, Comes.comes}
use Rattle.run.proofs.Laws.TurnLaws.{labels_done, none_listed, flags_represent, holders_length}
use Rattle.run.proofs.Laws.RunAgrees.{run_follows, run_complete, run_jammed}
use Rattle.run.proofs.Laws.RunsUnique.{runs_unique}

-- The last table -------------------------------------------------------------------

record_same : (i : Instance) (j : Inst) → RepresentsInst i j → record_of i ≡ to_record j
unfolding record_of
record_same i (inst k c χ (env ps ls)) R = rw (R.0, R.3)

records_same : (n : ℕ) (is : List Instance) (σ : List Inst) → RepresentsAll is σ → map record_of (drop n is) ≡ map to_record (drop n σ)
records_same zero [] [] R = refl
records_same (suc n) [] [] R = refl
records_same n [] (j ∷ σ) R = absurd R
records_same n (i ∷ is) [] R = absurd R
records_same zero (i ∷ is) (j ∷ σ) R =
    let a = record_same i j R.0 in let b = records_same zero is σ R.1 in cc
records_same (suc n) (i ∷ is) (j ∷ σ) R = records_same n is σ R.1

-- the table written out is that of the published state
pub table_represents : (p : Program) (m : Machine) (st : State) → Represents m st → table_of p m ≡ table_in p st
unfolding table_of table_in
table_represents p m (state s σ b) R = records_same (structs p) m.instances σ R.1

-- as many hold commands
pub holding_represents : (m : Machine) (st : State) → Represents m st → length (holders m) ≡ holding_in st
holding_represents m (state s σ b) R = holders_length m ∙ ap (λ fs. length (labels_from 0 fs)) (flags_represent m.instances σ R.1)

-- at a halt nobody holds commands exactly where the number is 0
halts_holding : (a : ℕ) (st : State) {es : List ℕ} {n : ℕ} → Halts (config a st) es n
    → ((n ≡ ended) → (holding_in st ≡ 0)) × ((holding_in st ≡ 0) → (n ≡ ended))
halts_holding a st (at_end {σ = σ} d) = (λ e. ap length ((labels_done σ).1 d), λ e. refl)
halts_holding a (state s σ b) (at_33 h) = (λ e. absurd (omega arith), λ e. absurd (h ((labels_done σ).0 (none_listed _ e))))
halts_holding a (state s σ b) (at_34 h f) = (λ e. absurd (omega arith), λ e. absurd (h ((labels_done σ).0 (none_listed _ e))))
halts_holding a (state s σ b) (at_35 h f) = (λ e. absurd (omega arith), λ e. absurd (h ((labels_done σ).0 (none_listed _ e))))

-- The outcome ----------------------------------------------------------------------

module _ (p : Program) {c : Config} (es : List ℕ) where
  -- the published rules come to one number, turns, holders and last table
  pub comes_unique : {n n' t t' k k' : ℕ} {rs rs' : List Record} → Comes p c es n t k rs → Comes p c es n' t' k' rs'
      → (n ≡ n') × (t ≡ t') × (k ≡ k') × (rs ≡ rs')
  comes_unique (comes {st = st} r h q) (comes {st = st'} r' h' q') =
      let (a, b, c) = runs_unique p r r' in
      let d : st ≡ st' = cc in
      (a, b, h ∙ ap holding_in d ∙ sym h', q ∙ ap (table_in p) d ∙ sym q')

  -- nobody holds commands exactly where the number is 0
  pub comes_holding : {n t k : ℕ} {rs : List Record} → Comes p c es n t k rs → (n ≡ ended) ↔ (k ≡ 0)
  comes_holding (comes {a = a} {st = st} r h q) = let (x, y) = halts_holding a st r.2 in (λ e. h ∙ x e, λ e. y (sym h ∙ e))

  -- at 33, 34 and 35 some do
  pub comes_stopped : {n t k : ℕ} {rs : List Record} → Comes p c es n t k rs → (n ≡ out_of_turns) ⊎ (n ≡ full) ⊎ (n ≡ exceeded) → 1 ≤ k
  comes_stopped {n} {k = zero} c s = absurd (stops s ((comes_holding c).1 refl))
    where
      stops : (n ≡ out_of_turns) ⊎ (n ≡ full) ⊎ (n ≡ exceeded) → n ≡ ended → ⊥
      stops (inl a) e = omega arith
      stops (inr (inl a)) e = omega arith
      stops (inr (inr a)) e = omega arith
  comes_stopped {k = suc k} c s = omega arith

-- of a run from a machine that stands for the configuration c
module _ (p : Program) (m : Machine) {c : Config} (stands : StandsFor m c) (es : List ℕ) where
  -- number, turns, holders and last table of an executable run are those that the published rules come to
  pub outcome_exact : {n t : ℕ} {z : Machine} → run p m es ≡ stopped n t z → Comes p c es n t (length (holders z)) (table_of p z)
  outcome_exact {n} {t} {z} e = let (d, r, S) = run_follows p m c es stands e in go d r S
    where
      go : (d : Config) → Runs p c es n t d → StandsFor z d → Comes p c es n t (length (holders z)) (table_of p z)
      go (config a st) r S = comes r (holding_represents z st S.1) (table_represents p z st S.1)

  -- and what the published rules come to, an executable run has
  pub outcome_complete : {n t k : ℕ} {rs : List Record} → Comes p c es n t k rs
      → (z : Machine) × (run p m es ≡ stopped n t z) × (length (holders z) ≡ k) × (table_of p z ≡ rs)
  outcome_complete (comes {st = st} r h q) =
      let (z, e, S) = run_complete p m stands r in
      (z, e, holding_represents z st S.1 ∙ sym h, table_represents p z st S.1 ∙ sym q)

  -- it is jammed exactly where they come to nothing
  pub jammed_exact : (run p m es ≡ jammed) ↔ ((n t k : ℕ) (rs : List Record) → Comes p c es n t k rs → ⊥)
  jammed_exact =
      let j = run_jammed p m c es stands in
      (λ e n t k rs d. none_comes (j.0 e) d, λ h. j.1 (λ n t d r. some_comes h d r))
    where
      none_comes : {n t k : ℕ} {rs : List Record} → ((n t : ℕ) (d : Config) → Runs p c es n t d → ⊥) → Comes p c es n t k rs → ⊥
      none_comes {n} {t} h (comes {a = a} {st = st} r k q) = h n t (config a st) r

      some_comes : ((n t k : ℕ) (rs : List Record) → Comes p c es n t k rs → ⊥) → {n t : ℕ} (d : Config) → Runs p c es n t d → ⊥
      some_comes h {n} {t} (config a st) r = h n t (holding_in st) (table_in p st) (comes r refl refl)
