-- A command of the machine and the published rules for an instance agree, both ways (000, section 4; 01, numbers 34 and 35).
use Rattle.std.specs.Prelude.{ℕ, ◌≡◌, refl, ◌↔◌, ◌⊎◌}
use Rattle.std.proofs.Common.{inl, inr, arith}
use Rattle.program.specs.Tree.{Program}
use Rattle.machine.specs.Published.{State, State.state}
use Rattle.machine.specs.Rules.{Actor.instance, Rule}
use Rattle.machine.specs.Stops.{Full, Exceeded, full, exceeded}
use Rattle.machine.specs.Machine.{Machine, Out, Out.next, Out.refused, Out.stuck, command}
use Rattle.machine.specs.Represents.{Represents}
use Rattle.machine.proofs.Laws.CommandFollows.{Follows, command_outcome}
use Rattle.machine.proofs.Laws.CommandComplete.{Leads, rule_leads, full_refused, exceeded_refused}

-- the machine that an outcome leads to
led : (st : State) (o : Out) → Leads st o → (m : Machine) × (o ≡ next m) × (Represents m st)
led st (next m) h = (m, refl, h)
led st (refused n) h = absurd h
led st stuck h = absurd h

module _ (p : Program) (l : ℕ) (m : Machine) where
  outcome : (st : State) → Represents m st → Follows p l st (command p l m)
  outcome (state s σ b) R = command_outcome p m l s σ b R

  -- what the next machine stands for, a rule gives
  pub command_follows : (st : State) {m' : Machine} → Represents m st → command p l m ≡ next m'
      → (st' : State) × (Rule p (instance l) st st') × (Represents m' st')
  command_follows st R e = rw e at (outcome st R)

  -- what a rule gives, the next machine stands for
  pub command_complete : {st st' : State} → Represents m st → Rule p (instance l) st st' → (m' : Machine) × (command p l m ≡ next m') × (Represents m' st')
  command_complete {st = state s σ b} {st'} R r = led st' (command p l m) (rule_leads p m l s σ b R r)

  -- a command is refused with 34 exactly where it is cons with 256 instances
  pub command_full : (st : State) → Represents m st → (command p l m ≡ refused full) ↔ (Full l st)
  command_full (state s σ b) R = (λ e. go (rw e at (outcome (state s σ b) R)), full_refused p m l s σ b R)
    where
      go : Follows p l (state s σ b) (refused full) → Full l (state s σ b)
      go (inl h) = h.1
      go (inr h) = absurd (omega arith)

  -- and with 35 exactly where the divisor is zero or the result outside its type
  pub command_exceeded : (st : State) → Represents m st → (command p l m ≡ refused exceeded) ↔ (Exceeded l st)
  command_exceeded (state s σ b) R = (λ e. go (rw e at (outcome (state s σ b) R)), exceeded_refused p m l s σ b R)
    where
      go : Follows p l (state s σ b) (refused exceeded) → Exceeded l (state s σ b)
      go (inl h) = absurd (omega arith)
      go (inr h) = h.1

  -- a command is refused with no other number
  pub command_numbers : (st : State) {n : ℕ} → Represents m st → command p l m ≡ refused n → (n ≡ full) ⊎ (n ≡ exceeded)
  command_numbers st {n} R e = go (rw e at (outcome st R))
    where
      go : Follows p l st (refused n) → (n ≡ full) ⊎ (n ≡ exceeded)
      go (inl h) = inl h.0
      go (inr h) = inr h.0

  -- no command comes of it exactly where no rule and no condition of a number fits
  pub command_stuck : (st : State) → Represents m st
      → (command p l m ≡ stuck) ↔ (((st' : State) → Rule p (instance l) st st' → ⊥) × (Full l st → ⊥) × (Exceeded l st → ⊥))
  command_stuck st R = (
    λ e. (
      λ st' r. let (m', f, h) = command_complete R r in let z : ◌≡◌ {A = ℕ} 0 1 = cc in omega arith,
      λ h. let f = (command_full st R).1 h in let z : ◌≡◌ {A = ℕ} 0 1 = cc in omega arith,
      λ h. let f = (command_exceeded st R).1 h in let z : ◌≡◌ {A = ℕ} 0 1 = cc in omega arith,
    ),
    λ h. go (command p l m) (outcome st R) h,
  )
    where
      go : (o : Out) → Follows p l st o → ((st' : State) → Rule p (instance l) st st' → ⊥) × (Full l st → ⊥) × (Exceeded l st → ⊥) → o ≡ stuck
      go (next m') (st', r, q) h = absurd (h.0 st' r)
      go (refused n) (inl f) h = absurd (h.1 f.1)
      go (refused n) (inr f) h = absurd (h.2 f.1)
      go stuck f h = refl
