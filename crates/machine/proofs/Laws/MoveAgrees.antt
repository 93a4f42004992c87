-- A schedule move of the machine and the published rules for the schedule agree, both ways (000, section 4).
use Rattle.std.specs.Prelude.{ℕ, ◌≡◌, ◌↔◌, Bool, true, false}
use Rattle.std.proofs.Math.Path.{refl, subst}
use Rattle.std.proofs.Common.{sym, subst₂, arith}
use Rattle.std.proofs.Math.Option.{Option, none, some}
use mathlib.Core.List.{List, [], ◌∷◌, map}
use Rattle.program.specs.Tree.{Stmts, Program}
use Rattle.commands.specs.Commands.{commands}
use Rattle.commands.specs.Context.{context}
use Rattle.commands.proofs.Laws.NotedLaws.{erased}
use Rattle.machine.specs.Published.{StepCall, StepCall.global, StepCall.local, called, Sched, Sched.done, Sched.start, Sched.fixpoint, Sched.active}
use Rattle.machine.specs.Published.{before, Inst, Inst.inst, State, State.state}
use Rattle.machine.specs.Rules.{Done, given, started, Actor.schedule, Rule, Rule.InitG, Rule.InitL, Rule.FixInit, Rule.FixIter, Rule.FixTerm}
use Rattle.machine.specs.Machine.{Instance, Machine, machine, Moved, Moved.next, Moved.stuck, given as equip, started as begin, repeat, move_by, move}
use Rattle.machine.specs.Represents.{values, RepresentsInst, RepresentsAll, Represents}
use Rattle.machine.proofs.Laws.RepresentsLaws.{Still, still_done, represents_map}

-- what an outcome of a move says of the published state
abbrev pub Moves : Program → Sched → List Inst → List Bool → Moved → Type 0
Moves p s σ b (next m) = Done σ → (st : State) × (Rule p schedule (state s σ b) st) × (Represents m st)
Moves p s σ b stuck = Unit {0}

module _ (p : Program) where
  -- the commands of a step with their notes stand for those of rules InitG and InitL
  given_represents : (o : Option Stmts) (i : Instance) (j : Inst) → RepresentsInst i j → RepresentsInst (equip p o i) (given o j)
  unfolding equip given values commands
  given_represents none i (inst k c χ ξ) r = r
  given_represents (some b) i (inst k c χ ξ) r = (r.0, erased (context p i.struct b) b, refl, r.3)

  -- an instance of the machine begins the step where that of the state does
  pub started_represents : (a : StepCall) (i : Instance) (j : Inst) → RepresentsInst i j → RepresentsInst (begin p a i) (started p a j)
  unfolding begin
  started_represents a i (inst k c χ ξ) r =
      subst (λ x. RepresentsInst (equip p (called p a x) i) (started p a (inst k c χ ξ))) (sym r.0) (given_represents (called p a k) i (inst k c χ ξ) r)

  -- and all of them do
  starts_represent : (a : StepCall) (is : List Instance) (σ : List Inst) → RepresentsAll is σ → RepresentsAll (map (begin p a) is) (map (started p a) σ)
  starts_represent a is σ R = represents_map (begin p a) (started p a) (started_represents a) is σ R

  -- each kind of call has its published rule
  initiated : (a : StepCall) {s : Sched} {σ : List Inst} {b : List Bool} → Done σ
      → Rule p schedule (state (start a s) σ b) (state s (map (started p a) σ) b)
  initiated (global n) d = InitG d refl
  initiated (local k n) d = InitL d refl

  -- what a move comes to follows the rules
  moves_by : (s : Sched) (is : List Instance) (σ : List Inst) (b : List Bool) (n : ℕ) → RepresentsAll is σ → Moves p s σ b (move_by p s is b n)
  unfolding move_by repeat
  moves_by done is σ b n R = tt
  moves_by (start a s) is σ b n R = λ d. (state s (map (started p a) σ) b, initiated a d, (refl, starts_represent a is σ R, refl))
  moves_by (fixpoint f s) is σ b n R = λ d. (state (before f (active f s)) σ (true ∷ b), FixInit d refl, (refl, R, refl))
  moves_by (active f s) is σ [] n R = tt
  moves_by (active f s) is σ (true ∷ b) n R = λ d. (state s σ b, FixTerm d, (refl, R, refl))
  moves_by (active f s) is σ (false ∷ b) n R = λ d. (state (before f (active f s)) σ (true ∷ b), FixIter d refl, (refl, R, refl))

  -- a rule for the schedule gives what the move comes to
  leads_by : {s : Sched} (is : List Instance) {σ : List Inst} {b : List Bool} (q : ℕ) {st : State} → RepresentsAll is σ → Rule p schedule (state s σ b) st
      → (m' : Machine) × (move_by p s is b q ≡ next m') × (Represents m' st)
  unfolding move_by repeat
  leads_by is {σ} {b} q R (InitG {s = s} {n = n} d e) =
      (machine s (map (begin p (global n)) is) b q, refl, rw e (refl, starts_represent (global n) is σ R, refl))
  leads_by is {σ} {b} q R (InitL {s = s} {k = k} {n = n} d e) =
      (machine s (map (begin p (local k n)) is) b q, refl, rw e (refl, starts_represent (local k n) is σ R, refl))
  leads_by is q R (FixInit {f = f} {s = s} {b = b} d e) = (machine (before f (active f s)) is (true ∷ b) q, refl, rw e (refl, R, refl))
  leads_by is q R (FixIter {f = f} {s = s} {b = b} d e) = (machine (before f (active f s)) is (true ∷ b) q, refl, rw e (refl, R, refl))
  leads_by is q R (FixTerm {s = s} {b = b} d) = (machine s is b q, refl, (refl, R, refl))

  module _ (m : Machine) where
    -- a move from the schedule and the stability stack that the machine stands for
    moving : (P : Moved → Type 0) {s : Sched} {b : List Bool} → m.sched ≡ s → m.stability ≡ b → P (move_by p s m.instances b m.from) → P (move p m)
    moving P e f = subst₂ (λ s b. P (move_by p s m.instances b m.from)) (sym e) (sym f)

    outcome : (s : Sched) (σ : List Inst) (b : List Bool) → Represents m (state s σ b) → Moves p s σ b (move p m)
    outcome s σ b R = moving (Moves p s σ b) R.0 R.2 (moves_by s m.instances σ b m.from R.1)

    -- what the next machine stands for, a rule gives, where no instance holds commands
    pub move_follows : (st : State) {m' : Machine} → Represents m st → Still m.instances → move p m ≡ next m' → (st' : State) × (Rule p schedule st st')
        × (Represents m' st')
    move_follows (state s σ b) R t e = (rw e at (outcome s σ b R)) ((still_done m.instances σ R.1).0 t)

    -- what a rule gives, the next machine stands for
    pub move_complete : {st st' : State} → Represents m st → Rule p schedule st st' → (m' : Machine) × (move p m ≡ next m') × (Represents m' st')
    move_complete {st = state s σ b} {st'} R r =
        moving (λ o. (m' : Machine) × (o ≡ next m') × (Represents m' st')) R.0 R.2 (leads_by m.instances m.from R.1 r)

    -- no move comes of it, where no instance holds commands, exactly where no rule fits
    pub move_stuck : (st : State) → Represents m st → Still m.instances → (move p m ≡ stuck) ↔ ((st' : State) → Rule p schedule st st' → ⊥)
    move_stuck (state s σ b) R t = (
      λ e st' r. let (m', f, h) = move_complete R r in let z : ◌≡◌ {A = ℕ} 0 1 = cc in omega arith,
      λ h. go (move p m) (outcome s σ b R) h,
    )
      where
        go : (o : Moved) → Moves p s σ b o → ((st' : State) → Rule p schedule (state s σ b) st' → ⊥) → o ≡ stuck
        go (next m') f h = let (st', r, q) = f ((still_done m.instances σ R.1).0 t) in absurd (h st' r)
        go stuck f h = refl
