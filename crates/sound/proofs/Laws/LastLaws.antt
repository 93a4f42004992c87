-- Through a run the label that acted last is one that exists (02, 'Turns that go round').
use Rattle.std.specs.Prelude.{ℕ, ◌≡◌, refl, Bool, true, false, List, [], ◌∷◌, length}
use Rattle.std.proofs.Common.{arith, subst}
use Rattle.std.proofs.Math.Option.{Option}
use Rattle.std.proofs.lemmas.List.{length-map}
use Rattle.program.specs.Tree.{Program}
use Rattle.machine.specs.Published.{Sched, Sched.done, Sched.start, Sched.fixpoint, Sched.active}
use Rattle.machine.specs.Machine.{Instance, Machine, Moved, Moved.next, Moved.stuck, started, repeat, move_by}
use Rattle.machine.proofs.Laws.FromLaws.{command_from, move_from}
use Rattle.run.specs.Visits.{Acts, Acts.moves, Acts.takes, Visits}
use Rattle.run.proofs.Laws.StepsLaws.{steps_keep}
use Rattle.sound.specs.Tabled.{LastThere}
use Rattle.sound.proofs.Laws.ElemLaws.{at_below}
use Rattle.sound.proofs.Laws.FlagLaws.{flags_behind}

-- a move leaves as many instances
abbrev AsMany : ℕ → Moved → Type 0
AsMany n (next m) = length m.instances ≡ n
AsMany n stuck = Unit {0}

moved_many : (p : Program) (s : Sched) (is : List Instance) (b : List Bool) (n : ℕ) → AsMany (length is) (move_by p s is b n)
unfolding move_by repeat
moved_many p done is b n = tt
moved_many p (start a s) is b n = length-map is (started p a)
moved_many p (fixpoint f s) is b n = refl
moved_many p (active f s) is [] n = tt
moved_many p (active f s) is (true ∷ b) n = refl
moved_many p (active f s) is (false ∷ b) n = refl

acts_last : {p : Program} {m z : Machine} {a : Option ℕ} → Acts p m a z → LastThere m → LastThere z
acts_last {p} {m} (moves d e) h =
    let many = subst (AsMany (length m.instances)) e (moved_many p m.sched m.instances m.stability m.from) in
    let from = move_from p m e in
    omega arith
acts_last {p} {m} {z} (takes d e) h =
    let f = flags_behind p _ m e in
    let below = at_below z.instances _ f.actor f.there in
    let from = command_from p _ m e in
    omega arith

-- so it is in every machine that a run passes through
pub visits_last : {p : Program} {m z : Machine} {es fs : List ℕ} → LastThere m → Visits p m es z fs → LastThere z
visits_last h (t, v) = steps_keep LastThere (λ m z a s k. acts_last s k) v h
