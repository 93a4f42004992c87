-- Counting of turns goes on after the instance that acts, and a move of the schedule leaves it where it was (02, 'Turns that go round').
use Rattle.std.specs.Prelude.{ℕ, suc, ◌≡◌, refl, Bool, true, false, List, [], ◌∷◌}
use Rattle.program.specs.Tree.{Program}
use Rattle.commands.specs.Noted.{Note, now_written}
use Rattle.machine.specs.Published.{Sched, Sched.done, Sched.start, Sched.fixpoint, Sched.active}
use Rattle.machine.specs.Machine.{Instance, Machine, Out, Out.next, Out.refused, Out.stuck, Moved, Moved.next, Moved.stuck, with_written, acting}
use Rattle.machine.specs.Machine.{command, repeat, move_by, move}
use Rattle.machine.specs.Performed.{Performed, Performed.pushed, Performed.pushed_this, Performed.negated, Performed.read_one, Performed.skipped}
use Rattle.machine.specs.Performed.{Performed.wrote, Performed.calculated, Performed.exceeding, Performed.constructed, Performed.filled}
use Rattle.machine.specs.Performed.{Performed.branched, Performed.no_way}
use Rattle.machine.proofs.Laws.PerformedLaws.{by_ways}

-- an outcome counts on from the label n
abbrev Counts : ℕ → Out → Type 0
Counts n (next m) = m.from ≡ n
Counts n (refused k) = Unit {0}
Counts n stuck = Unit {0}

counts : (p : Program) (m : Machine) (l : ℕ) (i : Instance) (r : List Note) {n : Note} {o : Out} → Performed p m l i r n o → Counts m.from o
counts p m l i r pushed = refl
counts p m l i r pushed_this = refl
counts p m l i r (negated x) = refl
counts p m l i r (read_one k x j a) = refl
counts p m l i r (skipped k x j u a) = refl
counts p m l i r (wrote k x j u a) = refl
counts p m l i r (calculated x a) = refl
counts p m l i r (exceeding x a) = tt
counts p m l i r (constructed a u) = refl
counts p m l i r (filled u) = tt
counts p m l i r (branched x) = refl
counts p m l i r no_way = tt

-- after an act of l the next turn is counted from the label after l
pub command_from : (p : Program) (l : ℕ) (m : Machine) {m' : Machine} → command p l m ≡ next m' → m'.from ≡ suc l
command_from p l m e =
    rw e at (by_ways (Counts (suc l)) p m l tt λ i n r o g f h. counts p (acting l m) l (with_written i (now_written n i.written)) r h)

abbrev CountsMoved : ℕ → Moved → Type 0
CountsMoved n (next m) = m.from ≡ n
CountsMoved n stuck = Unit {0}

moved_by : (p : Program) (s : Sched) (is : List Instance) (b : List Bool) (n : ℕ) → CountsMoved n (move_by p s is b n)
unfolding move_by repeat
moved_by p done is b n = tt
moved_by p (start a s) is b n = refl
moved_by p (fixpoint f s) is b n = refl
moved_by p (active f s) is [] n = tt
moved_by p (active f s) is (true ∷ b) n = refl
moved_by p (active f s) is (false ∷ b) n = refl

-- after a move it is counted from where it was before
pub move_from : (p : Program) (m : Machine) {m' : Machine} → move p m ≡ next m' → m'.from ≡ m.from
move_from p m e = rw e at (moved_by p m.sched m.instances m.stability m.from)
