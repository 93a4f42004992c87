-- Behind a command as many instances hold commands as before it, or one fewer where the actor has none left (01, 'Table and turns').
use Rattle.std.specs.Prelude.{ℕ, zero, suc, ◌+◌, ◌≡◌, refl, Bool, true, false, List, [], ◌∷◌, ◌++◌, length, set}
use Rattle.std.proofs.Common.{ap, ◌∙◌, subst, inl, inr, append-nil, arith}
use Rattle.std.proofs.Math.Option.{some}
use Rattle.std.proofs.Math.ListN.{get_elem?}
use Rattle.program.specs.Tree.{Program}
use Rattle.commands.specs.Noted.{Note}
use Rattle.machine.specs.Machine.{Instance, Machine, Out, Out.next, Out.refused, Out.stuck, command}
use Rattle.machine.proofs.Laws.PerformedLaws.{by_ways}
use Rattle.run.specs.Turns.{labels_from}
use Rattle.run.specs.Holders.{flag, flags, holders, holds_code}
use Rattle.run.proofs.Laws.TurnLaws.{holders_length}
use Rattle.sound.proofs.Laws.ElemLaws.{none_some}
use Rattle.layout.specs.State.{bit}
use Rattle.memory.specs.Choose.{fewer}
use Rattle.sound.proofs.Laws.FlagLaws.{Idle, flags_behind}

-- how many are true
abbrev trues : List Bool → ℕ
trues [] = 0
trues (t ∷ fs) = bit t + trues fs

labels_count : (fs : List Bool) (l : ℕ) → length (labels_from l fs) ≡ trues fs
unfolding labels_from
labels_count [] l = refl
labels_count (true ∷ fs) l = omega (arith, labels_count fs (suc l))
labels_count (false ∷ fs) l = omega (arith, labels_count fs (suc l))

holders_count : (m : Machine) → length (holders m) ≡ trues (flags m.instances)
holders_count m = holders_length m ∙ labels_count (flags m.instances) 0

-- one of them is set
trues_set : (is : List Instance) (l : ℕ) {i : Instance} (b : Bool) → get_elem? is l ≡ some i
    → trues (set (flags is) l b) + bit (flag i) ≡ trues (flags is) + bit b
trues_set [] l b e = none_some e
trues_set (x ∷ is) zero {i} b e = let h : x ≡ i = cc in rw h (omega arith)
trues_set (x ∷ is) (suc l) {i} b e = omega (arith, trues_set is l {i = i} b e)

trues_idle : (fs more : List Bool) → Idle more → trues (fs ++ more) ≡ trues fs
trues_idle fs more (inl e) = rw (e, append-nil fs)
trues_idle [] more (inr e) = rw e
trues_idle (t ∷ fs) more (inr e) = omega (arith, trues_idle fs more (inr e))

-- the actor held commands
abbrev Busy : ℕ → Machine → Out → Type 0
Busy l m (next m') = (i : Instance) × (get_elem? m.instances l ≡ some i) × (bit (flag i) ≡ 1)
Busy l m (refused n) = Unit {0}
Busy l m stuck = Unit {0}

busy_out : (l : ℕ) (m : Machine) {i : Instance} → get_elem? m.instances l ≡ some i → bit (flag i) ≡ 1 → (o : Out) → Busy l m o
busy_out l m {i} g b (next m') = (i, g, b)
busy_out l m g b (refused n) = tt
busy_out l m g b stuck = tt

holds_bit : (i : Instance) {n : Note} {r : List Note} → i.code ≡ n ∷ r → bit (flag i) ≡ 1
unfolding holds_code
holds_bit i e = rw e

command_busy : (p : Program) (l : ℕ) (m : Machine) → Busy l m (command p l m)
command_busy p l m = by_ways (Busy l m) p m l tt λ i n r o g e w. busy_out l m g (holds_bit i e) o

-- the holders behind a command of instance l
pub holders_behind : (p : Program) (l : ℕ) (m : Machine) {m' : Machine} → command p l m ≡ next m'
    → (i : Instance) × (get_elem? m'.instances l ≡ some i) × (length (holders m') ≡ fewer (holds_code i.code) (length (holders m)))
unfolding fewer
holders_behind p l m {m'} c =
    let f = flags_behind p l m c in
    let (i, g, b) = subst (Busy l m) c (command_busy p l m) in
    let e : trues (flags m'.instances) ≡ trues (set (flags m.instances) l (flag f.actor)) =
    ap trues f.others ∙ trues_idle (set (flags m.instances) l (flag f.actor)) f.more f.idle in
    let q : trues (flags m'.instances) + 1 ≡ trues (flags m.instances) + bit (flag f.actor) =
    omega (arith, trues_set m.instances l (flag f.actor) g) in
    (f.actor, f.there, go (flag f.actor) (rw (holders_count m', holders_count m) q))
  where
    go : (t : Bool) → length (holders m') + 1 ≡ length (holders m) + bit t → length (holders m') ≡ fewer t (length (holders m))
    go true e = omega arith
    go false e = omega arith
