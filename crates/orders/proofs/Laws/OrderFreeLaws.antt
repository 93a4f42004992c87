-- The order of a step does not matter where one order of it touches apart (02 §11): from the start of a step on, and in 02's words.
use Rattle.std.specs.Prelude.{ℕ, suc, ◌≤◌, ◌≡◌, refl, Bool, true, List, [], ◌∷◌, ◌++◌, map, length, drop}
use Rattle.std.proofs.Common.{sym, ap, subst, ◌∙◌, inl, inr}
use Rattle.std.proofs.Math.Option.{Option, none, some}
use Rattle.types.specs.Values.{Val}
use Rattle.program.specs.Tree.{Stmts, Program}
use Rattle.program.specs.Counts.{All}
use Rattle.commands.specs.Accepted.{Accepted}
use Rattle.commands.specs.Commands.{Coms, Coms.nil, Coms.act, Coms.if_then}
use Rattle.commands.specs.Commands.{Flat, Flat.plain, Flat.if_n, flatten, body_coms}
use Rattle.commands.specs.Noted.{Note, Note.n_cons, erase}
use Rattle.machine.specs.Published.{StepCall, StepCall.global, StepCall.local, called, Sched, Sched.start, Env, Inst, Inst.inst, State, State.state}
use Rattle.machine.specs.Rules.{Done, given, started, Actor.schedule, Rule, Rule.InitG, Rule.InitL}
use Rattle.machine.specs.Stops.{Full, Exceeded}
use Rattle.machine.specs.Machine.{Machine}
use Rattle.machine.specs.Represents.{Represents}
use Rattle.machine.proofs.Laws.RepresentsLaws.{inst_at, still_done}
use Rattle.machine.proofs.Laws.MoveAgrees.{move_complete}
use Rattle.run.specs.Holders.{due}
use Rattle.table.specs.Table.{Record, TableRight}
use Rattle.run.specs.Begin.{begin}
use Rattle.run.specs.Initial.{initially}
use Rattle.run.proofs.Laws.BeginLaws.{begin_stands}
use Rattle.run.proofs.Laws.RunAgreesVisits.{passes_visits}
use Rattle.run.specs.Runs.{Passes, Due, Config.config}
use Rattle.run.specs.Runs.{Step as RunStep}
use Rattle.run.specs.Steps.{Steps}
use Rattle.run.specs.Visits.{Acts.moves}
use Rattle.run.proofs.Laws.TurnLaws.{holders_still, due_none}
use Rattle.sound.specs.Invariant.{Good}
use Rattle.sound.proofs.Laws.ElemLaws.{all_elem}
use Rattle.sound.proofs.Laws.AcceptedLaws.{accepted_firm}
use Rattle.sound.proofs.Laws.BeginGood.{begin_good}
use Rattle.sound.proofs.Laws.NeverStuckLaws.{acts_good, visits_good}
use Rattle.orders.specs.Orders.{Ordered, Completes}
use Rattle.orders.specs.Touches.{Apart}
use Rattle.orders.specs.Constructing.{NoCons, MakesNone, ConstructsNothing}
use Rattle.orders.specs.OrderFree.{params_in, entries_in, OrderFree}
use Rattle.orders.proofs.Laws.Holding.{NoCons as NoConsNote, MakesNone as NoneMade}
use Rattle.machine.specs.Rules.{Actor.instance}
use Rattle.machine.specs.Machine.{Out.next, command}
use Rattle.machine.proofs.Laws.PerformedLaws.{by_ways}
use Rattle.machine.proofs.Laws.CommandAgrees.{command_complete}
use Rattle.run.specs.Turns.{chosen}
use Rattle.run.specs.Runs.{picked}
use Rattle.run.proofs.Laws.TurnLaws.{holder_chosen, holders_represent}
use Rattle.orders.specs.Orders.{Ordered.no_turn, Ordered.a_turn, Turns, Turns.no_byte, Turns.a_byte}
use Rattle.orders.proofs.Laws.CommandPlan.{stuck_next}
use Rattle.orders.proofs.Laws.Holding.{Holds, filled_code, counted}
use Rattle.orders.proofs.Laws.StoodFree.{holds_due}
use Rattle.orders.proofs.Laws.StoodFree.{stood_free, turns_run}

-- The start -------------------------------------------------------------------------------------

-- no cons among the commands that a state holds
abbrev Frees : Inst → Type 0
Frees (inst k c χ ξ) = MakesNone c

abbrev pub FreesAll : State → Type 0
FreesAll (state s σ b) = All Frees σ

given_frees : (o : Option Stmts) (k : ℕ) (c : Coms) (χ : List Val) (ξ : Env) → ((b : Stmts) → o ≡ some b → MakesNone (body_coms b)) → c ≡ nil
    → Frees (given o (inst k c χ ξ))
unfolding given MakesNone
given_frees none k c χ ξ h e = rw e tt
given_frees (some b) k c χ ξ h e = h b refl

started_frees : (p : Program) (a : StepCall) → ConstructsNothing p a → (σ : List Inst) → Done σ → All Frees (map (started p a) σ)
started_frees p a h [] d = tt
started_frees p a h (inst k c χ ξ ∷ σ) d = (given_frees (called p a k) k c χ ξ (h k) d.0, started_frees p a h σ d.1)

pub start_frees : {p : Program} {a : StepCall} {s : Sched} {σ : List Inst} {b : List Bool} {st : State} → Rule p schedule (state (start a s) σ b) st
    → ConstructsNothing p a → (Done σ) × (FreesAll st)
start_frees {p} (InitG {σ = σ} {n = n} d e) h = (d, rw e (started_frees p (global n) h σ d))
start_frees {p} (InitL {σ = σ} {k = k} {n = n} d e) h = (d, rw e (started_frees p (local k n) h σ d))

-- flat commands without a cons
abbrev NoFlat : Flat → Type 0
NoFlat (plain f) = NoCons f
NoFlat (if_n n) = Unit {0}

all_append : {A : Type 0} (C : A → Type 0) (xs ys : List A) → All C xs → All C ys → All C (xs ++ ys)
all_append C [] ys h k = k
all_append C (x ∷ xs) ys h k = (h.0, all_append C xs ys h.1 k)

flat_frees : (c : Coms) → MakesNone c → All NoFlat (flatten c)
unfolding flatten MakesNone
flat_frees nil h = tt
flat_frees (act f c) h = (h.0, flat_frees c h.1)
flat_frees (if_then d c) h = (tt, all_append NoFlat (flatten d) (flatten c) (flat_frees d h.0) (flat_frees c h.1))

no_cons_note : (n : Note) → NoFlat (erase n) → (k : ℕ) → n ≡ n_cons k → ⊥
unfolding erase
no_cons_note n h k e = subst (λ x. NoFlat (erase x)) e h

notes_free : (c : List Note) → All NoFlat (map erase c) → NoConsNote c
unfolding NoConsNote
notes_free [] h = tt
notes_free (n ∷ c) h = (no_cons_note n h.0, notes_free c h.1)

frees_none : (m : Machine) (st : State) → Represents m st → FreesAll st → NoneMade m
frees_none m (state s σ b) R h l i at =
    let (c, g, e) = inst_at m.instances σ l R.1 at in
    notes_free i.code (subst (All NoFlat) (sym e) (flat_frees c (all_elem Frees σ l _ h g)))

-- a step that constructs nothing, started at a machine with the invariant, one order of which completes it and touches apart
pub free_after : {p : Program} → Accepted p → {m : Machine} → Good p m → {a : StepCall} {s : Sched} {σ : List Inst} {b : List Bool} {st z : State}
    → Represents m (state (start a s) σ b) → Rule p schedule (state (start a s) σ b) st → ConstructsNothing p a
    → {ls : List ℕ} → Completes p st ls z → Apart p st ls → OrderFree p st (length ls) z
free_after {p} acc {m} good {σ = σ} {st = st} R r makes (t, idle) apart =
    let firm = accepted_firm acc in
    let (d, f) = start_frees r makes in
    let (m', e, Q) = move_complete p m R r in
    let q : due m ≡ true = (due_none m).1 ((holders_still m).1 ((still_done m.instances σ R.1).1 d)) in
    stood_free firm (record { good = acts_good firm (moves q e) good; free = frees_none m' st Q f; stands = Q }) t idle apart

-- so it is wherever a run of an accepted program on a right table comes to a step item
pub free_in_run : {p : Program} → Accepted p → (rs : List Record) → TableRight p.params rs
    → {es : List ℕ} {t n : ℕ} {a : StepCall} {s : Sched} {σ : List Inst} {b : List Bool} {st z : State}
    → Passes p (initially p rs) es t (config n (state (start a s) σ b)) → Rule p schedule (state (start a s) σ b) st → ConstructsNothing p a
    → {ls : List ℕ} → Completes p st ls z → Apart p st ls → OrderFree p st (length ls) z
free_in_run {p} acc rs right w r makes c apart =
    let (m, fs, v, q, S) = passes_visits p (begin p rs) (begin_stands p rs) w in
    free_after acc (visits_good (accepted_firm acc) (begin_good p acc.0 rs right) v) S.1 r makes c apart

-- Orders of labels and of bytes --------------------------------------------------------------------

-- who takes a command holds it
acts_holds : (p : Program) (m : Machine) (l : ℕ) {m' : Machine} → command p l m ≡ next m' → Holds l m
acts_holds p m l {m'} e =
    by_ways (λ o. o ≡ next m' → Holds l m) p m l (λ q. stuck_next q) (λ i n r o at f w q. (i, at, filled_code f)) e

-- every order is that of some bytes, from whatever label they are counted
pub ordered_turns : {p : Program} (m : Machine) {st z : State} {ls : List ℕ} → Represents m st → Ordered p st ls z → (a : ℕ)
    → (es : List ℕ) × (a' : ℕ) × (Turns p (config a st) es (config a' z))
ordered_turns m R no_turn a = ([], a, no_byte)
ordered_turns {p} m {z = z} R (a_turn {st = state s σ b} {st' = st'} {l = l} r o) a =
    let (m', e, R') = command_complete p l m R r in
    let held = acts_holds p m l e in
    let (i, at, h) = held in
    let (c, low, q) = holder_chosen (counted a m) l at h in
    let picks : l ≡ picked a c (state s σ b) = sym q ∙ ap (λ x. chosen x c) (holders_represent (counted a m) a σ (refl, R)) in
    let (es, a', t) = ordered_turns m' R' o (suc (picked a c (state s σ b))) in
    (c ∷ es, a', a_byte (holds_due m (state s σ b) l R held) (subst (λ x. Rule p (instance x) (state s σ b) st') picks r) t)

-- so it is of the orders of a state that a run passes through
pub run_ordered_turns : {p : Program} (rs : List Record) {es : List ℕ} {t n : ℕ} {st z : State} → Passes p (initially p rs) es t (config n st)
    → {ls : List ℕ} → Ordered p st ls z → (a : ℕ) → (fs : List ℕ) × (a' : ℕ) × (Turns p (config a st) fs (config a' z))
run_ordered_turns {p} rs w o a =
    let (m, fs, v, q, S) = passes_visits p (begin p rs) (begin_stands p rs) w in ordered_turns m S.1 o a

-- What follows, in 02's words ---------------------------------------------------------------------

module _ {p : Program} {st z : State} {n : ℕ} (o : OrderFree p st n z) where
  pub orders_never_stop : {ls : List ℕ} {st' : State} → Ordered p st ls st' → (l : ℕ) → (Full l st' → ⊥) × (Exceeded l st' → ⊥)
  orders_never_stop u l = (λ f. o.never_stops u l (inl f), λ f. o.never_stops u l (inr f))

  pub ends_alike : {ls : List ℕ} {st' : State} → Ordered p st ls st' → n ≤ length ls
      → (Due st') × (params_in st' ≡ params_in z) × (entries_in st' ≡ entries_in z)
  ends_alike u h =
      let e = o.completes u h in (subst Due (sym e) o.complete, ap params_in e, ap entries_in e)

  -- in a run with enough bytes
  pub bytes_run : (a : ℕ) (es : List ℕ) → n ≤ length es → (a' : ℕ) × (Steps (RunStep p) (config a st) es n (config a' z) (drop n es)) × (Due z)
  bytes_run a es h = let (a', t) = o.bytes_complete a es h in (a', turns_run n es h t, o.complete)
