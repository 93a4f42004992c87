-- Which orders do not matter (02 §11): "Our programmers want to know when a step is free of order. Prove: let a step that constructs nothing
-- be started from an idle state, and let one order of turns complete it without two different instances touching the same parameter of one
-- instance, at least one by a write that wasn't dropped on a null instance. Then no order of that step stops with 34 or 35, and every order long
-- enough completes it, with the same parameters and the same stability entries. Writing an equal value counts as a write."
use Rattle.std.specs.Prelude.{ℕ, ◌≤◌, ◌≡◌, Bool, List, length, drop}
use Rattle.std.proofs.Math.Option.{some}
use Rattle.std.proofs.Math.ListN.{get_elem?}
use Rattle.types.specs.Values.{Val}
use Rattle.program.specs.Tree.{Program}
use Rattle.commands.specs.Commands.{Coms, Coms.nil}
use Rattle.commands.specs.Accepted.{Accepted}
use Rattle.table.specs.Table.{Record, TableRight}
use Rattle.machine.specs.Published.{StepCall, Sched, Sched.start, Env, Inst, Inst.inst, State, State.state}
use Rattle.machine.specs.Rules.{Actor.instance, Actor.schedule, Rule}
use Rattle.machine.specs.Stops.{Full, Exceeded, full, exceeded}
use Rattle.run.specs.Initial.{initially}
use Rattle.run.specs.Steps.{Steps}
use Rattle.run.specs.Runs.{Due, Config, Config.config, Halts, Step, Passes}
use Rattle.orders.specs.Orders.{Ordered, Completes, Turns}
use Rattle.orders.specs.Touches.{Apart}
use Rattle.orders.specs.Constructing.{ConstructsNothing}
use Rattle.orders.specs.OrderFree.{params_in, entries_in, OrderFree}
use Rattle.orders.proofs.Laws.StoodFree.{turns_ordered}
use Rattle.orders.proofs.Laws.OrderFreeLaws.{orders_never_stop, free_in_run, run_ordered_turns, ends_alike, bytes_run}

-- wherever a run of an accepted program on a right table comes to a step item: the step that it starts there is free of order if it constructs
-- nothing and one order of it touches apart
pub run_order_free : {p : Program} → Accepted p → (rs : List Record) → TableRight p.params rs
    → {es : List ℕ} {t n : ℕ} {a : StepCall} {s : Sched} {σ : List Inst} {b : List Bool} {st z : State}
    → Passes p (initially p rs) es t (config n (state (start a s) σ b)) → Rule p schedule (state (start a s) σ b) st → ConstructsNothing p a
    → {ls : List ℕ} → Completes p st ls z → Apart p st ls → OrderFree p st (length ls) z
run_order_free acc rs right w r makes c apart = free_in_run acc rs right w r makes c apart

-- an order is a sequence of labels: every list of turn bytes gives one,
pub bytes_ordered : {p : Program} {a a' : ℕ} {st z : State} {es : List ℕ} → Turns p (config a st) es (config a' z)
    → (ls : List ℕ) × (Ordered p st ls z) × (length ls ≡ length es)
bytes_ordered t = turns_ordered t

-- and each is that of some bytes, from whatever label they are counted, at every state that a run passes through
pub ordered_by_bytes : {p : Program} (rs : List Record) {es : List ℕ} {t n : ℕ} {st z : State} → Passes p (initially p rs) es t (config n st)
    → {ls : List ℕ} → Ordered p st ls z → (a : ℕ) → (fs : List ℕ) × (a' : ℕ) × (Turns p (config a st) fs (config a' z))
ordered_by_bytes rs w o a = run_ordered_turns rs w o a

-- What OrderFree says, in 02's words; st is the started step, n the turns of the order that was given
module _ {p : Program} {st z : State} {n : ℕ} (free : OrderFree p st n z) where
  -- "Then no order of that step stops with 34 or 35": wherever an order has come, nobody's next command meets either condition
  pub no_order_stops : {ls : List ℕ} {st' : State} → Ordered p st ls st' → (l : ℕ) → (Full l st' → ⊥) × (Exceeded l st' → ⊥)
  no_order_stops o l = orders_never_stop free o l

  -- "and every order long enough completes it, with the same parameters and the same stability entries": after n turns nobody holds commands,
  -- and both are as in z
  pub same_ends : {ls : List ℕ} {st' : State} → Ordered p st ls st' → n ≤ length ls
      → (Due st') × (params_in st' ≡ params_in z) × (entries_in st' ≡ entries_in z)
  same_ends o h = ends_alike free o h

  -- which holds of every order in the end: none has more turns, and while it has fewer, whoever holds commands can take the next one
  pub no_order_longer : {ls : List ℕ} {st' : State} → Ordered p st ls st' → length ls ≤ n
  no_order_longer o = free.no_longer o

  pub shorter_goes_on : {ls : List ℕ} {s : Sched} {σ : List Inst} {b : List Bool} → Ordered p st ls (state s σ b)
      → (l : ℕ) {k : ℕ} {c : Coms} {χ : List Val} {ξ : Env} → get_elem? σ l ≡ some (inst k c χ ξ) → (c ≡ nil → ⊥)
      → (st' : State) × Rule p (instance l) (state s σ b) st'
  shorter_goes_on o l g h = free.goes_on o l g h

  -- the same of turn bytes, from whatever label they are counted: no list of them stops this step with 34 or 35,
  pub no_bytes_stop : {a : ℕ} {es fs : List ℕ} {c : Config} → Turns p (config a st) es c → (Halts c fs full → ⊥) × (Halts c fs exceeded → ⊥)
  no_bytes_stop t = free.bytes_never_stop t

  -- and with n bytes or more a run passes through z, in which nobody holds commands, after n turns
  pub bytes_enough_complete : (a : ℕ) (es : List ℕ) → n ≤ length es → (a' : ℕ) × (Steps (Step p) (config a st) es n (config a' z) (drop n es)) × (Due z)
  bytes_enough_complete a es h = bytes_run free a es h
