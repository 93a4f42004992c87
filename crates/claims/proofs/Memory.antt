-- The engine's memory (01, 'Table and turns'; "Commands and schedule moves each get the state that the one before left; nothing else
-- writes it meanwhile"): between turns and at the end it stands for a machine that the run visits. What stands in one number.
use Rattle.std.specs.Prelude.{ℕ, ◌<◌, ◌≤◌, ◌*◌, ◌%◌, ◌≡◌, ◌⊎◌, Bool, ◌&&◌, List, map, length, drop, get_or, eqb}
use Rattle.program.specs.Tree.{Program}
use Rattle.machine.specs.Published.{Sched}
use Rattle.machine.specs.Machine.{Machine, Out.next, Moved.next, command, move}
use Rattle.run.specs.Turns.{chosen}
use Rattle.run.specs.Run.{Outcome.stopped, run}
use Rattle.run.specs.Holders.{holders}
use Rattle.run.specs.Visits.{Visits}
use Rattle.layout.specs.Layout.{struct_of, variable, operand}
use Rattle.layout.specs.State.{State, refused, bit, of_head, of_cell}
use Rattle.layout.specs.Codes.{end_code}
use Rattle.memory.specs.Act.{beneath, next_word, act}
use Rattle.memory.specs.Move.{move as move_on}
use Rattle.memory.specs.Plan.{At}
use Rattle.memory.proofs.Laws.PlanUnique.{at_unique}
use Rattle.memory.specs.Stands.{Stands, bits}
use Rattle.memory.proofs.Laws.EntriesLaws.{entry_times, bits_times}
use Rattle.interpreter.specs.Ready.{Ready}
use Rattle.interpreter.specs.Laws.TurnLaws.{held_count}
use Rattle.interpreter.specs.Running.{cleared, Moving, Running, Ended}
use Rattle.claims.proofs.Laws.MemoryLaws.{running_visited, ended_visited, after_turn, command_counted, move_counted}
use Rattle.claims.proofs.Laws.MemoryLaws.{wr_kind, target, target_variable, write_multiplied}

module _ (p : Program) (counts list items spans : List ℕ) (m : Machine) {es : List ℕ} {z : State} where
  -- after i turns and the schedule moves after them: `Running` is the invariant of the loop over the turn bytes. The number of holders that the
  -- machine keeps is the one counted from its instances (02, 'Holders kept as a number'), and its turns are counted from the machine's label (02, 'Turns
  -- that go round')
  pub memory_visited : {i : ℕ} → Running p counts list items spans m es i z
      → (m' : Machine) × (Stands list (At items) m' (cleared z)) × (z.machine.holding ≡ length (holders m')) × (z.machine.from ≡ m'.from)
      × (Visits p m es m' (drop i es))
  memory_visited r = running_visited p counts list items spans m r

  -- after the whole run: `Ended` is the loop's contract
  pub memory_last : {number taken : ℕ} → Ended p counts list items spans m es number taken z
      → (m' : Machine) × (Stands list (At items) m' (cleared z)) × (z.machine.holding ≡ length (holders m')) × (z.machine.from ≡ m'.from)
      × (Visits p m es m' (drop taken es))
      × (run p m es ≡ stopped number taken m')
  memory_last r = ended_visited p counts list items spans m r

-- so it is after every move of the schedule: `Moving` is the invariant of the loop over the moves
pub memory_moved : (p : Program) (counts list items spans : List ℕ) (m : Machine) {z : State} → Moving p counts list items spans m z
    → (m' : Machine) × (Stands list (At items) m' z) × (z.machine.holding ≡ length (holders m')) × (z.machine.from ≡ m'.from)
    × ((es : List ℕ) → Visits p m es m' es)
memory_moved p counts list items spans m (m', r, v) = (m', r.stands, held_count r, r.counting, v)

-- "Keep it in the machine, equal .. after every command and schedule move .. to the number counted from the table of instances" (02, 'Holders kept as a
-- number'): directly after a command, before the moves that follow it; a refused command leaves all but the number of its refusal,
module _ {p : Program} {counts list items spans : List ℕ} {m : Machine} {z : State} (r : Ready p counts list items spans m z) where
  pub turned_by : 0 < z.machine.holding → (e : ℕ)
      → ((m' : Machine) × (command p (chosen (holders m) e) m ≡ next m') × ((after_turn list counts z e).machine.holding ≡ length (holders m')))
      ⊎ ((n : ℕ) × (after_turn list counts z e ≡ refused n z) × (z.machine.holding ≡ length (holders m)))
  turned_by b e = command_counted r b e

  -- and directly after one move of the schedule
  pub moves_to : z.machine.holding ≡ 0 → (get_or items z.machine.place 0 ≡ end_code → ⊥)
      → (m' : Machine) × (move p m ≡ next m') × ((move_on items spans z).machine.holding ≡ length (holders m'))
  moves_to h e = move_counted r h e

-- a place of the schedule laid flat stands for one schedule left
pub place_one : (items : List ℕ) {a : ℕ} {r s : Sched} → At items a r → At items a s → r ≡ s
place_one items h k = at_unique items h k

-- "On a write, multiply each stability entry by 0 or 1" (02, 'Stability entries by product'): an entry times 0 or 1,
pub entry_multiplied : (e t : Bool) → bit (e && t) ≡ bit e * bit t
entry_multiplied = entry_times

-- and the number that all entries stand in: its product is the product of each
pub entries_multiplied : (t : Bool) (b : List Bool) → bits (map (λ e. e && t) b) ≡ bits b * bit t
entries_multiplied = bits_times

-- a write of a parameter of an instance that is no null leaves that product: by 1 where the value is the one that was there, else by 0
pub write_multiplies : (list counts : List ℕ) (l : ℕ) (z : State) → next_word list z l % 256 ≡ wr_kind
    → target_variable list counts l z < get_or counts (of_head z (target list counts l z) struct_of) 0 → length counts ≤ target list counts l z
    → (act list counts l z).machine.stable
    ≡ z.machine.stable
    * bit (eqb (operand (of_cell z (variable (target list counts l z) (target_variable list counts l z)))) (operand (beneath counts l z)))
write_multiplies list counts l z k b n = write_multiplied list counts l z k b n
