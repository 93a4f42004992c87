-- Memory that is ready for a machine of the run stands for it (01, 'Table and turns').
use Rattle.std.specs.Prelude.{ℕ, ◌<◌, ◌≤◌, ◌*◌, ◌%◌, ◌≡◌, ◌⊎◌, List, length, drop, get_or, eqb}
use Rattle.std.proofs.Math.Path.{refl, ap}
use Rattle.std.proofs.Common.{sym, subst, ◌∙◌, inl, inr}
use borrow.Author.Tests.{lt-ltb, le-ltb}
use Rattle.program.specs.Tree.{Program}
use Rattle.machine.specs.Machine.{Machine, Out.next, Moved.next, command, move}
use Rattle.run.specs.Turns.{chosen}
use Rattle.run.specs.Run.{Outcome.stopped, run}
use Rattle.run.specs.Holders.{holders}
use Rattle.run.specs.Visits.{Visits}
use Rattle.layout.specs.Layout.{struct_of, variable, operand, holds}
use Rattle.layout.specs.State.{State, refused, bit, of_head, of_cell, with_holding}
use Rattle.layout.specs.Codes.{end_code}
use Rattle.memory.specs.Act.{top, beneath, do_wr, written, written_to, perform, next_word, act}
use Rattle.memory.specs.Choose.{fewer, picked}
use Rattle.memory.specs.Move.{move as move_on}
use Rattle.memory.specs.Plan.{At}
use Rattle.memory.proofs.Laws.Acts.{turned_only}
use Rattle.memory.specs.Stands.{Stands}
use Rattle.interpreter.specs.Ready.{Ready}
use Rattle.interpreter.specs.Laws.TurnLaws.{held_count, turned_by, moves_to}
use Rattle.interpreter.specs.Running.{cleared, Running, Running.going, Running.over, Ended, Turned, Turned.turned, Turned.failed}

-- memory without a number is as it was without it
still_cleared : (z : State) → z.machine.number ≡ 0 → cleared z ≡ z
still_cleared z e = ap (λ n. refused n z) (sym e)

module _ (p : Program) (counts list items spans : List ℕ) (m : Machine) {es : List ℕ} {z : State} where
  pub running_visited : {i : ℕ} → Running p counts list items spans m es i z
      → (m' : Machine) × (Stands list (At items) m' (cleared z)) × (z.machine.holding ≡ length (holders m')) × (z.machine.from ≡ m'.from)
      × (Visits p m es m' (drop i es))
  running_visited (going {m' = w} r h v) =
      (w, subst (Stands list (At items) w) (sym (still_cleared z r.stands.clear)) r.stands, held_count r, r.counting, v)
  running_visited (over {m' = w} r h v e) =
      (w, subst (Stands list (At items) w) (sym (still_cleared z r.stands.clear)) r.stands, held_count r, r.counting, v)

  pub ended_visited : {number taken : ℕ} → Ended p counts list items spans m es number taken z
      → (m' : Machine) × (Stands list (At items) m' (cleared z)) × (z.machine.holding ≡ length (holders m')) × (z.machine.from ≡ m'.from)
      × (Visits p m es m' (drop taken es))
      × (run p m es ≡ stopped number taken m')
  ended_visited r = (r.last, r.ready.stands, held_count r.ready, r.ready.counting, r.reached, r.returns)

-- The number of holders directly after a command and after a move (02, 'Holders kept as a number') ---------------------------

-- memory after the turn of the byte e
abbrev pub after_turn : List ℕ → List ℕ → State → ℕ → State
after_turn list counts z e = act list counts (picked z.heads z.machine.from z.machine.count e) z

module _ {p : Program} {counts list items spans : List ℕ} {m : Machine} {z : State} (r : Ready p counts list items spans m z) where
  pub command_counted : 0 < z.machine.holding → (e : ℕ)
      → ((m' : Machine) × (command p (chosen (holders m) e) m ≡ next m') × ((after_turn list counts z e).machine.holding ≡ length (holders m')))
      ⊎ ((n : ℕ) × (after_turn list counts z e ≡ refused n z) × (z.machine.holding ≡ length (holders m)))
  command_counted b e = go (turned_by r b e)
    where
      go : {y : State} → Turned p counts list items spans m e z y
          → ((m' : Machine) × (command p (chosen (holders m) e) m ≡ next m') × (y.machine.holding ≡ length (holders m')))
          ⊎ ((n : ℕ) × (y ≡ refused n z) × (z.machine.holding ≡ length (holders m)))
      go (turned {m' = m'} s c v) = inl (m', c, held_count s)
      go (failed {n = n} q k v) = inr (n, q, held_count r)

  pub move_counted : z.machine.holding ≡ 0 → (get_or items z.machine.place 0 ≡ end_code → ⊥)
      → (m' : Machine) × (move p m ≡ next m') × ((move_on items spans z).machine.holding ≡ length (holders m'))
  move_counted h e = let (m', q, s) = moves_to r e h in (m', q, held_count s)

-- The stability entries after a write (02, 'Stability entries by product') ---------------------------------------------------

-- the kind of `wr`
abbrev pub wr_kind : ℕ
wr_kind = 4

module _ (list counts : List ℕ) (l : ℕ) (z : State) where
  -- the instance and the variable that the next command of instance l writes, where it is a `wr`
  abbrev pub target : ℕ
  target = operand (top counts l z)

  abbrev pub target_variable : ℕ
  target_variable = operand (next_word list z l)

  act_stable : (act list counts l z).machine.stable
      ≡ (perform counts l z (next_word list z l % 256) (next_word list z l) (operand (next_word list z l))).machine.stable
  unfolding act
  act_stable =
      let y = perform counts l z (next_word list z l % 256) (next_word list z l) (operand (next_word list z l)) in
      ap (λ (x : State). x.machine.stable) (turned_only l (with_holding y (fewer (holds y.heads l) z.machine.holding)))

  -- a `wr` of a parameter of an instance that is no null writes it
  performs_write : next_word list z l % 256 ≡ wr_kind → perform counts l z (next_word list z l % 256) (next_word list z l) target_variable
      ≡ written_to counts l z target target_variable (beneath counts l z)
  unfolding perform do_wr
  performs_write k = rw k refl

  writes : target_variable < get_or counts (of_head z target struct_of) 0 → length counts ≤ target
      → written_to counts l z target target_variable (beneath counts l z) ≡ written counts l z target target_variable (beneath counts l z)
  unfolding written_to
  writes b n = rw (written_to, lt-ltb target_variable (get_or counts (of_head z target struct_of) 0) b, le-ltb target (length counts) n) refl

  pub write_multiplied : next_word list z l % 256 ≡ wr_kind → target_variable < get_or counts (of_head z target struct_of) 0 → length counts ≤ target
      → (act list counts l z).machine.stable
      ≡ z.machine.stable * bit (eqb (operand (of_cell z (variable target target_variable))) (operand (beneath counts l z)))
  unfolding written
  write_multiplied k b n = act_stable ∙ ap (λ (x : State). x.machine.stable) (performs_write k ∙ writes b n)
