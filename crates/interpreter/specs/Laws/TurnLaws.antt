-- Memory that is ready makes the run's moves and takes its turns (01, 'Table and turns'): it is ready again, or, behind a turn, holds
-- the number at which the run stops; there is no third case.
use Rattle.std.specs.Prelude.{ℕ, suc, ◌<◌, ◌≤◌, ◌≡◌, refl, true, false, List, [], ◌∷◌, length, get_or}
use Rattle.std.proofs.Common.{ap, sym, ◌∙◌, subst, arith}
use Rattle.types.specs.Limits.{max_structs}
use Rattle.program.specs.Tree.{Program}
use Rattle.machine.specs.Published.{Sched.done, structs}
use Rattle.machine.specs.Machine.{Instance, Machine, Out, Out.next, Out.refused, Out.stuck, Moved, Moved.next, Moved.stuck, command, move}
use Rattle.run.specs.Turns.{chosen}
use Rattle.run.specs.Holders.{holders, holds_code, none_of, due}
use Rattle.machine.proofs.Laws.FromLaws.{command_from, move_from as machine_move_from}
use Rattle.machine.specs.Stops.{ended, out_of_turns}
use Rattle.run.specs.Run.{Outcome.stopped, run}
use Rattle.run.proofs.Laws.Settles.{Rests.ends as rests_ends, Rests.lasts as rests_lasts, Rests.fails as rests_fails}
use Rattle.run.proofs.Laws.FuelLaws.{rests_run}
use Rattle.run.specs.Steps.{Steps.here, Steps.silent, Steps.reads}
use Rattle.run.specs.Visits.{Acts.moves as acts_move, Acts.takes as acts_take}
use Rattle.sound.proofs.Laws.Advance.{Kept}
use Rattle.sound.proofs.Laws.CommandKept.{Refused, command_kept}
use Rattle.sound.proofs.Laws.ShallowLaws.{good_entries}
use Rattle.sound.proofs.Laws.HolderLaws.{chosen_holds}
use Rattle.sound.proofs.Laws.NeverStuckLaws.{acts_good}
use Rattle.sound.proofs.Laws.TabledLaws.{acts_tabled}
use Rattle.layout.specs.Layout.{holds}
use Rattle.layout.specs.State.{State}
use Rattle.layout.specs.Codes.{end_code}
use Rattle.memory.specs.Plan.{At}
use Rattle.memory.proofs.Laws.PlanLaws.{at_end_done}
use Rattle.memory.specs.Frame.{After}
use Rattle.memory.specs.Stands.{Stands}
use Rattle.memory.specs.Fit.{Fit}
use Rattle.memory.proofs.Laws.FitLaws.{fits}
use Rattle.memory.specs.Act.{act}
use Rattle.memory.proofs.Laws.Acts.{acts, act_counts, act_from}
use Rattle.memory.specs.Choose.{holding, fewer, picked}
use Rattle.memory.proofs.Laws.ChooseStands.{holds_same, holding_same, picks}
use Rattle.memory.specs.Move.{move as move_on}
use Rattle.memory.proofs.Laws.MoveLaws.{move_kept, move_from}
use Rattle.memory.proofs.Laws.MoveStands.{Follows, moves}
use Rattle.scheduler.specs.Ready.{Movable}
use Rattle.scheduler.specs.ReadyLaws.{stands_movable}
use Rattle.interpreter.specs.Ready.{Ready}
use Rattle.interpreter.specs.Laws.MovingLaws.{left, move_less}
use Rattle.interpreter.specs.Laws.CountLaws.{holders_behind}
use Rattle.interpreter.specs.Running.{Moving, Turned, Turned.turned, Turned.failed}

none_left : (l : List ℕ) → length l ≡ 0 → none_of l ≡ true
unfolding none_of
none_left [] e = refl
none_left (x ∷ l) e = absurd (omega arith)

some_left : (l : List ℕ) → 0 < length l → none_of l ≡ false
unfolding none_of
some_left [] e = absurd (omega arith)
some_left (h ∷ hs) e = refl

module _ {p : Program} {counts list items spans : List ℕ} {m : Machine} {z : State} (r : Ready p counts list items spans m z) where
  -- the number that the machine keeps is that of its holders
  pub held_count : z.machine.holding ≡ length (holders m)
  held_count = r.kept ∙ holding_same m r.stands

  -- so it says whether a move of the schedule is due
  pub none_hold : z.machine.holding ≡ 0 → due m ≡ true
  unfolding due
  none_hold h = none_left (holders m) (sym held_count ∙ h)

  pub some_hold : 0 < z.machine.holding → due m ≡ false
  unfolding due
  some_hold b = some_left (holders m) (rw held_count at b)

  -- The schedule ------------------------------------------------------------------

  -- its end
  pub ends : z.machine.holding ≡ 0 → get_or items z.machine.place 0 ≡ end_code → (es : List ℕ) → run p m es ≡ stopped ended 0 m
  ends h e es = rests_run p (rests_ends (none_hold h) ((at_end_done items r.stands.scheduled).0 e))

  module _ (e : get_or items z.machine.place 0 ≡ end_code → ⊥) where
    not_done : m.sched ≡ done → ⊥
    not_done q = e ((at_end_done items r.stands.scheduled).1 q)

    -- the code of a move finds what it needs
    pub movable : Movable items spans z.heads z.machine
    movable =
        let few : structs p ≤ max_structs = r.prepared.bounded.few in
        stands_movable m r.stands (λ l i g. let k : i.struct < structs p = (r.tabled.each l i g).0 in omega arith) spans
        r.prepared.spanned
        not_done
        (good_entries r.prepared.firm r.good).1

    -- fewer moves are left behind one
    pub less : left items (move_on items spans z) < left items z
    less = move_less items spans z m r.stands r.good.opened not_done

    module _ (h : z.machine.holding ≡ 0) where
      comes : (o : Moved) → move p m ≡ o → Follows list items (move_on items spans z) o
          → (m' : Machine) × (move p m ≡ next m') × Ready p counts list items spans m' (move_on items spans z)
      comes (next m') q S =
          let s = acts_move (none_hold h) q in (
            m',
            q,
            record {
              prepared = r.prepared;
              good = acts_good r.prepared.firm s r.good;
              tabled = acts_tabled r.prepared.firm s r.good r.tabled;
              stands = S;
              kept = move_kept items spans z r.kept;
              counting = move_from items spans z ∙ r.counting ∙ sym (machine_move_from p m q);
            },
          )
      comes stuck q S = absurd S

      -- a move leads to the next machine
      pub moves_to : (m' : Machine) × (move p m ≡ next m') × Ready p counts list items spans m' (move_on items spans z)
      moves_to =
          comes (move p m) refl
          (moves p list items spans r.prepared.located z m (λ l i g. (r.tabled.each l i g).0) r.stands r.good.opened not_done)

      -- which the run visits
      pub moved_on : Moving p counts list items spans m (move_on items spans z)
      moved_on = let (m', q, r') = moves_to in (m', r', λ es. (0, silent (acts_move (none_hold h) q) here))

  -- Turns ---------------------------------------------------------------------------

  module _ (b : 0 < z.machine.holding) where
    -- no byte is left
    pub lasts : run p m [] ≡ stopped out_of_turns 0 m
    lasts = rests_run p (rests_lasts (some_hold b))

    module _ (e : ℕ) where
      -- the command of the instance that the byte picks finds what it needs
      pub picked_fits : Fit list counts (picked z.heads z.machine.from z.machine.count e) z
      picked_fits =
          let (i, n, c, a, d) = chosen_holds m e (some_hold b) in
          rw (picks m r.stands r.counting e)
          (fits r.prepared.firm r.prepared.bounded r.good list (At items) z r.stands (chosen (holders m) e) i a c n d)

      -- as many hold commands behind it, or one fewer
      counted : {m' : Machine} {y : State} → Stands list (At items) m' y → command p (chosen (holders m) e) m ≡ next m'
          → holding y.heads 0 y.machine.count ≡ fewer (holds y.heads (chosen (holders m) e)) (holding z.heads 0 z.machine.count)
      counted {m'} {y} S c =
          let (i, at, q) = holders_behind p (chosen (holders m) e) m c in
          let w : holds y.heads (chosen (holders m) e) ≡ holds_code i.code = holds_same (S.each (chosen (holders m) e) i at) in
          holding_same m' S ∙ q ∙ (rw (w, holding_same m r.stands))

      takes : (i : Instance) → Kept p Refused (command p (chosen (holders m) e) m)
          → (y : State) → y.machine.holding ≡ fewer (holds y.heads (chosen (holders m) e)) z.machine.holding
          → (y.machine.number ≡ 0 → y.machine.from ≡ suc (chosen (holders m) e))
          → (o : Out) → command p (chosen (holders m) e) m ≡ o → After list (At items) z y o
          → Turned p counts list items spans m e z y
      takes i k y q f (next m') c S =
          let s = acts_take {e = e} (some_hold b) c in
          turned
          (record {
            prepared = r.prepared;
            good = acts_good r.prepared.firm s r.good;
            tabled = acts_tabled r.prepared.firm s r.good r.tabled;
            stands = S;
            kept = q ∙ ap (fewer (holds y.heads (chosen (holders m) e))) r.kept ∙ sym (counted S c);
            counting = f S.clear ∙ sym (command_from p (chosen (holders m) e) m c);
          })
          c
          (λ es. (1, reads (acts_take (some_hold b) c) here))
      takes i k y q f (refused n) c S =
          failed S (subst (Kept p Refused) c k) (λ es. rests_run p (rests_fails (some_hold b) c))
      takes i k y q f stuck c S = absurd S

      -- a turn
      pub turned_by : Turned p counts list items spans m e z (act list counts (picked z.heads z.machine.from z.machine.count e) z)
      turned_by =
          let (i, n, c, a, d) = chosen_holds m e (some_hold b) in
          rw (picks m r.stands r.counting e)
          (takes i (command_kept r.prepared.firm r.good (chosen (holders m) e) i a n c d)
          (act list counts (chosen (holders m) e) z)
          (act_counts list counts (chosen (holders m) e) z)
          (act_from list counts (chosen (holders m) e) z)
          (command p (chosen (holders m) e) m)
          refl
          (acts r.prepared.firm r.prepared.bounded r.good list (At items) z r.stands (chosen (holders m) e) i a c n d))
