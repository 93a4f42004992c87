-- The bytes of a turn and of a move are the lines that `trace` defines (docs/FORMAT.md, 'Traces'), of every machine that memory is ready for.
use Prim.Native.Nat.{ℕ, suc, ◌+◌, ◌*◌, ◌%◌, ◌<◌, ◌≤◌}
use native.Mathlib.Omega.{arith}
use Rattle.std.specs.Prelude.{◌≡◌, ◌⊎◌, Bool, true, false, List, [], ◌∷◌, ◌++◌, ltb, length, get_or, take, Option as Maybe}
use Rattle.std.proofs.Math.Path.{refl, sym, ap}
use Rattle.std.proofs.Common.{◌∙◌, subst, inl, inr, append-nil, take_at}
use Rattle.std.proofs.Math.Option.{some}
use Rattle.std.proofs.Math.ListN.{get_elem?}
use Rattle.std.proofs.lemmas.List.Edits.{sets-eq}
use Rattle.types.specs.Limits.{max_structs, max_instances, fix_levels, step_names}
use Rattle.program.specs.Tree.{Program}
use Rattle.machine.specs.Stops.{full, exceeded}
use Rattle.machine.specs.Published.{StepCall.global, StepCall.local, Sched, Sched.done, Sched.start, Sched.fixpoint, Sched.active}
use Rattle.machine.specs.Machine.{Instance, Machine, Out, Out.next, Out.refused, Out.stuck, Moved, Moved.next, Moved.stuck, command, move}
use Rattle.run.specs.Turns.{chosen}
use Rattle.run.specs.Holders.{holders, due}
use Rattle.run.proofs.Laws.TurnLaws.{some_due}
use Rattle.sound.proofs.Laws.HolderLaws.{chosen_holds}
use Rattle.layout.specs.Layout.{head, head_size, struct_of}
use Rattle.layout.specs.declared.Numbers.{Numbers}
use Rattle.layout.specs.State.{State, state_of, of_head}
use Rattle.memory.specs.Act.{next_word, act}
use Rattle.memory.proofs.Laws.Acts.{acts}
use Rattle.memory.specs.Choose.{picked}
use Rattle.memory.proofs.Laws.ChooseStands.{picks}
use Rattle.memory.specs.Fit.{Fit}
use Rattle.memory.specs.Frame.{After}
use Rattle.memory.specs.Move.{move as move_on}
use Rattle.memory.proofs.Laws.MoveStands.{Follows, moves}
use Rattle.layout.specs.Codes.{fix_code, end_code, round_code}
use Rattle.memory.specs.Plan.{At}
use Rattle.memory.proofs.Laws.PlanLaws.{past_start, past_fix, past_round, at_end_done}
use Rattle.interpreter.specs.Ready.{Ready}
use Rattle.interpreter.specs.Running.{Turned, Turned.turned, Turned.failed}
use Rattle.interpreter.specs.Laws.CountLaws.{holders_behind}
use Rattle.interpreter.specs.Laws.RunningLaws.{ready_rows}
use Rattle.interpreter.specs.Laws.TurnLaws.{held_count, picked_fits, turned_by}
use Rattle.scheduler.specs.Ready.{spans_size, Movable}
use Rattle.text.specs.Listing.{Placed, text}
use Rattle.text.specs.ListingLaws.{placed_on}
use Rattle.trace.specs.Trace.{alone, move_line, turn_line}
use Rattle.trace.specs.LineText.{front_text, acted_text, line_text, lines_text, step_name}
use Rattle.trace_lines.specs.declared.writes.Write.{Write}
use Rattle.trace_lines.specs.Parts.{target, position_of, step_at, back_text, move_text, BackFits, Fitting}
use Rattle.trace_lines.specs.LineLaws.{row_of, stands_text, stack_fits, stack_told, position_told, command_told}
use Rattle.trace_lines.specs.WriteLaws.{write_told}
use Rattle.trace_lines.specs.FixLaws.{act_fixes}
use Rattle.trace_lines.specs.PartsLaws.{step_started, step_kept}
use Rattle.trace_lines.specs.Told.{Turnable}

-- text that was placed in front is what the buffer begins with
pub placed_front : {t out out1 : List ℕ} {r : ℕ} → Placed t out 0 r out1 → r ≤ length out → take r out1 ≡ t
placed_front {t} {out} {r = r} p h =
    let e : r ≡ length t = p.end ∙ omega arith in
    let q : 0 + length t ≤ length out = omega arith in
    rw (p.list, sets-eq t out 0 q) (take_at t _ r (sym e))

some_hold : (m : Machine) (hs : List ℕ) → holders m ≡ hs → 0 < length hs → due m ≡ false
some_hold m [] e h = absurd (omega arith)
some_hold m (x ∷ hs) e h = some_due m e

-- Turns --------------------------------------------------------------------------

module _ {p : Program} {counts list items spans : List ℕ} {m : Machine} {z : State} (r : Ready p counts list items spans m z)
    (b : 0 < z.machine.holding) (e : ℕ) where
  abbrev actor : ℕ
  actor = chosen (holders m) e

  holding_due : due m ≡ false
  holding_due = some_hold m (holders m) refl (rw (held_count r) at b)

  -- the actor has a row, of a struct of the program
  pub actor_row : (l : ℕ) → l ≡ picked z.heads z.machine.from z.machine.count e → of_head z l struct_of < max_structs
  actor_row l q =
      let (i, n, c, a, d) = chosen_holds m e holding_due in
      rw (q ∙ picks m r.stands r.counting e) (row_of r actor i a).1

  module _ {y : State} (a : y ≡ act list counts actor z) where
    by_turn : Turned p counts list items spans m e z y
    by_turn =
        subst (λ (x : State). Turned p counts list items spans m e z x)
        (ap (λ (l : ℕ). act list counts l z) (picks m r.stands r.counting e) ∙ sym a) (turned_by r b e)

    module _ (n t : ℕ) where
      -- a refused act has no line
      untold : (o : Out) → After list (At items) z y o → (y.machine.number ≡ 0 → ⊥) → [] ≡ lines_text p n t (turn_line alone e actor m o)
      unfolding lines_text turn_line
      untold (next m') s h = absurd (h s.clear)
      untold (refused k) s h = refl
      untold stuck s h = absurd s

      turn_refused : (y.machine.number ≡ 0 → ⊥) → [] ≡ lines_text p n t (turn_line alone e actor m (command p actor m))
      turn_refused h =
          let (i, k, c, at, d) = chosen_holds m e holding_due in
          untold (command p actor m)
          (rw a (acts r.prepared.firm r.prepared.bounded r.good list (At items) z r.stands actor i at c k d)) h

      -- the line of one that is made
      module _ (named : n < step_names) where
        abbrev told : List ℕ
        told =
            front_text t e actor (of_head z actor struct_of) n (position_of spans z.heads actor n) (text (next_word list z actor))
            ++ back_text y.heads y.cells actor (target list (length counts) z.heads z.cells actor) y.machine.fixes y.machine.stable

        turn_line_is : {m' : Machine} → Ready p counts list items spans m' y → command p actor m ≡ next m'
            → told ≡ lines_text p n t (turn_line alone e actor m (command p actor m))
        unfolding lines_text turn_line line_text acted_text back_text
        turn_line_is {m'} r' c =
            let (i, k, d, at, f) = chosen_holds m e holding_due in
            let (j, at', q) = holders_behind p actor m c in
            let x = r.stands.each actor i at in
            rw (c, at, at', append-nil)
            (rw (
              x.struct,
              position_told r actor i at n named,
              command_told r actor i at k d f,
              stack_told r' actor j at',
              (write_told r r' actor i
                  at k d f a).0,
              stands_text r'.stands,
            ))

        turn_made : y.machine.number ≡ 0 → told ≡ lines_text p n t (turn_line alone e actor m (command p actor m))
        turn_made h = go by_turn
          where
            go : Turned p counts list items spans m e z y → told ≡ lines_text p n t (turn_line alone e actor m (command p actor m))
            go (turned r' c v) = turn_line_is r' c
            go (failed s (inl w) u) = let g = ap (λ (x : State). x.machine.number) s in absurd (omega arith)
            go (failed s (inr w) u) = let g = ap (λ (x : State). x.machine.number) s in absurd (omega arith)

    back_fits : y.machine.number ≡ 0 → y.machine.fixes ≤ fix_levels
        → BackFits y.heads y.cells actor (target list (length counts) z.heads z.cells actor) y.machine.fixes
    back_fits h few = go by_turn
      where
        go : Turned p counts list items spans m e z y → BackFits y.heads y.cells actor (target list (length counts) z.heads
            z.cells actor) y.machine.fixes
        go (turned {m' = m'} r' c v) =
            let (i, k, d, at, f) = chosen_holds m e holding_due in
            let (j, at', q) = holders_behind p actor m c in
            record { stack = stack_fits r' actor j at'; write = (write_told r r' actor i at k d f a).1; few = few }
        go (failed s (inl w) u) = let g = ap (λ (x : State). x.machine.number) s in absurd (omega arith)
        go (failed s (inr w) u) = let g = ap (λ (x : State). x.machine.number) s in absurd (omega arith)

  -- the same of the label that the code picks
  module _ {l : ℕ} (q : l ≡ picked z.heads z.machine.from z.machine.count e) {y : State} (a : y ≡ act list counts l z) where
    same : actor ≡ l
    same = sym (q ∙ picks m r.stands r.counting e)

    pub picked_back : y.machine.number ≡ 0 → z.machine.fixes ≤ fix_levels
        → BackFits y.heads y.cells l (target list (length counts) z.heads z.cells l) y.machine.fixes
    picked_back h few =
        subst (λ (x : ℕ). BackFits y.heads y.cells x (target list (length counts) z.heads z.cells x) y.machine.fixes) same
        (back_fits (a ∙ ap (λ (x : ℕ). act list counts x z) (sym same)) h (rw (a, act_fixes counts l z list) few))

    module _ (n t : ℕ) where
      pub picked_refused : (y.machine.number ≡ 0 → ⊥) → [] ≡ lines_text p n t (turn_line alone e actor m (command p actor m))
      picked_refused h = turn_refused (a ∙ ap (λ (x : ℕ). act list counts x z) (sym same)) n t h

      pub picked_made : n < step_names → y.machine.number ≡ 0
          → front_text t e l (of_head z l struct_of) n (position_of spans z.heads l n) (text (next_word list z l))
          ++ back_text y.heads y.cells l (target list (length counts) z.heads z.cells l) y.machine.fixes y.machine.stable
          ≡ lines_text p n t (turn_line alone e actor m (command p actor m))
      picked_made named h =
          subst (λ (x : ℕ). front_text t e x (of_head z x struct_of) n (position_of spans z.heads x n) (text (next_word list z x))
          ++ back_text y.heads y.cells x (target list (length counts) z.heads z.cells x) y.machine.fixes y.machine.stable
          ≡ lines_text p n t (turn_line alone e actor m (command p actor m))) same
          (turn_made (a ∙ ap (λ (x : ℕ). act list counts x z) (sym same)) n t named h)

      -- the parts of its line stand in the buffer
      pub picked_told : n < step_names → y.machine.number ≡ 0 → {w : Maybe Write} → w ≡ target list (length counts) z.heads z.cells l
          → {at : ℕ} → at ≡ position_of spans z.heads l n
          → {out out1 out2 : List ℕ} {i j : ℕ}
          → Placed (front_text t e l (of_head z l struct_of) n at (text (next_word list z l))) out 0 i out1
          → Placed (back_text y.heads y.cells l w y.machine.fixes y.machine.stable) out1 i j out2
          → j ≤ length out → take j out2 ≡ lines_text p n t (turn_line alone e actor m (command p actor m))
      picked_told named h u v P Q b = placed_front (placed_on P Q) b ∙ rw (u, v) (picked_made named h)

-- memory of which an instance holds commands: what the code of a turn finds
module _ {counts list spans h c : List ℕ} {n : ℕ} {nu : Numbers} (t : Turnable counts list spans n (state_of nu h c)) where
  pub turnable_rows : head_size * nu.count ≤ length h
  turnable_rows = ready_rows t.begun.ready

  pub turnable_few : nu.count ≤ max_instances
  turnable_few = t.begun.ready.stands.few

  module _ (e : ℕ) {l : ℕ} (q : l ≡ picked h nu.from nu.count e) where
    pub turnable_fit : Fit list counts l (state_of nu h c)
    turnable_fit = rw q (picked_fits t.begun.ready t.held e)

    pub turnable_fits : Fitting list counts h c l
    turnable_fits = (nu, turnable_fit)

    pub turnable_row : get_or h (head l struct_of) 0 < max_structs
    turnable_row = actor_row t.begun.ready t.held e l q

    pub turnable_spans : spans_size ≤ length spans
    turnable_spans = t.begun.ready.prepared.spanned

-- Moves --------------------------------------------------------------------------

-- the code of a move stands at no end
pub movable_on : {items spans heads : List ℕ} {n : Numbers} → Movable items spans heads n → get_or items n.place 0 ≡ end_code → ⊥
movable_on v q = let h = v.item (omega arith) in omega arith

-- the step that runs behind a move, by the item
module _ (items : List ℕ) (n : ℕ) where
  step_told : {a : ℕ} (s : Sched) → At items a s → step_at n (get_or items a 0) ≡ step_name n s
  unfolding step_name
  step_told done w = ap (step_at n) ((at_end_done items w).1 refl) ∙ sym (step_kept n end_code (omega arith))
  step_told (start (global k) s) w =
      let (h, e, r) = past_start items w in
      let q : k % step_names ≡ k = omega arith in
      ap (step_at n) e ∙ sym (step_started n k (omega arith)) ∙ q
  step_told (start (local j k) s) w =
      let (h, e, r) = past_start items w in
      let q : (step_names * suc j + k) % step_names ≡ k = omega arith in
      ap (step_at n) e ∙ sym (step_started n (step_names * suc j + k) (omega arith)) ∙ q
  step_told (fixpoint f s) w = let (e, r) = past_fix items w in ap (step_at n) e ∙ sym (step_kept n fix_code (omega arith))
  step_told (active f s) w =
      let (t, e, r, v) = past_round items w in
      ap (step_at n) e ∙ sym (step_kept n (round_code t) (omega arith))

module _ {p : Program} {counts list items spans : List ℕ} {m : Machine} {z : State} (r : Ready p counts list items spans m z)
    (go_on : get_or items z.machine.place 0 ≡ end_code → ⊥) {y : State} (a : y ≡ move_on items spans z) (n : ℕ) where
  follows : Follows list items y (move p m)
  follows =
      rw a (moves p list items spans r.prepared.located z m (λ l i g. (r.tabled.each l i g).0) r.stands r.good.opened
      (λ q. go_on ((at_end_done items r.stands.scheduled).1 q)))

  -- a move has a line
  pub move_made : move_text y.machine.fixes y.machine.stable ≡ lines_text p n 0 (move_line alone m (move p m))
  unfolding lines_text move_line line_text move_text
  move_made = go (move p m) follows
    where
      go : (o : Moved) → Follows list items y o → move_text y.machine.fixes y.machine.stable ≡ lines_text p n 0 (move_line alone m o)
      go (next m') s = rw (append-nil, stands_text s)
      go stuck s = absurd s

  pub move_step : step_at n (get_or items z.machine.place 0) ≡ step_name n m.sched
  move_step = step_told items n m.sched r.stands.scheduled
