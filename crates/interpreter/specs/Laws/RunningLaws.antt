-- The ways through the loops of a run (01, 'Table and turns'): what memory is while the schedule moves, and turn after turn.
use Rattle.std.specs.Prelude.{ℕ, suc, ◌+◌, ◌*◌, ◌<◌, ◌≤◌, ◌≡◌, refl, ◌⊎◌, List, length, get_or, drop}
use Rattle.std.proofs.Common.{ap, sym, ◌∙◌, subst, inl, inr, arith, add-one, drop-cons}
use Rattle.std.proofs.Math.Seq.{drop-length}
use Rattle.program.specs.Tree.{Program}
use Rattle.machine.specs.Machine.{Machine}
use Rattle.machine.specs.Stops.{out_of_turns}
use Rattle.run.specs.Run.{Outcome.stopped, run}
use Rattle.run.specs.Steps.{Steps.here}
use Rattle.run.specs.Visits.{Visits}
use Rattle.layout.specs.Layout.{head_size}
use Rattle.layout.specs.State.{State, refused}
use Rattle.layout.specs.Codes.{end_code}
use Rattle.memory.specs.Act.{full, exceeded, act}
use Rattle.memory.specs.Choose.{picked}
use Rattle.memory.specs.Move.{move}
use Rattle.interpreter.specs.Ready.{Ready}
use Rattle.interpreter.specs.Running.{cleared, Moving, Settles, Settles.held, Settles.still, Turned, Turned.turned, Turned.failed}
use Rattle.interpreter.specs.Running.{Running, Running.going, Running.over, Reached, Ended}
use Rattle.interpreter.specs.Laws.VisitWays.{visits_on, visits_outcome}
use Rattle.interpreter.specs.Laws.TurnLaws.{ends, moved_on, lasts, turned_by}

-- a refused command's number is not 0
pub number_some : {n : ℕ} → (n ≡ full) ⊎ (n ≡ exceeded) → n ≡ 0 → ⊥
number_some (inl e) c = omega arith
number_some (inr e) c = omega arith

module _ {p : Program} {counts list items spans : List ℕ} where
  -- with its number taken out, memory is as it was before it was refused
  ready_cleared : (n : ℕ) {m : Machine} {z y : State} → Ready p counts list items spans m z → y ≡ refused n z → Ready p counts list items spans m (cleared y)
  ready_cleared n {m} {z} r e =
      let c : z.machine.number ≡ 0 = r.stands.clear in
      let q = ap cleared e ∙ ap (λ (x : ℕ). refused x z) (sym c) in
      subst (Ready p counts list items spans m) (sym q) r

  -- and as it is where it has none
  ready_clear : {m : Machine} {z : State} → Ready p counts list items spans m z → Ready p counts list items spans m (cleared z)
  ready_clear {z = z} r = ready_cleared z.machine.number r refl

  -- as many rows as there are instances
  pub ready_rows : {m : Machine} {z : State} → Ready p counts list items spans m z → head_size * z.machine.count ≤ length z.heads
  ready_rows r = let a = r.stands.heads_long in let b = r.stands.few in omega arith

  -- Moves --------------------------------------------------------------------------

  module _ {m : Machine} where
    pub moves_none : {z : State} → Ready p counts list items spans m z → Moving p counts list items spans m z
    moves_none r = (m, r, λ es. (0, here))

    module _ {z : State} where
      -- a move more
      pub moves_more : Moving p counts list items spans m z → z.machine.holding ≡ 0 → (get_or items z.machine.place 0 ≡ end_code → ⊥)
          → Moving p counts list items spans m (move items spans z)
      moves_more (m', r, v) h e = let (m'', r', u) = moved_on r e h in (m'', r', λ es. visits_on (v es) (u es))

      -- someone holds commands
      pub settles_held : Moving p counts list items spans m z → 0 < z.machine.holding → Settles p counts list items spans m z
      settles_held (m', r, v) h = held r h v

      -- the schedule is at its end
      pub settles_ended : Moving p counts list items spans m z → z.machine.holding ≡ 0 → get_or items z.machine.place 0 ≡ end_code
          → Settles p counts list items spans m z
      settles_ended (m', r, v) h e = still r h v (λ es. ends r h e es)

  -- Turns --------------------------------------------------------------------------

  module _ {m : Machine} {es : List ℕ} where
    -- before the first turn
    pub runs_none : {z : State} → Settles p counts list items spans m z → Running p counts list items spans m es 0 z
    runs_none (held r h v) = going r h (v es)
    runs_none (still r h v q) = over r h (v es) (visits_outcome 0 (omega arith) (v es) (q es))

    module _ {i : ℕ} {z : State} (g : Running p counts list items spans m es i z) where
      -- nobody holds commands
      pub ends_over : z.machine.holding ≡ 0 → Ended p counts list items spans m es z.machine.number i z
      ends_over h = go g
        where
          go : Running p counts list items spans m es i z → Ended p counts list items spans m es z.machine.number i z
          go (going r k v) = absurd (omega arith)
          go (over {m' = m'} r k v q) =
              record { last = m'; reached = v; returns = q ∙ ap (λ (x : ℕ). stopped x i m') (sym r.stands.clear); ready = ready_clear r }

      module _ (h : 0 < z.machine.holding) where
        -- someone does
        pub still_running : (m' : Machine) × (Ready p counts list items spans m' z) × (Visits p m es m' (drop i es))
        still_running = go g
          where
            go : Running p counts list items spans m es i z → (m' : Machine) × (Ready p counts list items spans m' z) × (Visits p m es m' (drop i es))
            go (going {m' = m'} r k v) = (m', r, v)
            go (over r k v q) = absurd (omega arith)

        -- and no byte is left
        pub ends_lasting : i ≡ length es → Ended p counts list items spans m es out_of_turns i z
        ends_lasting k =
            let (m', r, v) = still_running in
            let s : run p m' (drop i es) ≡ stopped out_of_turns 0 m' =
            ap (run p m') (ap (λ (x : ℕ). drop x es) k ∙ drop-length es) ∙ lasts r h in
            let t : i + 0 ≡ i = omega arith in
            record { last = m'; reached = v; returns = rw t at (visits_outcome i (omega arith) v s); ready = ready_clear r }

        -- the next byte picks an instance, which takes its next command
        module _ (k : i < length es) where
          abbrev byte : ℕ
          byte = get_or es i 0

          module _ {y : State} (a : y ≡ act list counts (picked z.heads z.machine.from z.machine.count byte) z) where
            next_turn : (m' : Machine) × (Ready p counts list items spans m' z) × (Visits p m es m' (drop i es))
                × Turned p counts list items spans m' byte z y
            next_turn =
                let (m', r, v) = still_running in
                (m', r, v, subst (Turned p counts list items spans m' byte z) (sym a) (turned_by r h byte))

            -- it was refused
            pub ends_failed : (y.machine.number ≡ 0 → ⊥) → Ended p counts list items spans m es y.machine.number i y
            ends_failed c = let (m', r, v, t) = next_turn in go r v t
              where
                go : {m' : Machine} → Ready p counts list items spans m' z → Visits p m es m' (drop i es) → Turned p counts list items spans m' byte z y
                    → Ended p counts list items spans m es y.machine.number i y
                go r v (turned r' u s) = absurd (c r'.stands.clear)
                go {m'} r v (failed {n = n} e d s) =
                    let t : i + 0 ≡ i = omega arith in
                    let f : n ≡ y.machine.number = ap (λ (x : State). x.machine.number) (sym e) in
                    let u = ap (run p m') (drop-cons es i 0 k) ∙ s (drop (suc i) es) ∙ ap (λ (x : ℕ). stopped x 0 m') f in
                    record { last = m'; reached = v; returns = rw t at (visits_outcome i (omega arith) v u); ready = ready_cleared n r e }

            -- or taken, so that the run passes through the machine then, with a byte fewer
            pub taken_turn : y.machine.number ≡ 0 → Reached p counts list items spans m es (i + 1) y
            taken_turn c = let (m', r, v, t) = next_turn in go r v t
              where
                go : {m' : Machine} → Ready p counts list items spans m' z → Visits p m es m' (drop i es) → Turned p counts list items spans m' byte z y
                    → Reached p counts list items spans m es (i + 1) y
                go r v (turned {m' = m''} r' u s) =
                    record { machine = m''; ready = r'; visits = rw add-one (visits_on (rw (drop-cons es i 0 k) at v) (s (drop (suc i) es))) }
                go r v (failed e d s) = absurd (number_some d (sym (ap (λ (x : State). x.machine.number) e) ∙ c))

    module _ {i : ℕ} {z : State} (g : Reached p counts list items spans m es i z) where
      -- someone holds commands: the schedule does not move
      pub runs_held : 0 < z.machine.holding → Running p counts list items spans m es i z
      runs_held h = going g.ready h g.visits

      -- the schedule moves on
      pub runs_settled : i ≤ length es → {x : State} → ((w : Machine) → Ready p counts list items spans w z → Settles p counts list items spans w x)
          → Running p counts list items spans m es i x
      runs_settled k s = go g.visits (s g.machine g.ready)
        where
          go : {w : Machine} → Visits p m es w (drop i es) → {x : State} → Settles p counts list items spans w x → Running p counts list items spans m es i x
          go v (held r h u) = going r h (visits_on v (u (drop i es)))
          go v (still r h u f) =
              let w = visits_on v (u (drop i es)) in
              let t : i + 0 ≡ i = omega arith in
              over r h w (rw t at (visits_outcome i k w (f (drop i es))))
