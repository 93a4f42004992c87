-- The ways through the loop of a run (01, 'Table and turns'), from memory z₀ where it begins: between its passages of turns the schedule moves
-- until a turn is due, or the run is over.
use Rattle.std.specs.Prelude.{ℕ, ◌*◌, ◌<◌, ◌≤◌, ◌≡◌, refl, Bool, true, false, List, length, eqb, leb}
use Rattle.std.proofs.Common.{ap, sym, ◌∙◌, subst, true≢false, arith, eqb-true, leb-true, leb-false}
use Rattle.std.proofs.lemmas.Bool.{false≢true, eqb-false}
use Rattle.types.specs.Limits.{max_instances}
use Rattle.machine.specs.Machine.{Machine}
use Rattle.layout.specs.Layout.{head_size}
use Rattle.layout.specs.State.{State, state_of}
use Rattle.layout.specs.declared.Numbers.{Numbers}
use Rattle.holders.specs.declared.Record.{Record}
use Rattle.holders.specs.Records.{Recorded}
use Rattle.engine.specs.declared.Machine.{Machine as Engine}
use Rattle.interpreter.specs.declared.turns.Going.{Going}
use Rattle.interpreter.specs.Ready.{Ready}
use Rattle.interpreter.specs.Running.{Begun, Standing, Settling, Ending, Gone}
use Rattle.interpreter.specs.Laws.RunningLaws.{ready_rows, runs_none, still_running, ends_over, ends_lasting, runs_settled}
use Rattle.interpreter.specs.Going.{going_at, Due, is_due, memory_of, Turning, Went, Passes}
use Rattle.interpreter.specs.Laws.GoingLaws.{turns_left, fewer_left, at_nobody, at_last, at_turn, going_taken}

-- a run from memory z has come to s: a turn is due, or the run is over
pub record Stays (counts list items spans es : List ℕ) (z : State) (s : Going) (y : State) : Type 0 where
  pub due : is_due s ≡ true → Gone counts list items spans es z s.taken y × Due es s
  pub over : is_due s ≡ false → Ending counts list items spans es z s.number s.taken y

-- the numbers and heads where a run begins stand by themselves
pub begun_standing : {counts list items spans h c : List ℕ} {n : Numbers} → Begun counts list items spans (state_of n h c) → Standing items spans h n
begun_standing {counts} {list} {c = c} begun = record { counts = counts; list = list; cells = c; begun = begun }

module _ {counts list items spans es : List ℕ} {z₀ : State} where
  -- the schedule has moved as far as it goes
  stays_at : {m : Engine} {h c : List ℕ} {i : ℕ} (a : Record) {s : Going} → s ≡ going_at es m i a
      → Gone counts list items spans es z₀ i (state_of m.numbers h c) → i ≤ length es
      → Stays counts list items spans es z₀ s (memory_of s h c)
  stays_at {m} {h} {c} {i} a {s} w g k = go (eqb m.numbers.holding 0) refl (leb (length es) i) refl
    where
      Here : Going → Type 0
      Here x = Stays counts list items spans es z₀ x (memory_of x h c)

      go : (t : Bool) → eqb m.numbers.holding 0 ≡ t → (u : Bool) → leb (length es) i ≡ u → Here s
      go true t u v =
          let e = eqb-true m.numbers.holding 0 t in
          subst Here (sym (w ∙ at_nobody es m i a e)) (record { due = λ d. absurd (false≢true d); over = λ d p x r. ends_over (g p x r) e })
      go false t true v =
          let e = eqb-false m.numbers.holding 0 t in
          let q = leb-true (length es) i v in
          subst Here (sym (w ∙ at_last es m i a (omega arith) q))
          (record { due = λ d. absurd (false≢true d); over = λ d p x r. ends_lasting (g p x r) (omega arith) (omega arith) })
      go false t false v =
          let e = eqb-false m.numbers.holding 0 t in
          let q = leb-false (length es) i v in
          subst Here (sym (w ∙ at_turn es m i a (omega arith) q))
          (record { due = λ d. (g, record { someone = omega arith; byte = q; picks = refl }); over = λ d. absurd (true≢false d) })

  -- where the moves before the first turn have led, and the loop from there on
  pub stays_on : {m : Engine} {h c : List ℕ} → Settling items spans z₀ (state_of m.numbers h c)
      → (a : Record) {s₀ : Going} → s₀ ≡ going_at es m 0 a
      → {s : Going} {y : State}
      → ((z : State) → Stays counts list items spans es z s₀ (memory_of s₀ h c) → Stays counts list items spans es z s y)
      → Stays counts list items spans es z₀ s y
  stays_on g a e inv = inv z₀ (stays_at a e (λ p m r. runs_none (g p counts list m r)) (omega arith))

  module _ {s : Going} {h c : List ℕ} (stays : Stays counts list items spans es z₀ s (memory_of s h c)) (d : is_due s ≡ true) where
    -- A passage of turns --------------------------------------------------------------

    module _ {r : Going} {h' c' : List ℕ} (passes : Passes list counts es s h c r h' c') where
      went : Went counts list items spans es z₀ r (memory_of r h' c')
      went = passes.went items spans z₀ (stays.due d).0

      -- a number stops the run
      pub passed_over : (r.number ≡ 0 → ⊥) → Stays counts list items spans es z₀ r (memory_of r h' c')
      passed_over e = record { due = λ w. absurd (true≢false (sym w ∙ passes.rest)); over = λ w. went.over e }

      pub passed_over_less : turns_left es r < turns_left es s
      passed_over_less = rw (passes.rest, d, turns_left) (omega arith)

      -- nobody holds commands, and the schedule moves
      module _ (e : r.number ≡ 0) (m : Engine) (a : Record) {x : Going} (w : x ≡ going_at es m r.taken a) where
        pub passed_more : {h'' : List ℕ} → Settling items spans (memory_of r h' c') (state_of m.numbers h'' c')
            → Stays counts list items spans es z₀ x (memory_of x h'' c')
        passed_more g = stays_at a w (λ p y u. runs_settled ((went.nobody e).1 p y u) passes.within (λ k v. g p counts list k v)) passes.within

        pub passed_more_less : turns_left es x < turns_left es s
        passed_more_less =
            let q = ap (λ (y : Going). y.taken) w ∙ going_taken es m r.taken a in
            let k = passes.more e in
            fewer_left es x s d (stays.due d).1.byte (omega arith)

    -- What the code needs -------------------------------------------------------------

    module _ (begun : Begun counts list items spans z₀) where
      stays_ready : (m : Machine) × Ready begun.program counts list items spans m (memory_of s h c)
      stays_ready =
          let (m, r, v) = still_running ((stays.due d).0 begun.program begun.machine begun.ready) (stays.due d).1.someone in (m, r)

      -- for the records
      pub stays_rows : (head_size * s.machine.numbers.count ≤ length h) × (s.machine.numbers.count ≤ max_instances)
      stays_rows = let (m, r) = stays_ready in (ready_rows r, r.stands.few)

      -- for the turns
      pub stays_turning : {rs : List Record} → Recorded h s.machine.numbers.count rs → Turning list counts es s rs h c
      stays_turning f =
          let (m, r) = stays_ready in
          record {
            items = items;
            spans = spans;
            begun = record { program = begun.program; machine = m; ready = r };
            due = (stays.due d).1;
            recorded = f;
          }

      -- and for the moves behind them
      pub passed_standing : {r : Going} {h' c' : List ℕ} → Passes list counts es s h c r h' c' → r.number ≡ 0
          → Standing items spans h' r.machine.numbers
      passed_standing passes e =
          let q = ((went passes).nobody e).1 begun.program begun.machine begun.ready in
          begun_standing (record { program = begun.program; machine = q.machine; ready = q.ready })
