-- The ways through the turns of a passage (01, 'Table and turns'): from s₀ with memory h₀ and c₀, the turns so far have led to s with h, c and
-- the records rs.
use Rattle.std.specs.Prelude.{ℕ, suc, ◌+◌, ◌-◌, ◌%◌, ◌<◌, ◌≤◌, ◌≡◌, refl, Bool, true, false, List, length, get_or, set, eqb, leb, Some}
use Rattle.std.proofs.Common.{ap, sym, ◌∙◌, subst, true≢false, arith}
use Rattle.std.proofs.lemmas.Bool.{false≢true}
use borrow.Author.Tests.{eq-eqb, ne_eqb, eqb-true, eqb-false, le-leb, lt-leb, leb-true, leb-false}
use Rattle.types.specs.Limits.{max_instances}
use Rattle.machine.specs.Machine.{command}
use Rattle.machine.specs.Stops.{out_of_turns}
use Rattle.layout.specs.Layout.{holds}
use Rattle.layout.specs.State.{State, state_of}
use Rattle.memory.specs.Act.{act}
use Rattle.memory.specs.Fit.{Fit}
use Rattle.memory.specs.Choose.{picked}
use Rattle.memory.proofs.Laws.ChooseStands.{picks}
use Rattle.holders.specs.declared.Record.{Record}
use Rattle.holders.specs.Records.{Recorded, holder_in}
use Rattle.holders.proofs.RecordsLaws.{picked_in}
use Rattle.engine.specs.declared.Machine.{Machine as Engine}
use Rattle.interpreter.specs.declared.turns.Going.{Going}
use Rattle.interpreter.specs.Running.{Turned, Turned.turned, Turned.failed, Begun, Gone, Come}
use Rattle.interpreter.specs.Laws.TurnLaws.{picked_fits, turned_by}
use Rattle.interpreter.specs.Laws.RunningLaws.{number_some, ends_lasting, ends_failed, taken_turn, runs_held}
use Rattle.interpreter.specs.Laws.RecordLaws.{records_behind}
use Rattle.interpreter.specs.Going.{rests, waits, going_at, behind, Takes, is_due, memory_of, searched, Turning, Went, Passes}

-- The cases of a definition ----------------------------------------------------------

module _ (es : List ℕ) (m : Engine) (i : ℕ) (a : Record) where
  -- how many hold commands
  abbrev n : ℕ
  n = m.numbers.holding

  pub at_nobody : n ≡ 0 → going_at es m i a ≡ rests m i a m.numbers.number
  unfolding going_at
  at_nobody h = rw (eq-eqb n 0 h, going_at)

  module _ (h : 0 < n) where
    some : n ≡ 0 → ⊥
    some e = omega arith

    pub at_last : length es ≤ i → going_at es m i a ≡ rests m i a out_of_turns
    unfolding going_at
    at_last k = rw (ne_eqb n 0 some, going_at, le-leb (length es) i k)

    pub at_turn : i < length es → going_at es m i a ≡ waits m i a (get_or es i 0 % n)
    unfolding going_at
    at_turn k = rw (ne_eqb n 0 some, going_at, lt-leb (length es) i k)

  -- the turns taken stay as they are, and so does the machine
  pub going_taken : (going_at es m i a).taken ≡ i
  going_taken = go (eqb n 0) refl (leb (length es) i) refl
    where
      go : (t : Bool) → eqb n 0 ≡ t → (u : Bool) → leb (length es) i ≡ u → (going_at es m i a).taken ≡ i
      go true t u v = ap (λ (x : Going). x.taken) (at_nobody (eqb-true n 0 t))
      go false t true v =
          let e = eqb-false n 0 t in
          ap (λ (x : Going). x.taken) (at_last (omega arith) (leb-true (length es) i v))
      go false t false v =
          let e = eqb-false n 0 t in
          ap (λ (x : Going). x.taken) (at_turn (omega arith) (leb-false (length es) i v))

module _ (es : List ℕ) (s : Going) (m : Engine) (t : Bool) where
  pub behind_refused : (m.numbers.number ≡ 0 → ⊥) → behind es s m t ≡ rests m s.taken s.actor m.numbers.number
  unfolding behind
  behind_refused c = rw (ne_eqb m.numbers.number 0 c, behind)

  pub behind_taken : m.numbers.number ≡ 0 → behind es s m t ≡ going_at es m (s.taken + 1) (record { holds = t })
  unfolding behind
  behind_taken c = rw (eq-eqb m.numbers.number 0 c, behind)

-- One command ------------------------------------------------------------------------

-- memory y behind a command of instance l on z, with the records rs before it
pub record Behind (counts list items spans : List ℕ) (l : ℕ) (z y : State) (rs : List Record) : Type 0 where
  pub begun : Begun counts list items spans y
  pub recorded : Recorded y.heads y.machine.count (set rs l (record { holds = holds y.heads l }))

module _ {counts list items spans : List ℕ} {z : State} (g : Begun counts list items spans z) (b : 0 < z.machine.holding) (e : ℕ) {l : ℕ}
    (q : l ≡ picked z.heads z.machine.from z.machine.count e) where
  pub begun_fits : Fit list counts l z
  begun_fits = rw q (picked_fits g.ready b e)

  pub begun_behind : {y : State} → y ≡ act list counts l z → y.machine.number ≡ 0
      → {rs : List Record} → Recorded z.heads z.machine.count rs
      → Behind counts list items spans l z y rs
  begun_behind {y} a c {rs} f =
      go (subst (Turned g.program counts list items spans g.machine e z) (sym (a ∙ ap (λ (x : ℕ). act list counts x z) q)) (turned_by g.ready b e))
    where
      go : Turned g.program counts list items spans g.machine e z y → Behind counts list items spans l z y rs
      go (turned {m' = m'} r' u v) = record {
        begun = record { program = g.program; machine = m'; ready = r' };
        recorded =
            records_behind g.ready r' l
            (ap (λ (x : ℕ). command g.program x g.machine) (q ∙ picks g.machine g.ready.stands g.ready.counting e) ∙ u)
            begun_fits.chosen f;
      }
      go (failed k d v) = absurd (number_some d (sym (ap (λ (x : State). x.machine.number) k) ∙ c))

-- The turns so far -------------------------------------------------------------------

-- what is left of them: a number that falls with each turn
abbrev pub turns_left : List ℕ → Going → ℕ
turns_left es s = elim (is_due s) [ true ↦ suc (length es - s.taken) | false ↦ 0 ]

-- a byte that picks is that of a turn that is due
pub picks_due : (s : Going) {r : ℕ} → s.pick ≡ Some r → is_due s ≡ true
picks_due s e = rw e

-- a turn more was taken
pub fewer_left : (es : List ℕ) (r s : Going) → is_due s ≡ true → s.taken < length es → s.taken < r.taken → turns_left es r < turns_left es s
fewer_left es r s d h k = rw (d, turns_left) (go (is_due r))
  where
    go : (t : Bool) → elim t [ true ↦ suc (length es - r.taken) | false ↦ 0 ] < suc (length es - s.taken)
    go true = omega arith
    go false = omega arith

pub record Kept (list counts es : List ℕ) (s₀ : Going) (h₀ c₀ : List ℕ) (s : Going) (rs : List Record) (h c : List ℕ) : Type 0 where
  pub ready : is_due s ≡ true → Turning list counts es s rs h c
  pub since : s₀.taken ≤ s.taken
  pub within : s.taken ≤ length es
  pub more : is_due s ≡ false → s.number ≡ 0 → s₀.taken < s.taken
  pub gone : is_due s ≡ true → (items spans : List ℕ) (z : State) → Gone counts list items spans es z s₀.taken (memory_of s₀ h₀ c₀)
      → Gone counts list items spans es z s.taken (memory_of s h c)
  pub went : is_due s ≡ false → (items spans : List ℕ) (z : State) → Gone counts list items spans es z s₀.taken (memory_of s₀ h₀ c₀)
      → Went counts list items spans es z s (memory_of s h c)

module _ {list counts es : List ℕ} {s₀ : Going} {h₀ c₀ : List ℕ} where
  -- no turn yet
  pub kept_none : {rs : List Record} → Turning list counts es s₀ rs h₀ c₀ → Kept list counts es s₀ h₀ c₀ s₀ rs h₀ c₀
  kept_none t =
      let k = t.due.byte in
      record {
        ready = λ d. t;
        since = omega arith;
        within = omega arith;
        more = λ d. absurd (true≢false (sym (picks_due s₀ t.due.picks) ∙ d));
        gone = λ d items spans z g. g;
        went = λ d. absurd (true≢false (sym (picks_due s₀ t.due.picks) ∙ d));
      }

  module _ {s : Going} {rs : List Record} {h c : List ℕ} (kept : Kept list counts es s₀ h₀ c₀ s rs h c) where
    -- no turn is due
    pub kept_done : is_due s ≡ false → Passes list counts es s₀ h₀ c₀ s h c
    kept_done d = record { rest = d; more = kept.more d; within = kept.within; went = kept.went d }

    -- The search has found instance l ------------------------------------------------

    -- as many records as instances, and more
    pub kept_few : is_due s ≡ true → s.machine.numbers.count ≤ length rs
    kept_few d = let t = kept.ready d in let a = t.begun.ready.stands.few in let b = t.recorded.long in omega arith

    module _ {r₀ : ℕ} (p₀ : s.pick ≡ Some r₀) {l : ℕ} (found : l ≡ searched s r₀ rs) where
      d : is_due s ≡ true
      d = picks_due s p₀

      abbrev t₀ : Turning list counts es s rs h c
      t₀ = kept.ready d

      abbrev z₀ : State
      z₀ = memory_of s h c

      abbrev byte : ℕ
      byte = get_or es s.taken 0

      few : s.machine.numbers.count ≤ max_instances
      few = t₀.begun.ready.stands.few

      -- it is the one that the byte picks
      is_picked : l ≡ picked h s.machine.numbers.from s.machine.numbers.count byte
      is_picked =
          let kept = t₀.begun.ready.kept in
          let e : Some r₀ ≡ Some (byte % s.machine.numbers.holding) = sym p₀ ∙ t₀.due.picks in
          let q : r₀ ≡ byte % s.machine.numbers.holding = cc in
          found ∙ ap (holder_in rs s.machine.numbers.count s.machine.numbers.from) (q ∙ ap (λ (n : ℕ). byte % n) kept)
          ∙ sym (picked_in h t₀.recorded s.machine.numbers.from byte (rw kept at t₀.due.someone))

      -- what its turn needs
      pub kept_asks : (Fit list counts l z₀) × (0 < s.machine.numbers.holding) × (s.taken < length es)
      kept_asks = (begun_fits t₀.begun t₀.due.someone byte is_picked, t₀.due.someone, t₀.due.byte)

      pub kept_within : l < length rs
      kept_within = let a = kept_asks.0.chosen in let b = t₀.recorded.long in omega (arith, few)

      -- its turn
      module _ {m : Engine} {h' c' : List ℕ} (a : state_of m.numbers h' c' ≡ act list counts l z₀) where
        abbrev y₀ : State
        y₀ = state_of m.numbers h' c'

        acted : y₀ ≡ act list counts (picked h s.machine.numbers.from s.machine.numbers.count byte) z₀
        acted = a ∙ ap (λ (x : ℕ). act list counts x z₀) is_picked

        abbrev After : Going → Type 0
        After r = Kept list counts es s₀ h₀ c₀ r (set rs l r.actor) h' c'

        -- no turn is due behind it
        rests_after : (i : ℕ) (a : Record) (x : ℕ) → s₀.taken ≤ i → i ≤ length es → (x ≡ 0 → s₀.taken < i)
            → ((items spans : List ℕ) (z : State) → Gone counts list items spans es z s₀.taken (memory_of s₀ h₀ c₀)
            → Went counts list items spans es z (rests m i a x) y₀)
            → After (rests m i a x)
        rests_after i a x since within more went = record {
          ready = λ w. absurd (false≢true w);
          since = since;
          within = within;
          more = λ w. more;
          gone = λ w. absurd (false≢true w);
          went = λ w. went;
        }

        -- it was refused
        refused_after : (m.numbers.number ≡ 0 → ⊥) → After (rests m s.taken s.actor m.numbers.number)
        refused_after e =
            rests_after s.taken s.actor m.numbers.number kept.since kept.within (λ n. absurd (e n)) λ items spans z g. record {
              nobody = λ n. absurd (e n);
              over = λ n p x r. ends_failed (kept.gone d items spans z g p x r) t₀.due.someone t₀.due.byte acted e;
            }

        -- or taken
        module _ (e : m.numbers.number ≡ 0) where
          abbrev n₀ : ℕ
          n₀ = m.numbers.holding

          abbrev a₀ : Record
          a₀ = record { holds = holds h' l }

          come : (items spans : List ℕ) (z : State) → Gone counts list items spans es z s₀.taken (memory_of s₀ h₀ c₀)
              → Come counts list items spans es z (s.taken + 1) y₀
          come items spans z g p x r = taken_turn (kept.gone d items spans z g p x r) t₀.due.someone t₀.due.byte acted e

          behind_it : Behind counts list t₀.items t₀.spans l z₀ y₀ rs
          behind_it = begun_behind t₀.begun t₀.due.someone byte is_picked a e t₀.recorded

          later : s₀.taken < s.taken + 1
          later = let b = kept.since in omega arith

          bytes : s.taken + 1 ≤ length es
          bytes = let b = t₀.due.byte in omega arith

          -- nobody is left
          nobody_after : n₀ ≡ 0 → After (rests m (s.taken + 1) a₀ m.numbers.number)
          nobody_after n =
              rests_after (s.taken + 1) a₀ m.numbers.number (omega (arith, later)) bytes (λ x. later) λ items spans z g. record {
                nobody = λ x. (n, come items spans z g);
                over = λ x. absurd (x e);
              }

          module _ (n : 0 < n₀) where
            -- no byte is
            last_after : length es ≤ s.taken + 1 → After (rests m (s.taken + 1) a₀ out_of_turns)
            last_after q =
                rests_after (s.taken + 1) a₀ out_of_turns (omega (arith, later)) bytes (λ x. later) λ items spans z g. record {
                  nobody = λ x. absurd (omega arith);
                  over = λ x p u r. ends_lasting (runs_held (come items spans z g p u r) n) n (omega (arith, bytes));
                }

            -- the next turn is due
            turn_after : s.taken + 1 < length es → After (waits m (s.taken + 1) a₀ (get_or es (s.taken + 1) 0 % n₀))
            turn_after q =
                let b = kept.since in
                record {
                  ready = λ w. record {
                    items = t₀.items;
                    spans = t₀.spans;
                    begun = behind_it.begun;
                    due = record { someone = n; byte = q; picks = refl };
                    recorded = behind_it.recorded;
                  };
                  since = omega arith;
                  within = omega arith;
                  more = λ w. absurd (true≢false w);
                  gone = λ w items spans z g p x r. runs_held (come items spans z g p x r) n;
                  went = λ w. absurd (true≢false w);
                }

          taken_after : After (going_at es m (s.taken + 1) a₀)
          taken_after = go (eqb n₀ 0) refl (leb (length es) (s.taken + 1)) refl
            where
              positive : eqb n₀ 0 ≡ false → 0 < n₀
              positive t = let w = eqb-false n₀ 0 t in omega arith

              go : (t : Bool) → eqb n₀ 0 ≡ t → (u : Bool) → leb (length es) (s.taken + 1) ≡ u → After (going_at es m (s.taken + 1) a₀)
              go true t u v =
                  let n = eqb-true n₀ 0 t in
                  subst After (sym (at_nobody es m (s.taken + 1) a₀ n)) (nobody_after n)
              go false t true v =
                  let n = positive t in
                  let q = leb-true (length es) (s.taken + 1) v in
                  subst After (sym (at_last es m (s.taken + 1) a₀ n q)) (last_after n q)
              go false t false v =
                  let n = positive t in
                  let q = leb-false (length es) (s.taken + 1) v in
                  subst After (sym (at_turn es m (s.taken + 1) a₀ n q)) (turn_after n q)

      -- a turn more
      pub kept_more : {r : Going} {h' c' : List ℕ} → Takes list counts es l s h c r h' c' → Kept list counts es s₀ h₀ c₀ r (set rs l r.actor) h' c'
      kept_more {r} {h'} {c'} k = go (eqb k.machine.numbers.number 0) refl
        where
          go : (t : Bool) → eqb k.machine.numbers.number 0 ≡ t → Kept list counts es s₀ h₀ c₀ r (set rs l r.actor) h' c'
          go true t =
              let e = eqb-true k.machine.numbers.number 0 t in
              subst (After k.acted) (sym (k.goes ∙ behind_taken es s k.machine (holds h' l) e)) (taken_after k.acted e)
          go false t =
              let e = eqb-false k.machine.numbers.number 0 t in
              subst (After k.acted) (sym (k.goes ∙ behind_refused es s k.machine (holds h' l) e)) (refused_after k.acted e)

      pub kept_less : {r : Going} {h' c' : List ℕ} → Takes list counts es l s h c r h' c' → turns_left es r < turns_left es s
      kept_less {r} {h'} {c'} k = go (eqb k.machine.numbers.number 0) refl
        where
          go : (t : Bool) → eqb k.machine.numbers.number 0 ≡ t → turns_left es r < turns_left es s
          go true t =
              let e = eqb-true k.machine.numbers.number 0 t in
              let w = k.goes ∙ behind_taken es s k.machine (holds h' l) e in
              let q = ap (λ (x : Going). x.taken) w ∙ going_taken es k.machine (s.taken + 1) (record { holds = holds h' l }) in
              fewer_left es r s d t₀.due.byte (omega arith)
          go false t =
              let e = eqb-false k.machine.numbers.number 0 t in
              let w = k.goes ∙ behind_refused es s k.machine (holds h' l) e in
              rw (w, d, turns_left) (omega arith)
