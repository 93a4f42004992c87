-- The ways through the loop of turns that are told (01, 'Table and turns'): of a run of m with the bytes es, a turn is due, or it has stopped and its
-- text is told.
use Rattle.std.specs.Prelude.{ℕ, suc, ◌+◌, ◌-◌, ◌^◌, ◌<◌, ◌≤◌, ◌≡◌, refl, Bool, true, false, List, [], ◌∷◌, ◌++◌, length, get_or, drop, ltb, leb}
use Rattle.std.proofs.Common.{arith, add-one, sym, ap, ◌∙◌, subst, true≢false, append-nil, drop-cons, ltb-true, ltb-false, leb-true, leb-false}
use Rattle.std.proofs.lemmas.Bool.{false≢true}
use Rattle.std.proofs.Math.Option.{Option, some}
use Rattle.std.proofs.Math.Seq.{drop-length}
use Rattle.types.specs.Limits.{step_names}
use Rattle.program.specs.Tree.{Program}
use Rattle.machine.specs.Machine.{Machine}
use Rattle.machine.specs.Stops.{ended, out_of_turns}
use Rattle.run.specs.Run.{Outcome.stopped, run}
use Rattle.run.specs.Steps.{Steps.here}
use Rattle.layout.specs.Codes.{end_code}
use Rattle.layout.specs.State.{state_of, bit}
use Rattle.memory.proofs.Laws.PlanLaws.{at_end_done}
use Rattle.interpreter.specs.Ready.{Ready}
use Rattle.interpreter.specs.Running.{Begun, Standing}
use Rattle.interpreter.specs.Laws.RunWays.{begun_standing}
use Rattle.interpreter.specs.Laws.TurnLaws.{none_hold, some_hold, ends, lasts}
use Rattle.interpreter.specs.Laws.VisitWays.{visits_outcome}
use Rattle.trace.specs.Trace.{trace}
use Rattle.trace.specs.LineText.{lines_text, trace_lines}
use Rattle.trace.proofs.TraceTextLaws.{text_stops, text_ends}
use Rattle.trace_images.specs.declared.telling.Start.{Start}
use Rattle.trace_images.specs.declared.telling.Telling.{Telling}
use Rattle.trace_images.specs.Pages.{blank, Paged}
use Rattle.trace_images.specs.PageLaws.{paged_blank}
use Rattle.trace_images.specs.Telling.{first_of, rests, waits, told_at, memory_of, Stage, Stops, Silent, Settles, Takeable, Takes, Ran}
use Rattle.trace_images.specs.TellingLaws.{at_nobody, at_last, at_turn, ready_few}

-- by whether a turn is due
module _ (es : List ℕ) (s : Telling) where
  abbrev n : ℕ
  n = s.coming.machine.numbers.holding

  abbrev i : ℕ
  i = s.coming.taken

  told_cases : (P : Telling → Type 0) → (n ≡ 0 → P (rests s ended)) → (0 < n → length es ≤ i → P (rests s out_of_turns))
      → (0 < n → i < length es → P (waits s (get_or es i 0)))
      → P (told_at es s)
  told_cases P nobody last turn = go (ltb 0 n) refl (leb (length es) i) refl
    where
      go : (t : Bool) → ltb 0 n ≡ t → (u : Bool) → leb (length es) i ≡ u → P (told_at es s)
      go false t u v =
          let k = ltb-false 0 n t in
          let e : n ≡ 0 = omega arith in
          subst P (sym (at_nobody es s e)) (nobody e)
      go true t true v =
          let k = ltb-true 0 n t in
          let q = leb-true (length es) i v in
          subst P (sym (at_last es s k q)) (last k q)
      go true t false v =
          let k = ltb-true 0 n t in
          let q = leb-false (length es) i v in
          subst P (sym (at_turn es s k q)) (turn k q)

  -- what stays as it was
  pub record Same (r : Telling) : Type 0 where
    pub step : r.coming.step ≡ s.coming.step
    pub taken : r.coming.taken ≡ s.coming.taken
    pub page : r.page ≡ s.page

  pub told_same : Same (told_at es s)
  told_same =
      told_cases Same (λ h. record { step = refl; taken = refl; page = refl }) (λ h k. record { step = refl; taken = refl; page = refl })
      (λ h k. record { step = refl; taken = refl; page = refl })

-- turns that are left, and one more where one is due
abbrev pub turns_left : List ℕ → Telling → ℕ
turns_left es s = (length es - s.coming.taken) + bit s.due

bit_most : (b : Bool) → bit b ≤ 1
bit_most true = omega arith
bit_most false = omega arith

-- a text is told where nothing is left of it
told_all : {whole told rest : List ℕ} → whole ≡ told ++ rest → rest ≡ [] → whole ≡ told
told_all {told = told} e f = e ∙ ap (λ (x : List ℕ). told ++ x) f ∙ append-nil told

-- the bytes that are left, in other words
stage_with : {lent : Option (List ℕ)} {p : Program} {m : Machine} {es whole fs fs' counts list items spans : List ℕ} {s : Telling} {h c out : List ℕ} → fs ≡ fs'
    → Stage lent p m es whole fs counts list items spans s h c out → Stage lent p m es whole fs' counts list items spans s h c out
stage_with {lent} {p} {m} {es} {whole} {counts = counts} {list} {items} {spans} {s} {h} {c} {out} e =
    subst (λ (x : List ℕ). Stage lent p m es whole x counts list items spans s h c out) e

module _ (lent : Option (List ℕ)) (p : Program) (m : Machine) (es counts list items spans : List ℕ) where
  abbrev whole : List ℕ
  whole = trace_lines p (trace p m es)

  pub record Goes (s : Telling) (h c out : List ℕ) : Type 0 where
    pub within : s.coming.taken ≤ length es
    pub due : s.due ≡ true → Stage lent p m es whole (drop s.coming.taken es) counts list items spans s h c out
    pub over : s.due ≡ false → Stops lent p m es whole (drop s.coming.taken es) s.number s.page out
    pub held : s.due ≡ true → 0 < s.coming.machine.numbers.holding
    pub early : s.due ≡ true → s.coming.taken < length es
    pub byte : s.due ≡ true → s.coming.byte ≡ get_or es s.coming.taken 0

  module _ {h c out : List ℕ} where
    -- before the first act
    pub first_stage : (z : Start) → lent ≡ some out → Ready p counts list items spans m (state_of z.seat.numbers h c)
        → Stage lent p m es whole es counts list items spans (first_of z) h c out
    first_stage z same r = record {
      machine = m;
      ready = r;
      visits = (0, here);
      told = [];
      paged = λ l k. let e : l ≡ out = cc in rw e (paged_blank z.from out);
      rest = refl;
    }

    -- the schedule has moved as far as it goes
    pub told_goes : {s : Telling} → s.coming.taken ≤ length es → Stage lent p m es whole (drop s.coming.taken es) counts list items spans s h c out
        → (s.coming.machine.numbers.holding ≡ 0 → get_or items s.coming.machine.numbers.place 0 ≡ end_code)
        → Goes (told_at es s) h c out
    told_goes {s} k st still = told_cases es s (λ r. Goes r h c out) nobody last turn
      where
        fs : List ℕ
        fs = drop s.coming.taken es

        text : List ℕ
        text = lines_text p s.coming.step s.coming.taken (trace p st.machine fs)

        stops_with : (x : ℕ) → run p st.machine fs ≡ stopped x 0 st.machine → text ≡ [] → Goes (rests s x) h c out
        stops_with x q e = record {
          within = k;
          due = λ d. absurd (false≢true d);
          over = λ d. record {
            machine = st.machine;
            visits = st.visits;
            stops = q;
            paged = λ l i. subst (λ (w : List ℕ). Paged w l s.page out) (sym (told_all st.rest e)) (st.paged l i);
          };
          held = λ d. absurd (false≢true d);
          early = λ d. absurd (false≢true d);
          byte = λ d. absurd (false≢true d);
        }

        nobody : s.coming.machine.numbers.holding ≡ 0 → Goes (rests s ended) h c out
        nobody e =
            let f = still e in
            stops_with ended (ends st.ready e f fs)
            (text_ends p st.machine s.coming.step s.coming.taken (none_hold st.ready e)
            ((at_end_done items st.ready.stands.scheduled).0 f) fs)

        last : 0 < s.coming.machine.numbers.holding → length es ≤ s.coming.taken → Goes (rests s out_of_turns) h c out
        last b l =
            let e : s.coming.taken ≡ length es = omega arith in
            let q : run p st.machine fs ≡ stopped out_of_turns 0 st.machine =
            ap (run p st.machine) (ap (λ (x : ℕ). drop x es) e ∙ drop-length es) ∙ lasts st.ready b in
            stops_with out_of_turns q (text_stops p st.machine s.coming.step s.coming.taken (some_hold st.ready b) fs q)

        turn : 0 < s.coming.machine.numbers.holding → s.coming.taken < length es → Goes (waits s (get_or es s.coming.taken 0)) h c out
        turn b l = record {
          within = k;
          due = λ d. record { machine = st.machine; ready = st.ready; visits = st.visits; told = st.told; paged = st.paged; rest = st.rest };
          over = λ d. absurd (true≢false d);
          held = λ d. b;
          early = λ d. l;
          byte = λ d. refl;
        }

    -- A turn that is due ------------------------------------------------------------

    module _ {s : Telling} (g : Goes s h c out) (d : s.due ≡ true) where
      -- its byte is the first of those that are left
      taking : Stage lent p m es whole (s.coming.byte ∷ drop (s.coming.taken + 1) es) counts list items spans s h c out
      taking =
          let e : drop s.coming.taken es ≡ s.coming.byte ∷ drop (s.coming.taken + 1) es =
          rw (add-one, g.byte d) (drop-cons es s.coming.taken 0 (g.early d)) in
          stage_with e (g.due d)

      pub goes_takeable : s.coming.step < step_names → length es < 2 ^ 64 → Takeable counts list spans s h c
      goes_takeable k few = record {
        turnable = record {
          items = items;
          begun = record { program = p; machine = (g.due d).machine; ready = (g.due d).ready };
          held = g.held d;
          named = k;
          few = ready_few (g.due d).ready;
        };
        early = omega (arith, g.early d);
      }

      module _ {r : Telling} {h' c' out' : List ℕ} (t : Takes counts list spans s h c out r h' c' out') where
        -- it was refused
        pub refused_goes : (r.number ≡ 0 → ⊥) → Goes r h' c' out'
        refused_goes k =
            let e = t.kept k in
            let q : s.coming.byte ∷ drop (s.coming.taken + 1) es ≡ drop r.coming.taken es =
            rw (e, add-one, g.byte d) (sym (drop-cons es s.coming.taken 0 (g.early d))) in
            record {
              within = omega (arith, g.within, e);
              due = λ x. absurd (true≢false (sym x ∙ t.rest));
              over = λ x. subst (λ (fs : List ℕ). Stops lent p m es whole fs r.number r.page out') q
                  (t.stops k lent p m es whole (drop (s.coming.taken + 1) es) items taking);
              held = λ x. absurd (true≢false (sym x ∙ t.rest));
              early = λ x. absurd (true≢false (sym x ∙ t.rest));
              byte = λ x. absurd (true≢false (sym x ∙ t.rest));
            }

        -- or taken
        module _ (k : r.number ≡ 0) where
          behind_turn : Stage lent p m es whole (drop r.coming.taken es) counts list items spans r h' c' out'
          behind_turn =
              stage_with (ap (λ (x : ℕ). drop x es) (sym (t.counted k))) (t.tells k lent p m es whole (drop (s.coming.taken + 1) es) items taking)

          pub taken_standing : Standing items spans h' r.coming.machine.numbers
          taken_standing = begun_standing (record { program = p; machine = behind_turn.machine; ready = behind_turn.ready })

module _ (lent : Option (List ℕ)) (p : Program) (m : Machine) (es counts list items spans : List ℕ) where
  -- the schedule moves on behind a turn that was taken
  pub taken_goes : {s r x : Telling} {h c out h' c' out' h'' out'' : List ℕ} → Goes lent p m es counts list items spans s h c out → s.due ≡ true
      → Takes counts list spans s h c out r h' c' out' → r.number ≡ 0 → Settles items spans r h' out' x h'' out''
      → Goes lent p m es counts list items spans (told_at es x) h'' c' out''
  taken_goes {s} {r} {x} {c' = c'} g d t k u =
      let st = u.tells lent p m es (trace_lines p (trace p m es)) (drop r.coming.taken es) counts list c'
      (behind_turn lent p m es counts list items spans g d t k) in
      told_goes lent p m es counts list items spans (omega (arith, g.early d, t.counted k, u.taken))
      (stage_with (ap (λ (y : ℕ). drop y es) (sym u.taken)) st) u.still

  -- the first moves
  pub first_goes : (z : Start) {f x : Telling} {h c out h' out' : List ℕ} → lent ≡ some out → f ≡ first_of z
      → Ready p counts list items spans m (state_of z.seat.numbers h c)
      → Settles items spans f h out x h' out'
      → Goes lent p m es counts list items spans (told_at es x) h' c out'
  first_goes z {x = x} {h = h} {c = c} {out = out} {h' = h'} {out' = out'} same e ready t =
      let u : Settles items spans (first_of z) h out x h' out' = rw e at t in
      let st = u.tells lent p m es (trace_lines p (trace p m es)) es counts list c (first_stage lent p m es counts list items spans z same ready) in
      told_goes lent p m es counts list items spans (omega (arith, u.taken)) (stage_with (ap (λ (y : ℕ). drop y es) (sym u.taken)) st) u.still

  -- the run is over
  pub goes_ran : {s : Telling} {h c out : List ℕ} → Goes lent p m es counts list items spans s h c out → s.due ≡ false
      → (l : List ℕ) → lent ≡ some l → Ran p m es s.number s.coming.taken l s.page out
  goes_ran {s} g d l k =
      let o = g.over d in
      let t : s.coming.taken + 0 ≡ s.coming.taken = omega arith in
      record { last = o.machine; returns = rw t at (visits_outcome s.coming.taken g.within o.visits o.stops); paged = o.paged l k }

-- What the code needs and the loop keeps ------------------------------------------------

module _ (z : Start) {f : Telling} (e : f ≡ first_of z) where
  pub first_standing : {p : Program} {m : Machine} {counts list items spans h c : List ℕ} → Ready p counts list items spans m (state_of z.seat.numbers h c)
      → Standing items spans h f.coming.machine.numbers
  first_standing {p} {m} r = rw e (begun_standing (record { program = p; machine = m; ready = r }))

  pub first_named : f.coming.step < step_names
  first_named = rw e (omega arith)

  pub first_blank : f.page ≡ blank z.from
  first_blank = ap (λ (x : Telling). x.page) e

module _ (es : List ℕ) (s r : Telling) (e : r ≡ told_at es s) where
  pub told_named : s.coming.step < step_names → r.coming.step < step_names
  told_named k = rw (e, (told_same es s).step) k

  pub told_page : r.page ≡ s.page
  told_page = rw (e, (told_same es s).page)

  pub told_taken : r.coming.taken ≡ s.coming.taken
  told_taken = rw (e, (told_same es s).taken)

  -- a turn was taken since
  pub told_less : (s₀ : Telling) → s.coming.taken ≡ s₀.coming.taken + 1 → s₀.coming.taken < length es → s₀.due ≡ true
      → turns_left es r < turns_left es s₀
  told_less s₀ k h d = omega (arith, ap (λ (x : Telling). x.coming.taken) e, (told_same es s).taken, bit_most r.due, ap bit d)

pub refused_less : (es : List ℕ) (s r : Telling) → r.coming.taken ≡ s.coming.taken → r.due ≡ false → s.due ≡ true → turns_left es r < turns_left es s
refused_less es s r k d t = omega (arith, ap bit d, ap bit t)
