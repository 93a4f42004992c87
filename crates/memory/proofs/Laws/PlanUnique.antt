-- A place of the schedule laid flat stands for one schedule only (01, 'Table and turns'): what is left is read off the codes.
use Rattle.std.specs.Prelude.{ℕ, zero, suc, ◌+◌, ◌-◌, ◌/◌, ◌%◌, ◌≤◌, ◌≡◌, true, false, List, length, get_or, ltb, eqb}
use Rattle.std.proofs.Math.Path.{refl, ap}
use Rattle.std.proofs.Common.{sym, ◌∙◌}
use native.Mathlib.Omega.{arith}
use borrow.Author.Tests.{lt-ltb, le-ltb, ne_eqb}
use Rattle.types.specs.Limits.{step_names}
use Rattle.machine.specs.Published.{StepCall, StepCall.global, StepCall.local, Sched, Sched.done, Sched.start, Sched.fixpoint, Sched.active, before}
use Rattle.layout.specs.Codes.{fix_code, end_code, round_code}
use Rattle.memory.specs.Plan.{start_code, RangedCall, Ranged, At, At.at_end, At.at_start, At.at_fix, At.at_round}
use Rattle.memory.proofs.Laws.PlanLaws.{code_below, past_fix, past_round, at_within}

-- what stands before the first Fix that has begun, and what behind it
abbrev front : Sched → Sched
front done = done
front (start c s) = start c (front s)
front (fixpoint f s) = fixpoint f (front s)
front (active f s) = done

abbrev rest : Sched → Sched
rest done = done
rest (start c s) = rest s
rest (fixpoint f s) = rest s
rest (active f s) = s

-- a schedule with φ of the items of each Fix that has begun
module _ (φ : Sched → Sched) where
  abbrev shown : Sched → Sched
  shown done = done
  shown (start c s) = start c (shown s)
  shown (fixpoint f s) = fixpoint f (shown s)
  shown (active f s) = active (φ f) (shown s)

  front_shown : (f g s : Sched) → Ranged f → front (shown (before f (active g s))) ≡ f
  unfolding before Ranged
  front_shown done g s r = refl
  front_shown (start c f) g s r = ap (start c) (front_shown f g s r.1)
  front_shown (fixpoint h f) g s r = ap (fixpoint h) (front_shown f g s r.1)
  front_shown (active h f) g s r = absurd r

  rest_shown : (f g s : Sched) → Ranged f → rest (shown (before f (active g s))) ≡ shown s
  unfolding before Ranged
  rest_shown done g s r = refl
  rest_shown (start c f) g s r = rest_shown f g s r.1
  rest_shown (fixpoint h f) g s r = rest_shown f g s r.1
  rest_shown (active h f) g s r = absurd r

shown_self : (s : Sched) → shown (λ f. f) s ≡ s
shown_self done = refl
shown_self (start c s) = ap (start c) (shown_self s)
shown_self (fixpoint f s) = ap (fixpoint f) (shown_self s)
shown_self (active f s) = ap (active f) (shown_self s)

-- the step call of a code
unfoldable read_call : ℕ → StepCall
read_call c = elim (ltb c step_names) [ true ↦ global c | false ↦ local (c / step_names - 1) (c % step_names) ]

-- read off the code c, with r read behind it; g t are the items of a Fix that goes round to t
unfoldable read_code : (ℕ → Sched) → ℕ → Sched → Sched
read_code g c r =
    elim (ltb c fix_code) [
      | true ↦ start (read_call c) r
      | false ↦ elim (eqb c fix_code) [
        | true ↦ fixpoint (front r) (rest r)
        | false ↦ elim (eqb c end_code) [ true ↦ done | false ↦ active (g (c - round_code 0)) r ]
      ]
    ]

-- the n codes from a on
unfoldable read : List ℕ → (ℕ → Sched) → ℕ → ℕ → Sched
read items g zero a = done
read items g (suc n) a = read_code g (get_or items a 0) (read items g n (suc a))

call_read : (c : StepCall) → RangedCall c → read_call (start_code c) ≡ c
unfolding read_call
call_read (global n) h = rw (lt-ltb n step_names h, read_call)
call_read (local k n) h =
    let l = h.1 in
    let u = le-ltb (start_code (local k n)) step_names (omega arith) in
    let d : start_code (local k n) / step_names - 1 ≡ k = omega arith in
    let w : start_code (local k n) % step_names ≡ n = omega arith in
    rw (u, read_call, d, w)

module _ (g : ℕ → Sched) (r : Sched) where
  code_end : read_code g end_code r ≡ done
  unfolding read_code
  code_end = refl

  code_start : (c : StepCall) → RangedCall c → read_code g (start_code c) r ≡ start c r
  unfolding read_code
  code_start c h = rw (lt-ltb (start_code c) fix_code (code_below c h), read_code, call_read c h)

  code_fix : read_code g fix_code r ≡ fixpoint (front r) (rest r)
  unfolding read_code
  code_fix = refl

  code_round : (t : ℕ) → read_code g (round_code t) r ≡ active (g t) r
  unfolding read_code
  code_round t =
      let v = le-ltb (round_code t) fix_code (omega arith) in
      let x = ne_eqb (round_code t) fix_code (omega arith) in
      let y = ne_eqb (round_code t) end_code (omega arith) in
      let d : round_code t - round_code 0 ≡ t = omega arith in
      rw (v, read_code, x, y, d)

module _ (items : List ℕ) (g : ℕ → Sched) (φ : Sched → Sched)
    (law : (j t : ℕ) (f s : Sched) → At items j (active f s) → get_or items j 0 ≡ round_code t → g t ≡ φ f) where
  step : (n a : ℕ) {c : ℕ} → get_or items a 0 ≡ c → read items g (suc n) a ≡ read_code g c (read items g n (suc a))
  unfolding read
  step n a e = ap (λ c. read_code g c (read items g n (suc a))) e

  reads : (n : ℕ) {a : ℕ} {s : Sched} → At items a s → length items ≤ a + n → read items g n a ≡ shown φ s
  reads zero {a} h q = let w = at_within items h in absurd (omega arith)
  reads (suc n) (at_end {a = a} e) q = step n a e ∙ code_end g (read items g n (suc a))
  reads (suc n) (at_start {a = a} {c = c} h e r) q =
      step n a e ∙ code_start g (read items g n (suc a)) c h ∙ ap (start c) (reads n r (omega arith))
  reads (suc n) (at_fix {a = a} {f = f} {s = s} e b o r) q =
      let i = reads n (past_fix items (at_fix e b o r)).1 (omega arith) in
      step n a e ∙ code_fix g (read items g n (suc a)) ∙ (rw (i, front_shown φ f f s b.ranged, rest_shown φ f f s b.ranged))
  reads (suc n) (at_round {j = j} {t = t} {f = f} {s = s} b e r) q =
      step n j e ∙ code_round g (read items g n (suc j)) t ∙ (rw (reads n r (omega arith), law j t f s (at_round b e r) e))

active_ranged : {items : List ℕ} {a : ℕ} {f s : Sched} → At items a (active f s) → Ranged f
active_ranged (at_round b e r) = b.ranged

module _ (items : List ℕ) where
  -- the items of a Fix that begin at t, read without those of Fixes that have begun
  abbrev items_from : ℕ → Sched
  items_from t = front (read items (λ i. done) (length items) t)

  items_are : (j t : ℕ) (f s : Sched) → At items j (active f s) → get_or items j 0 ≡ round_code t → items_from t ≡ f
  items_are j t f s h e =
      let (i, u, v, w) = past_round items h in
      let x : i ≡ t = omega arith in
      rw (← x)
      (ap front (reads items (λ i. done) (λ f. done) (λ j t f s h e. refl) (length items) w (omega arith))
      ∙ front_shown (λ f. done) f f s (active_ranged h))

  whole : {a : ℕ} {s : Sched} → At items a s → read items items_from (length items) a ≡ s
  whole {s = s} h = reads items items_from (λ f. f) items_are (length items) h (omega arith) ∙ shown_self s

  -- a place stands for one schedule
  pub at_unique : {a : ℕ} {r s : Sched} → At items a r → At items a s → r ≡ s
  at_unique h k = sym (whole h) ∙ whole k
