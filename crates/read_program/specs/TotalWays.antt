-- Each way through the readers of steps (01, 'Program stream', and numbers 4 to 8).
use Rattle.std.specs.Prelude.{Ok, Err, ℕ, suc, ◌+◌, ◌-◌, ◌≡◌, Bool, not}
use Rattle.std.proofs.Common.{arith, add-one, ap, sym, ◌∙◌}
use Rattle.std.proofs.Math.Path.{refl}
use mathlib.Core.List.{List, [], ◌∷◌, ◌++◌}
use Rattle.program.specs.Tree.{Step, Stmts}
use Rattle.program.specs.Reader.{Result, Result.ok, Result.bad, then, pair, made, many, ranged, counted, read_body, read_stmt, read_step, read_steps}
use Rattle.read_exprs.specs.Told.{byte_told}
use Rattle.read_exprs.specs.ByteWays.{byte_is, byte_stops}
use Rattle.read_stmts.specs.Done.{done, DoneBody}
pub use Rattle.read_stmts.specs.StmtWays.{done_is, done_stops}
use Rattle.answers.specs.Answers.{Answer, answer}
use Rattle.answers.specs.AnswerLaws.{ok_parts, answer_is, answer_stops, row_none, row_stop, row_more}
use Rattle.directory.specs.Directory.{row, there}
use Rattle.directory.specs.Rows.{put_row, rows_from}
use Rattle.judge.specs.declared.Done.{Done}
use Rattle.judge.specs.Facts.{no_locals, body_facts}
use Rattle.judge.specs.ProgramFacts.{Totals as Sum, added, struct_totals, step_totals}
use Rattle.read_program.specs.declared.totals.Totals.{Totals}
use Rattle.read_program.specs.Total.{with, less, over_by, plus, step_total, totals_read, told, Kept, Told, Low, Bounded}

-- What was read, from what was answered ------------------------------------------------

-- what was answered, from the enum that holds it and the rows
totals_value : (x : Answer Sum) (m : ℕ) (u : Totals) (h : List ℕ) → totals_read x ≡ Ok (m, u) → Kept x h → x ≡ Ok (m, with u h)
totals_value (Ok (k, T)) m u h e p = let i = ok_parts k m (less T) u e in rw (i.0, ← i.1, p) refl
totals_value (Err k) m u h e p = cc

totals_refused : (x : Answer Sum) (n : ℕ) → totals_read x ≡ Err n → x ≡ Err n
totals_refused (Ok (k, T)) n e = cc
totals_refused (Err k) n e = cc

module _ {A : Type 0} (f : A → Sum) (q : Result A) where
  pub told_value : (m : ℕ) (u : Totals) (h : List ℕ) → Told f q (Ok (m, u)) h → answer f q ≡ Ok (m, with u h)
  told_value m u h w = totals_value (answer f q) m u h (sym w.0) w.1

  pub told_stops : (n : ℕ) → told f q ≡ Err n → (p : ℕ) × (q ≡ bad p n)
  told_stops n e = answer_stops f q n (totals_refused (answer f q) n e)

  pub told_is : (m : ℕ) (u : Totals) (h : List ℕ) → Told f q (Ok (m, u)) h → (a : A) × (q ≡ ok a m) × (f a ≡ with u h)
  told_is m u h w = answer_is f q m (with u h) (told_value m u h w)

  -- and what is told, from what was answered
  pub value_told : (m : ℕ) (u : Totals) (h : List ℕ) → answer f q ≡ Ok (m, with u h) → Told f q (Ok (m, u)) h
  value_told m u h e = rw e (refl, refl)

  pub refused_told : (n : ℕ) (h : List ℕ) → answer f q ≡ Err n → Told f q (Err n) h
  refused_told n h e = rw e (refl, tt)

told_ok : {A : Type 0} (f : A → Sum) (q : Result A) (a : A) (m : ℕ) (u : Totals) (h : List ℕ) → q ≡ ok a m → u ≡ less (f a)
    → rows_from h 0 (f a).steps ≡ (f a).rows → Told f q (Ok (m, u)) h
told_ok f q a m u h e i j = rw (e, i) (refl, j)

told_bad : {A : Type 0} (f : A → Sum) (q : Result A) (p n : ℕ) (h : List ℕ) → q ≡ bad p n → Told f q (Err n) h
told_bad f q p n h e = rw e (refl, tt)

-- A step -------------------------------------------------------------------------------

module _ (ar s : List ℕ) (at : ℕ) where
  abbrev body_of : ℕ → Result Stmts
  body_of m = read_body ar s (read_stmt ar s 8) m

  pub step_unread : (p e : ℕ) → ranged s 0 32 at ≡ bad p e → read_step ar s at ≡ bad p e
  unfolding read_step made pair then
  step_unread p e i = rw i

  pub step_bodiless : (n m p e : ℕ) → ranged s 0 32 at ≡ ok n m → body_of m ≡ bad p e → read_step ar s at ≡ bad p e
  unfolding read_step made pair then
  step_bodiless n m p e i j = rw (i, j)

  pub step_whole : (n m i : ℕ) (b : Stmts) → ranged s 0 32 at ≡ ok n m → body_of m ≡ ok b i → read_step ar s at ≡ ok (record { name = n; body = b }) i
  unfolding read_step made pair then
  step_whole n m i b e j = rw (e, j)

  pub steps_uncounted : (p e : ℕ) → ranged s 0 9 at ≡ bad p e → read_steps ar s at ≡ bad p e
  unfolding read_steps counted then
  steps_uncounted p e i = rw i

module _ (ar types s : List ℕ) (k at : ℕ) (T : Sum) where
  -- the name is not read; it is, and the body is not; both are
  pub step_stop : (e : ℕ) (h : List ℕ) → byte_told (ranged s 0 32 at) ≡ Err e → Told (step_total ar types k T) (read_step ar s at) (Err e) h
  step_stop e h i =
      let q = byte_stops (ranged s 0 32 at) e i in
      told_bad (step_total ar types k T) (read_step ar s at) q.0 e h (step_unread ar s at _ _ q.1)

  pub step_cut : (n m e : ℕ) (h : List ℕ) → byte_told (ranged s 0 32 at) ≡ Ok (n, m)
      → done (λ b. body_facts ar types k b no_locals) (body_of ar s at m) ≡ Err e
      → Told (step_total ar types k T) (read_step ar s at) (Err e) h
  step_cut n m e h i j =
      let q = done_stops (λ b. body_facts ar types k b no_locals) (body_of ar s at m) e j in
      told_bad (step_total ar types k T) (read_step ar s at) q.0 e h (step_bodiless ar s at n m _ e (byte_is (ranged s 0 32 at) n m i) q.1)

  pub step_read : (n m i : ℕ) (d : Done) → byte_told (ranged s 0 32 at) ≡ Ok (n, m)
      → done (λ b. body_facts ar types k b no_locals) (body_of ar s at m) ≡ Ok (i, d)
      → (h : List ℕ) → rows_from h 0 (suc T.steps) ≡ T.rows ++ row k n T.commands d.size ∷ []
      → Told (step_total ar types k T) (read_step ar s at) (Ok (i, plus (less T) d (not (there T.rows k n)))) h
  unfolding added plus over_by
  step_read n m i d e j h w =
      let q = done_is (λ b. body_facts ar types k b no_locals) (body_of ar s at m) i d j in
      told_ok (step_total ar types k T) (read_step ar s at) (record { name = n; body = q.0 }) i _ _
      (step_whole ar s at n m i q.0 (byte_is (ranged s 0 32 at) n m e) q.1)
      (ap (λ (x : Done). plus (less T) x (not (there T.rows k n))) (sym q.2)) (w ∙ rw q.2 refl)

-- its row, by numbers that are its struct and its name
pub row_noted : (h h' : List ℕ) (i k n a z k' n' : ℕ) → k' ≡ k → n' ≡ n → h' ≡ put_row h i (row k' n' a z) → h' ≡ put_row h i (row k n a z)
row_noted h h' i k n a z k' n' e f w = w ∙ rw (e, f)

-- a step has a byte of its own, and its commands one each
pub step_low : (s : List ℕ) (t : Totals) (d : Done) (new : Bool) (at m i : ℕ) → Low t at → m ≡ at + 1 → DoneBody {E = ℕ} s m (Ok (i, d))
    → Bounded {E = ℕ} s (t.steps + 1) (Ok (i, plus t d new))
unfolding plus
step_low s t d new at m i l e h = omega arith

-- The steps of a struct ----------------------------------------------------------------

module _ (ar types s : List ℕ) (k at : ℕ) (T : Sum) where
  -- how many steps, which is not read, or is, with them behind it
  pub steps_stop : (e : ℕ) (h : List ℕ) → byte_told (ranged s 0 9 at) ≡ Err e → Told (λ ts. struct_totals ar types k ts T) (read_steps ar s at) (Err e) h
  steps_stop e h i =
      let q = byte_stops (ranged s 0 9 at) e i in
      told_bad (λ ts. struct_totals ar types k ts T) (read_steps ar s at) q.0 e h (steps_uncounted ar s at _ _ q.1)

  steps_read : (n m : ℕ) → byte_told (ranged s 0 9 at) ≡ Ok (n, m) → read_steps ar s at ≡ many [] ◌∷◌ (read_step ar s) n m
  unfolding read_steps counted then
  steps_read n m e = rw (byte_is (ranged s 0 9 at) n m e)

  pub steps_all : (n m : ℕ) → byte_told (ranged s 0 9 at) ≡ Ok (n, m)
      → answer (λ ts. struct_totals ar types k ts T) (read_steps ar s at) ≡ answer (λ ts. struct_totals ar types k ts T) (many [] ◌∷◌ (read_step ar s) n m)
  steps_all n m e = ap (answer λ ts. struct_totals ar types k ts T) (steps_read n m e)

-- steps in a row, behind those that the totals t and the rows h are of: none left; the next is not read; it is
module _ (ar types s : List ℕ) (k : ℕ) where
  abbrev pub steps_row : Totals → List ℕ → ℕ → ℕ → Answer Sum
  steps_row t h n at = answer (λ ts. struct_totals ar types k ts (with t h)) (many [] ◌∷◌ (read_step ar s) n at)

  abbrev total_steps : Sum → List Step → Sum
  total_steps T ts = struct_totals ar types k ts T

  steps_goes : (T : Sum) (t : Step) (ts : List Step) → total_steps T (t ∷ ts) ≡ total_steps (step_total ar types k T t) ts
  unfolding struct_totals
  steps_goes T t ts = refl

  module _ (t : Totals) (h : List ℕ) (n at : ℕ) where
    pub steps_end : n ≡ 0 → steps_row t h n at ≡ Ok (at, with t h)
    unfolding struct_totals
    steps_end = row_none [] ◌∷◌ (read_step ar s) (step_total ar types k) (λ T U. U) total_steps steps_goes (with t h) n at

    pub steps_refused : (n ≡ 0 → ⊥) → (e : ℕ) → told (step_total ar types k (with t h)) (read_step ar s at) ≡ Err e → steps_row t h n at ≡ Err e
    steps_refused z e i =
        row_stop [] ◌∷◌ (read_step ar s) (step_total ar types k) (λ T U. U) total_steps steps_goes (with t h) n at z e (totals_refused _ e i)

    pub steps_more : (n ≡ 0 → ⊥) → (m : ℕ) (u : Totals) (h' : List ℕ) → Told (step_total ar types k (with t h)) (read_step ar s at) (Ok (m, u)) h'
        → steps_row t h n at ≡ steps_row u h' (n - 1) m
    steps_more z m u h' w =
        row_more [] ◌∷◌ (read_step ar s) (step_total ar types k) (λ T U. U) total_steps steps_goes (with t h) n at z m (with u h')
        (told_value (step_total ar types k (with t h)) (read_step ar s at) m u h' w)

-- The structs ----------------------------------------------------------------------------

-- the same of the steps of structs in a row, from struct k on
module _ (ar types s : List ℕ) where
  abbrev pub structs_row : ℕ → Totals → List ℕ → ℕ → ℕ → Answer Sum
  structs_row k t h n at = answer (λ tss. step_totals ar types k tss (with t h)) (many [] ◌∷◌ (read_steps ar s) n at)

  abbrev one : ℕ × Sum → List Step → Sum
  one p ts = struct_totals ar types p.0 ts p.1

  abbrev next : ℕ × Sum → Sum → ℕ × Sum
  next p U = (suc p.0, U)

  abbrev total_structs : ℕ × Sum → List (List Step) → Sum
  total_structs p tss = step_totals ar types p.0 tss p.1

  structs_goes : (p : ℕ × Sum) (ts : List Step) (tss : List (List Step)) → total_structs p (ts ∷ tss) ≡ total_structs (next p (one p ts)) tss
  unfolding step_totals
  structs_goes p ts tss = refl

  module _ (k : ℕ) (t : Totals) (h : List ℕ) (n at : ℕ) where
    pub structs_end : n ≡ 0 → structs_row k t h n at ≡ Ok (at, with t h)
    unfolding step_totals
    structs_end = row_none [] ◌∷◌ (read_steps ar s) one next total_structs structs_goes (k, with t h) n at

    pub structs_refused : (n ≡ 0 → ⊥) → (e : ℕ) → told (λ ts. struct_totals ar types k ts (with t h)) (read_steps ar s at) ≡ Err e
        → structs_row k t h n at ≡ Err e
    structs_refused z e i = row_stop [] ◌∷◌ (read_steps ar s) one next total_structs structs_goes (k, with t h) n at z e (totals_refused _ e i)

    pub structs_more : (n ≡ 0 → ⊥) → (m : ℕ) (u : Totals) (h' : List ℕ)
        → Told (λ ts. struct_totals ar types k ts (with t h)) (read_steps ar s at) (Ok (m, u)) h'
        → structs_row k t h n at ≡ structs_row (k + 1) u h' (n - 1) m
    structs_more z m u h' w =
        rw add-one
        (row_more [] ◌∷◌ (read_steps ar s) one next total_structs structs_goes (k, with t h) n at z m (with u h')
        (told_value (λ ts. struct_totals ar types k ts (with t h)) (read_steps ar s at) m u h' w))
