-- Each way through the reader of a whole program (01, 'Program stream', and numbers 4 to 8).
use Rattle.std.specs.Prelude.{Ok, Err, ℕ, ◌*◌, Bool, true, false, take, ltb}
use Rattle.std.proofs.Common.{◌∙◌, take_at}
use Rattle.std.proofs.Math.Path.{◌≡◌, refl, ap, sym}
use mathlib.Core.List.{List, [], ◌∷◌, map}
use Rattle.std.proofs.Math.ListN.{length, length-map}
use Rattle.types.specs.Types.{Ty}
use Rattle.program.specs.Tree.{Items, Step, Program}
use Rattle.program.specs.Reader.{Result, Result.ok, Result.bad, then, pair, made, many, ended, whole, read_params, read_steps, read_items}
use Rattle.program.specs.Reader.{read_item, read_program, read}
use Rattle.directory.specs.Directory.{directory}
use Rattle.directory.proofs.DirectoryLaws.{directory_count}
use Rattle.directory.specs.Rows.{rows_from}
use Rattle.judge.specs.ProgramFacts.{Totals as Sum, Planned as Plan, plan, no_totals, types_table, step_totals, items_plan, exceeded}
use Rattle.judge.specs.ProgramFacts.{totals_number, program_totals, program_plan}
use Rattle.judge.proofs.Laws.ProgramTableLaws.{totals_count, totals_listed}
use Rattle.read_schedule.specs.declared.Planned.{Planned}
use Rattle.answers.specs.Answers.{Answer}
use Rattle.answers.specs.AnswerLaws.{ok_parts}
use Rattle.read_params.specs.ParamsTold.{params_told, ParamsKept}
use Rattle.read_params.specs.ParamsWays.{many_length, table_length}
use Rattle.read_schedule.specs.PlanTold.{planned, told as plan_told}
use Rattle.read_program.specs.declared.totals.Totals.{Totals}
use Rattle.read_program.specs.Total.{with, less, told, Told}
use Rattle.read_program.specs.TotalWays.{told_is, told_stops}
use Rattle.read_program.specs.Whole.{summary, end_told, steps_from, read_rest, rest_told, place_of, steps_place, program_told, RestListed, ReadListed}

-- The schedule -------------------------------------------------------------------------

-- neither the number nor the counts ask which steps there are
pub number_bare : (t : Totals) (h : List ℕ) (P : Plan) → totals_number (with t []) P ≡ totals_number (with t h) P
unfolding totals_number exceeded
number_bare t h P = refl

-- an item is not read; one byte too many; the end
module _ (behind at S : ℕ) (t : Totals) (h s : List ℕ) (q : Result Items) where
  pub end_stop : (e : ℕ) → plan_told (items_plan (rows_from h 0 t.steps) S) q ≡ Err e → end_told behind at S (with t h) s q ≡ Err e
  end_stop e i = go q i
    where
      go : (q : Result Items) → plan_told (items_plan (rows_from h 0 t.steps) S) q ≡ Err e → end_told behind at S (with t h) s q ≡ Err e
      go (ok is m) i = cc
      go (bad p n) i = cc

  pub end_on : (m : ℕ) (p : Planned) → plan_told (items_plan (rows_from h 0 t.steps) S) q ≡ Ok (m, p) → ltb m (length s) ≡ true → end_told behind at S (with t h) s q ≡ Err 4
  end_on m p i l = go q i
    where
      go : (q : Result Items) → plan_told (items_plan (rows_from h 0 t.steps) S) q ≡ Ok (m, p) → end_told behind at S (with t h) s q ≡ Err 4
      go (ok is k) i = let j = ok_parts k m (planned (items_plan (rows_from h 0 t.steps) S is)) p i in rw (j.0, l)
      go (bad p n) i = cc

  pub end_read : (m : ℕ) (p : Planned) → plan_told (items_plan (rows_from h 0 t.steps) S) q ≡ Ok (m, p) → ltb m (length s) ≡ false
      → end_told behind at S (with t h) s q ≡ Ok (behind, summary S at (with t []) (plan p.count p.fault))
  end_read m p i l = go q i
    where
      go : (q : Result Items) → plan_told (items_plan (rows_from h 0 t.steps) S) q ≡ Ok (m, p)
          → end_told behind at S (with t h) s q ≡ Ok (behind, summary S at (with t []) (plan p.count p.fault))
      go (ok is k) i =
          let j = ok_parts k m (planned (items_plan (rows_from h 0 t.steps) S is)) p i in
          let u : items_plan (rows_from h 0 t.steps) S is ≡ plan p.count p.fault = ap (λ (x : Planned). plan x.count x.fault) j.1 in
          rw (j.0, l, u, number_bare t h (plan p.count p.fault))
      go (bad p n) i = cc

-- The steps and the schedule -----------------------------------------------------------

module _ (at : ℕ) (ar types s : List ℕ) where
  abbrev all_steps : Result (List (List Step))
  all_steps = steps_from ar s at

  abbrev totals_of : List (List Step) → Sum
  totals_of tss = step_totals ar types 0 tss no_totals

  cut : (p e : ℕ) → all_steps ≡ bad p e → rest_told at ar types s (read_rest ar s at) ≡ Err e
  unfolding pair then
  cut p e i = rw i

  on : (ss : List (List Step)) (m : ℕ) → all_steps ≡ ok ss m
      → rest_told at ar types s (read_rest ar s at) ≡ end_told at m (length ar) (totals_of ss) s (read_items ar s (read_item ar s 8) m)
  unfolding pair then
  on ss m i = rw i (go (read_items ar s (read_item ar s 8) m))
    where
      go : (q : Result Items) → rest_told at ar types s (then q λ b m. ok (ss, b) m) ≡ end_told at m (length ar) (totals_of ss) s q
      go (ok is k) = ap (λ (x : ℕ). end_told at x (length ar) (totals_of ss) s (ok is k)) (ap place_of i)
      go (bad p n) = refl

  -- from nothing
  pub begun : (n : ℕ) (z : Totals) (h0 : List ℕ) (r : Answer Totals) (h : List ℕ) → n ≡ length ar → z ≡ less no_totals
      → Told (λ tss. step_totals ar types 0 tss (with z h0)) (many [] ◌∷◌ (read_steps ar s) n at) r h → Told totals_of all_steps r h
  unfolding no_totals rows_from
  begun n z h0 r h e i w = let k : with z h0 ≡ no_totals = rw i in rw (e, k) at w

  pub rest_stop : (e : ℕ) → told totals_of all_steps ≡ Err e → rest_told at ar types s (read_rest ar s at) ≡ Err e
  rest_stop e i = let q = told_stops totals_of all_steps e i in cut q.0 e q.1

  pub rest_on : (m S : ℕ) (t : Totals) (h : List ℕ) → length ar ≡ S → Told totals_of all_steps (Ok (m, t)) h
      → rest_told at ar types s (read_rest ar s at) ≡ end_told at m S (with t h) s (read_items ar s (read_item ar s 8) m)
  rest_on m S t h few w =
      let (ss, e, i) = told_is totals_of all_steps m t h w in
      rw (← few) (on ss m e ∙ ap (λ (T : Sum). end_told at m (length ar) T s (read_items ar s (read_item ar s 8) m)) i)

  -- the rows are those of the steps; where these are not read, they are free
  pub listed_on : (m : ℕ) (t : Totals) (h : List ℕ) → Told totals_of all_steps (Ok (m, t)) h → RestListed ar types (read_rest ar s at) h
  unfolding pair then
  listed_on m t h w =
      let (ss, e, i) = told_is totals_of all_steps m t h w in
      rw e (go ss (read_items ar s (read_item ar s 8) m) i)
    where
      go : (ss : List (List Step)) (q : Result Items) → totals_of ss ≡ with t h → RestListed ar types (then q λ b m. ok (ss, b) m) h
      go ss (ok is k) i = rw i refl
      go ss (bad p n) i = tt

  pub listed_stop : (e : ℕ) (h : List ℕ) → told totals_of all_steps ≡ Err e → RestListed ar types (read_rest ar s at) h
  unfolding pair then
  listed_stop e h i = let q = told_stops totals_of all_steps e i in rw q.1 tt

-- Programs -----------------------------------------------------------------------------

module _ (s : List ℕ) where
  unread : (p e : ℕ) → read_params s 0 ≡ bad p e → read s ≡ bad p e
  unfolding read whole read_program made pair then
  unread p e i = rw i

  pub program_stop : (e : ℕ) → params_told (read_params s 0) ≡ Err e → program_told s (read s) ≡ Err e
  program_stop e i = go (read_params s 0) refl i
    where
      go : (q : Result (List (List Ty))) → read_params s 0 ≡ q → params_told q ≡ Err e → program_told s (read s) ≡ Err e
      go (ok ts m) j i = cc
      go (bad p n) j i = let k : n ≡ e = cc in ap (program_told s) (unread p n j) ∙ ap Err k

  mk : List (List Ty) → List (List Step) × Items → Program
  mk ts p = record { params = ts; steps = p.0; schedule = p.1 }

  rest_of : (ts : List (List Ty)) (k : ℕ) → read_params s 0 ≡ ok ts k
      → read s ≡ then (read_rest (map length ts) s k) λ p m. ended s (mk ts p) m
  unfolding read whole read_program made pair then mk
  rest_of ts k i = rw (i, ← length-map ts length) (go (read_rest (map length ts) s k))
    where
      all : List (List Ty) × (List (List Step) × Items) → Program
      all p = record { params = p.0; steps = p.1.0; schedule = p.1.1 }

      go : (q : Result (List (List Step) × Items))
          → then (made all (then q λ (b : List (List Step) × Items) m. ok (ts, b) m)) (ended s) ≡ then q λ p m. ended s (mk ts p) m
      go (ok p m) = refl
      go (bad p n) = refl

  steps_length : (ar : List ℕ) (k : ℕ) (p : List (List Step) × Items) (m : ℕ) → read_rest ar s k ≡ ok p m → length p.0 ≡ length ar
  unfolding pair then
  steps_length ar k p m e = go (many [] ◌∷◌ (read_steps ar s) (length ar) k) refl e
    where
      go : (q : Result (List (List Step))) → many [] ◌∷◌ (read_steps ar s) (length ar) k ≡ q
          → then q (λ a j. then (read_items ar s (read_item ar s 8) j) λ b m. ok (a, b) m) ≡ ok p m → length p.0 ≡ length ar
      go (ok ss j) i e = rest (read_items ar s (read_item ar s 8) j) e
        where
          rest : (q : Result Items) → then q (λ b m. ok (ss, b) m) ≡ ok p m → length p.0 ≡ length ar
          rest (ok is n) e = let h : p.0 ≡ ss = cc in rw h (many_length (read_steps ar s) (length ar) k ss j i)
          rest (bad a n) e = cc
      go (bad a n) i e = cc

  pub program_on : (ts : List (List Ty)) (k : ℕ) → read_params s 0 ≡ ok ts k
      → program_told s (read s) ≡ rest_told k (map length ts) (types_table ts) s (read_rest (map length ts) s k)
  unfolding then ended program_totals program_plan mk
  program_on ts k i = rw (rest_of ts k i) (go (read_rest (map length ts) s k) refl)
    where
      here : steps_place s ≡ k
      here = ap place_of i

      go : (q : Result (List (List Step) × Items)) → read_rest (map length ts) s k ≡ q
          → program_told s (then q λ p m. ended s (mk ts p) m) ≡ rest_told k (map length ts) (types_table ts) s q
      go (ok p m) e = rest (ltb m (length s)) refl
        where
          rest : (t : Bool) → ltb m (length s) ≡ t → program_told s (ended s (mk ts p) m) ≡ rest_told k (map length ts) (types_table ts) s (ok p m)
          rest true h = rw (ended, h)
          rest false h = rw (ended, h, here, steps_length (map length ts) k p m e, length-map ts length)
      go (bad a n) e = refl

  -- behind the parameters stands the rest, over the tables that they give
  pub program_read : (cs cs' types types' : List ℕ) (k n : ℕ) → params_told (read_params s 0) ≡ Ok (k, n)
      → ParamsKept cs cs' types types' (read_params s 0)
      → rest_told k (take n cs') (take (8 * n) types') s (read_rest (take n cs') s k) ≡ program_told s (read s)
  program_read cs cs' types types' k n i w = go (read_params s 0) refl i w
    where
      go : (q : Result (List (List Ty))) → read_params s 0 ≡ q → params_told q ≡ Ok (k, n) → ParamsKept cs cs' types types' q
          → rest_told k (take n cs') (take (8 * n) types') s (read_rest (take n cs') s k) ≡ program_told s (read s)
      go (ok ts m) e i w =
          let (a, b) = ok_parts m k (length ts) n i in
          let f : take n cs' ≡ map length ts = rw w.0 (take_at (map length ts) _ n (length-map ts length ∙ b)) in
          let g : take (8 * n) types' ≡ types_table ts = rw w.1 (take_at (types_table ts) _ (8 * n) (table_length ts ∙ ap (λ (x : ℕ). 8 * x) b)) in
          let z = program_on ts m e in
          rw (f, g, ← a) (sym z)
      go (bad p m) e i w = cc

  -- the rows are the step directory
  listed_read : (ts : List (List Ty)) (k : ℕ) (h : List ℕ) → read_params s 0 ≡ ok ts k
      → RestListed (map length ts) (types_table ts) (read_rest (map length ts) s k) h → ReadListed (read s) h
  unfolding then ended program_totals mk
  listed_read ts k h i w = rw (rest_of ts k i) (go (read_rest (map length ts) s k) w)
    where
      go : (q : Result (List (List Step) × Items)) → RestListed (map length ts) (types_table ts) q h → ReadListed (then q λ p m. ended s (mk ts p) m) h
      go (ok p m) w = rest (ltb m (length s)) refl
        where
          n : length (directory (mk ts p)) ≡ (program_totals (mk ts p)).steps
          n = directory_count (mk ts p) ∙ sym (totals_count (mk ts p))

          rest : (t : Bool) → ltb m (length s) ≡ t → ReadListed (ended s (mk ts p) m) h
          rest true e = rw (ended, e) tt
          rest false e = rw (ended, e, n) (w ∙ totals_listed (mk ts p))
      go (bad a n) w = tt

  pub program_listed : (cs cs' types types' : List ℕ) (k n : ℕ) (h : List ℕ) → params_told (read_params s 0) ≡ Ok (k, n)
      → ParamsKept cs cs' types types' (read_params s 0)
      → RestListed (take n cs') (take (8 * n) types') (read_rest (take n cs') s k) h → ReadListed (read s) h
  program_listed cs cs' types types' k n h i w l = go (read_params s 0) refl i w l
    where
      go : (q : Result (List (List Ty))) → read_params s 0 ≡ q → params_told q ≡ Ok (k, n) → ParamsKept cs cs' types types' q
          → RestListed (take n cs') (take (8 * n) types') (read_rest (take n cs') s k) h → ReadListed (read s) h
      go (ok ts m) e i w l =
          let (a, b) = ok_parts m k (length ts) n i in
          let f : take n cs' ≡ map length ts = rw w.0 (take_at (map length ts) _ n (length-map ts length ∙ b)) in
          let g : take (8 * n) types' ≡ types_table ts = rw w.1 (take_at (types_table ts) _ (8 * n) (table_length ts ∙ ap (λ (x : ℕ). 8 * x) b)) in
          listed_read ts m h e (rw (f, g, ← a) at l)
      go (bad p m) e i w l = cc

  pub listed_none : (e : ℕ) (h : List ℕ) → params_told (read_params s 0) ≡ Err e → ReadListed (read s) h
  listed_none e h i = go (read_params s 0) refl i
    where
      go : (q : Result (List (List Ty))) → read_params s 0 ≡ q → params_told q ≡ Err e → ReadListed (read s) h
      go (ok ts m) j i = cc
      go (bad p n) j i = rw (unread p n j) tt
