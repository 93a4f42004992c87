-- Writes keep the invariant: a parameter takes a value of its type, and a local's wr goes to the actor itself.
use Rattle.std.specs.Prelude.{ℕ, ◌+◌, ◌<◌, ◌≤◌, ◌≡◌, refl, Bool, true, false, ◌⊎◌, length, get_or, set}
use Rattle.std.proofs.Common.{arith, ap, sym, ◌∙◌, subst, inl, inr}
use Rattle.std.proofs.Math.Decide.{ℕ_discrete}
use Rattle.std.proofs.lemmas.Bool.{false≢true}
use Rattle.std.proofs.Math.Option.{Option, some}
use mathlib.Core.List.Memᴰ
use mathlib.Core.List.{List, ◌∷◌, ◌++◌, Memᴰ}
use Rattle.std.proofs.Math.ListN.{get_elem?}
use Rattle.types.specs.Limits.{first_local, max_locals}
use Rattle.types.specs.Types.{Ty, Ty.int}
use Rattle.types.specs.Values.{Val}
use Rattle.program.specs.Tree.{Program}
use Rattle.commands.specs.Context.{body_local, params_of}
use Rattle.commands.specs.Noted.{Note, Note.n_set, noted, now_written}
use Rattle.table.specs.Table.{Each}
use Rattle.machine.specs.Published.{Env, lookup, assign}
use Rattle.machine.specs.Machine.{Tagged, Instance, Machine, with_env, with_instances, with_stability, put, update_env}
use Rattle.machine.specs.Rules.{meet}
use Rattle.commands.specs.Tags.{stack_after, next as leads, at_start, Way}
use Rattle.sound.specs.Needs.{ValueAmong}
use Rattle.sound.specs.Invariant.{Fits, Fitted, Job, Job.call, written_in, Passage, Place, Place.resting, Place.passing, GoodInst, Good}
use Rattle.sound.proofs.Laws.Keeps.{Keeps, keeps_set, of_kept, fits_kept, env_set}
use Rattle.sound.proofs.Laws.ElemLaws.{at_set_same, at_set_other, some_is}
use Rattle.sound.proofs.Laws.EachLaws.{each_map}
use Rattle.sound.proofs.Laws.EnvLaws.{other_kept, local_kept, local_holds, local_fitted, param_fitted}
use Rattle.sound.proofs.Laws.GoodLaws.{fitted_kept, good_set, good_env, meet_length}
use Rattle.sound.proofs.Laws.PassageLaws.{ctx, LivingOn}
use Rattle.sound.specs.Firm.{Firm}
use Rattle.sound.proofs.Laws.Advance.{running_job, after, advance}

-- another environment leaves the locals written as they were
env_written : (p : Program) (a : Job) (j : Instance) (ξ : Env) → written_in p a (with_env j ξ) ≡ written_in p a j
env_written p (call a) j ξ = refl

-- an instance of struct k with environment ξ, after a parameter of it is written
param_written : (p : Program) → Firm p → (is : List Instance) (r : ℕ) (j : Instance) (k : ℕ) (ξ : Env) → j.struct ≡ k → j.env ≡ ξ
    → (v : ℕ) (x : Val) → v < length (params_of p k)
    → ValueAmong is (get_or (params_of p k) v int) x
    → {c : Option Job}
    → GoodInst p c is r j
    → GoodInst p c is r (with_env j (assign ξ v x))
param_written p firm is r j k ξ s e v x h o {c} g =
    let few = firm.few j.struct in
    let h' : v < length (params_of p j.struct) = rw s h in
    record {
      fitted = rw (← e) (param_fitted is (params_of p j.struct) few v h' j.env x (rw s o) g.fitted);
      place = go (omega arith) g.place;
    }
  where
    go : v < first_local → Place p c is r j → Place p c is r (with_env j (assign ξ v x))
    go b (resting c χ) = resting c χ
    go b (passing {a = a} w q) =
        let now = env_written p a j (assign ξ v x) in
        passing (record {
          body = w.body;
          rest = w.rest;
          has = w.has;
          held = w.held;
          code = w.code;
          full = w.full;
          place = w.place;
          way = w.way;
          kept = λ y m. subst (λ r. Memᴰ y r) (sym now) (w.kept y m);
          stacked = w.stacked;
          own = w.own;
          locals = λ y m.
              let (u, q, t) = w.locals y (subst (λ r. Memᴰ y r) now m) in (u, other_kept ξ v y x b ∙ ap (λ η. lookup η (first_local + y)) (sym e) ∙ q, t);
        }) q

-- the instance at a place, after another was put back with its struct and environment
pub same_env : (is : List Instance) (l r : ℕ) (i j a : Instance) → get_elem? is l ≡ some i → get_elem? is r ≡ some j → a.struct ≡ i.struct → a.env ≡ i.env
    → (j' : Instance) × (get_elem? (set is l a) r ≡ some j') × (j'.struct ≡ j.struct) × (j'.env ≡ j.env)
same_env is l r i j a at at' s e = go (ℕ_discrete r l)
  where
    go : Dec (r ≡ l) → (j' : Instance) × (get_elem? (set is l a) r ≡ some j') × (j'.struct ≡ j.struct) × (j'.env ≡ j.env)
    go (yes q) =
        let h : i ≡ j = some_is (sym at ∙ rw q at at') in
        (a, rw q (at_set_same is l a i at), s ∙ ap (λ x. x.struct) h, e ∙ ap (λ x. x.env) h)
    go (no q) = (j, at_set_other is l r a q ∙ at', refl, refl)

-- the locals written once a local's wr is taken
is_written : (d : Bool) (t : Ty) (y : ℕ) (w : List ℕ) (x : ℕ) → Memᴰ x (now_written (n_set d t y) w) → (x ≡ y) ⊎ Memᴰ x w
unfolding now_written
is_written true t y w x h = Memᴰ.cases_cons h
is_written false t y w x h = inr h

-- they hold values of their types
locals_after : {is js : List Instance} → Keeps is js → (ts : List Ty) (ξ : Env) → Fitted is ts ξ → (τ : ℕ → Ty) (y : ℕ) → y < first_local
    → (x : Val) → ValueAmong is (τ y) x
    → (w : List ℕ)
    → ((z : ℕ) → Memᴰ z w → (v : Val) × (lookup ξ (first_local + z) ≡ some v) × (ValueAmong is (τ z) v))
    → (z : ℕ) → Dec (z ≡ y) → (z ≡ y) ⊎ Memᴰ z w
    → (v : Val) × (lookup (assign ξ (first_local + y) x) (first_local + z) ≡ some v) × (ValueAmong js (τ z) v)
locals_after {is} k ts ξ f τ y small x o w old z (yes q) h =
    (x, rw q (local_holds is ts ξ y x small f), rw q (of_kept k (τ y) x o))
locals_after k ts ξ f τ y small x o w old z (no q) (inl e) = absurd (q e)
locals_after k ts ξ f τ y small x o w old z (no q) (inr h) =
    let (v, e, t) = old z h in
    (v, local_kept ξ z y x q ∙ e, of_kept k (τ z) v t)

module _ {p : Program} (firm : Firm p) (m : Machine) (l : ℕ) (i : Instance) (at : get_elem? m.instances l ≡ some i) where
  -- where the actor is put back well, so is a parameter's new value
  pub param_kept : (a : Instance) → a.struct ≡ i.struct → a.env ≡ i.env → Good p (put m l a)
      → (r : ℕ) (j : Instance) → get_elem? m.instances r ≡ some j
      → (v : ℕ) (x : Val) (t : Bool) → v < length (params_of p j.struct) → ValueAmong m.instances (get_or (params_of p j.struct) v int) x
      → Good p (with_stability (with_instances m (update_env (set m.instances l a) r (assign j.env v x))) (meet t m.stability))
  param_kept a s e good r j at' v x t h o =
      let (j', q, w, z) = same_env m.instances l r i j a at at' s e in
      let js = set m.instances l a in
      let k = keeps_set m.instances l i a at s in
      record {
        runs = good.runs;
        all =
            good_env p js r j' (assign j.env v x) q good.all
            (param_written p firm js r j' j.struct j.env w z v x h (of_kept k (get_or (params_of p j.struct) v int) x o) (good.all.each r j' q));
        running = good.running;
        opened = rw (meet_length t m.stability) good.opened;
        left = good.left;
      }

  module _ (good : Good p m) {a : Job} (runs : good.runs ≡ some a) (g : Passage p a m.instances l i) (d : Bool) (t : Ty) (y : ℕ)
      (small : y < max_locals) (same : t ≡ body_local g.body y int) where
    -- a local of the actor
    pub local_kept_good : {b₀ : List Note} → g.held ≡ n_set d t y ∷ b₀ → (c : List Note) → length c ≤ length b₀
        → Way (ctx g) (noted (ctx g) g.body) at_start c (leads (ctx g) (n_set d t y) g.place)
        → LivingOn g (n_set d t y) c
        → (ts : List Ty) → stack_after (ctx g) (n_set d t y) g.place.stack ≡ ts
        → (χ : List Tagged) → Each (Fits m.instances) ts χ
        → (x : Val) (b : Bool) → ValueAmong m.instances t x
        → Good p
        (with_stability
        (with_instances m (update_env (set m.instances l (after i (written_in p a i) (n_set d t y) (c ++ g.rest) χ i.env)) l
        (assign i.env (first_local + y) x)))
        (meet b m.stability))
    local_kept_good e c h w sf ts q χ f x b o =
        let ξ = assign i.env (first_local + y) x in
        let j = after i (written_in p a i) (n_set d t y) (c ++ g.rest) χ ξ in
        let js = set m.instances l j in
        let k = keeps_set m.instances l i j at refl in
        let fits = (good.all.each l i at).fitted in
        let same_list = env_set m.instances l ξ (after i (written_in p a i) (n_set d t y) (c ++ g.rest) χ i.env) in
        record {
          runs = good.runs;
          all =
              rw same_list
              (good_set p m.instances l i j at refl good.all
              (record {
                fitted = fitted_kept p k (params_of p i.struct) ξ (local_fitted m.instances (params_of p i.struct) i.env y x fits);
                place = rw runs (advance firm m.sched (running_job good runs) g (n_set d t y) e c h w sf js ts q χ
                    (each_map (fits_kept k) ts χ f) (λ q. absurd (false≢true q)) ξ
                    (λ z h.
                    locals_after k (params_of p i.struct) i.env fits (λ z. body_local g.body z int) y small x (rw same at o) (written_in p a i)
                    g.locals z (ℕ_discrete z y) (is_written d t y (written_in p a i) z h)));
              }));
          running = good.running;
          opened = rw (meet_length b m.stability) good.opened;
          left = good.left;
        }
