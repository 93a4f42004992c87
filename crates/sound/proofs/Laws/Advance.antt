-- An instance that takes a command goes on in its passage; the others keep theirs.
use Rattle.std.specs.Prelude.{ℕ, ◌+◌, ◌≤◌, ◌≡◌, refl, true, false, length, set}
use Rattle.std.proofs.Common.{arith, ap, sym, ◌∙◌, subst}
use Rattle.std.proofs.lemmas.Bool.{false≢true}
use Rattle.std.proofs.Math.Option.{some}
use mathlib.Core.List.{List, ◌∷◌, ◌++◌, Memᴰ}
use Rattle.std.proofs.Math.ListN.{get_elem?}
use Rattle.types.specs.Limits.{first_local}
use Rattle.types.specs.Types.{Ty, Ty.int}
use Rattle.types.specs.Values.{Val, Val.label}
use Rattle.program.specs.Tree.{Program}
use Rattle.commands.specs.Context.{body_local, params_of}
use Rattle.commands.specs.Noted.{Note, noted, now_written}
use Rattle.table.specs.Table.{Each}
use Rattle.machine.specs.Published.{Sched, Env, lookup}
use Rattle.machine.specs.Machine.{Tagged, Instance, Machine, put, Out, Out.next, Out.refused, Out.stuck}
use Rattle.commands.specs.Tags.{stack_after, is_this, next as leads, at_start, Way}
use Rattle.sound.specs.Needs.{ValueAmong}
use Rattle.sound.specs.Invariant.{Fits, Job, written_in, Passage, Place, Running, Good}
use Rattle.sound.proofs.Laws.Keeps.{Keeps, keeps_set, of_kept, fits_kept}
use Rattle.sound.proofs.Laws.EachLaws.{each_map}
use Rattle.sound.proofs.Laws.GoodLaws.{fitted_kept, good_set}
use Rattle.sound.specs.Firm.{Firm}
use Rattle.sound.proofs.Laws.PassageLaws.{ctx, LivingOn}
use Rattle.sound.proofs.Laws.ArriveLaws.{arrive}
use Rattle.commands.proofs.Laws.SecureWays.{way_short}

-- the job that runs was started
pub running_job : {p : Program} {m : Machine} (good : Good p m) {a : Job} → good.runs ≡ some a → Running p (some a) m.sched
running_job {p} {m} good runs = subst (λ r. Running p r m.sched) runs good.running

-- what an act comes to keeps the invariant, or is a number for a reason R
abbrev pub Kept : Program → (ℕ → Type 0) → Out → Type 0
Kept p R (next m) = Good p m
Kept p R (refused n) = R n
Kept p R stuck = ⊥

-- an instance that has taken the command n, with these locals written before
abbrev pub after : Instance → List ℕ → Note → List Note → List Tagged → Env → Instance
after i w n c χ ξ = record { struct = i.struct; code = c; stack = χ; env = ξ; written = now_written n w }

-- the place after a command: the way goes on, these types are on the stack, and the locals written hold values
pub advance : {p : Program} → Firm p → {a : Job} (s : Sched) → Running p (some a) s
    → {is : List Instance} {l : ℕ} {i : Instance} (g : Passage p a is l i) (n : Note) {d : List Note} → g.held ≡ n ∷ d → (c : List Note) → length c ≤ length d
    → Way (ctx g) (noted (ctx g) g.body) at_start c (leads (ctx g) n g.place)
    → LivingOn g n c
    → (js : List Instance) (ts : List Ty)
    → stack_after (ctx g) n g.place.stack ≡ ts
    → (χ : List Tagged)
    → Each (Fits js) ts χ
    → (is_this n ≡ true → (x : Tagged) × (ψ : List Tagged) × (χ ≡ x ∷ ψ) × (x.is ≡ label l))
    → (ξ : Env)
    → ((x : ℕ) → Memᴰ x (now_written n (written_in p a i))
    → (v : Val) × (lookup ξ (first_local + x) ≡ some v) × (ValueAmong js (body_local g.body x int) v))
    → Place p (some a) js l (after i (written_in p a i) n (c ++ g.rest) χ ξ)
advance {p} firm {a} sc run {l = l} {i = i} g n {d} e c h w sf js ts q χ s o ξ v =
    arrive firm i.struct l g.body js χ ξ (now_written n (written_in p a i)) sc run g.has c (omega (arith, ap length e, way_short g.way))
    w sf (rw q s) o v

-- the locals of a passage, where there are more instances and none is written
pub locals_kept : {p : Program} {a : Job} {is : List Instance} {l : ℕ} {i : Instance} (g : Passage p a is l i) {js : List Instance} → Keeps is js
    → {w : List ℕ} → w ≡ written_in p a i → (x : ℕ) → Memᴰ x w
    → (v : Val) × (lookup i.env (first_local + x) ≡ some v) × (ValueAmong js (body_local g.body x int) v)
locals_kept g k a x h = let (v, e, o) = g.locals x (rw a at h) in (v, e, of_kept k (body_local g.body x int) v o)

module _ {p : Program} {m : Machine} (good : Good p m) {a : Job} (runs : good.runs ≡ some a) (l : ℕ) (i : Instance)
    (at : get_elem? m.instances l ≡ some i) (n : Note) (c : List Note) (χ : List Tagged) where
  -- the actor put back, its environment as it was
  pub good_put : (Keeps m.instances (set m.instances l (after i (written_in p a i) n c χ i.env))
      → Place p (some a) (set m.instances l (after i (written_in p a i) n c χ i.env)) l (after i (written_in p a i) n c χ i.env))
      → Good p (put m l (after i (written_in p a i) n c χ i.env))
  good_put f =
      let j = after i (written_in p a i) n c χ i.env in
      let k = keeps_set m.instances l i j at refl in
      record {
        runs = good.runs;
        all =
            good_set p m.instances l i j at refl good.all
            (record {
              fitted = fitted_kept p k (params_of p i.struct) i.env (good.all.each l i at).fitted;
              place = rw runs (f k);
            });
        running = good.running;
        opened = good.opened;
        left = good.left;
      }

module _ {p : Program} (firm : Firm p) {m : Machine} (good : Good p m) {a : Job} (runs : good.runs ≡ some a) (l : ℕ) (i : Instance)
    (at : get_elem? m.instances l ≡ some i) (n : Note) (c : List Note) (χ : List Tagged) where
  -- a command that writes no variable, makes no instance and is no push this
  pub goes_on : (g : Passage p a m.instances l i) {d : List Note} → g.held ≡ n ∷ d → length c ≤ length d
      → Way (ctx g) (noted (ctx g) g.body) at_start c (leads (ctx g) n g.place)
      → LivingOn g n c
      → now_written n (written_in p a i) ≡ written_in p a i
      → is_this n ≡ false
      → (ts : List Ty)
      → stack_after (ctx g) n g.place.stack ≡ ts
      → Each (Fits m.instances) ts χ
      → Good p (put m l (after i (written_in p a i) n (c ++ g.rest) χ i.env))
  goes_on g e h w sf b t ts q s =
      good_put good runs l i at n (c ++ g.rest) χ (λ k.
      advance firm m.sched (running_job good runs) g n e c h w sf
      (set m.instances l (after i (written_in p a i) n (c ++ g.rest) χ i.env)) ts q χ (each_map (fits_kept k) ts χ s)
      (λ h. absurd (false≢true (sym t ∙ h)))
      i.env
      (locals_kept g k b))
