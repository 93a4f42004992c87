-- A move of a schedule that is not empty keeps the invariant; it never lacks a rule.
use Rattle.std.specs.Prelude.{ℕ, suc, ◌-◌, ◌≡◌, Bool, true, false, List, [], ◌∷◌, map, length}
use Rattle.std.proofs.Common.{arith, ap, ◌∙◌, inl, inr, append-nil}
use Rattle.std.proofs.Math.Path.{refl, sym}
use Rattle.std.proofs.lemmas.Bool.{false≢true}
use Rattle.std.proofs.Math.Option.{Option, none, some}
use mathlib.Core.List.Memᴰ
use Rattle.std.proofs.Math.ListN.{get_elem?}
use Rattle.program.specs.Tree.{Stmts, Program}
use Rattle.machine.specs.Published.{StepCall, called, Sched, Sched.done, Sched.start, Sched.fixpoint, Sched.active, before, of_items}
use Rattle.machine.specs.Machine.{Instance, Machine, Moved, Moved.next, Moved.stuck, given, started, repeat, move_by, move}
use Rattle.machine.proofs.Laws.CallLaws.{called_step}
use Rattle.machine.proofs.Laws.RepresentsLaws.{Still}
use Rattle.commands.specs.Tags.{at_start, Way.start as begins}
use Rattle.sound.specs.Invariant.{Job, Job.call, InJob.in_call, Place, Place.resting, Place.passing, GoodInst, GoodAll, Good}
use Rattle.sound.specs.Invariant.{Unbegun, Open, Open.open_start, Open.open_fix, Open.open_active}
use Rattle.sound.specs.Started.{Left, Left.past, Left.into, Left.again, Left.out}
use Rattle.sound.proofs.Laws.Keeps.{Keeps}
use Rattle.sound.proofs.Laws.ElemLaws.{none_some, at_map, map_at, all_elem}
use Rattle.sound.proofs.Laws.GoodLaws.{inst_kept}
use Rattle.sound.specs.Firm.{Firm}
use Rattle.commands.specs.Context.{context, step_of}
use Rattle.commands.specs.Noted.{noted}
use Rattle.commands.specs.Living.{alive, lives_at, Among}

-- what a move comes to keeps the invariant
abbrev pub MoveKept : Program → Moved → Type 0
MoveKept p (next m) = Good p m
MoveKept p stuck = ⊥

-- Schedules ----------------------------------------------------------------------

module _ {s : Sched} {k : ℕ} where
  pub past_start : {a : StepCall} → Open (start a s) k → Open s k
  past_start (open_start o) = o

  pub past_fix : {f : Sched} → Open (fixpoint f s) k → (Unbegun f) × (Open s k)
  past_fix (open_fix u o) = (u, o)

  pub past_active : {f : Sched} → Open (active f s) (suc k) → (Unbegun f) × (Open s k)
  past_active (open_active u o) = (u, o)

-- a Fix that has begun has its entry
pub active_open : {f s : Sched} {k : ℕ} → Open (active f s) k → k ≡ 0 → ⊥
active_open (open_active u o) e = omega arith

-- what has not begun stands before an open schedule
pub open_before : (f : Sched) {s : Sched} {k : ℕ} → Unbegun f → Open s k → Open (before f s) k
unfolding before Unbegun
open_before done u o = o
open_before (start a f) u o = open_start (open_before f u o)
open_before (fixpoint f r) u o = open_fix u.0 (open_before r u.1 o)
open_before (active f r) u o = absurd u

-- Instances ----------------------------------------------------------------------

module _ (p : Program) (is : List Instance) where
  -- where no job runs, one may
  idle_good : {r : Option Job} (l : ℕ) (i : Instance) → GoodInst p none is l i → GoodInst p r is l i
  idle_good {r} l i g = record { fitted = g.fitted; place = go g.place }
    where
      go : Place p none is l i → Place p r is l i
      go (resting c χ) = resting c χ
      go (passing w (inl e)) = passing w (inl e)
      go (passing w (inr e)) = none_some e

  -- where no instance holds commands, none need run
  pub still_good : {r : Option Job} → Still is → GoodAll p r is → GoodAll p none is
  still_good {r} t a = record { nulls = a.nulls; each = λ l i e. go l i e (a.each l i e).place }
    where
      go : (l : ℕ) (i : Instance) → get_elem? is l ≡ some i → Place p r is l i → GoodInst p none is l i
      go l i e (resting c χ) = record { fitted = (a.each l i e).fitted; place = resting c χ }
      go l i e (passing w h) = record { fitted = (a.each l i e).fitted; place = passing w (inl (all_elem (λ i. i.code ≡ []) is l i t e)) }

-- each instance changed in a way that keeps its struct and keeps it good, under jobs that run
good_map : (p : Program) {r q : Option Job} (f : Instance → Instance) → ((i : Instance) → (f i).struct ≡ i.struct)
    → ((is : List Instance) (l : ℕ) (i : Instance) → GoodInst p r is l i → GoodInst p q is l (f i))
    → (is : List Instance) → GoodAll p r is → GoodAll p q (map f is)
good_map p f s h is a = record {
  nulls = λ n q. let (i, e, t) = a.nulls n q in (f i, at_map f is n i e, s i ∙ t);
  each = λ l j e.
      let (i, q, z) = map_at f is l j e in
      rw (← z) (h (map f is) l i (inst_kept p keeps l i (a.each l i q)));
}
  where
    keeps : Keeps is (map f is)
    keeps = record { at = λ l i e. (f i, at_map f is l i e, s i) }

module _ {p : Program} (firm : Firm p) where
  given_struct : (o : Option Stmts) (i : Instance) → (given p o i).struct ≡ i.struct
  unfolding given
  given_struct none i = refl
  given_struct (some b) i = refl

  begins_kept : (k n : ℕ) {b : Stmts} → step_of p k n ≡ some b → Among (alive (lives_at (context p k b) b (noted (context p k b) b))) []
  begins_kept k n {b} e =
      let q : length (noted (context p k b) b) - length (noted (context p k b) b) ≡ 0 = omega arith in
      rw q (firm.secure k n e).0

  -- an instance that begins a step stands at its start
  given_good : (a : StepCall) (is : List Instance) (l : ℕ) (i : Instance) (o : Option Stmts) → called p a i.struct ≡ o → GoodInst p none is l i
      → GoodInst p (some (call a)) is l (given p o i)
  unfolding given
  given_good a is l i none e g = idle_good p is l i g
  given_good a is l i (some b) e g =
      let (n, h) = called_step p a i.struct e in
      record {
        fitted = g.fitted;
        place = passing (record {
          body = b;
          rest = [];
          has = in_call e;
          held = noted (context p i.struct b) b;
          code = sym (append-nil (noted (context p i.struct b) b));
          full = λ q. refl;
          place = at_start;
          way = begins;
          kept = begins_kept i.struct n h;
          stacked = tt;
          own = λ q. absurd (false≢true q);
          locals = λ x h. absurd (Memᴰ.not-nil h);
        }) (inr refl);
      }

  started_struct : (a : StepCall) (i : Instance) → (started p a i).struct ≡ i.struct
  unfolding started
  started_struct a i = given_struct (called p a i.struct) i

  started_good : (a : StepCall) (is : List Instance) (l : ℕ) (i : Instance) → GoodInst p none is l i
      → GoodInst p (some (call a)) is l (started p a i)
  unfolding started
  started_good a is l i g = given_good a is l i (called p a i.struct) refl g

-- a move where no instance holds commands keeps the invariant
pub move_kept : {p : Program} → Firm p → (s : Sched) (is : List Instance) (b : List Bool) (n : ℕ) → GoodAll p none is → Open s (length b)
    → Left (of_items p.schedule) s
    → (s ≡ done → ⊥)
    → MoveKept p (move_by p s is b n)
unfolding move_by repeat
move_kept firm done is b n a o l h = absurd (h refl)
move_kept {p} firm (start c s) is b n a o l h =
    record {
      runs = some (call c);
      all = good_map p (started p c) (started_struct firm c) (started_good firm c) is a;
      running = l;
      opened = past_start o;
      left = past l;
    }
move_kept firm (fixpoint f s) is b n a o l h =
    let (u, r) = past_fix o in record { runs = none; all = a; running = tt; opened = open_before f u (open_active u r); left = into l }
move_kept firm (active f s) is [] n a o l h = absurd (active_open o refl)
move_kept firm (active f s) is (true ∷ b) n a o l h = record { runs = none; all = a; running = tt; opened = (past_active o).1; left = out l }
move_kept firm (active f s) is (false ∷ b) n a o l h =
    let (u, r) = past_active o in record { runs = none; all = a; running = tt; opened = open_before f u (open_active u r); left = again l }

-- no move leads on from an empty schedule
pub done_stops : (p : Program) (m : Machine) {z : Machine} → m.sched ≡ done → move p m ≡ next z → ⊥
unfolding move_by
done_stops p m s e =
    let q : move p m ≡ stuck = ap (λ s. move_by p s m.instances m.stability m.from) s in let z : ◌≡◌ {A = ℕ} 0 1 = cc in omega arith
