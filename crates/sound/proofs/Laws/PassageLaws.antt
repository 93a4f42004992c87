-- What an instance that stands in a step has on its stack, from what its commands ask (01, 'The words of demand 3').
use Rattle.std.specs.Prelude.{ℕ, ◌+◌, ◌≤◌, ◌≡◌, refl, true, length, drop}
use Rattle.std.proofs.Common.{arith, sym, ap, ◌∙◌, inl, inr}
use Rattle.std.proofs.Math.Option.{Option, some}
use mathlib.Core.List.{List, [], ◌∷◌, ◌++◌, Memᴰ}
use Rattle.types.specs.Limits.{first_local}
use Rattle.types.specs.Types.{Ty, Ty.int}
use Rattle.types.specs.Values.{Val, Val.label}
use Rattle.program.specs.Tree.{Program}
use Rattle.commands.specs.Context.{Ctx, body_local, context, step_of}
use Rattle.commands.specs.Noted.{Note, noted, now_written}
use Rattle.table.specs.Table.{Each}
use Rattle.program.specs.Tree.{Stmts}
use Rattle.machine.specs.Published.{structs, lookup}
use Rattle.machine.proofs.Laws.CallLaws.{called_step}
use Rattle.machine.specs.Machine.{Tagged, Instance}
use Rattle.commands.specs.Tags.{Tags, tags, Top, Asks, jump, Way, at_start}
use Rattle.sound.specs.Needs.{ValueAmong}
use Rattle.sound.specs.Invariant.{Fits, Job, InJob, InJob.in_call, written_in, Passage, Place, Place.resting, Place.passing}
use Rattle.commands.specs.Living.{alive, lives, lives_at, beside, Among}
use Rattle.commands.proofs.Laws.SecureLaws.{secure_safe, now_more}
use Rattle.commands.proofs.Laws.SecureWays.{Behind, behind, beside_on, beside_over, way_short, way_secure}
use Rattle.commands.proofs.Laws.SafeLaws.{ready}
use Rattle.sound.proofs.Laws.EachLaws.{each_uncons, each_split}
use Rattle.sound.specs.Sized.{Sized}
use Rattle.sound.proofs.Laws.SizedLaws.{sized_first, way_sized}
use Rattle.sound.specs.Firm.{Firm}

-- a holder stands in a step of the job that runs
pub holder_passage : {p : Program} {r : Option Job} {is : List Instance} {l : ℕ} {i : Instance} → Place p r is l i → {n : Note} {c : List Note}
    → i.code ≡ n ∷ c → (a : Job) × (r ≡ some a) × (Passage p a is l i)
holder_passage (resting q χ) e = let z : ◌≡◌ {A = ℕ} 0 1 = cc in absurd (omega arith)
holder_passage (passing g (inl q)) e = let z : ◌≡◌ {A = ℕ} 0 1 = cc in absurd (omega arith)
holder_passage (passing {a = a} g (inr q)) e = (a, q, g)

-- a step of a job is one of its struct's
job_step : {p : Program} {k : ℕ} {a : Job} {b : Stmts} {r : List Note} → InJob p k a b r → (n : ℕ) × (step_of p k n ≡ some b)
job_step {p} {k} (in_call {a = a} e) = called_step p a k e

module _ {p : Program} {a : Job} {is : List Instance} {l : ℕ} {i : Instance} (g : Passage p a is l i) where
  -- its step is one of its struct's
  pub has_step : (n : ℕ) × (step_of p i.struct n ≡ some g.body)
  has_step = job_step g.has

  -- its next command is one of the step
  pub first_held : {n : Note} {c : List Note} → i.code ≡ n ∷ c → (d : List Note) × (g.held ≡ n ∷ d) × (c ≡ d ++ g.rest)
  first_held {n} {c} e = go g.held refl
    where
      go : (h : List Note) → g.held ≡ h → (d : List Note) × (g.held ≡ n ∷ d) × (c ≡ d ++ g.rest)
      go [] q =
          let r = g.full q in
          let f : i.code ≡ [] = g.code ∙ ap (λ x. x ++ g.rest) q ∙ r in
          let z : ◌≡◌ {A = ℕ} 0 1 = cc in
          absurd (omega arith)
      go (x ∷ d) q =
          let f : n ∷ c ≡ x ∷ (d ++ g.rest) = sym e ∙ g.code ∙ ap (λ y. y ++ g.rest) q in
          let u : x ≡ n = cc in
          (d, q ∙ ap (λ y. y ∷ d) u, cc)

  -- its step's context
  abbrev pub ctx : Ctx
  ctx = context p i.struct g.body

  -- what put each value on its stack, with the locals written
  abbrev pub here : Tags
  here = tags g.place.stack (written_in p a i) g.place.fresh

  -- after the command n, with the commands c left, the living locals are written
  abbrev pub LivingOn : Note → List Note → Type 0
  LivingOn n c = Among (alive (lives_at ctx g.body c)) (now_written n (written_in p a i))

  -- these types on top, and those beneath
  pub tops : (ts : List Ty) (h : Top ts g.place)
      → (xs : List Tagged) × (χ : List Tagged) × (i.stack ≡ xs ++ χ) × (Each (Fits is) ts xs) × (Each (Fits is) h.0 χ)
  tops ts h = each_split (Fits is) ts h.0 i.stack (rw h.1 at g.stacked)

  -- one type on top
  pub top_one : (t : Ty) (h : Top (t ∷ []) g.place)
      → (x : Tagged) × (χ : List Tagged) × (i.stack ≡ x ∷ χ) × (Fits is t x) × (Each (Fits is) h.0 χ)
  top_one t h = each_uncons (Fits is) t h.0 i.stack (rw h.1 at g.stacked)

  -- two types on top
  pub top_two : (t u : Ty) (h : Top (t ∷ u ∷ []) g.place)
      → (y : Tagged) × (x : Tagged) × (χ : List Tagged) × (i.stack ≡ y ∷ x ∷ χ) × (Fits is t y) × (Fits is u x) × (Each (Fits is) h.0 χ)
  top_two t u h =
      let (y, χ, e, f, r) = each_uncons (Fits is) t (u ∷ h.0) i.stack (rw h.1 at g.stacked) in
      let (x, ψ, e', f', r') = each_uncons (Fits is) u h.0 χ r in
      (y, x, ψ, cc, f, f', r')

  -- after a push this its own label is on top
  pub own_top : g.place.fresh ≡ true → (x : Tagged) (χ : List Tagged) → i.stack ≡ x ∷ χ → x.is ≡ label l
  own_top f x χ e = let (y, ψ, q, h) = g.own f in cc

  -- a local that is written holds a value of its type
  pub local_value : (x : ℕ) → Memᴰ x (written_in p a i)
      → (v : Val) × (lookup i.env (first_local + x) ≡ some v) × (ValueAmong is (body_local g.body x int) v)
  local_value x h = g.locals x h

  module _ (firm : Firm p) (n : Note) (c : List Note) (e : g.held ≡ n ∷ c) where
    -- the way to its next command
    pub way_at : Way ctx (noted ctx g.body) at_start (n ∷ c) g.place
    way_at = rw e at g.way

    -- which finds what it asks for
    pub asks : Asks ctx n here
    asks = ready (secure_safe (way_secure (firm.secure i.struct has_step.0 has_step.1).1 way_at) (rw e at g.kept))

    -- on either way after it the living locals are written
    left : Behind ctx n c (beside (noted ctx g.body) (lives g.body) (n ∷ c)) g.place.stack
    left = behind (way_secure (firm.secure i.struct has_step.0 has_step.1).1 way_at)

    -- an if's body ends inside the step
    pub jump_within : jump n ≤ length c
    jump_within = left.within

    pub kept_next : LivingOn n c
    kept_next x m =
        now_more n (rw e at g.kept) x
        (left.grown x (rw (beside_on (noted ctx g.body) (lives g.body) n c (way_short way_at)) m))

    pub kept_past : LivingOn n (drop (jump n) c)
    kept_past x m =
        now_more n (rw e at g.kept) x
        (left.grown_over x (rw (beside_over (noted ctx g.body) (lives g.body) n c (way_short way_at) left.within) m))

    -- and carries what is in its range
    pub next_sized : Sized (structs p) n
    next_sized = sized_first (way_sized (firm.sized i.struct has_step.0 has_step.1) way_at)
