-- A command of an instance that holds commands keeps the invariant, or is refused with 34 or 35; it never lacks a rule.
use Rattle.std.specs.Prelude.{ℕ, ◌+◌, ◌<◌, ◌≤◌, ◌≡◌, Bool, ◌⊎◌, ltb}
use Rattle.std.proofs.Common.{arith, sym, ◌∙◌, inl, length-drop, drop_at}
use Rattle.std.proofs.Math.Path.{refl, ap, subst}
use Rattle.std.proofs.Math.Bool.{true, false, not}
use Rattle.std.proofs.lemmas.Bool.{false≢true}
use Rattle.std.proofs.Math.Logic.{inr}
use Rattle.std.proofs.Math.Option.{some}
use mathlib.Core.List.{List, [], ◌∷◌, ◌++◌, map, reverse}
use Rattle.std.proofs.Math.ListN.{length, get_or, get_elem?, set, drop, length-reverse}
use Rattle.std.proofs.lemmas.List.{drop-append-le}
use borrow.Author.Tests.{lt-ltb, le-ltb}
use Rattle.types.specs.Limits.{max_instances, first_local}
use Rattle.types.specs.Types.{Ty, Ty.int, Ty.bool, Ty.ref}
use Rattle.types.specs.Values.{Val, Val.bool_val, Val.label}
use Rattle.program.specs.Tree.{Op, Program}
use Rattle.commands.specs.Context.{Ctx, params_of, typ}
use Rattle.commands.specs.Typing.{sort, Takes}
use Rattle.commands.specs.Noted.{Note, Note.n_push, Note.n_this, Note.n_not, Note.n_rd, Note.n_wr, Note.n_get, Note.n_set, Note.n_cons, Note.n_op, Note.n_if}
use Rattle.commands.specs.Noted.{noted, now_written}
use Rattle.table.specs.Table.{Each}
use Rattle.operators.specs.Apply.{Answer, Answer.value, Answer.outside, Answer.unfit, apply}
use Rattle.operators.specs.Ranges.{Fits as Answers}
use Rattle.operators.proofs.Laws.RangesLaws.{apply_fits}
use Rattle.machine.specs.Published.{structs, arity}
use Rattle.machine.specs.Machine.{Tagged, tagged, Source.variable, Source.local, Source.result, given_by, Instance, Machine, Out.next}
use Rattle.machine.specs.Machine.{with_code, with_written, put, acting as turning, write_to, operated, perform, command_of, command_at, command}
use Rattle.machine.specs.Stops.{full, exceeded}
use Rattle.run.specs.Begin.{resting}
use Rattle.commands.specs.Tags.{Tags, Top, Asks, stack_after, is_this, next as leads, at_start, Way, Way.on, Way.over, result_type}
use Rattle.sound.specs.Needs.{ValueAmong}
use Rattle.sound.specs.Invariant.{Fits, Job, written_in, Passage, Good}
use Rattle.sound.proofs.Laws.Keeps.{of_kept, fits_kept}
use Rattle.sound.proofs.Laws.EachLaws.{each_length, each_map, each_of_map, each_reverse}
use Rattle.sound.proofs.Laws.EnvLaws.{param_holds}
use Rattle.commands.proofs.Laws.StaticParts.{result_of}
use Rattle.sound.proofs.Laws.SizedLaws.{lasting_of}
use Rattle.sound.proofs.Laws.ValueLaws.{bool_value, label_value, ranges, result_of_type}
use Rattle.sound.specs.Firm.{Firm}
use Rattle.sound.proofs.Laws.PassageLaws.{holder_passage, first_held, jump_within, ctx, here, tops, top_one, top_two, own_top, local_value}
use Rattle.sound.proofs.Laws.PassageLaws.{asks, kept_next, kept_past, LivingOn, next_sized, way_at}
use Rattle.sound.proofs.Laws.Outcomes.{negated, branched, operates, has_read, leaves_null, writes_param, writes_local, constructs, finds_full}
use Rattle.sound.proofs.Laws.Advance.{running_job, Kept, after, advance, locals_kept, good_put, goes_on}
use Rattle.sound.proofs.Laws.ReadyLaws.{written_now}
use Rattle.sound.proofs.Laws.WriteKept.{param_kept, local_kept_good}
use Rattle.sound.proofs.Laws.ConsKept.{cons_keeps, new_label, cons_kept}

-- the numbers of a command
abbrev pub Refused : ℕ → Type 0
Refused n = (n ≡ full) ⊎ (n ≡ exceeded)

-- whichever a test says
either : {A : Type 0} (t : Bool) {u : Bool} → u ≡ t → (u ≡ true → A) → (u ≡ false → A) → A
either true e f h = f e
either false e f h = h e

-- what a local's wr asks, the declaration's or another
set_asks : (G : Ctx) (d : Bool) (t : Ty) (v : ℕ) (x : Tags) → Asks G (n_set d t v) x → (x.fresh ≡ true) × (t ≡ G.local v) × Top (ref G.own ∷ t ∷ []) x
set_asks G true t v x a = a
set_asks G false t v x a = (a.0, a.1, a.3)

module _ {p : Program} (firm : Firm p) {m : Machine} (good : Good p m) {a : Job} (runs : good.runs ≡ some a) (l : ℕ) (i : Instance)
    (at : get_elem? m.instances l ≡ some i) (g : Passage p a m.instances l i) (c : List Note) where
  -- the locals written in this passage
  abbrev now_in : List ℕ
  now_in = written_in p a i

  -- the actor as the machine has it while it takes the command n
  abbrev acting : Note → Instance
  acting n = with_written i (now_written n now_in)

  -- what the command n comes to
  abbrev Goes : Note → Type 0
  Goes n = g.held ≡ n ∷ c → Kept p Refused (perform p m l (acting n) n (c ++ g.rest))

  -- as many commands as there are
  all_left : length c ≤ length c
  all_left = omega arith

  -- the actor goes on to the command after n, which writes no variable, makes no instance and is no push this
  onward : (n : Note) → g.held ≡ n ∷ c → (χ : List Tagged) → now_written n now_in ≡ now_in → is_this n ≡ false
      → (ts : List Ty) → stack_after (ctx g) n g.place.stack ≡ ts → Each (Fits m.instances) ts χ
      → Good p (put m l (after i now_in n (c ++ g.rest) χ i.env))
  onward n e χ = goes_on firm good runs l i at n c χ g e all_left (on (way_at g firm n c e)) (kept_next g firm n c e)

  pushes : (t : Ty) (v : Val) → Goes (n_push t v)
  unfolding perform now_written
  pushes t v e =
      onward (n_push t v) e (tagged t v ∷ i.stack) refl refl (t ∷ g.place.stack) refl
      ((refl, lasting_of p m.instances good.all.nulls (next_sized g firm (n_push t v) c e)), g.stacked)

  pushes_this : Goes n_this
  unfolding perform now_written
  pushes_this e =
      let x = tagged (ref i.struct) (label l) in
      good_put good runs l i at n_this (c ++ g.rest) (x ∷ i.stack) (λ k.
      advance firm m.sched (running_job good runs) g n_this e c all_left (on (way_at g firm n_this c e))
      (kept_next g firm n_this c e) (set m.instances l (after i now_in n_this (c ++ g.rest) (x ∷ i.stack) i.env))
      (ref i.struct ∷ g.place.stack) refl (x ∷ i.stack) (
        (refl, of_kept k (ref i.struct) (label l) (i, at, refl)),
        each_map (fits_kept k) g.place.stack i.stack g.stacked,
      )
      (λ q. (x, i.stack, refl, refl))
      i.env
      (locals_kept g k refl))

  negates : Goes n_not
  unfolding perform now_written
  negates e =
      let (h, a) = asks g firm n_not c e in
      let (x, χ, s, f, r) = top_one g bool (h, a) in
      let (b, q) = bool_value m.instances x.is f.1 in
      subst (Kept p Refused) (sym (negated p m l (acting n_not) (c ++ g.rest) (s ∙ ap (λ v. tagged x.by v ∷ χ) q)))
      (onward n_not e (tagged bool (bool_val (not b)) ∷ χ) refl refl (bool ∷ h)
      (ap (stack_after (ctx g) n_not) a)
      ((refl, tt), r))

  branches : (n : ℕ) → Goes (n_if n)
  unfolding perform now_written
  branches n e =
      let (h, a) = asks g firm (n_if n) c e in
      let (x, χ, s, f, r) = top_one g bool (h, a) in
      let (b, q) = bool_value m.instances x.is f.1 in
      subst (Kept p Refused)
      (sym (branched p m l (acting (n_if n)) (c ++ g.rest) n (s ∙ ap (λ v. tagged x.by v ∷ χ) q)
      ∙ ap (λ z. next (put m l (with_code (acting (n_if n)) z χ))) (body_out b)))
      (goes_on firm good runs l i at (n_if n) (elim b [ true ↦ c | false ↦ drop n c ]) χ g e (few b) (way b (way_at g firm (n_if n) c e)) (living b)
      refl refl h (ap (stack_after (ctx g) (n_if n)) a) r)
    where
      -- on where the condition holds, over the body where it does not
      way : (b : Bool) → Way (ctx g) (noted (ctx g) g.body) at_start (n_if n ∷ c) g.place
          → Way (ctx g) (noted (ctx g) g.body) at_start (elim b [ true ↦ c | false ↦ drop n c ]) (leads (ctx g) (n_if n) g.place)
      way true w = on w
      way false w = over w

      living : (b : Bool) → LivingOn g (n_if n) (elim b [ true ↦ c | false ↦ drop n c ])
      living true = kept_next g firm (n_if n) c e
      living false = kept_past g firm (n_if n) c e

      few : (b : Bool) → length {A = Note} (elim b [ true ↦ c | false ↦ drop n c ]) ≤ length c
      few true = omega arith
      few false = omega (arith, length-drop n c)

      -- where the body is left out, the rest after the step stays
      body_out : (b : Bool) → elim b [ true ↦ c ++ g.rest | false ↦ drop n (c ++ g.rest) ] ≡ elim b [ true ↦ c | false ↦ drop n c ] ++ g.rest
      body_out true = refl
      body_out false = drop-append-le n c g.rest (jump_within g firm (n_if n) c e)

  reads_param : (k v : ℕ) → Goes (n_rd k v)
  unfolding perform now_written
  reads_param k v e =
      let (b, (h, a)) = asks g firm (n_rd k v) c e in
      let (x, χ, s, f, r) = top_one g (ref k) (h, a) in
      let (t, q, j, at', w) = label_value m.instances k x.is f.1 in
      let b' : v < length (params_of p j.struct) = rw w b in
      let (y, z, o) =
      param_holds m.instances (params_of p j.struct) (firm.few j.struct) v b' j.env (good.all.each t j at').fitted in
      subst (Kept p Refused)
      (sym (has_read p m l (acting (n_rd k v)) (c ++ g.rest) v (λ d. variable d v) (s ∙ ap (λ u. tagged x.by u ∷ χ) q) at' z))
      (onward (n_rd k v) e (tagged (given_by p (variable j.struct v)) y ∷ χ) refl refl
      (typ (ctx g) k v ∷ h)
      (ap (stack_after (ctx g) (n_rd k v)) a)
      ((ap (λ d. get_or (params_of p d) v int) w, subst (λ d. ValueAmong m.instances (get_or (params_of p d) v int) y) w o), r))

  reads_local : (t : Ty) (v : ℕ) → Goes (n_get t v)
  unfolding perform now_written
  reads_local t v e =
      let (u, b, d, (h, a)) = asks g firm (n_get t v) c e in
      let (x, χ, s, f, r) = top_one g (ref i.struct) (h, a) in
      let q = own_top g u x χ s in
      let (y, z, o) = local_value g v d in
      subst (Kept p Refused)
      (sym (has_read p m l (acting (n_get t v)) (c ++ g.rest) (first_local + v) (λ d. local t) (s ∙ ap (λ u. tagged x.by u ∷ χ) q) at z))
      (onward (n_get t v) e (tagged t y ∷ χ) refl refl (t ∷ h)
      (ap (stack_after (ctx g) (n_get t v)) a)
      ((refl, subst (λ d. ValueAmong m.instances d y) (sym b) o), r))

  writes : (k v : ℕ) → Goes (n_wr k v)
  unfolding perform now_written write_to
  writes k v e =
      let n = n_wr k v in
      let (b, (h, a)) = asks g firm n c e in
      let (y, x, χ, s, f, f', r) = top_two g (ref k) (typ (ctx g) k v) (h, a) in
      let (t, q, j, at', w) = label_value m.instances k y.is f.1 in
      let s' = s ∙ ap (λ u. tagged y.by u ∷ x ∷ χ) q in
      let b' : v < arity p j.struct = rw w b in
      let own : Good p (put m l (after i now_in n (c ++ g.rest) χ i.env)) =
      onward n e χ refl refl h (ap (stack_after (ctx g) n) a) r in
      let (z, z', o) =
      param_holds m.instances (params_of p j.struct) (firm.few j.struct) v b' j.env (good.all.each t j at').fitted in
      let below = lt-ltb v (arity p j.struct) b' in
      either (ltb t (structs p)) refl
      (λ null. subst (Kept p Refused) (sym (leaves_null p m l (acting n) (c ++ g.rest) v s' at' below null)) own)
      (λ other.
      subst (Kept p Refused) (sym (writes_param p m l (acting n) (c ++ g.rest) v s' at' below other z'))
      (param_kept firm m l i at (after i now_in n (c ++ g.rest) χ i.env) refl refl own t j at' v x.is _ b'
      (subst (λ d. ValueAmong m.instances (get_or (params_of p d) v int) x.is) (sym w) f'.1)))

  writes_own : (d : Bool) (t : Ty) (v : ℕ) → Goes (n_set d t v)
  unfolding perform write_to
  writes_own d t v e =
      let n = n_set d t v in
      let (u, b, (h, a)) = set_asks (ctx g) d t v (here g) (asks g firm n c e) in
      let (y, x, χ, s, f, f', r) = top_two g (ref i.struct) t (h, a) in
      let s' = s ∙ ap (λ u. tagged y.by u ∷ x ∷ χ) (own_top g u y (x ∷ χ) s) in
      let few = firm.few i.struct in
      let beyond = le-ltb (first_local + v) (arity p i.struct) (omega arith) in
      subst (Kept p Refused) (sym (writes_local p m l (acting n) (c ++ g.rest) (first_local + v) s' at beyond))
      (local_kept_good firm m l i at good runs g d t v (next_sized g firm n c e) b e c all_left (on (way_at g firm n c e)) (kept_next g firm n c e) h
      (ap (stack_after (ctx g) n) a) χ r x.is _
      f'.1)

  constructs_one : (k : ℕ) → Goes (n_cons k)
  unfolding perform now_written
  constructs_one k e =
      let n = n_cons k in
      let (h, a) = asks g firm n c e in
      let ps = params_of p k in
      let (ξ, χ, s, f, r) = tops g (reverse ps) (h, a) in
      let size : length ξ ≡ arity p k = each_length (Fits m.instances) (reverse ps) ξ f ∙ length-reverse ps in
      let vs = reverse (map (λ x. x.is) ξ) in
      let ψ = tagged (ref k) (label (length m.instances)) ∷ χ in
      let keeps = cons_keeps good l i at now_in n (c ++ g.rest) ψ k vs in
      let js = set m.instances l (after i now_in n (c ++ g.rest) ψ i.env) ++ resting k vs ∷ [] in
      either (ltb (length m.instances) max_instances) refl
      (λ q.
      subst (Kept p Refused) (sym (constructs p m l (acting n) (c ++ g.rest) k ξ χ s size q))
      (cons_kept good l i at now_in n (c ++ g.rest) ψ k vs
      (each_reverse (ValueAmong js) ps (map (λ x. x.is) ξ)
      (each_of_map (ValueAmong js) (λ x. x.is) (reverse ps) ξ (each_map (λ t x z. of_kept keeps t x.is z.1) (reverse ps) ξ f)))
      runs
      (advance firm m.sched (running_job good runs) g n e c all_left (on (way_at g firm n c e))
      (kept_next g firm n c e) js (ref k ∷ h)
      (ap (stack_after (ctx g) n) a ∙ ap (λ r. ref k ∷ r) (drop_at (reverse ps) h (length ps) (length-reverse ps)))
      ψ
      ((refl, new_label good l i at now_in n (c ++ g.rest) ψ k vs), each_map (fits_kept keeps) h χ r)
      (λ q. absurd (false≢true q))
      i.env
      (locals_kept g keeps refl))))
      (λ q. subst (Kept p Refused) (sym (finds_full p m l (acting n) (c ++ g.rest) k i.stack q)) (inl refl))

  operates_on : (o : Op) → Goes (n_op o)
  unfolding perform now_written operated
  operates_on o e =
      let n = n_op o in
      let (t, u, k, (h, a)) = asks g firm n c e in
      let (y, x, χ, s, f, f', r) = top_two g t t (h, a) in
      subst (Kept p Refused) (sym (operates p m l (acting n) (c ++ g.rest) o s))
      (go t u k h a y x χ s f'.0 r (apply o x.is y.is) refl
      (apply_fits o k (ranges m.instances t x.is f'.1) (ranges m.instances t y.is f.1)))
    where
      go : (t u : Ty) → Takes (sort o) t u → (h : List Ty) → g.place.stack ≡ t ∷ t ∷ h → (y x : Tagged) (χ : List Tagged) → i.stack ≡ y ∷ x ∷ χ
          → x.by ≡ t
          → Each (Fits m.instances) h χ
          → (w : Answer) → apply o x.is y.is ≡ w → Answers u w
          → Kept p Refused (operated p m l (acting (n_op o)) (c ++ g.rest) χ (result o x.by) w)
      go t u k h a y x χ s b r (value v) q z =
          onward (n_op o) e (tagged (result_type (sort o) x.by) v ∷ χ) refl refl
          (result_type (sort o) t ∷ h)
          (ap (stack_after (ctx g) (n_op o)) a)
          ((ap (result_type (sort o)) b, subst (λ d. ValueAmong m.instances d v) (result_of k) (result_of_type m.instances k z)), r)
      go t u k h a y x χ s b r outside q z = inr refl
      go t u k h a y x χ s b r unfit q z = absurd z

  -- each comes to a good machine or is refused
  takes : (n : Note) → Goes n
  takes (n_push t v) = pushes t v
  takes n_this = pushes_this
  takes n_not = negates
  takes (n_rd k v) = reads_param k v
  takes (n_wr k v) = writes k v
  takes (n_get t v) = reads_local t v
  takes (n_set d t v) = writes_own d t v
  takes (n_cons k) = constructs_one k
  takes (n_op o) = operates_on o
  takes (n_if n) = branches n

-- the instance at l takes its next command
pub commanded : (p : Program) (m : Machine) (l : ℕ) (i : Instance) (n : Note) (c : List Note) → get_elem? m.instances l ≡ some i → i.code ≡ n ∷ c
    → command p l m ≡ perform p (turning l m) l (with_written i (now_written n i.written)) n c
unfolding command command_at command_of
commanded p m l i n c at e = ap (command_at p (turning l m) l) at ∙ ap (command_of p (turning l m) l i) e

-- the invariant does not see from where turns are counted
abbrev pub turning_good : {p : Program} {m : Machine} (l : ℕ) → Good p m → Good p (turning l m)
turning_good l g = record { runs = g.runs; all = g.all; running = g.running; opened = g.opened; left = g.left }

-- a command of a holder keeps the invariant, or is refused with one of its numbers
pub command_kept : {p : Program} → Firm p → {m : Machine} → Good p m → (l : ℕ) (i : Instance) → get_elem? m.instances l ≡ some i
    → (n : Note) (c : List Note) → i.code ≡ n ∷ c
    → Kept p Refused (command p l m)
command_kept {p} firm {m} good l i at n c e =
    let (a, runs, g) = holder_passage (good.all.each l i at).place e in
    let (d, h, q) = first_held g e in
    let now = written_now p a i in
    subst (Kept p Refused)
    (sym (commanded p m l i n c at e ∙ ap (λ w. perform p (turning l m) l (with_written i (now_written n w)) n c) now
    ∙ ap (perform p (turning l m) l (with_written i (now_written n (written_in p a i))) n) q))
    (takes firm (turning_good l good) runs l i at g d n h)
