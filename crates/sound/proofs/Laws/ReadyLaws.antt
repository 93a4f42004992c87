-- A machine with the invariant is right: every next command finds what it needs (01, 'The words of demand 3').
use Rattle.std.specs.Prelude.{ℕ, ◌≤◌, ◌≡◌, refl, true, false, List, [], ◌∷◌, reverse, length}
use Rattle.std.proofs.Common.{arith}
use Rattle.std.proofs.Math.Option.{Option}
use Rattle.std.proofs.lemmas.List.{reverse-reverse}
use Rattle.types.specs.Types.{Ty.bool, Ty.ref}
use Rattle.program.specs.Tree.{Program}
use Rattle.commands.specs.Context.{params_of, typ}
use Rattle.commands.specs.Noted.{Note, Note.n_push, Note.n_this, Note.n_not, Note.n_rd, Note.n_wr, Note.n_get, Note.n_set, Note.n_cons, Note.n_op, Note.n_if}
use Rattle.commands.specs.Bounds.{program_depth}
use Rattle.machine.specs.Published.{Env, Env.env}
use Rattle.machine.specs.Machine.{Instance, Machine}
use Rattle.commands.specs.Tags.{Asks}
use Rattle.sound.specs.Needs.{Needs, NextReady, TypedParams, Right}
use Rattle.sound.specs.Invariant.{Fits, Fitted, Job, Job.call, written_in, Passage, Place, Place.resting, Place.passing, Good}
use Rattle.sound.proofs.Laws.EachLaws.{each_length, each_reverse}
use Rattle.sound.specs.Firm.{Firm}
use Rattle.sound.proofs.Laws.PassageLaws.{has_step, first_held, ctx, here, tops, top_one, top_two, own_top, local_value, asks}

-- the locals that the machine has as written are those of the passage
pub written_now : (p : Program) (a : Job) (i : Instance) → i.written ≡ written_in p a i
written_now p (call a) i = refl

module _ {p : Program} (m : Machine) {a : Job} {l : ℕ} {i : Instance} (g : Passage p a m.instances l i) (now : i.written ≡ written_in p a i) where
  -- what commands ask is what they need
  asked : (n : Note) → Asks (ctx g) n (here g) → Needs p m l i n
  asked (n_push t v) a = tt
  asked n_this a = tt
  asked n_not a = let (x, χ, e, f, r) = top_one g bool a in (x, (χ, e), f)
  asked (n_if n) a = let (x, χ, e, f, r) = top_one g bool a in (x, (χ, e), f)
  asked (n_op o) a =
      let (t, u, k, h) = a in
      let (y, x, χ, e, f, f', r) = top_two g t t h in
      (x, y, (χ, e), t, u, k, f', f)
  asked (n_cons k) a =
      let (xs, χ, e, f, r) = tops g (reverse (params_of p k)) a in
      (reverse xs, (χ, rw (reverse-reverse xs) e), each_reverse (Fits m.instances) (params_of p k) xs f)
  asked (n_rd k v) a = let (x, χ, e, f, r) = top_one g (ref k) a.1 in (x, (χ, e), a.0, f)
  asked (n_wr k v) a = let (y, x, χ, e, f, f', r) = top_two g (ref k) (typ (ctx g) k v) a.1 in (x, y, (χ, e), a.0, f, f')
  asked (n_get t v) a =
      let (x, χ, e, f, r) = top_one g (ref i.struct) a.3 in
      let (w, q, o) = local_value g v a.2 in
      (x, (χ, e), (f.0, own_top g a.0 x χ e), (rw now a.2, w, q, rw a.1 o))
  asked (n_set true t v) a =
      let (y, x, χ, e, f, f', r) = top_two g (ref i.struct) t a.2 in
      (x, y, (χ, e), (f.0, own_top g a.0 y (x ∷ χ) e), f')
  asked (n_set false t v) a =
      let (y, x, χ, e, f, f', r) = top_two g (ref i.struct) t a.3 in
      let (w, q, o) = local_value g v a.2 in
      (x, y, (χ, e), (f.0, own_top g a.0 y (x ∷ χ) e), f', (rw now a.2, w, q, rw a.1 o))

module _ {p : Program} (firm : Firm p) (m : Machine) (r : Option Job) (l : ℕ) (i : Instance) where
  is_ready : Place p r m.instances l i → (c : List Note) → i.code ≡ c → NextReady p m l i c
  is_ready (resting e χ) [] q = tt
  is_ready (resting e χ) (n ∷ c) q = let z : ◌≡◌ {A = ℕ} 0 1 = cc in absurd (omega arith)
  is_ready (passing g h) [] q = tt
  is_ready (passing {a = a} g h) (n ∷ c) q =
      let (d, f, _) = first_held g q in asked m g (written_now p a i) n (asks g firm n d f)

  is_typed : (ξ : Env) → Fitted m.instances (params_of p i.struct) ξ → TypedParams p m l i ξ
  is_typed (env ps ls) f = f.0

  is_low : Place p r m.instances l i → length i.stack ≤ program_depth p
  is_low (resting e χ) = rw χ (omega arith)
  is_low (passing g h) =
      rw (each_length (Fits m.instances) g.place.stack i.stack g.stacked)
      (firm.low i.struct (has_step g).0 (has_step g).1 g.way)

-- a machine with the invariant is right, with the depth that the checker reports
pub good_right : {p : Program} → Firm p → {m : Machine} → Good p m → Right p (program_depth p) m
good_right firm {m} good = record {
  ready = λ l i at. is_ready firm m good.runs l i (good.all.each l i at).place i.code refl;
  typed = λ l i at. is_typed firm m good.runs l i i.env (good.all.each l i at).fitted;
  low = λ l i at. is_low firm m good.runs l i (good.all.each l i at).place;
}
