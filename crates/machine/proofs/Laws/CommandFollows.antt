-- What a command of the machine comes to, the published rules and conditions give (000, section 4; 01, numbers 34 and 35).
use Prim.Native.Nat.{ℕ, ◌<◌, ◌≤◌}
use Rattle.std.proofs.Math.Path.{◌≡◌, refl, ap, sym}
use Rattle.std.proofs.Common.{◌∙◌, arith, take-append-drop, length-take-le}
use Rattle.std.specs.Prelude.{◌⊎◌, not as negation, set, take}
use Rattle.std.proofs.Math.Logic.{inl, inr}
use Rattle.std.proofs.Math.Bool.{Bool, true, false}
use Rattle.std.proofs.Math.Option.{Option, none, some}
use mathlib.Core.List.{List, [], ◌∷◌, ◌++◌, map, map-append, reverse, reverse-reverse}
use Rattle.std.proofs.Math.ListN.{length, get_elem?, drop}
use Rattle.std.proofs.lemmas.List.{length-reverse}
use Rattle.std.proofs.Math.Seq.{drop_at}
use Rattle.std.proofs.Math.Dec.{ltb}
use borrow.Author.Tests.{ltb-true, ltb-false}
use Rattle.types.proofs.Laws.ListLaws.{map_drop}
use Rattle.types.specs.Types.{Ty.bool, Ty.ref}
use Rattle.types.specs.Values.{Val, Val.bool_val, Val.label}
use Rattle.program.specs.Tree.{Program}
use Rattle.commands.specs.Commands.{Com.push, Com.push_this, Com.rd, Com.wr, Com.cons, Com.not, Com.oper, Coms, Coms.nil, then, flatten}
use Rattle.commands.specs.Typing.{sort}
use Rattle.commands.specs.Noted.{Note, erase, now_written}
use Rattle.commands.proofs.Laws.CommandLaws.{flatten_then}
use Rattle.operators.specs.Apply.{same_val}
use Rattle.operators.proofs.Laws.ApplyLaws.{apply_value, apply_outside}
use Rattle.operators.proofs.Laws.TestLaws.{same_val_exact}
use Rattle.machine.specs.Published.{Sched, Env, lookup, assign, fresh_env, Inst, Inst.inst, State, State.state, update_env, arity}
use Rattle.machine.specs.Rules.{LeavesStable, LeavesStable.no_parameter, LeavesStable.same_value, LeavesStable.other_value, meet, Actor.instance, Rule}
use Rattle.machine.specs.Rules.{Rule.ComPush, Rule.ComPushThis, Rule.ComRd, Rule.ComWr, Rule.ComWrNSkip, Rule.ComNot, Rule.ComOp, Rule.ComCons}
use Rattle.machine.specs.Rules.{Rule.ComIfT, Rule.ComIfF}
use Rattle.machine.specs.Stops.{Full, Full.no_label, Exceeded, Exceeded.no_result, full, exceeded}
use Rattle.machine.specs.Machine.{Tagged, tagged, given_by, Instance, Machine, Out, Out.next, Out.refused, Out.stuck, with_code, with_written, acting}
use Rattle.machine.specs.Machine.{put, leaves_stable, made, command}
use Rattle.machine.specs.Represents.{values, RepresentsInst, Represents}
use Rattle.machine.proofs.Laws.RepresentsLaws.{inst_at, values_length, represents_length, represents_set, represents_env, represents_append}
use Rattle.machine.specs.Performed.{Performed, Performed.pushed, Performed.pushed_this, Performed.negated, Performed.read_one, Performed.skipped}
use Rattle.machine.specs.Performed.{Performed.wrote, Performed.calculated, Performed.exceeding, Performed.constructed, Performed.filled}
use Rattle.machine.specs.Performed.{Performed.branched, Performed.no_way}
use Rattle.machine.proofs.Laws.PerformedLaws.{by_ways}
use Rattle.machine.specs.Heads.{plain_head, if_head, reads_erase, writes_erase}
use Rattle.commands.specs.Tags.{result_type}

-- what an outcome says of the published state
abbrev pub Follows : Program → ℕ → State → Out → Type 0
Follows p l st (next m) = (st' : State) × (Rule p (instance l) st st') × (Represents m st')
Follows p l st (refused n) = ((n ≡ full) × (Full l st)) ⊎ ((n ≡ exceeded) × (Exceeded l st))
Follows p l st stuck = Unit {0}

module _ (p : Program) where
  -- the machine's answer, whether a write leaves stability as it is, is that of rule ComWr
  pub settles : (k v : ℕ) (ξ : Env) (x : Val) (o : Option Val) → lookup ξ v ≡ o → (v < arity p k → o ≡ none → ⊥)
      → LeavesStable p k v ξ x (leaves_stable p k v x o)
  unfolding leaves_stable
  settles k v ξ x none e h = no_parameter (go (ltb v (arity p k)) refl)
    where
      go : (t : Bool) → ltb v (arity p k) ≡ t → arity p k ≤ v
      go true a = absurd (h (ltb-true v (arity p k) a) refl)
      go false a = ltb-false v (arity p k) a
  settles k v ξ x (some y) e h = go (ltb v (arity p k)) refl (same_val y x) refl
    where
      go : (t : Bool) → ltb v (arity p k) ≡ t → (u : Bool) → same_val y x ≡ u
          → LeavesStable p k v ξ x (elim (ltb v (arity p k)) [ true ↦ same_val y x | false ↦ true ])
      go true a true b = rw (a, b) (same_value (ltb-true v (arity p k) a) (e ∙ ap {B = Option Val} some ((same_val_exact y x).0 b)))
      go true a false b = rw (a, b) (other_value (ltb-true v (arity p k) a) e (λ q. let z : ◌≡◌ {A = ℕ} 0 1 = cc ((same_val_exact y x).1 q) in omega arith))
      go false a u b = rw a (no_parameter (ltb-false v (arity p k) a))

-- the values on top and those beneath
parted : (n : ℕ) (χ : List Tagged) → values χ ≡ reverse (reverse (values (take n χ))) ++ values (drop n χ)
unfolding values
parted n χ = rw (reverse-reverse, ← map-append, take-append-drop)

module _ (p : Program) (m : Machine) (l : ℕ) (s : Sched) (σ : List Inst) (b : List Bool) (R : Represents m (state s σ b)) where
  -- instance l is put back
  put_follows : (i : Instance) (j : Inst) → Rule p (instance l) (state s σ b) (state s (set σ l j) b) → RepresentsInst i j
      → Follows p l (state s σ b) (next (put m l i))
  put_follows i j r h = (state s (set σ l j) b, r, (R.0, represents_set m.instances σ l i j R.1 h, R.2))

  -- each way through a command is a rule or a condition
  way_follows : (i : Instance) (r : List Note) (d : Coms) {n : Note} {o : Out} → Performed p m l i r n o → erase n ∷ map erase r ≡ flatten d
      → get_elem? σ l ≡ some (inst i.struct d (values i.stack) i.env) → Follows p l (state s σ b) o
  unfolding erase values flatten
  way_follows i r d (pushed {t = t} {v = v}) e g =
      let (c, f, h) = plain_head d (push t v) (map erase r) e in
      put_follows (with_code i r (tagged t v ∷ i.stack)) (inst i.struct c (v ∷ values i.stack) i.env)
      (ComPush {t = t} (rw f at g) refl)
      (refl, h, refl, refl)
  way_follows i r d pushed_this e g =
      let (c, f, h) = plain_head d push_this (map erase r) e in
      put_follows (with_code i r (tagged (ref i.struct) (label l) ∷ i.stack)) (inst i.struct c (label l ∷ values i.stack) i.env)
      (ComPushThis (rw f at g) refl)
      (refl, h, refl, refl)
  way_follows i r d (negated {b = u} {χ = χ} x) e g =
      let (c, f, h) = plain_head d not (map erase r) e in
      put_follows (with_code i r (tagged bool (bool_val (negation u)) ∷ χ)) (inst i.struct c (bool_val (negation u) ∷ values χ) i.env)
      (ComNot (rw (f, x) at g) refl)
      (refl, h, refl, refl)
  way_follows i r d (read_one {v = v} {q = q} {s = t} {χ = χ} {j = o} {x = y} k x j a) e g =
      let (c, f, h) = plain_head d (rd v) (map erase r) (rw (reads_erase k) at e) in
      put_follows (with_code i r (tagged (given_by p (t o.struct)) y ∷ χ)) (inst i.struct c (y ∷ values χ) i.env)
      (ComRd (rw (f, x) at g) (inst_at m.instances σ q R.1 j).1 a refl)
      (refl, h, refl, refl)
  way_follows i r d (skipped {v = v} {q = q} {χ = χ} k x j u a) e g =
      let (c, f, h) = plain_head d (wr v) (map erase r) (rw (writes_erase k) at e) in
      put_follows (with_code i r χ) (inst i.struct c (values χ) i.env)
      (ComWrNSkip (rw (f, x) at g) (inst_at m.instances σ q R.1 j).1 u a refl)
      (refl, h, refl, refl)
  way_follows i r d (wrote {v = v} {q = q} {y = y} {χ = χ} {j = a} k x j u w) e g =
      let (c, f, h) = plain_head d (wr v) (map erase r) (rw (writes_erase k) at e) in
      let z : Bool = leaves_stable p a.struct v y.is (lookup a.env v) in (
        state s (update_env (set σ l (inst i.struct c (values χ) i.env)) q (assign a.env v y.is)) (meet z b),
        ComWr (rw (f, x) at g) (inst_at m.instances σ q R.1 j).1 u (settles p a.struct v a.env y.is (lookup a.env v) refl w) refl refl,
        (
          R.0,
          represents_env _ _ q (represents_set m.instances σ l (with_code i r χ) (inst i.struct c (values χ) i.env) R.1 (refl, h, refl, refl)) refl,
          ap (meet z) R.2,
        ),
      )
  way_follows i r d (calculated {o = o} {x = x} {y = y} {χ = χ} {z = z} k a) e g =
      let (c, f, h) = plain_head d (oper o) (map erase r) e in
      put_follows (with_code i r (tagged (result_type (sort o) x.by) z ∷ χ)) (inst i.struct c (z ∷ values χ) i.env)
      (ComOp (rw (f, k) at g) ((apply_value o x.is y.is z).0 a) refl)
      (refl, h, refl, refl)
  way_follows i r d (exceeding {o = o} {x = x} {y = y} k a) e g =
      let (c, f, h) = plain_head d (oper o) (map erase r) e in inr (refl, no_result (rw (f, k) at g) ((apply_outside o x.is y.is).0 a))
  way_follows i r d (constructed {k = k} a u) e g =
      let (c, f, h) = plain_head d (cons k) (map erase r) e in
      let n : ℕ = arity p k in
      let q : length m.instances ≡ length σ = represents_length m.instances σ R.1 in
      let xs : List Val = reverse (values (take n i.stack)) in
      let j : Inst = inst i.struct c (label (length σ) ∷ values (drop n i.stack)) i.env in
      let i' : Instance = with_code i r (tagged (ref k) (label (length m.instances)) ∷ drop n i.stack) in (
        state s (set σ l j ++ inst k nil [] (fresh_env xs) ∷ []) (meet false b),
        ComCons xs (values (drop n i.stack)) (rw f at g) (rw (length-reverse, values_length) (length-take-le n i.stack a)) (parted n i.stack)
            (rw q at u) refl refl,
        (
          R.0,
          represents_append (set m.instances l i') (set σ l j) (made p m l i k n i.stack) (inst k nil [] (fresh_env xs))
              (represents_set m.instances σ l i' j R.1 (refl, h, rw q, refl))
              (refl, refl, refl, refl),
          ap (meet false) R.2,
        ),
      )
  way_follows i r d (filled {k = k} u) e g =
      let (c, f, h) = plain_head d (cons k) (map erase r) e in
      inl (refl, no_label (rw f at g) (rw (represents_length m.instances σ R.1) at u))
  way_follows i r d (branched {n = n} {b = true} {χ = χ} x) e g =
      let (a, c, f, h, k) = if_head d n (map erase r) e in
      put_follows (with_code i r χ) (inst i.struct (then a c) (values χ) i.env) (ComIfT (rw (f, x) at g) refl)
      (refl, k ∙ sym (flatten_then a c), refl, refl)
  way_follows i r d (branched {n = n} {b = false} {χ = χ} x) e g =
      let (a, c, f, h, k) = if_head d n (map erase r) e in
      put_follows (with_code i (drop n r) χ) (inst i.struct c (values χ) i.env) (ComIfF (rw (f, x) at g) refl)
      (refl, map_drop erase n r ∙ ap (drop n) k ∙ drop_at (flatten a) (flatten c) n (sym h), refl, refl)
  way_follows i r d no_way e g = tt

module _ (p : Program) (m : Machine) (l : ℕ) (s : Sched) (σ : List Inst) (b : List Bool) (R : Represents m (state s σ b)) where
  -- what the command of instance l comes to follows the rules
  pub command_outcome : Follows p l (state s σ b) (command p l m)
  command_outcome =
      by_ways (Follows p l (state s σ b)) p m l tt
      λ i n r o g e h. let (d, f, k) = inst_at m.instances σ l R.1 g in
      way_follows p (acting l m) l s σ b R (with_written i (now_written n i.written)) r d h (sym (ap (map erase) e) ∙ k) f
