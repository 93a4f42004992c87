-- What a published rule or condition gives, the command of the machine comes to (000, section 4; 01, numbers 34 and 35).
use Rattle.std.specs.Prelude.{ℕ, ◌<◌, ◌≤◌, ◌≡◌, Bool, not as negation, set, take}
use Rattle.std.proofs.Math.Path.{refl, ap, ap₂, sym, subst}
use Rattle.std.proofs.Common.{◌∙◌, subst₂, drop_at}
use Rattle.std.proofs.Math.Bool.{true, false}
use Rattle.std.proofs.Math.Option.{Option, none, some}
use mathlib.Core.List.{List, [], ◌∷◌, ◌++◌, map, reverse, reverse-reverse}
use native.Mathlib.Omega.{arith}
use Rattle.std.proofs.Math.ListN.{length, get_elem?, drop, length-append, length-reverse}
use Rattle.std.proofs.Math.Seq.{take_at, drop-append_seam}
use Rattle.std.proofs.Math.Dec.{ltb}
use borrow.Author.Tests.{ltb-true, lt-ltb, le-ltb, le-leb}
use Rattle.types.proofs.Laws.ListLaws.{map_drop, map_take}
use Rattle.types.specs.Limits.{max_instances}
use Rattle.types.specs.Types.{Ty, Ty.bool, Ty.ref}
use Rattle.types.specs.Values.{Val, Val.bool_val, Val.label}
use Rattle.program.specs.Tree.{Op, Program}
use Rattle.commands.specs.Commands.{Com.push, Com.push_this, Com.rd, Com.wr, Com.cons, Com.not, Com.oper, Coms, Coms.nil, then, Flat, Flat.plain, Flat.if_n}
use Rattle.commands.specs.Commands.{flatten}
use Rattle.commands.specs.Noted.{Note, erase, now_written}
use Rattle.commands.proofs.Laws.CommandLaws.{flatten_then}
use Rattle.operators.specs.Operators.{Applies, Exceeds}
use Rattle.operators.specs.Apply.{Answer, apply, same_val}
use Rattle.operators.proofs.Laws.ApplyLaws.{apply_value, apply_outside}
use Rattle.operators.proofs.Laws.TestLaws.{same_val_exact}
use Rattle.machine.specs.Published.{Sched, Env, lookup, assign, fresh_env, Inst, Inst.inst, State, State.state, update_env, structs, arity}
use Rattle.machine.specs.Rules.{LeavesStable, LeavesStable.no_parameter, LeavesStable.same_value, LeavesStable.other_value, meet, Actor.instance, Rule}
use Rattle.machine.specs.Rules.{Rule.ComPush, Rule.ComPushThis, Rule.ComRd, Rule.ComWr, Rule.ComWrNSkip, Rule.ComNot, Rule.ComOp, Rule.ComCons}
use Rattle.machine.specs.Rules.{Rule.ComIfT, Rule.ComIfF}
use Rattle.machine.specs.Stops.{Full, Full.no_label, Exceeded, Exceeded.no_result, full, exceeded}
use Rattle.machine.specs.Machine.{Tagged, tagged, Source, Source.variable, Source.local, Source.result, given_by, Instance, Machine, Out, Out.next}
use Rattle.machine.specs.Machine.{Out.refused, Out.stuck, with_code, with_written, acting, put, leaves_stable, read_from, read_at, read, write_to}
use Rattle.machine.specs.Machine.{write_parameter, write_at, write, negate, branch, operated, operate, made, construct, perform, command}
use Rattle.machine.specs.Represents.{values, RepresentsInst, Represents}
use Rattle.machine.proofs.Laws.RepresentsLaws.{instance_at, values_length, top, represents_length, represents_set, represents_env}
use Rattle.machine.proofs.Laws.RepresentsLaws.{represents_append}
use Rattle.machine.proofs.Laws.PerformedLaws.{performs}
use Rattle.machine.specs.Heads.{Means, Means.m_push, Means.m_this, Means.m_not, Means.m_rd, Means.m_get, Means.m_wr, Means.m_set, Means.m_cons}
use Rattle.machine.specs.Heads.{Means.m_op, Means.m_if, next_note}

-- a machine comes to be that stands for this state
abbrev pub Leads : State → Out → Type 0
Leads st (next m) = Represents m st
Leads st (refused n) = ⊥
Leads st stuck = ⊥

module _ (p : Program) where
  -- the answer of rule ComWr, whether a write leaves stability as it is, is the machine's
  pub settled_is : {k v : ℕ} {ξ : Env} {x : Val} {u : Bool} → LeavesStable p k v ξ x u → leaves_stable p k v x (lookup ξ v) ≡ u
  unfolding leaves_stable
  settled_is {k} {v} {ξ} {x} (no_parameter h) = go (lookup ξ v)
    where
      go : (o : Option Val) → leaves_stable p k v x o ≡ true
      go none = refl
      go (some y) = rw (le-ltb v (arity p k) h, leaves_stable)
  settled_is {k} {v} {ξ} {x} (same_value h e) = rw (e, leaves_stable, lt-ltb v (arity p k) h) ((same_val_exact x x).1 refl)
  settled_is {k} {v} {ξ} {x} (other_value {y = y} h e n) = rw (e, leaves_stable, lt-ltb v (arity p k) h) (go (same_val y x) refl)
    where
      go : (t : Bool) → same_val y x ≡ t → t ≡ false
      go true f = absurd (n ((same_val_exact y x).0 f))
      go false f = refl

-- a parameter that a write settles has a value
has_value : (p : Program) {k v : ℕ} {ξ : Env} {x : Val} {u : Bool} → LeavesStable p k v ξ x u → v < arity p k → (z : Val) × (lookup ξ v ≡ some z)
has_value p {x = x} (no_parameter h) a = (x, absurd (omega arith))
has_value p {x = x} (same_value h e) a = (x, e)
has_value p (other_value {y = y} h e n) a = (y, e)

module _ (p : Program) (m : Machine) (l : ℕ) (s : Sched) (σ : List Inst) (b : List Bool) (R : Represents m (state s σ b)) where
  -- instance l is put back
  put_leads : (i : Instance) (j : Inst) → RepresentsInst i j → Leads (state s (set σ l j) b) (next (put m l i))
  put_leads i j h = (R.0, represents_set m.instances σ l i j R.1 h, R.2)

  module _ (i : Instance) (r : List Note) (c : Coms) {k : ℕ} {ξ : Env} (ek : i.struct ≡ k) (ec : map erase r ≡ flatten c) (eξ : i.env ≡ ξ) where
    push_leads : {t : Ty} {v : Val} {n : Note} {χ : List Val} → values i.stack ≡ χ → Means (plain (push t v)) n
        → Leads (state s (set σ l (inst k c (v ∷ χ) ξ)) b) (perform p m l i n r)
    unfolding perform values
    push_leads {v = v} e (m_push {t = t}) = put_leads (with_code i r (tagged t v ∷ i.stack)) (inst k c (v ∷ _) ξ) (ek, ec, cc, eξ)

    this_leads : {n : Note} {χ : List Val} → values i.stack ≡ χ → Means (plain push_this) n
        → Leads (state s (set σ l (inst k c (label l ∷ χ) ξ)) b) (perform p m l i n r)
    unfolding perform values
    this_leads e m_this = put_leads (with_code i r (tagged (ref i.struct) (label l) ∷ i.stack)) (inst k c (label l ∷ _) ξ) (ek, ec, cc, eξ)

    not_leads : {n : Note} {χ : List Val} {u : Bool} → values i.stack ≡ bool_val u ∷ χ → Means (plain not) n
        → Leads (state s (set σ l (inst k c (bool_val (negation u) ∷ χ) ξ)) b) (perform p m l i n r)
    unfolding perform negate values
    not_leads {χ = χ} {u = u} e m_not =
        top (λ ψ. Leads (state s (set σ l (inst k c (bool_val (negation u) ∷ χ) ξ)) b) (negate p m l i r ψ)) i.stack e
        λ t χ' f. put_leads (with_code i r (tagged bool (bool_val (negation u)) ∷ χ')) (inst k c (bool_val (negation u) ∷ χ) ξ) (ek, ec, cc, eξ)

    -- rd
    module _ (v : ℕ) {q j : ℕ} {d : Coms} {ψ χ : List Val} {η : Env} {y : Val} (e : values i.stack ≡ label q ∷ χ)
        (g : get_elem? σ q ≡ some (inst j d ψ η)) (h : lookup η v ≡ some y) where
      read_leads : (f : ℕ → Source) → Leads (state s (set σ l (inst k c (y ∷ χ) ξ)) b) (read p m l i r i.stack v f)
      unfolding read read_at read_from values
      read_leads t =
          let (a, f, (ea, ed, ex, eη)) = instance_at m.instances σ q R.1 g in
          top (λ ψ. Leads (state s (set σ l (inst k c (y ∷ χ) ξ)) b) (read p m l i r ψ v t)) i.stack e
          λ u χ' f'. subst (λ o. Leads (state s (set σ l (inst k c (y ∷ χ) ξ)) b) (read_at p m l i r χ' v t o)) (sym f)
          (subst (λ o. Leads (state s (set σ l (inst k c (y ∷ χ) ξ)) b) (read_from p m l i r χ' (t a.struct) o)) (sym (ap (λ z. lookup z v) eη ∙ h))
          (put_leads (with_code i r (tagged (given_by p (t a.struct)) y ∷ χ')) (inst k c (y ∷ χ) ξ) (ek, ec, cc, eξ)))

      rd_leads : {n : Note} → Means (plain (rd v)) n → Leads (state s (set σ l (inst k c (y ∷ χ) ξ)) b) (perform p m l i n r)
      unfolding perform
      rd_leads m_rd = read_leads (λ j. variable j v)
      rd_leads (m_get {t = t} f) = rw f (read_leads (λ j. local t))

    -- wr
    module _ (v : ℕ) {q j : ℕ} {d : Coms} {ψ χ : List Val} {η : Env} {y : Val} (e : values i.stack ≡ label q ∷ y ∷ χ)
        (g : get_elem? σ q ≡ some (inst j d ψ η)) where
      -- what holds of writing to the instance found holds of the command
      written_at : (P : Out → Type 0) {n : Note} → Means (plain (wr v)) n
          → ((a : Instance) (χ' : List Tagged) → a.struct ≡ j → a.env ≡ η → values χ' ≡ χ → P (write_at p m l i r χ' v y q (some a)))
          → P (perform p m l i n r)
      unfolding perform write values
      written_at P h t =
          let (a, f, (ea, ed, ex, eη)) = instance_at m.instances σ q R.1 g in
          by_note h
          (top (λ ψ. P (write p m l i r ψ v)) i.stack e
          λ u χ' f'. top (λ ψ. P (write p m l i r (tagged u (label q) ∷ ψ) v)) χ' f'
          λ w χ'' f''. subst (λ o. P (write_at p m l i r χ'' v y q o)) (sym f) (t a χ'' ea eη f''))
        where
          by_note : {n : Note} → Means (plain (wr v)) n → P (write p m l i r i.stack v) → P (perform p m l i n r)
          by_note m_wr w = w
          by_note (m_set f) w = rw f w

      skip_leads : {n : Note} → q < structs p → v < arity p j → Means (plain (wr v)) n
          → Leads (state s (set σ l (inst k c χ ξ)) b) (perform p m l i n r)
      unfolding write_at
      skip_leads hq hv h =
          written_at (Leads (state s (set σ l (inst k c χ ξ)) b)) h
          λ a χ' ea eη ex. rw (lt-ltb v (arity p a.struct) (rw ea hv), lt-ltb q (structs p) hq, write_at)
          (put_leads (with_code i r χ') (inst k c χ ξ) (ek, ec, ex, eξ))

      -- y written to the instance a
      module _ {su : Bool} (w : q < structs p → v < arity p j → ⊥) (u : LeavesStable p j v η y su) (a : Instance) (χ' : List Tagged) (ea : a.struct ≡ j)
          (eη : a.env ≡ η) (ex : values χ' ≡ χ) where
        abbrev Wrote : Out → Type 0
        Wrote o = Leads (state s (update_env (set σ l (inst k c χ ξ)) q (assign η v y)) (meet su b)) o

        settled_there : LeavesStable p a.struct v a.env y su
        settled_there = subst₂ (λ k ξ. LeavesStable p k v ξ y su) (sym ea) (sym eη) u

        to_leads : Wrote (write_to p m l i r χ' v y q a)
        unfolding write_to
        to_leads = (
          R.0,
          represents_env _ _ q (represents_set m.instances σ l (with_code i r χ') (inst k c χ ξ) R.1 (ek, ec, ex, eξ)) (ap (λ z. assign z v y) eη),
          ap₂ meet (settled_is p settled_there) R.2,
        )

        parameter_leads : v < arity p a.struct → Wrote (write_parameter p m l i r χ' v y q a (lookup a.env v))
        unfolding write_parameter
        parameter_leads h = subst (λ o. Wrote (write_parameter p m l i r χ' v y q a o)) (sym (has_value p settled_there h).1) to_leads

        at_leads : Wrote (write_at p m l i r χ' v y q (some a))
        unfolding write_at
        at_leads = go (ltb v (arity p a.struct)) refl (ltb q (structs p)) refl
          where
            go : (t : Bool) → ltb v (arity p a.struct) ≡ t → (o : Bool) → ltb q (structs p) ≡ o → Wrote (write_at p m l i r χ' v y q (some a))
            go true f true g = absurd (w (ltb-true q (structs p) g) (rw ea at (ltb-true v (arity p a.struct) f)))
            go true f false g = rw (f, g, write_at) (parameter_leads (ltb-true v (arity p a.struct) f))
            go false f o g = rw (f, write_at) to_leads

      wr_leads : {n : Note} {su : Bool} → (q < structs p → v < arity p j → ⊥) → LeavesStable p j v η y su → Means (plain (wr v)) n
          → Leads (state s (update_env (set σ l (inst k c χ ξ)) q (assign η v y)) (meet su b)) (perform p m l i n r)
      wr_leads {su = su} w u h = written_at (Leads (state s (update_env (set σ l (inst k c χ ξ)) q (assign η v y)) (meet su b))) h (at_leads w u)

    -- op: what holds of the answer holds of the command
    answered : (P : Out → Type 0) {o : Op} {x y : Val} {n : Note} {χ : List Val} {a : Answer} → values i.stack ≡ y ∷ x ∷ χ → apply o x y ≡ a
        → Means (plain (oper o)) n
        → ((s : Source) (χ' : List Tagged) → values χ' ≡ χ → P (operated p m l i r χ' s a)) → P (perform p m l i n r)
    unfolding perform operate
    answered P {x = x} {y = y} e h (m_op {o = o}) t =
        top (λ ψ. P (operate p m l i o r ψ)) i.stack e
        λ u χ' f'. top (λ ψ. P (operate p m l i o r (tagged u y ∷ ψ))) χ' f'
        λ w χ'' f''. subst (λ z. P (operated p m l i r χ'' (result o w) z)) (sym h) (t (result o w) χ'' f'')

    op_leads : {o : Op} {x y z : Val} {n : Note} {χ : List Val} → values i.stack ≡ y ∷ x ∷ χ → Applies o x y z → Means (plain (oper o)) n
        → Leads (state s (set σ l (inst k c (z ∷ χ) ξ)) b) (perform p m l i n r)
    unfolding operated values
    op_leads {o} {x} {y} {z} {χ = χ} e h t =
        answered (Leads (state s (set σ l (inst k c (z ∷ χ) ξ)) b)) e ((apply_value o x y z).1 h) t
        λ u χ' f. put_leads (with_code i r (tagged (given_by p u) z ∷ χ')) (inst k c (z ∷ χ) ξ) (ek, ec, cc, eξ)

    cons_leads : {j : ℕ} {n : Note} (xs χ : List Val) → values i.stack ≡ reverse xs ++ χ → length xs ≡ arity p j → length σ < max_instances
        → Means (plain (cons j)) n
        → Leads (state s (set σ l (inst k c (label (length σ) ∷ χ) ξ) ++ inst j nil [] (fresh_env xs) ∷ []) (meet false b)) (perform p m l i n r)
    unfolding perform construct values flatten
    cons_leads xs χ e f h (m_cons {k = j}) =
        let a : length (reverse xs) ≡ arity p j = length-reverse xs ∙ f in
        let d : arity p j ≤ length i.stack = omega (arith, a, ap length e, values_length i.stack, length-append (reverse xs) χ) in
        let q : length m.instances ≡ length σ = represents_length m.instances σ R.1 in
        let t : length m.instances < max_instances = omega arith in
        let i' : Instance = with_code i r (tagged (ref j) (label (length m.instances)) ∷ drop (arity p j) i.stack) in
        let v : values (drop (arity p j) i.stack) ≡ χ = rw (map_drop (λ (x : Tagged). x.is), e) (drop_at (reverse xs) χ (arity p j) a) in
        let w : reverse (values (take (arity p j) i.stack)) ≡ xs = rw (map_take (λ (x : Tagged). x.is), e, take_at (reverse xs) χ (arity p j) a)
        (reverse-reverse xs) in
        rw (lt-ltb (length m.instances) max_instances t, le-leb (arity p j) (length i.stack) d, construct) (
          R.0,
          represents_append (set m.instances l i') (set σ l (inst k c (label (length σ) ∷ χ) ξ)) (made p m l i j (arity p j) i.stack)
              (inst j nil [] (fresh_env xs))
              (represents_set m.instances σ l i' (inst k c (label (length σ) ∷ χ) ξ) R.1 (ek, ec, rw (q, v), eξ))
              (refl, refl, refl, ap fresh_env w),
          ap (meet false) R.2,
        )

    -- 34 and 35
    full_is : {j : ℕ} {n : Note} → max_instances ≤ length σ → Means (plain (cons j)) n → perform p m l i n r ≡ refused full
    unfolding perform construct
    full_is h m_cons =
        let t : max_instances ≤ length m.instances = omega (arith, represents_length m.instances σ R.1) in
        rw (le-ltb (length m.instances) max_instances t, construct)

    exceeded_is : {o : Op} {x y : Val} {n : Note} {χ : List Val} → values i.stack ≡ y ∷ x ∷ χ → Exceeds o x y → Means (plain (oper o)) n
        → perform p m l i n r ≡ refused exceeded
    unfolding operated
    exceeded_is {o} {x} {y} e h t = answered (λ out. out ≡ refused exceeded) e ((apply_outside o x y).1 h) t (λ u χ' f. refl)

  -- if
  branch_leads : (i : Instance) (r : List Note) (d c : Coms) {k : ℕ} {ξ : Env} {χ : List Val} {n : Note} (u : Bool)
      → i.struct ≡ k → map erase r ≡ flatten d ++ flatten c → values i.stack ≡ bool_val u ∷ χ → i.env ≡ ξ → Means (if_n (length (flatten d))) n
      → Leads (state s (set σ l (inst k (elim u [ true ↦ then d c | false ↦ c ]) χ ξ)) b) (perform p m l i n r)
  unfolding perform branch
  branch_leads i r d c {k} {ξ} {χ} true ek ec ex eξ m_if =
      top (λ ψ. Leads (state s (set σ l (inst k (then d c) χ ξ)) b) (branch p m l i (length (flatten d)) r ψ)) i.stack ex
      λ t χ' f. put_leads (with_code i r χ') (inst k (then d c) χ ξ) (ek, ec ∙ sym (flatten_then d c), f, eξ)
  branch_leads i r d c {k} {ξ} {χ} false ek ec ex eξ m_if =
      top (λ ψ. Leads (state s (set σ l (inst k c χ ξ)) b) (branch p m l i (length (flatten d)) r ψ)) i.stack ex
      λ t χ' f. put_leads (with_code i (drop (length (flatten d)) r) χ') (inst k c χ ξ)
      (ek, rw (map_drop erase, ec) (drop-append_seam (flatten d) (flatten c)), f, eξ)

-- Of a command, by which counting goes on after its actor
module _ (p : Program) (m : Machine) (l : ℕ) (s : Sched) (σ : List Inst) (b : List Bool) (R : Represents m (state s σ b)) where
  -- what holds of performing the next command of instance l holds of the command
  taken : (P : Out → Type 0) {k : ℕ} {c : Coms} {χ : List Val} {ξ : Env} {f : Flat} {fs : List Flat}
      → get_elem? σ l ≡ some (inst k c χ ξ) → flatten c ≡ f ∷ fs
      → ((i : Instance) (n : Note) (r : List Note) → i.struct ≡ k → map erase r ≡ fs → values i.stack ≡ χ → i.env ≡ ξ → Means f n
      → P (perform p (acting l m) l i n r))
      → P (command p l m)
  taken P g e h =
      let (i, f, (a, c, x, y)) = instance_at m.instances σ l R.1 g in
      let (n, r, q, k, t) = next_note i.code (c ∙ e) in
      performs P p m l f q (h (with_written i (now_written n i.written)) n r a t x y k)

  leads : (st : State) {k : ℕ} {c : Coms} {χ : List Val} {ξ : Env} {f : Flat} {fs : List Flat}
      → get_elem? σ l ≡ some (inst k c χ ξ) → flatten c ≡ f ∷ fs
      → ((i : Instance) (n : Note) (r : List Note) → i.struct ≡ k → map erase r ≡ fs → values i.stack ≡ χ → i.env ≡ ξ → Means f n
      → Leads st (perform p (acting l m) l i n r))
      → Leads st (command p l m)
  leads st = taken (Leads st)

  -- a rule for instance l gives what its command comes to
  pub rule_leads : {st : State} → Rule p (instance l) (state s σ b) st → Leads st (command p l m)
  unfolding flatten
  rule_leads (ComPush {k = k} {v = v} {c = c} {χ = χ} {ξ = ξ} g e) = rw e (leads (state s (set σ l (inst k c (v ∷ χ) ξ)) b) g refl (λ i n r ek ec ex eξ h. push_leads p (acting l m) l s σ b R i r c ek ec eξ ex h))
  rule_leads (ComPushThis {k = k} {c = c} {χ = χ} {ξ = ξ} g e) = rw e (leads (state s (set σ l (inst k c (label l ∷ χ) ξ)) b) g refl (λ i n r ek ec ex eξ h. this_leads p (acting l m) l s σ b R i r c ek ec eξ ex h))
  rule_leads (ComRd {k = k} {v = v} {c = c} {χ = χ} {ξ = ξ} {x = x} g f y e) = rw e (leads (state s (set σ l (inst k c (x ∷ χ) ξ)) b) g refl (λ i n r ek ec ex eξ h. rd_leads p (acting l m) l s σ b R i r c ek ec eξ v ex f y h))
  rule_leads (ComWr {m = q} {k = k} {v = v} {c = c} {χ = χ} {ξ = ξ} {η = η} {x = x} {su = su} g f w u e e') =
      rw (e, e') (leads (state s (update_env (set σ l (inst k c χ ξ)) q (assign η v x)) (meet su b)) g refl (λ i n r ek ec ex eξ h. wr_leads p (acting l m) l s σ b R i r c ek ec eξ v ex f w u h))
  rule_leads (ComWrNSkip {k = k} {v = v} {c = c} {χ = χ} {ξ = ξ} g f a d e) =
      rw e (leads (state s (set σ l (inst k c χ ξ)) b) g refl (λ i n r ek ec ex eξ h. skip_leads p (acting l m) l s σ b R i r c ek ec eξ v ex f a d h))
  rule_leads (ComNot {k = k} {c = c} {χ = χ} {ξ = ξ} {t = t} g e) = rw e (leads (state s (set σ l (inst k c (bool_val (negation t) ∷ χ) ξ)) b) g refl (λ i n r ek ec ex eξ h. not_leads p (acting l m) l s σ b R i r c ek ec eξ ex h))
  rule_leads (ComOp {k = k} {c = c} {χ = χ} {ξ = ξ} {z = z} g a e) = rw e (leads (state s (set σ l (inst k c (z ∷ χ) ξ)) b) g refl (λ i n r ek ec ex eξ h. op_leads p (acting l m) l s σ b R i r c ek ec eξ ex a h))
  rule_leads (ComCons {k = k} {j = j} {c = c} {ξ = ξ} xs χ g a f t e e') =
      rw (e, e') (leads (state s (set σ l (inst k c (label (length σ) ∷ χ) ξ) ++ inst j nil [] (fresh_env xs) ∷ []) (meet false b)) g refl (λ i n r ek ec ex eξ h. cons_leads p (acting l m) l s σ b R i r c ek ec eξ xs χ (ex ∙ f) a t h))
  rule_leads (ComIfT {k = k} {c = c} {d = d} {χ = χ} {ξ = ξ} g e) = rw e (leads (state s (set σ l (inst k (then d c) χ ξ)) b) g refl (λ i n r ek ec ex eξ h. branch_leads p (acting l m) l s σ b R i r d c true ek ec ex eξ h))
  rule_leads (ComIfF {k = k} {c = c} {d = d} {χ = χ} {ξ = ξ} g e) = rw e (leads (state s (set σ l (inst k c χ ξ)) b) g refl (λ i n r ek ec ex eξ h. branch_leads p (acting l m) l s σ b R i r d c false ek ec ex eξ h))

  -- cons with 256 instances is refused with 34
  pub full_refused : Full l (state s σ b) → command p l m ≡ refused full
  unfolding flatten
  full_refused (no_label {c = c} g f) = taken (λ o. o ≡ refused full) g refl (λ i n r ek ec ex eξ h. full_is p (acting l m) l s σ b R i r c ek ec eξ f h)

  -- a zero divisor, or a result outside its type, is refused with 35
  pub exceeded_refused : Exceeded l (state s σ b) → command p l m ≡ refused exceeded
  unfolding flatten
  exceeded_refused (no_result {c = c} g a) =
      taken (λ o. o ≡ refused exceeded) g refl (λ i n r ek ec ex eξ h. exceeded_is p (acting l m) l s σ b R i r c ek ec eξ ex a h)
