-- Steps by plans are the machine's commands.
use Prim.Native.Nat.{ℕ, zero, suc, ◌+◌, ◌<◌, ◌≤◌}
use Rattle.std.proofs.Common.{arith, sym, ◌∙◌, lt-ltb, le-ltb}
use Rattle.std.specs.Prelude.{◌≡◌, Bool, not, set}
use Rattle.std.proofs.Math.Path.{refl, ap}
use Rattle.std.proofs.Math.Bool.{true, false}
use Rattle.std.proofs.Math.Option.{Option, none, some}
use mathlib.Core.List.{List, [], ◌∷◌}
use Rattle.std.proofs.Math.ListN.{get_or, get_elem?, drop}
use Rattle.types.specs.Limits.{first_local}
use Rattle.types.specs.Types.{Ty, Ty.int, Ty.bool, Ty.ref}
use Rattle.types.specs.Values.{Val, Val.bool_val, Val.label}
use Rattle.program.specs.Tree.{Program}
use Rattle.commands.specs.Context.{params_of}
use Rattle.commands.specs.Typing.{sort}
use Rattle.commands.specs.Tags.{result_type}
use Rattle.commands.specs.Noted.{Note, Note.n_push, Note.n_this, Note.n_not, Note.n_rd, Note.n_wr, Note.n_get, Note.n_set, Note.n_op, Note.n_if, now_written}
use Rattle.machine.specs.Published.{Env, lookup, assign, structs, arity}
use Rattle.machine.specs.Rules.{meet}
use Rattle.machine.specs.Machine.{Tagged, tagged, Instance, Machine, Out, Out.next, with_code, with_written, with_env, update_env, with_instances}
use Rattle.machine.specs.Machine.{with_stability}
use Rattle.machine.specs.Machine.{put, leaves_stable, write_to, operated}
use Rattle.machine.specs.Machine.{perform, command, acting, Source.variable, Source.local, Source.result}
use Rattle.machine.proofs.Laws.PerformedLaws.{performs}
use Rattle.sound.specs.Firm.{Firm}
use Rattle.sound.proofs.Laws.Keeps.{env_set}
use Rattle.sound.proofs.Laws.Outcomes.{negated, branched, operates, has_read, leaves_null, writes_param, writes_local}
use Rattle.std.proofs.Math.Decide.{ℕ_discrete}
use Rattle.sound.proofs.Laws.ElemLaws.{none_some, some_is}
use Rattle.orders.specs.Deeds.{Deed}
use Rattle.orders.proofs.Laws.Alter.{alter, set_alter, at_alter_same, at_alter_other}
use Rattle.orders.proofs.Laws.Plans.{Local.no_local, Local.a_local, Own, own, localized, owned, store, Plan, Plan.keeps, Plan.stores, applied, Plans}
use Rattle.orders.proofs.Laws.Plans.{Plans.p_push, Plans.p_this, Plans.p_not, Plans.p_if, Plans.p_op, Plans.p_rd, Plans.p_get, Plans.p_set, Plans.p_skip}
use Rattle.orders.proofs.Laws.Plans.{Plans.p_wr}
use Rattle.orders.proofs.Laws.Swap.{Step}

module _ (p : Program) (m₀ : Machine) (l : ℕ) (i : Instance) (at : get_elem? m₀.instances l ≡ some i) where
  -- the machine with its counting after l
  abbrev m : Machine
  m = acting l m₀

  -- a command that leaves the instance with its own change alone
  quiet : (n : Note) (c : List Note) (o : Own) → i.code ≡ n ∷ c
      → perform p m l (with_written i (now_written n i.written)) n c ≡ next (put m l (owned o i))
      → command p l m₀ ≡ next (applied m l (keeps o))
  quiet n c o e h =
      performs (λ x. x ≡ next (applied m l (keeps o))) p m₀ l at e
      (h ∙ ap (λ x. next (with_instances m x)) (set_alter m.instances l (owned o) i at))

  -- the instance as it takes its command, and the same with these locals written
  abbrev acting_now : Instance
  acting_now = with_written i i.written

  leaving : (c : List Note) (χ : List Tagged) {w : List ℕ} → i.written ≡ w
      → next (put m l (with_code acting_now c χ)) ≡ next (put m l (owned (own c χ w no_local) i))
  unfolding localized
  leaving c χ u = ap (λ y. next (put m l (with_code (with_written i y) c χ))) u

  -- a write of a local leaves every entry
  leaves_stable_local : (k v : ℕ) (x : Val) (o : Option Val) → arity p k ≤ v → leaves_stable p k v x o ≡ true
  unfolding leaves_stable
  leaves_stable_local k v x none h = refl
  leaves_stable_local k v x (some y) h = rw (le-ltb v (arity p k) h, leaves_stable)

  -- the machine with these instances, and its entries met with a truth
  abbrev changed : List Instance → Bool → Out
  changed is e = next (with_stability (with_instances m is) (meet e m.stability))

  -- the actor left as j, and then instance q with the environment ξ
  abbrev wrote : ℕ → Env → Instance → Bool → Out
  wrote q ξ j e = changed (update_env (set m.instances l j) q ξ) e

  setting : (d : Bool) (t u : Ty) (x : ℕ) (y : Tagged) (c : List Note) (χ : List Tagged) (w : List ℕ) → i.code ≡ n_set d t x ∷ c
      → i.stack ≡ tagged u (label l) ∷ y ∷ χ → i.written ≡ w → arity p i.struct ≤ first_local
      → command p l m₀ ≡ next (applied m l (keeps (own c χ (now_written (n_set d t x) w) (a_local x y.is))))
  unfolding perform localized write_to meet
  setting d t u x y c χ w a s k h =
      let b = with_written i (now_written (n_set d t x) i.written) in
      let v = first_local + x in
      let h' : arity p i.struct ≤ v = omega (arith, h) in
      let ξ = assign i.env v y.is in
      quiet (n_set d t x) c (own c χ (now_written (n_set d t x) w) (a_local x y.is)) a
      (writes_local p m l b c v s at (le-ltb v (arity p i.struct) h')
      ∙ ap (λ z. wrote l ξ (with_code b c χ) z) (leaves_stable_local i.struct v y.is (lookup i.env v) h')
      ∙ ap (λ z. next (with_instances m z)) (env_set m.instances l ξ (with_code b c χ))
      ∙ ap (λ z. next (put m l (with_env (with_code (with_written i (now_written (n_set d t x) z)) c χ) ξ))) k)

  -- an environment changed by a store
  env_alter : (js : List Instance) (q v : ℕ) (x : Val) (ξ : Env) (j : Instance) → get_elem? js q ≡ some j → assign j.env v x ≡ ξ
      → update_env js q ξ ≡ alter js q (store v x)
  unfolding update_env
  env_alter [] q v x ξ j g e = none_some g
  env_alter (n ∷ js) zero v x ξ j g e = ap {B = List Instance} (λ y. with_env n y ∷ js) (sym e ∙ ap (λ y. assign y.env v x) (sym (some_is g)))
  env_alter (n ∷ js) (suc q) v x ξ j g e = ap {B = List Instance} (λ y. n ∷ y) (env_alter js q v x ξ j g e)

  -- the target as it is after the actor's own change
  target : (o : Own) → o.kept ≡ no_local → (q : ℕ) (j : Instance) → get_elem? m.instances q ≡ some j
      → (n : Instance) × (get_elem? (alter m.instances l (owned o)) q ≡ some n) × (n.env ≡ j.env)
  unfolding localized
  target o e q j g = go (ℕ_discrete q l)
    where
      go : Dec (q ≡ l) → (n : Instance) × (get_elem? (alter m.instances l (owned o)) q ≡ some n) × (n.env ≡ j.env)
      go (yes h) = (
        owned o i,
        rw h (at_alter_same m.instances l (owned o) i at),
        ap (λ k. localized k i.env) e ∙ ap (λ n. n.env) (some_is (sym at ∙ rw h at g)),
      )
      go (no h) = (j, at_alter_other m.instances l q (owned o) h ∙ g, refl)

  storing : (k v q : ℕ) (u : Ty) (y : Tagged) (z : Val) (su : Bool) (j : Instance) (c : List Note) (χ : List Tagged) (w : List ℕ)
      → i.code ≡ n_wr k v ∷ c → i.stack ≡ tagged u (label q) ∷ y ∷ χ → i.written ≡ w → get_elem? m.instances q ≡ some j
      → structs p ≤ q → v < arity p j.struct → lookup j.env v ≡ some z → leaves_stable p j.struct v y.is (some z) ≡ su
      → command p l m₀ ≡ next (applied m l (stores (own c χ w no_local) q v y.is su))
  unfolding perform now_written localized write_to
  storing k v q u y z su j c χ w a s b g h n f r =
      let o = own c χ w no_local in
      let (t, at', same) = target o refl q j g in
      let ξ = assign j.env v y.is in
      performs (λ x. x ≡ next (applied m l (stores o q v y.is su))) p m₀ l at a
      (writes_param p m l acting_now c v s g (lt-ltb v (arity p j.struct) n) (le-ltb q (structs p) h) f
      ∙ ap (λ x. wrote q ξ (with_code acting_now c χ) (leaves_stable p j.struct v y.is x)) f
      ∙ ap (λ x. wrote q ξ (with_code acting_now c χ) x) r
      ∙ ap (λ x. wrote q ξ (with_code (with_written i x) c χ) su) b
      ∙ ap (λ x. changed (update_env x q ξ) su) (set_alter m.instances l (owned o) i at)
      ∙ ap (λ x. changed x su) (env_alter (alter m.instances l (owned o)) q v y.is ξ t at' (ap (λ η. assign η v y.is) same)))

  -- a plan is what the command does
  pub plan_command : Firm p → {d : Deed} {P : Plan} → Plans p m.instances l i d P → command p l m₀ ≡ next (applied m l P)
  unfolding perform now_written operated localized
  plan_command firm (p_push {t = t} {v = v} {c = c} {χ = χ} {w = w} a s u) =
      quiet (n_push t v) c (own c (tagged t v ∷ χ) w no_local) a
      (ap (λ y. next (put m l (with_code acting_now c (tagged t v ∷ y)))) s ∙ leaving c (tagged t v ∷ χ) u)
  plan_command firm (p_this {k = k} {c = c} {χ = χ} {w = w} a s u e) =
      quiet n_this c (own c (tagged (ref k) (label l) ∷ χ) w no_local) a
      (ap (λ y. next (put m l (with_code acting_now c (tagged (ref i.struct) (label l) ∷ y)))) s
      ∙ ap (λ y. next (put m l (with_code acting_now c (tagged (ref y) (label l) ∷ χ)))) e ∙ leaving c (tagged (ref k) (label l) ∷ χ) u)
  plan_command firm (p_not {b = b} {c = c} {χ = χ} {w = w} a s u) =
      quiet n_not c (own c (tagged bool (bool_val (not b)) ∷ χ) w no_local) a
      (negated p m l acting_now c s ∙ leaving c (tagged bool (bool_val (not b)) ∷ χ) u)
  plan_command firm (p_if {n = n} {b = b} {c = c} {χ = χ} {w = w} a s u) =
      let d : List Note = elim b [ true ↦ c | false ↦ drop n c ] in
      quiet (n_if n) c (own d χ w no_local) a (branched p m l acting_now c n s ∙ leaving d χ u)
  plan_command firm (p_op {o = o} {x = x} {y = y} {z = z} {c = c} {χ = χ} {w = w} a s u v) =
      let r = tagged (result_type (sort o) x.by) z in
      quiet (n_op o) c (own c (r ∷ χ) w no_local) a
      (operates p m l acting_now c o s ∙ ap (λ q. operated p m l acting_now c χ (result o x.by) q) v ∙ leaving c (r ∷ χ) u)
  plan_command firm (p_rd {k = k} {v = v} {s = r} {x = x} {c = c} {χ = χ} {w = w} a s u g f h e) =
      let t = get_or (params_of p r) v int in
      quiet (n_rd k v) c (own c (tagged t x ∷ χ) w no_local) a
      (has_read p m l acting_now c v (λ n. variable n v) s g f
      ∙ ap (λ n. next (put m l (with_code acting_now c (tagged (get_or (params_of p n) v int) x ∷ χ)))) e ∙ leaving c (tagged t x ∷ χ) u)
  plan_command firm (p_get {x = x} {t = t} {y = y} {c = c} {χ = χ} {w = w} a s u f) =
      quiet (n_get t x) c (own c (tagged t y ∷ χ) w no_local) a
      (has_read p m l acting_now c (first_local + x) (λ n. local t) s at f ∙ leaving c (tagged t y ∷ χ) u)
  plan_command firm (p_set {d = d} {x = x} {t = t} {u = r} {y = y} {c = c} {χ = χ} {w = w} a s u) =
      setting d t r x y c χ w a s u (firm.few i.struct)
  plan_command firm (p_skip {k = k} {v = v} {q = q} {j = j} {c = c} {χ = χ} {w = w} a s u g z h) =
      quiet (n_wr k v) c (own c χ w no_local) a
      (leaves_null p m l acting_now c v s g (lt-ltb v (arity p j.struct) h) (lt-ltb q (structs p) z) ∙ leaving c χ u)
  plan_command firm (p_wr {k = k} {v = v} {q = q} {u = r} {y = y} {z = z} {su = su} {j = j} {c = c} {χ = χ} {w = w} a s u g h n b f e) =
      storing k v q r y z su j c χ w a s u g h n f e

-- a step by a plan is the machine's command, after which counting goes on
pub step_command : {p : Program} → Firm p → {l : ℕ} {m m' : Machine} {d : Deed} → Step p l m d m' → command p l m ≡ next (acting l m')
step_command {p} firm {l} {m} s = plan_command p m l s.actor s.at firm s.plans ∙ ap (λ x. next (acting l x)) (sym s.is)
