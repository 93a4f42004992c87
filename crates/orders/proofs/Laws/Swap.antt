-- The commands of two instances whose deeds do not clash may be taken in either order.
use Rattle.std.specs.Prelude.{ℕ, zero, suc, ◌+◌, ◌-◌, ◌<◌, ◌≡◌, refl, List, [], ◌∷◌, set}
use Rattle.std.proofs.Math.Decide.{ℕ_discrete}
use Rattle.std.proofs.Common.{sym, ap, ◌∙◌}
use Rattle.std.proofs.Math.Option.{some}
use Rattle.std.proofs.Math.ListN.{get_elem?}
use Rattle.types.specs.Limits.{first_local}
use Rattle.types.specs.Values.{Val}
use Rattle.program.specs.Tree.{Program}
use Rattle.machine.specs.Published.{Env, Env.env, lookup, assign}
use Rattle.machine.specs.Machine.{Instance, Machine, with_instances, with_stability}
use Rattle.sound.proofs.Laws.ElemLaws.{none_some, some_is, at_set_other}
use Rattle.orders.specs.Deeds.{Deed, Deed.nothing, Deed.reads, Deed.writes, Clash}
use Rattle.orders.proofs.Laws.Alter.{alter, at_alter_same, at_alter_other}
use Rattle.orders.proofs.Laws.Plans.{Local, Local.no_local, Local.a_local, Own, localized, owned, store, Plan, Plan.keeps, Plan.stores, made, entries}
use Rattle.orders.proofs.Laws.Plans.{applied, Plans, Plans.p_push, Plans.p_this, Plans.p_not, Plans.p_if, Plans.p_op, Plans.p_rd, Plans.p_get}
use Rattle.orders.proofs.Laws.Plans.{Plans.p_set, Plans.p_skip, Plans.p_wr}
use Rattle.orders.proofs.Laws.PlanLaws.{assign_param, assign_local, lookup_param, lookup_local, Small, Disjoint, made_commute, entries_commute}

-- Two machines that differ by one command of b -----------------------------------------

-- instance k in both: the same but for b's own fields and the parameter that the deed writes
pub record Close (b : ℕ) (d : Deed) (k : ℕ) (i j : Instance) : Type 0 where
  pub struct : i.struct ≡ j.struct
  pub code : (k ≡ b → ⊥) → i.code ≡ j.code
  pub stack : (k ≡ b → ⊥) → i.stack ≡ j.stack
  pub written : (k ≡ b → ⊥) → i.written ≡ j.written
  pub locals : (k ≡ b → ⊥) → (x : ℕ) → lookup i.env (first_local + x) ≡ lookup j.env (first_local + x)
  pub params : (v : ℕ) → v < first_local → (d ≡ writes k v → ⊥) → lookup i.env v ≡ lookup j.env v

close_self : (b : ℕ) (d : Deed) (k : ℕ) (i : Instance) → Close b d k i i
close_self b d k i = record {
  struct = refl;
  code = λ h. refl;
  stack = λ h. refl;
  written = λ h. refl;
  locals = λ h x. refl;
  params = λ v h q. refl;
}

close_back : {b : ℕ} {d : Deed} {k : ℕ} {i j : Instance} → Close b d k i j → Close b d k j i
close_back c = record {
  struct = sym c.struct;
  code = λ h. sym (c.code h);
  stack = λ h. sym (c.stack h);
  written = λ h. sym (c.written h);
  locals = λ h x. sym (c.locals h x);
  params = λ v h q. sym (c.params v h q);
}

close_then : {b : ℕ} {d : Deed} {k : ℕ} {i j n : Instance} → Close b d k i j → Close b d k j n → Close b d k i n
close_then c e = record {
  struct = c.struct ∙ e.struct;
  code = λ h. c.code h ∙ e.code h;
  stack = λ h. c.stack h ∙ e.stack h;
  written = λ h. c.written h ∙ e.written h;
  locals = λ h x. c.locals h x ∙ e.locals h x;
  params = λ v h q. c.params v h q ∙ e.params v h q;
}

-- all instances, both ways
pub record Near (b : ℕ) (d : Deed) (is js : List Instance) : Type 0 where
  pub there : (k : ℕ) (i : Instance) → get_elem? is k ≡ some i → (j : Instance) × (get_elem? js k ≡ some j) × (Close b d k i j)
  pub back : (k : ℕ) (j : Instance) → get_elem? js k ≡ some j → (i : Instance) × (get_elem? is k ≡ some i) × (Close b d k j i)

near_turned : {b : ℕ} {d : Deed} {is js : List Instance} → Near b d is js → Near b d js is
near_turned n = record { there = n.back; back = n.there }

near_then : {b : ℕ} {d : Deed} {is js ks : List Instance} → Near b d is js → Near b d js ks → Near b d is ks
near_then n o = record {
  there = λ k i e. let (j, f, c) = n.there k i e in let (x, g, t) = o.there k j f in (x, g, close_then c t);
  back = λ k i e. let (j, f, c) = o.back k i e in let (x, g, t) = n.back k j f in (x, g, close_then c t);
}

-- the element that a changed one was
at_alter_back : {A : Type 0} (xs : List A) (n : ℕ) (f : A → A) (y : A) → get_elem? (alter xs n f) n ≡ some y → (x : A) × (get_elem? xs n ≡ some x) × (f x ≡ y)
at_alter_back [] n f y e = none_some e
at_alter_back (x ∷ xs) zero f y e = (x, refl, some_is e)
at_alter_back (x ∷ xs) (suc n) f y e = at_alter_back xs n f y e

-- a change of instance r that keeps it close
near_alter : (b : ℕ) (d : Deed) (is : List Instance) (r : ℕ) (f : Instance → Instance) → ((i : Instance) → Close b d r i (f i)) → Near b d is (alter is r f)
near_alter b d is r f c = record { there = λ k i e. go k i e (ℕ_discrete k r); back = λ k j e. come k j e (ℕ_discrete k r) }
  where
    go : (k : ℕ) (i : Instance) → get_elem? is k ≡ some i → Dec (k ≡ r) → (j : Instance) × (get_elem? (alter is r f) k ≡ some j) × (Close b d k i j)
    go k i e (yes q) = (f i, rw q (at_alter_same is r f i (rw q at e)), rw q (c i))
    go k i e (no q) = (i, at_alter_other is r k f q ∙ e, close_self b d k i)

    come : (k : ℕ) (j : Instance) → get_elem? (alter is r f) k ≡ some j → Dec (k ≡ r) → (i : Instance) × (get_elem? is k ≡ some i) × (Close b d k j i)
    come k j e (yes q) =
        let (i, g, h) = at_alter_back is r f j (rw q at e) in
        (i, rw q g, rw q (close_back (rw h at (c i))))
    come k j e (no q) = (j, sym (at_alter_other is r k f q) ∙ e, close_self b d k j)

-- a local's write leaves the parameters
localized_params : (k : Local) (ξ : Env) (v : ℕ) → v < first_local → lookup ξ v ≡ lookup (localized k ξ) v
unfolding localized
localized_params no_local ξ v h = refl
localized_params (a_local y z) (env ps ls) v h =
    lookup_param ps ls v h ∙ sym (ap (λ ξ. lookup ξ v) (assign_local ps ls y z) ∙ lookup_param ps (set ls (first_local + y - first_local) (some z)) v h)

-- a parameter's write leaves the locals, and the other parameters
assign_locals : (ξ : Env) (v : ℕ) (x : Val) → v < first_local → (y : ℕ) → lookup ξ (first_local + y) ≡ lookup (assign ξ v x) (first_local + y)
assign_locals (env ps ls) v x h y =
    lookup_local ps ls y ∙ sym (ap (λ ξ. lookup ξ (first_local + y)) (assign_param ps ls v x h) ∙ lookup_local (set ps v x) ls y)

assign_others : (ξ : Env) (v w : ℕ) (x : Val) → v < first_local → w < first_local → (w ≡ v → ⊥) → lookup ξ w ≡ lookup (assign ξ v x) w
assign_others (env ps ls) v w x h k q =
    lookup_param ps ls w k
    ∙ sym (ap (λ ξ. lookup ξ w) (assign_param ps ls v x h) ∙ lookup_param (set ps v x) ls w k ∙ at_set_other ps v w x q)

near_own : (b : ℕ) (d : Deed) (is : List Instance) (o : Own) → Near b d is (alter is b (owned o))
near_own b d is o = near_alter b d is b (owned o) (λ i. record {
  struct = refl;
  code = λ h. absurd (h refl);
  stack = λ h. absurd (h refl);
  written = λ h. absurd (h refl);
  locals = λ h x. absurd (h refl);
  params = λ v h q. localized_params o.kept i.env v h;
})

pub near_store : (b : ℕ) (is : List Instance) (q v : ℕ) (x : Val) → v < first_local → Near b (writes q v) is (alter is q (store v x))
near_store b is q v x h = near_alter b (writes q v) is q (store v x) (λ i. record {
  struct = refl;
  code = λ n. refl;
  stack = λ n. refl;
  written = λ n. refl;
  locals = λ n y. assign_locals i.env v x h y;
  params = λ w k n. assign_others i.env v w x h k (λ e. n (ap (λ z. writes q z) (sym e)));
})

-- Plans -------------------------------------------------------------------------------

pub plan_small : {p : Program} {is : List Instance} {l : ℕ} {i : Instance} {d : Deed} {P : Plan} → Plans p is l i d P → Small P
plan_small (p_push a b c) = tt
plan_small (p_this a b c e) = tt
plan_small (p_not a b c) = tt
plan_small (p_if a b c) = tt
plan_small (p_op a b c e) = tt
plan_small (p_rd a b c e f g s) = tt
plan_small (p_get a b c e) = tt
plan_small (p_set a b c) = tt
plan_small (p_skip a b c e f g) = tt
plan_small (p_wr a b c e f g h k s) = h

-- the machine before and after a command
pub near_made : {p : Program} {is : List Instance} {l : ℕ} {i : Instance} {d : Deed} {P : Plan} → Plans p is l i d P → Near l d is (made is l P)
near_made {is = is} {l = l} (p_push a b c) = near_own l nothing is _
near_made {is = is} {l = l} (p_this a b c e) = near_own l nothing is _
near_made {is = is} {l = l} (p_not a b c) = near_own l nothing is _
near_made {is = is} {l = l} (p_if a b c) = near_own l nothing is _
near_made {is = is} {l = l} (p_op a b c e) = near_own l nothing is _
near_made {is = is} {l = l} (p_rd {v = v} {q = q} a b c e f g s) = near_own l (reads q v) is _
near_made {is = is} {l = l} (p_get a b c e) = near_own l nothing is _
near_made {is = is} {l = l} (p_set a b c) = near_own l nothing is _
near_made {is = is} {l = l} (p_skip a b c e f g) = near_own l nothing is _
near_made {is = is} {l = l} (p_wr {v = v} {q = q} {y = y} a b c e f g h k s) =
    near_then (near_own l (writes q v) is _) (near_store l (alter is l _) q v y.is h)

clash_read : {d : Deed} {q v : ℕ} → (Clash d (reads q v) → ⊥) → d ≡ writes q v → ⊥
clash_read h e = h (rw e (refl, refl))

clash_write : {d : Deed} {q v : ℕ} → (Clash d (writes q v) → ⊥) → d ≡ writes q v → ⊥
clash_write h e = h (rw e (refl, refl))

clash_turned : (d e : Deed) → Clash d e → Clash e d
clash_turned nothing e c = absurd c
clash_turned (reads q v) nothing c = absurd c
clash_turned (reads q v) (reads r w) c = absurd c
clash_turned (reads q v) (writes r w) (a, b) = (sym a, sym b)
clash_turned (writes q v) nothing c = absurd c
clash_turned (writes q v) (reads r w) (a, b) = (sym a, sym b)
clash_turned (writes q v) (writes r w) (a, b) = (sym a, sym b)

module _ (p : Program) {is js : List Instance} {b l : ℕ} {d : Deed} (near : Near b d is js) (other : l ≡ b → ⊥) where
  -- what one machine's instance l plans, the other's plans too
  carried : {i j : Instance} {e : Deed} {P : Plan} → Close b d l i j → (Clash d e → ⊥) → Plans p is l i e P → Plans p js l j e P
  carried t n (p_push a s w) = p_push (sym (t.code other) ∙ a) (sym (t.stack other) ∙ s) (sym (t.written other) ∙ w)
  carried t n (p_this a s w k) = p_this (sym (t.code other) ∙ a) (sym (t.stack other) ∙ s) (sym (t.written other) ∙ w) (sym t.struct ∙ k)
  carried t n (p_not a s w) = p_not (sym (t.code other) ∙ a) (sym (t.stack other) ∙ s) (sym (t.written other) ∙ w)
  carried t n (p_if a s w) = p_if (sym (t.code other) ∙ a) (sym (t.stack other) ∙ s) (sym (t.written other) ∙ w)
  carried t n (p_op a s w v) = p_op (sym (t.code other) ∙ a) (sym (t.stack other) ∙ s) (sym (t.written other) ∙ w) v
  carried t n (p_rd {v = v} {q = q} a s w g x h k) =
      let (j, f, c) = near.there q _ g in
      p_rd (sym (t.code other) ∙ a) (sym (t.stack other) ∙ s) (sym (t.written other) ∙ w) f (sym (c.params v h (clash_read n)) ∙ x) h
      (sym c.struct ∙ k)
  carried t n (p_get {x = y} a s w x) =
      p_get (sym (t.code other) ∙ a) (sym (t.stack other) ∙ s) (sym (t.written other) ∙ w) (sym (t.locals other y) ∙ x)
  carried t n (p_set a s w) = p_set (sym (t.code other) ∙ a) (sym (t.stack other) ∙ s) (sym (t.written other) ∙ w)
  carried t n (p_skip {q = q} a s w g z v) =
      let (j, f, c) = near.there q _ g in
      p_skip (sym (t.code other) ∙ a) (sym (t.stack other) ∙ s) (sym (t.written other) ∙ w) f z (rw (sym c.struct) v)
  carried t n (p_wr {v = v} {q = q} {su = su} a s w g z u h x k) =
      let (j, f, c) = near.there q _ g in
      p_wr {su = su} (sym (t.code other) ∙ a) (sym (t.stack other) ∙ s) (sym (t.written other) ∙ w) f z (rw (sym c.struct) u) h
      (sym (c.params v h (clash_write n)) ∙ x) (rw (sym c.struct) k)

-- Two commands ------------------------------------------------------------------------

-- instance l takes its next command, with this deed
pub record Step (p : Program) (l : ℕ) (m : Machine) (d : Deed) (m' : Machine) : Type 0 where
  pub actor : Instance
  pub plan : Plan
  pub at : get_elem? m.instances l ≡ some actor
  pub plans : Plans p m.instances l actor d plan
  pub is : m' ≡ applied m l plan

disjoint : {p : Program} {is js : List Instance} {a l : ℕ} {i j : Instance} {d e : Deed} {P Q : Plan} → Plans p is a i d P → Plans p js l j e Q
    → (Clash d e → ⊥) → Disjoint P Q
disjoint {Q = keeps o} (p_wr a b c e f g h k s) y n = tt
disjoint {Q = stores o q v x su} (p_wr a b c e f g h k s) (p_wr a' b' c' e' f' g' h' k' s') n = n
disjoint (p_push a b c) y n = tt
disjoint (p_this a b c e) y n = tt
disjoint (p_not a b c) y n = tt
disjoint (p_if a b c) y n = tt
disjoint (p_op a b c e) y n = tt
disjoint (p_rd a b c e f g s) y n = tt
disjoint (p_get a b c e) y n = tt
disjoint (p_set a b c) y n = tt
disjoint (p_skip a b c e f g) y n = tt

-- a's command and then l's, or l's and then a's: the same machine
pub swap : {p : Program} {m m₁ m₂ : Machine} {a l : ℕ} {d e : Deed} → (a ≡ l → ⊥) → Step p a m d m₁ → Step p l m₁ e m₂ → (Clash d e → ⊥)
    → (n : Machine) × (Step p l m e n) × (Step p a n d m₂)
swap {p} {m} {m₁} {m₂} {a} {l} {d} {e} q s t n =
    let (i, f, c) = back.back l t.actor here in
    let y = carried p (near_turned back) (λ r. q (sym r)) c n there in
    let away = near_made y in
    let (j, g, k) = away.there a s.actor s.at in (
      applied m l t.plan,
      record { actor = i; plan = t.plan; at = f; plans = y; is = refl },
      record { actor = j; plan = s.plan; at = g; plans = carried p away q k (λ z. n (clash_turned e d z)) s.plans; is = ends },
    )
  where
    back : Near a d m.instances (made m.instances a s.plan)
    back = near_made s.plans

    first : m₁.instances ≡ made m.instances a s.plan
    first = ap (λ x. x.instances) s.is

    here : get_elem? (made m.instances a s.plan) l ≡ some t.actor
    here = rw first at t.at

    there : Plans p (made m.instances a s.plan) l t.actor e t.plan
    there = rw first at t.plans

    ends : m₂ ≡ applied (applied m l t.plan) a s.plan
    ends =
        t.is ∙ ap (λ x. applied x l t.plan) s.is
        ∙ ap (λ x. with_stability (with_instances m x) (entries (entries m.stability s.plan) t.plan))
        (made_commute m.instances a l q s.plan t.plan (plan_small s.plans) (plan_small t.plans) (disjoint s.plans t.plans n))
        ∙ ap (λ x. with_stability (with_instances m (made (made m.instances l t.plan) a s.plan)) x)
        (entries_commute s.plan t.plan m.stability)
