-- An order of published rules as the steps of a machine, with what each of them touches (02 §11).
use Rattle.std.specs.Prelude.{ℕ, suc, ◌<◌, ◌≤◌, ◌≡◌, Bool, ◌⊎◌, length}
use Rattle.std.proofs.Math.Path.{refl}
use Rattle.std.proofs.Common.{sym, ap, subst, ◌∙◌, inl, inr}
use Rattle.std.proofs.Math.Option.{some}
use mathlib.Core.List.Memᴰ
use mathlib.Core.List.{List, [], ◌∷◌, map, Memᴰ}
use Rattle.std.proofs.Math.ListN.{get_elem?}
use Rattle.types.specs.Limits.{first_local}
use Rattle.types.specs.Values.{Val.label}
use Rattle.program.specs.Tree.{Program}
use Rattle.commands.specs.Commands.{Com, Com.rd, Com.wr, Coms, Coms.act, Flat, Flat.plain, flatten}
use Rattle.commands.specs.Noted.{Note, Note.n_rd, Note.n_wr, erase}
use Rattle.machine.specs.Published.{Sched, Inst, Inst.inst, State, State.state, structs}
use Rattle.machine.specs.Rules.{Actor.instance, Rule}
use Rattle.machine.specs.Machine.{Tagged, tagged, Instance, Machine, acting}
use Rattle.machine.specs.Represents.{values, Represents}
use Rattle.machine.proofs.Laws.RepresentsLaws.{inst_at}
use Rattle.machine.specs.Heads.{plain_head}
use Rattle.machine.proofs.Laws.CommandAgrees.{command_follows, command_complete}
use Rattle.sound.specs.Firm.{Firm}
use Rattle.sound.specs.Invariant.{Good}
use Rattle.orders.specs.Orders.{Ordered, Ordered.no_turn, Ordered.a_turn}
use Rattle.orders.specs.Touches.{Use, Use.reading, Use.writing, Touches, Touches.by_rd, Touches.by_wr, Does, Apart}
use Rattle.orders.specs.Deeds.{Act, Deed, Deed.nothing, Deed.reads, Deed.writes, Clash}
use Rattle.orders.proofs.Laws.Commuting.{Traced, Traced.stay, Traced.go_on, Apart as ApartDeeds}
use Rattle.orders.proofs.Laws.Plans.{Plan, Plans, Plans.p_push, Plans.p_this, Plans.p_not, Plans.p_if, Plans.p_op, Plans.p_rd, Plans.p_get, Plans.p_set}
use Rattle.orders.proofs.Laws.Plans.{Plans.p_skip, Plans.p_wr}
use Rattle.orders.proofs.Laws.Swap.{Step}
use Rattle.orders.proofs.Laws.PlanCommand.{step_command}
use Rattle.orders.proofs.Laws.CommandPlan.{command_step}
use Rattle.orders.proofs.Laws.Holding.{Holds, Any, MakesNone, free_kept, heads_free, good_kept}

-- a machine with the invariant whose commands construct nothing stands for a state
pub record Stood (p : Program) (m : Machine) (st : State) : Type 0 where
  pub good : Good p m
  pub free : MakesNone m
  pub stands : Represents m st

-- what is touched --------------------------------------------------------------------

-- the next command of instance l does this deed
abbrev pub Touched : Program → ℕ → State → Deed → Type 0
Touched p l st nothing = Unit {0}
Touched p l st (reads q v) = Touches p l st reading q v
Touched p l st (writes q v) = Touches p l st writing q v

-- somewhere in an order it does
abbrev pub Did : Program → State → List ℕ → ℕ → Deed → Type 0
Did p st ls l nothing = Unit {0}
Did p st ls l (reads q v) = Does p st ls l reading q v
Did p st ls l (writes q v) = Does p st ls l writing q v

-- the commands in front of an instance's
head_at : (m : Machine) (s : Sched) (σ : List Inst) (b : List Bool) (l : ℕ) (i : Instance) (n : Note) (f : Com) (c : List Note) (χ : List Tagged)
    → Represents m (state s σ b) → get_elem? m.instances l ≡ some i → i.code ≡ n ∷ c → erase n ≡ plain f → i.stack ≡ χ
    → (d : Coms) × (get_elem? σ l ≡ some (inst i.struct (act f d) (values χ) i.env))
head_at m s σ b l i n f c χ R at e h q =
    let (d, g, k) = inst_at m.instances σ l R.1 at in
    let w : plain f ∷ map erase c ≡ flatten d = ap {B = List Flat} (λ x. x ∷ map erase c) (sym h) ∙ sym (ap (map erase) e) ∙ k in
    let (r, y, z) = plain_head d f (map erase c) w in
    (r, g ∙ ap (λ x. some (inst i.struct x (values i.stack) i.env)) y ∙ ap (λ x. some (inst i.struct (act f r) (values x) i.env)) q)

module _ {p : Program} (m : Machine) {l : ℕ} {i : Instance} (at : get_elem? m.instances l ≡ some i) where
  rd_touches : (st : State) {k v q : ℕ} {t : _} {c : List Note} {χ : List Tagged} → Represents m st → i.code ≡ n_rd k v ∷ c
      → i.stack ≡ tagged t (label q) ∷ χ
      → v < first_local → Touches p l st reading q v
  unfolding erase values
  rd_touches (state s σ b) {k} {v} {q} {t} {c} {χ} R e h low =
      let (d, g) = head_at m s σ b l i (n_rd k v) (rd v) c (tagged t (label q) ∷ χ) R at e refl h in by_rd g low

  pub wr_touches : (st : State) {k v q : ℕ} {t : _} {y : Tagged} {c : List Note} {χ : List Tagged} → Represents m st → i.code ≡ n_wr k v ∷ c
      → i.stack ≡ tagged t (label q) ∷ y ∷ χ → v < first_local → structs p ≤ q → Touches p l st writing q v
  unfolding erase values
  wr_touches (state s σ b) {k} {v} {q} {t} {y} {c} {χ} R e h low here =
      let (d, g) = head_at m s σ b l i (n_wr k v) (wr v) c (tagged t (label q) ∷ y ∷ χ) R at e refl h in by_wr g low here

  -- a plan's deed is what its command touches
  pub plan_touched : (st : State) {d : Deed} {P : Plan} → Represents m st → Plans p m.instances l i d P → Touched p l st d
  plan_touched st R (p_push a b c) = tt
  plan_touched st R (p_this a b c e) = tt
  plan_touched st R (p_not a b c) = tt
  plan_touched st R (p_if a b c) = tt
  plan_touched st R (p_op a b c e) = tt
  plan_touched st R (p_rd a b c e f g s) = rd_touches st R a b g
  plan_touched st R (p_get a b c e) = tt
  plan_touched st R (p_set a b c) = tt
  plan_touched st R (p_skip a b c e f g) = tt
  plan_touched st R (p_wr a b c e f g h k s) = wr_touches st R a b h f

-- at the front of an order; one label later
pub did_first : (p : Program) (st : State) (l : ℕ) (ls : List ℕ) (d : Deed) → Touched p l st d → Did p st (l ∷ ls) l d
did_first p st l ls nothing h = tt
did_first p st l ls (reads q v) h = record { before = []; after = ls; place = st; parts = refl; reached = no_turn; touches = h }
did_first p st l ls (writes q v) h = record { before = []; after = ls; place = st; parts = refl; reached = no_turn; touches = h }

does_later : {p : Program} {st st' : State} {k : ℕ} {ls : List ℕ} {l : ℕ} {u : Use} {q v : ℕ} → Rule p (instance k) st st' → Does p st' ls l u q v
    → Does p st (k ∷ ls) l u q v
does_later {k = k} r d = record {
  before = k ∷ d.before;
  after = d.after;
  place = d.place;
  parts = ap {B = List ℕ} (λ x. k ∷ x) d.parts;
  reached = a_turn r d.reached;
  touches = d.touches;
}

pub did_later : {p : Program} {st st' : State} {k : ℕ} (ls : List ℕ) (l : ℕ) (d : Deed) → Rule p (instance k) st st' → Did p st' ls l d
    → Did p st (k ∷ ls) l d
did_later ls l nothing r h = tt
did_later ls l (reads q v) r h = does_later r h
did_later ls l (writes q v) r h = does_later r h

-- who touches apart in the published sense does not clash
module _ {p : Program} {st : State} {ls : List ℕ} (apart : Apart p st ls) where
  -- a deed on one parameter is one on an equal one
  moved : {a : ℕ} {u : Use} {q v r w : ℕ} → (q ≡ r) × (v ≡ w) → Does p st ls a u q v → Does p st ls a u r w
  moved {a} {u} {q} {v} {r} {w} (f, g) x = subst (λ k. Does p st ls a u r k) g (subst (λ k. Does p st ls a u k v) f x)

  pub clashing : (a b : ℕ) (d e : Deed) → Did p st ls a d → Did p st ls b e → Clash d e → a ≡ b
  clashing a b nothing e x y c = absurd c
  clashing a b (reads q v) nothing x y c = absurd c
  clashing a b (reads q v) (reads r w) x y c = absurd c
  clashing a b (reads q v) (writes r w) x y c = sym (apart b a r w reading y (moved c x))
  clashing a b (writes q v) nothing x y c = absurd c
  clashing a b (writes q v) (reads r w) x y c = apart a b r w reading (moved c x) y
  clashing a b (writes q v) (writes r w) x y c = apart a b r w writing (moved c x) y

-- orders and traces --------------------------------------------------------------------

-- from where turns are counted is no part of a state
uncounted : (l : ℕ) (n : Machine) (st : State) → Represents (acting l n) st → Represents n st
uncounted l n (state s σ b) R = R

-- the deeds of an order, on machines, with what they touch
pub record Order (p : Program) (m : Machine) (st : State) (ls : List ℕ) (z : State) : Type 0 where
  pub deeds : List (Act Deed)
  pub last : Machine
  pub traced : Traced (Step p) Holds Any Clash m deeds last
  pub stood : Stood p last z
  pub long : length deeds ≡ length ls
  pub did : (x : Act Deed) → Memᴰ x deeds → Did p st ls x.actor x.deed

module _ {p : Program} (firm : Firm p) where
  -- a rule for an instance is a step, and a step is one by a rule
  pub rule_step : {m : Machine} {st st' : State} {l : ℕ} → Stood p m st → Rule p (instance l) st st'
      → (d : Deed) × (n : Machine) × (Step p l m d n) × (Stood p n st')
  rule_step {m} {st} {st'} {l} S r =
      let (m', e, R) = command_complete p l m S.stands r in
      let (d, n, s, q) = command_step firm S.good l e (λ i k c. heads_free firm m S.free l i k c) in
      let stands = uncounted l n st' (subst (λ x. Represents x st') q R) in
      (d, n, s, record { good = good_kept firm S.good s; free = free_kept firm s S.free; stands = stands })

  pub step_rule : {m n : Machine} {st : State} {l : ℕ} {d : Deed} → Stood p m st → Step p l m d n
      → (st' : State) × (Rule p (instance l) st st') × (Stood p n st')
  step_rule {m} {n} {st} {l} S s =
      let (st', r, R) = command_follows p l m st S.stands (step_command firm s) in
      (st', r, record { good = good_kept firm S.good s; free = free_kept firm s S.free; stands = uncounted l n st' R })

  -- an order of rules is one of steps
  pub ordered_traced : {m : Machine} {st z : State} {ls : List ℕ} → Stood p m st → Ordered p st ls z → Order p m st ls z
  ordered_traced {m} S no_turn = record {
    deeds = [];
    last = m;
    traced = stay;
    stood = S;
    long = refl;
    did = λ x h. absurd (Memᴰ.not-nil h);
  }
  ordered_traced {m} {st} S (a_turn {l = l} {ls = ls} r o) =
      let (d, n, s, S') = rule_step S r in
      let t = ordered_traced {m = n} S' o in
      record {
        deeds = record { actor = l; deed = d } ∷ t.deeds;
        last = t.last;
        traced = go_on s t.traced;
        stood = t.stood;
        long = ap suc t.long;
        did = λ x h. pick d s r t.did x (Memᴰ.cases_cons h);
      }
    where
      pick : (d : Deed) {n : Machine} → Step p l m d n → {st' : State} → Rule p (instance l) st st' → {ds : List (Act Deed)}
          → ((x : Act Deed) → Memᴰ x ds → Did p st' ls x.actor x.deed)
          → (x : Act Deed) → (x ≡ record { actor = l; deed = d }) ⊎ Memᴰ x ds → Did p st (l ∷ ls) x.actor x.deed
      pick d s r h x (inl e) =
          subst (λ (y : Act Deed). Did p st (l ∷ ls) y.actor y.deed) (sym e) (did_first p st l ls d (plan_touched m s.at st S.stands s.plans))
      pick d s r h x (inr u) = did_later ls x.actor x.deed r (h x u)

  -- and where the order is apart, its deeds are
  pub order_apart : {m : Machine} {st z : State} {ls : List ℕ} (o : Order p m st ls z) → Apart p st ls → ApartDeeds (Step p) Holds Any Clash o.deeds
  order_apart o apart x y u v other c = other (clashing apart x.actor y.actor x.deed y.deed (o.did x u) (o.did y v) c)
