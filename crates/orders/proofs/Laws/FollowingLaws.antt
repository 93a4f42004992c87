-- Following an order by computation is exact enough to show that it is apart, and where it leads (02 §11). The exhibits use it.
use Rattle.std.specs.Prelude.{ℕ, ◌<◌, ◌≤◌, ◌≡◌, refl, Bool, true, false, ◌&&◌, eqb}
use Rattle.std.proofs.Common.{arith, sym, subst, ◌∙◌, ⊎_elim, le-ltb, eq-eqb, eqb-true}
use Rattle.std.proofs.Math.Path.{ap}
use Rattle.std.proofs.Math.Option.{Option, some}
use mathlib.Core.List.Memᴰ
use mathlib.Core.List.{List, [], ◌∷◌, ◌++◌, Memᴰ}
use Rattle.std.proofs.Math.ListN.{get_elem?}
use Rattle.types.specs.Limits.{first_local}
use Rattle.types.specs.Values.{Val, Val.label}
use Rattle.program.specs.Tree.{Program}
use Rattle.commands.specs.Commands.{Com.rd, Com.wr, Flat.plain, flatten}
use Rattle.commands.specs.Noted.{Note, Note.n_rd, Note.n_wr}
use Rattle.machine.specs.Published.{State, structs}
use Rattle.machine.specs.Machine.{Tagged, Instance, Machine, Out, Out.next, Out.refused, Out.stuck, command}
use Rattle.machine.specs.Represents.{values, Represents}
use Rattle.machine.proofs.Laws.RepresentsLaws.{instance_at, top}
use Rattle.machine.specs.Heads.{Means, Means.m_rd, Means.m_get, Means.m_wr, Means.m_set, next_note}
use Rattle.machine.proofs.Laws.CommandAgrees.{command_follows, command_complete}
use Rattle.orders.specs.Orders.{Ordered, Ordered.no_turn, Ordered.a_turn}
use Rattle.orders.specs.Touches.{Use, Use.reading, Use.writing, Touches, Touches.by_rd, Touches.by_wr, Does, Apart}
use Rattle.orders.specs.Deeds.{Act, Deed, Deed.reads, Deed.writes}
use Rattle.orders.specs.Following.{top_deed, write_deed, code_deed, deed_at, onto, deeds_of, used, every, touching, clear_by, all_clear, led, acted}
use Rattle.sound.proofs.Laws.ElemLaws.{none_some, some_is}

module _ (p : Program) where
  rd_found : {v q : ℕ} {χ : List Val} {n : Note} (c : List Note) (ψ : List Tagged) → v < first_local → values ψ ≡ label q ∷ χ → Means (plain (rd v)) n
      → code_deed p ψ (n ∷ c) ≡ reads q v
  unfolding code_deed top_deed
  rd_found {v} {q} {n = n} c ψ low e (m_rd {k = k}) = top (λ ψ. code_deed p ψ (n_rd k v ∷ c) ≡ reads q v) ψ e (λ t χ' f. refl)
  rd_found c ψ low e (m_get f) = absurd (omega (arith, f))

  wr_found : {v q : ℕ} {χ : List Val} {n : Note} (c : List Note) (ψ : List Tagged) → v < first_local → structs p ≤ q → values ψ ≡ label q ∷ χ
      → Means (plain (wr v)) n → code_deed p ψ (n ∷ c) ≡ writes q v
  unfolding code_deed top_deed write_deed
  wr_found {v} {q} {n = n} c ψ low here e (m_wr {k = k}) =
      top (λ ψ. code_deed p ψ (n_wr k v ∷ c) ≡ writes q v) ψ e (λ t χ' f. rw (le-ltb q (structs p) here, write_deed))
  wr_found c ψ low here e (m_set f) = absurd (omega (arith, f))

  at_found : {o : Option Instance} {i : Instance} {n : Note} {c : List Note} {d : Deed} → o ≡ some i → i.code ≡ n ∷ c → code_deed p i.stack (n ∷ c) ≡ d
      → deed_at p o ≡ d
  unfolding deed_at
  at_found {i = i} f e h = ap (deed_at p) f ∙ ap (code_deed p i.stack) e ∙ h

  -- what a next command touches is its deed
  touch_deed : (m : Machine) (st : State) {l : ℕ} {u : Use} {q v : ℕ} → Represents m st → Touches p l st u q v
      → deed_at p (get_elem? m.instances l) ≡ used u q v
  unfolding flatten
  touch_deed m st {l} R (by_rd {σ = σ} g low) =
      let (i, f, r) = instance_at m.instances σ l R.1 g in
      let (n, c, e, h, k) = next_note i.code r.1 in
      at_found f e (rd_found c i.stack low r.2 h)
  touch_deed m st {l} R (by_wr {σ = σ} g low here) =
      let (i, f, r) = instance_at m.instances σ l R.1 g in
      let (n, c, e, h, k) = next_note i.code r.1 in
      at_found f e (wr_found c i.stack low here r.2 h)

  -- whatever an order touches is among its deeds
  listed : (m : Machine) (st place : State) (before : List ℕ) (l : ℕ) (after : List ℕ) {u : Use} {q v : ℕ} → Represents m st → Ordered p st before place
      → Touches p l place u q v → Memᴰ (record { actor = l; deed = used u q v }) (deeds_of p m (before ++ l ∷ after))
  unfolding deeds_of onto
  listed m st place [] l after R no_turn t =
      Memᴰ.head (ap (λ d. record { actor = l; deed = d }) (sym (touch_deed m st R t)))
  listed m st place (k ∷ ks) l after {u} {q} {v} R (a_turn {st' = st'} r o) t =
      let (m', e, R') = command_complete p k m R r in
      Memᴰ.tail (subst (λ (x : Out). Memᴰ (record { actor = l; deed = used u q v }) (onto (λ m'. deeds_of p m' (ks ++ l ∷ after)) x)) (sym e)
      (listed m' st' place ks l after R' o t))

both_left : (s t : Bool) → s && t ≡ true → s ≡ true
both_left true t e = refl
both_left false t e = e

both_right : (s t : Bool) → s && t ≡ true → t ≡ true
both_right true t e = e
both_right false t e = let z : false ≡ true = e in let y : ◌≡◌ {A = ℕ} 0 1 = cc in absurd (omega arith)

every_one : {A : Type 0} (f : A → Bool) (xs : List A) → every f xs ≡ true → (x : A) → Memᴰ x xs → f x ≡ true
unfolding every
every_one f [] e x h = absurd (Memᴰ.not-nil h)
every_one f (y ∷ ys) e x h =
    ⊎_elim (λ q. ap f q ∙ both_left (f y) (every f ys) e) (λ u. every_one f ys (both_right (f y) (every f ys) e) x u) (Memᴰ.cases_cons h)

eqb_same : (n : ℕ) → eqb n n ≡ true
eqb_same n = eq-eqb n n refl

touching_used : (u : Use) (q v : ℕ) → touching q v (used u q v) ≡ true
unfolding touching
touching_used reading q v = rw (eqb_same q, eqb_same v)
touching_used writing q v = rw (eqb_same q, eqb_same v)

cleared : (a q v : ℕ) (u : Use) (b : ℕ) → clear_by a (writes q v) (record { actor = b; deed = used u q v }) ≡ eqb a b
unfolding clear_by
cleared a q v u b = ap (λ t. elim t [ true ↦ eqb a b | false ↦ true ]) (touching_used u q v)

-- whatever an order does is among its deeds
pub does_listed : (p : Program) (m : Machine) (st : State) (ls : List ℕ) → Represents m st → {l : ℕ} {u : Use} {q v : ℕ} → Does p st ls l u q v
    → Memᴰ (record { actor = l; deed = used u q v }) (deeds_of p m ls)
does_listed p m st ls R {l} {u} {q} {v} d =
    subst (λ xs. Memᴰ (record { actor = l; deed = used u q v }) (deeds_of p m xs)) (sym d.parts)
    (listed p m st d.place d.before l d.after R d.reached d.touches)

-- an order whose deeds are all clear is apart
pub apart_clear : (p : Program) (m : Machine) (st : State) (ls : List ℕ) → Represents m st → all_clear (deeds_of p m ls) ≡ true → Apart p st ls
unfolding all_clear
apart_clear p m st ls R e l l' q v u x y =
    let ds = deeds_of p m ls in
    let f = every_one (λ (x : Act Deed). every (λ y. clear_by x.actor x.deed y) ds) ds e (record { actor = l; deed = writes q v })
    (does_listed p m st ls R x) in
    let g = every_one (λ (y : Act Deed). clear_by l (writes q v) y) ds f (record { actor = l'; deed = used u q v }) (does_listed p m st ls R y) in
    eqb-true l l' (sym (cleared l q v u l') ∙ g)

-- Where an order leads -------------------------------------------------------------------------

led_some : (f : Machine → Option Machine) (o : Out) {z : Machine} → led f o ≡ some z → (m : Machine) × (o ≡ next m) × (f m ≡ some z)
unfolding led
led_some f (next m) e = (m, refl, e)
led_some f (refused n) e = none_some e
led_some f stuck e = none_some e

-- it is an order by the published rules
pub acted_ordered : (p : Program) (m : Machine) (st : State) (ls : List ℕ) {z : Machine} → Represents m st → acted p m ls ≡ some z
    → (z' : State) × (Ordered p st ls z') × (Represents z z')
unfolding acted
acted_ordered p m st [] R e = (st, no_turn, subst (λ x. Represents x st) (some_is e) R)
acted_ordered p m st (l ∷ ls) R e =
    let (m', c, f) = led_some (λ m'. acted p m' ls) (command p l m) e in
    let (st', r, R') = command_follows p l m st R c in
    let (z', o, Q) = acted_ordered p m' st' ls R' f in
    (z', a_turn r o, Q)
