-- Following zero bytes answers 'apart' exactly where their order completes the step and touches apart, and then the step is free of order (02 §11).
use Prim.Native.Nat.{ℕ, suc, ◌≤◌}
use Rattle.std.proofs.Common.{arith, sym, ◌∙◌, inl, inr, lt-ltb, le-ltb}
use Rattle.std.specs.Prelude.{◌≡◌, refl, true, false, ◌⊎◌, length, replicate}
use Rattle.std.proofs.Math.Path.{ap, subst}
use mathlib.Core.List.Memᴰ
use mathlib.Core.List.{List, ◌∷◌, Memᴰ}
use Rattle.std.proofs.Math.ListN.{get_elem?}
use Rattle.program.specs.Tree.{Program}
use Rattle.machine.specs.Published.{State, State.state, structs}
use Rattle.machine.specs.Rules.{Actor.instance, Rule}
use Rattle.machine.specs.Machine.{Instance, Machine, Out.next, acting, command}
use Rattle.machine.proofs.Laws.FromLaws.{command_from}
use Rattle.machine.specs.Represents.{Represents}
use Rattle.machine.proofs.Laws.RepresentsLaws.{still_done}
use Rattle.machine.proofs.Laws.CommandAgrees.{command_follows}
use Rattle.run.specs.Turns.{chosen}
use Rattle.run.specs.Holders.{due}
use Rattle.run.specs.Runs.{Due, Config.config, picked}
use Rattle.run.proofs.Laws.TurnLaws.{holders_still, due_none, due_still, holders_represent}
use Rattle.sound.specs.Firm.{Firm}
use Rattle.sound.specs.Invariant.{Good}
use Rattle.orders.specs.Orders.{Ordered, Ordered.no_turn, Ordered.a_turn, Turns, Turns.no_byte, Turns.a_byte}
use Rattle.orders.specs.Touches.{Use, Use.reading, Use.writing, Apart}
use Rattle.orders.specs.OrderFree.{OrderFree}
use Rattle.orders.specs.Deeds.{Deed, Deed.nothing, Deed.reads, Deed.writes, Act, Clash}
use Rattle.orders.specs.Following.{top_deed, write_deed, code_deed, deed_at, deeds_of, used}
use Rattle.orders.specs.Marks.{clean}
use Rattle.orders.specs.ZeroTurns.{next_label, next_deed, Zeros, Zeros.no_turn as no_zero, Zeros.a_turn as a_zero, Answer, Answer.apart}
use Rattle.orders.specs.ZeroTurns.{follow}
use Rattle.orders.proofs.Laws.Plans.{Plan, Plans, Plans.p_push, Plans.p_this, Plans.p_not, Plans.p_if, Plans.p_op, Plans.p_rd, Plans.p_get, Plans.p_set}
use Rattle.orders.proofs.Laws.Plans.{Plans.p_skip, Plans.p_wr}
use Rattle.orders.proofs.Laws.Swap.{Step}
use Rattle.orders.proofs.Laws.CommandPlan.{command_step}
use Rattle.orders.proofs.Laws.Holding.{MakesNone, free_kept, heads_free, good_kept, good_counted}
use Rattle.orders.proofs.Laws.OrderSteps.{Stood, Touched, Did, plan_touched, did_first, did_later, clashing}
use Rattle.orders.proofs.Laws.StoodFree.{stood_free}
use Rattle.orders.proofs.Laws.FollowingLaws.{does_listed}
use Rattle.orders.proofs.Laws.MarkLaws.{by, clean_tells, tell_apart}
use Rattle.orders.proofs.Laws.ZeroTurnLaws.{within, Comes, Comes.comes_apart, Comes.comes_together, Comes.comes_stops, Comes.comes_unfinished}
use Rattle.orders.proofs.Laws.ZeroTurnLaws.{deeds_next, follow_comes, NoClash, follow_complete}

-- the deed of a plan is what its command is said to do
plan_deed : {p : Program} {is : List Instance} {l : ℕ} (i : Instance) {d : Deed} {P : Plan} → Plans p is l i d P → code_deed p i.stack i.code ≡ d
unfolding code_deed top_deed write_deed
plan_deed i (p_push a b c) = rw (a, code_deed)
plan_deed i (p_this a b c e) = rw (a, code_deed)
plan_deed i (p_not a b c) = rw (a, code_deed)
plan_deed i (p_if a b c) = rw (a, code_deed)
plan_deed i (p_op a b c e) = rw (a, code_deed)
plan_deed {p} i (p_rd {v = v} a b c e f g s) = ap (code_deed p i.stack) a ∙ ap (top_deed (λ q. reads q v)) b
plan_deed i (p_get a b c e) = rw (a, code_deed)
plan_deed i (p_set a b c) = rw (a, code_deed)
plan_deed {p} i (p_skip {v = v} {q = q} a b c e f g) =
    ap (code_deed p i.stack) a ∙ ap (top_deed (write_deed p v)) b
    ∙ ap {B = Deed} (λ t. elim t [ true ↦ nothing | false ↦ writes q v ]) (lt-ltb q (structs p) f)
plan_deed {p} i (p_wr {v = v} {q = q} a b c e f g h k s) =
    ap (code_deed p i.stack) a ∙ ap (top_deed (write_deed p v)) b
    ∙ ap {B = Deed} (λ t. elim t [ true ↦ nothing | false ↦ writes q v ]) (le-ltb q (structs p) f)

step_deed : {p : Program} {l : ℕ} {m n : Machine} {d : Deed} → Step p l m d n → deed_at p (get_elem? m.instances l) ≡ d
unfolding deed_at
step_deed {p} s = ap (deed_at p) s.at ∙ plan_deed s.actor s.plans

-- nobody holds commands in the state where nobody does in the machine, and the other way round
due_there : (m : Machine) (st : State) → Represents m st → due m ≡ true → Due st
due_there m (state s σ b) R e = (still_done m.instances σ R.1).0 (due_still m e)

pub busy_there : (m : Machine) (st : State) → Represents m st → due m ≡ false → Due st → ⊥
busy_there m (state s σ b) R e d =
    let f : due m ≡ true = (due_none m).1 ((holders_still m).1 ((still_done m.instances σ R.1).1 d)) in
    let z : false ≡ true = sym e ∙ f in let y : ◌≡◌ {A = ℕ} 0 1 = cc in omega arith

-- the label that a zero byte picks
pub picked_next : (m : Machine) (st : State) → Represents m st → next_label m ≡ picked m.from 0 st
picked_next m (state s σ b) R = ap (λ hs. chosen hs 0) (holders_represent m m.from σ (refl, R))

-- zero bytes, on states: an order, what its deeds are, and that it is one of zero bytes
pub record ZeroOrder (p : Program) (m : Machine) (st : State) (ls : List ℕ) (z : Machine) : Type 0 where
  pub last : State
  pub ordered : Ordered p st ls last
  pub stood : Stood p z last
  pub did : (x : Act Deed) → Memᴰ x (deeds_of p m ls) → Did p st ls x.actor x.deed
  pub turns : Turns p (config m.from st) (replicate (length ls) 0) (config z.from last)

module _ {p : Program} (firm : Firm p) where
  -- a turn of the machine, on states
  pub turn_stood : {m m' : Machine} {st : State} {l : ℕ} → Stood p m st → command p l m ≡ next m'
      → (st' : State) × (Rule p (instance l) st st') × (Stood p m' st') × (Touched p l st (deed_at p (get_elem? m.instances l)))
  turn_stood {m} {m'} {st} {l} S e =
      let (d, n, s, q) = command_step firm S.good l e (λ i k c. heads_free firm m S.free l i k c) in
      let (st', r, R) = command_follows p l m st S.stands e in
      let good = subst (Good p) (sym q) (good_counted (suc l) n (good_kept firm S.good s)) in
      let none : MakesNone (acting l n) = free_kept firm s S.free in (
        st',
        r,
        record { good = good; free = subst MakesNone (sym q) none; stands = R },
        subst (Touched p l st) (sym (step_deed s)) (plan_touched m s.at st S.stands s.plans),
      )

  pub zero_order : {m z : Machine} {st : State} {ls : List ℕ} → Stood p m st → Zeros p m ls z → ZeroOrder p m st ls z
  unfolding deeds_of
  zero_order {m} {st = st} S no_zero =
      record { last = st; ordered = no_turn; stood = S; did = λ x h. absurd (Memᴰ.not-nil h); turns = no_byte }
  zero_order {m} {z} {st} S (a_zero {m' = m'} {ls = ls} h c t) =
      let (st', r, S', touched) = turn_stood S c in
      let o = zero_order S' t in
      let l = next_label m in
      record {
        last = o.last;
        ordered = a_turn r o.ordered;
        stood = o.stood;
        did = λ x u. pick st' r touched o.did x (Memᴰ.cases_cons (subst (Memᴰ x) (deeds_next p l ls m c) u));
        turns =
            a_byte (busy_there m st S.stands h) (subst (λ k. Rule p (instance k) st st') (picked_next m st S.stands) r)
            (subst (λ k. Turns p (config k st') (replicate (length ls) 0) (config z.from o.last))
            (command_from p l m c ∙ ap suc (picked_next m st S.stands)) o.turns);
      }
    where
      pick : (st' : State) → Rule p (instance (next_label m)) st st' → Touched p (next_label m) st (next_deed p m)
          → ((x : Act Deed) → Memᴰ x (deeds_of p m' ls) → Did p st' ls x.actor x.deed)
          → (x : Act Deed) → (x ≡ by (next_label m) (next_deed p m)) ⊎ Memᴰ x (deeds_of p m' ls) → Did p st (next_label m ∷ ls) x.actor x.deed
      pick st' r touched on x (inl e) =
          subst (λ (y : Act Deed). Did p st (next_label m ∷ ls) y.actor y.deed) (sym e) (did_first p st (next_label m) ls (next_deed p m) touched)
      pick st' r touched on x (inr u) = did_later ls x.actor x.deed r (on x u)

-- Apart, of states and of deeds ----------------------------------------------------------------------

write_clashes : (u : Use) (q v : ℕ) → Clash (writes q v) (used u q v)
write_clashes reading q v = (refl, refl)
write_clashes writing q v = (refl, refl)

clear_apart : {p : Program} (m : Machine) {st : State} (ls : List ℕ) → Represents m st → NoClash p (within (λ x. ⊥) (deeds_of p m ls)) → Apart p st ls
clear_apart {p} m {st} ls R n l l' q v u x y =
    n (by l (writes q v)) (by l' (used u q v)) (inr (does_listed p m st ls R x)) (inr (does_listed p m st ls R y)) (write_clashes u q v)

apart_clear : {p : Program} {m z : Machine} {st : State} {ls : List ℕ} → ZeroOrder p m st ls z → Apart p st ls → NoClash p (within (λ x. ⊥) (deeds_of p m ls))
apart_clear o free x y s t c = clashing free x.actor y.actor x.deed y.deed (o.did x (there x s)) (o.did y (there y t)) c
  where
    there : (x : Act Deed) {ds : List (Act Deed)} → within (λ x. ⊥) ds x → Memᴰ x ds
    there x (inl n) = absurd n
    there x (inr u) = u

-- The answer -----------------------------------------------------------------------------------------

apart_is : {n k : ℕ} → apart n ≡ apart k → n ≡ k
apart_is e = cc

-- an answer 'apart'
abbrev Went : Program → Machine → ℕ → Type 0
Went p m n = (ls : List ℕ) × (z : Machine) × (Zeros p m ls z) × (due z ≡ true) × (length ls ≡ n) × (NoClash p (within (λ x. ⊥) (deeds_of p m ls)))

came_apart : {p : Program} {m : Machine} {A : Answer} {n : ℕ} → Comes p (λ x. ⊥) 0 m A → A ≡ apart n → Went p m n
came_apart {p} {m} (comes_apart {ls = ls} {z = z} t d k ns s) e =
    (ls, z, t, d, omega (arith, k, apart_is e), λ x y. tell_apart (within (λ x. ⊥) (deeds_of p m ls)) ns s x y)
came_apart (comes_together z d k l u o r c f) e = let y : ◌≡◌ {A = ℕ} 0 1 = cc in absurd (omega arith)
came_apart (comes_stops z d k c) e = let y : ◌≡◌ {A = ℕ} 0 1 = cc in absurd (omega arith)
came_apart comes_unfinished e = let y : ◌≡◌ {A = ℕ} 0 1 = cc in absurd (omega arith)

module _ {p : Program} (firm : Firm p) {m : Machine} {st : State} (S : Stood p m st) (k n : ℕ) where
  went : follow p k 0 clean m ≡ apart n → Went p m n
  went e = came_apart (follow_comes p k (λ x. ⊥) 0 clean m clean_tells) e

  -- 'apart' after n turns is answered only where zero bytes complete the step in n turns by an order that touches apart,
  pub apart_then : follow p k 0 clean m ≡ apart n
      → (ls : List ℕ) × (z : Machine) × (Zeros p m ls z) × (due z ≡ true) × (length ls ≡ n) × (Apart p st ls)
  apart_then e = let (ls, z, t, d, q, c) = went e in (ls, z, t, d, q, clear_apart m ls S.stands c)

  -- and wherever they do, if so many turns are allowed
  pub apart_where : n ≤ k → {ls : List ℕ} {z : Machine} → Zeros p m ls z → due z ≡ true → length ls ≡ n → Apart p st ls
      → follow p k 0 clean m ≡ apart n
  apart_where h t d q a =
      follow_complete p k (λ x. ⊥) 0 clean clean_tells t d (omega (arith, q, h)) (apart_clear (zero_order firm S t) a) ∙ ap apart (omega (arith, q))

  -- then the step is free of order
  pub apart_free : follow p k 0 clean m ≡ apart n
      → (z : State) × (a : ℕ) × (Turns p (config m.from st) (replicate n 0) (config a z)) × (OrderFree p st n z)
  apart_free e =
      let (ls, z, t, d, q, c) = went e in
      let o = zero_order firm S t in
      let free = clear_apart m ls S.stands c in (
        o.last,
        z.from,
        subst (λ i. Turns p (config m.from st) (replicate i 0) (config z.from o.last)) q o.turns,
        subst (λ i. OrderFree p st i o.last) q (stood_free firm S o.ordered (due_there z o.last o.stood.stands d) free),
      )
