-- Where following zero bytes tells two instances, they meet: the one touched the parameter, the other's next command would, and one of them writes (02 §11).
use Rattle.std.specs.Prelude.{ℕ, ◌≡◌, refl, false, ◌⊎◌, length, replicate}
use Rattle.std.proofs.Common.{arith, sym, ap, subst, ◌∙◌, inl, inr}
use mathlib.Core.List.{List, ◌∷◌, Memᴰ}
use Rattle.std.proofs.Math.ListN.{get_elem?}
use Rattle.program.specs.Tree.{Program}
use Rattle.machine.specs.Published.{State}
use Rattle.commands.specs.Noted.{Note}
use Rattle.machine.specs.Machine.{Tagged, Instance, Machine, Out, Out.next, Out.refused, Out.stuck, command}
use Rattle.machine.specs.Performed.{Performed, Performed.pushed, Performed.pushed_this, Performed.negated, Performed.read_one, Performed.skipped}
use Rattle.machine.specs.Performed.{Performed.wrote, Performed.calculated, Performed.exceeding, Performed.constructed, Performed.filled, Performed.branched}
use Rattle.machine.specs.Performed.{Performed.no_way}
use Rattle.machine.proofs.Laws.PerformedLaws.{by_ways}
use Rattle.run.specs.Holders.{due}
use Rattle.run.specs.Runs.{Config.config}
use Rattle.sound.specs.Firm.{Firm}
use Rattle.sound.proofs.Laws.Advance.{Kept}
use Rattle.sound.proofs.Laws.CommandKept.{Refused}
use Rattle.sound.proofs.Laws.NeverStuckLaws.{taken_kept}
use Rattle.orders.specs.Orders.{Turns}
use Rattle.orders.specs.Touches.{Use, Use.reading, Use.writing, Touches, Does}
use Rattle.orders.specs.Deeds.{Deed, Deed.nothing, Deed.reads, Act, Clash}
use Rattle.orders.specs.Following.{code_deed, deed_at, deeds_of}
use Rattle.orders.specs.Marks.{clean}
use Rattle.orders.specs.Meeting.{Meeting}
use Rattle.orders.specs.ZeroTurns.{next_label, next_deed, Zeros, Answer}
use Rattle.orders.specs.ZeroTurns.{Answer.together}
use Rattle.orders.specs.ZeroTurns.{follow}
use Rattle.orders.proofs.Laws.OrderSteps.{Stood, Touched, Did}
use Rattle.orders.proofs.Laws.MarkLaws.{by, On, clean_tells}
use Rattle.orders.proofs.Laws.ZeroTurnLaws.{within, Comes, Comes.comes_apart, Comes.comes_together, Comes.comes_stops, Comes.comes_unfinished}
use Rattle.orders.proofs.Laws.ZeroTurnLaws.{follow_comes}
use Rattle.orders.proofs.Laws.ApartLaws.{ZeroOrder, zero_order, turn_stood}

next_refused {ℓ} : {X : Type ℓ} {m : Machine} {n : ℕ} → next m ≡ refused n → X
next_refused e = let z : ◌≡◌ {A = ℕ} 0 1 = cc in absurd (omega arith)

stuck_refused {ℓ} : {X : Type ℓ} {n : ℕ} → stuck ≡ refused n → X
stuck_refused e = let z : ◌≡◌ {A = ℕ} 0 1 = cc in absurd (omega arith)

-- a command that touches a parameter is not refused
way_nothing : {p : Program} {m : Machine} {l : ℕ} {i : Instance} {r : List Note} {n : Note} {o : Out} (χ : List Tagged) {c : ℕ}
    → Performed p m l i r n o → o ≡ refused c → code_deed p χ (n ∷ r) ≡ nothing
unfolding code_deed
way_nothing χ pushed e = next_refused e
way_nothing χ pushed_this e = next_refused e
way_nothing χ (negated s) e = next_refused e
way_nothing χ (read_one h s g f) e = next_refused e
way_nothing χ (skipped h s g z k) e = next_refused e
way_nothing χ (wrote h s g z k) e = next_refused e
way_nothing χ (calculated s v) e = next_refused e
way_nothing χ (exceeding s v) e = refl
way_nothing χ (constructed a b) e = next_refused e
way_nothing χ (filled a) e = refl
way_nothing χ (branched s) e = next_refused e
way_nothing χ no_way e = stuck_refused e

refused_deed : (p : Program) (m : Machine) (l : ℕ) {c : ℕ} → command p l m ≡ refused c → deed_at p (get_elem? m.instances l) ≡ nothing
unfolding deed_at
refused_deed p m l {c} e =
    by_ways (λ o. o ≡ refused c → deed_at p (get_elem? m.instances l) ≡ nothing) p m l (λ q. stuck_refused q)
    (λ i n r o at f w q. ap (deed_at p) at ∙ ap (code_deed p i.stack) f ∙ way_nothing i.stack w q) e

module _ {p : Program} (firm : Firm p) where
  -- the deed of a holder's next command is a touch
  next_touched : {m : Machine} {st : State} → Stood p m st → due m ≡ false → Touched p (next_label m) st (next_deed p m)
  next_touched {m} {st} S h =
      let (i, a, kept) = taken_kept firm 0 S.good h in go (command p (next_label m) m) refl kept
    where
      go : (o : Out) → command p (next_label m) m ≡ o → Kept p Refused o → Touched p (next_label m) st (next_deed p m)
      go (next m') c k = let (st', r, S', t) = turn_stood firm S c in t
      go (refused n) c k = subst (Touched p (next_label m) st) (sym (refused_deed p m (next_label m) c)) tt
      go stuck c k = absurd k

  meet_at : {m z : Machine} {st : State} {ls : List ℕ} {n l a q v : ℕ} {e : Deed} → Stood p m st → Zeros p m ls z → due z ≡ false → length ls ≡ n
      → l ≡ next_label z → Memᴰ (by a e) (deeds_of p m ls) → On q v e → On q v (next_deed p z) → Clash (next_deed p z) e → (l ≡ a → ⊥)
      → Meeting p st m.from n l a q v
  meet_at {m} {z} {st} {ls} {n} {l} {a} {q} {v} {e} S t h len f u o o' c ne =
      let Z = zero_order firm S t in
      let T = subst (λ k. Touched p k Z.last (next_deed p z)) (sym f) (next_touched Z.stood h) in
      let D = Z.did (by a e) u in
      let turns = subst (λ i. Turns p (config m.from st) (replicate i 0) (config z.from Z.last)) len Z.turns in
      go Z turns (next_deed p z) e o o' c D T
    where
      of : (Z : ZeroOrder p m st ls z) → Turns p (config m.from st) (replicate n 0) (config z.from Z.last) → (u w : Use) → Does p st ls a u q v
          → Touches p l Z.last w q v → (u ≡ writing) ⊎ (w ≡ writing) → Meeting p st m.from n l a q v
      of Z turns u w d t k = record {
        labels = ls;
        last = Z.last;
        counted = z.from;
        turns = turns;
        ordered = Z.ordered;
        before = u;
        now = w;
        did = d;
        does = t;
        writes = k;
        other = ne;
      }

      go : (Z : ZeroOrder p m st ls z) → Turns p (config m.from st) (replicate n 0) (config z.from Z.last) → (d e : Deed) → On q v e → On q v d
          → Clash d e → Did p st ls a e → Touched p l Z.last d → Meeting p st m.from n l a q v
      go Z turns d e (inl f) (inl g) c D T = absurd (subst (λ y. Clash y (reads q v)) g (subst (Clash d) f c))
      go Z turns d e (inl f) (inr g) c D T = of Z turns reading writing (subst (Did p st ls a) f D) (subst (Touched p l Z.last) g T) (inr refl)
      go Z turns d e (inr f) (inl g) c D T = of Z turns writing reading (subst (Did p st ls a) f D) (subst (Touched p l Z.last) g T) (inl refl)
      go Z turns d e (inr f) (inr g) c D T = of Z turns writing writing (subst (Did p st ls a) f D) (subst (Touched p l Z.last) g T) (inl refl)

  -- 'together' is answered only where two different instances meet, one of them by a write
  pub together_then : {m : Machine} {st : State} → Stood p m st → (k n l a q v : ℕ) → follow p k 0 clean m ≡ together n l a q v
      → Meeting p st m.from n l a q v
  together_then {m} {st} S k n l a q v e = came (follow_comes p k (λ x. ⊥) 0 clean m clean_tells) e
    where
      came : {A : Answer} → Comes p (λ x. ⊥) 0 m A → A ≡ together n l a q v → Meeting p st m.from n l a q v
      came (comes_apart t d j ns s) e = let y : ◌≡◌ {A = ℕ} 0 1 = cc in absurd (omega arith)
      came (comes_together {n = n'} {q = q'} {v = v'} {ls = ls} {z = z} {e = e'} t d j f u o r c ne) e =
          let same : n' ≡ n = cc in
          let (g, h, i, k') = parts e in
          meet_at S t d (omega (arith, j, same)) (sym g ∙ f) (there (subst (λ x. within (λ x. ⊥) (deeds_of p m ls) (by x e')) h u))
          (subst (λ x. On q x e') k' (subst (λ x. On x v' e') i o)) (subst (λ x. On q x (next_deed p z)) k' (subst (λ x. On x v' (next_deed p z)) i r)) c
          (λ x. ne (g ∙ x ∙ sym h))
        where
          parts : {n n' l l' a a' q q' v v' : ℕ} → together n l a q v ≡ together n' l' a' q' v' → (l ≡ l') × (a ≡ a') × (q ≡ q') × (v ≡ v')
          parts e = (cc, cc, cc, cc)

          there : {x : Act Deed} {ds : List (Act Deed)} → within (λ x. ⊥) ds x → Memᴰ x ds
          there (inl n) = absurd n
          there (inr u) = u
      came (comes_stops t d j c) e = let y : ◌≡◌ {A = ℕ} 0 1 = cc in absurd (omega arith)
      came comes_unfinished e = let y : ◌≡◌ {A = ℕ} 0 1 = cc in absurd (omega arith)
