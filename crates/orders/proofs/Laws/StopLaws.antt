-- Where following zero bytes tells a number, their order stops with it (02 §11).
use Rattle.std.specs.Prelude.{ℕ, ◌≡◌, false, ◌⊎◌, List, [], ◌∷◌, length, replicate}
use Rattle.std.proofs.Common.{arith, sym, ap, subst, ◌∙◌, inl, inr}
use Rattle.program.specs.Tree.{Program}
use Rattle.machine.specs.Published.{State}
use Rattle.machine.specs.Stops.{Full, Exceeded, full, exceeded}
use Rattle.machine.specs.Machine.{Machine, Out.refused, command}
use Rattle.machine.specs.Represents.{Represents}
use Rattle.machine.proofs.Laws.CommandAgrees.{command_full, command_exceeded, command_numbers}
use Rattle.run.specs.Holders.{due}
use Rattle.run.specs.Runs.{Config.config, Halts, Halts.at_34, Halts.at_35}
use Rattle.sound.specs.Firm.{Firm}
use Rattle.orders.specs.Orders.{Turns}
use Rattle.orders.specs.Marks.{clean}
use Rattle.orders.specs.Stopping.{Stopping}
use Rattle.orders.specs.ZeroTurns.{next_label, Zeros, Answer, Answer.stops, follow}
use Rattle.orders.proofs.Laws.OrderSteps.{Stood}
use Rattle.orders.proofs.Laws.MarkLaws.{clean_tells}
use Rattle.orders.proofs.Laws.ZeroTurnLaws.{Comes, Comes.comes_apart, Comes.comes_together, Comes.comes_stops, Comes.comes_unfinished, follow_comes}
use Rattle.orders.proofs.Laws.ApartLaws.{zero_order, busy_there, picked_next}

-- a refused command of the instance that a zero byte picks
refused_halts : (p : Program) (z : Machine) (st : State) {c : ℕ} → Represents z st → due z ≡ false → command p (next_label z) z ≡ refused c
    → Halts (config z.from st) (0 ∷ []) c
refused_halts p z st {c} R d e = go (command_numbers p (next_label z) z st R e)
  where
    go : (c ≡ full) ⊎ (c ≡ exceeded) → Halts (config z.from st) (0 ∷ []) c
    go (inl q) =
        subst (Halts (config z.from st) (0 ∷ [])) (sym q)
        (at_34 (busy_there z st R d) (subst (λ l. Full l st) (picked_next z st R) ((command_full p (next_label z) z st R).0 (e ∙ ap refused q))))
    go (inr q) =
        subst (Halts (config z.from st) (0 ∷ [])) (sym q)
        (at_35 (busy_there z st R d) (subst (λ l. Exceeded l st) (picked_next z st R) ((command_exceeded p (next_label z) z st R).0 (e ∙ ap refused q))))

module _ {p : Program} (firm : Firm p) {m : Machine} {st : State} (S : Stood p m st) where
  stop_at : {z : Machine} {ls : List ℕ} {c n : ℕ} → Zeros p m ls z → due z ≡ false → length ls ≡ n → command p (next_label z) z ≡ refused c
      → Stopping p st m.from n c
  stop_at {z} t d q e =
      let Z = zero_order firm S t in
      record {
        last = Z.last;
        counted = z.from;
        turns = subst (λ i. Turns p (config m.from st) (replicate i 0) (config z.from Z.last)) q Z.turns;
        halts = refused_halts p z Z.last Z.stood.stands d e;
      }

  -- a number is answered only where the order stops with it
  pub stops_then : (k c n : ℕ) → follow p k 0 clean m ≡ stops c n → Stopping p st m.from n c
  stops_then k c n e = came (follow_comes p k (λ x. ⊥) 0 clean m clean_tells) e
    where
      came : {A : Answer} → Comes p (λ x. ⊥) 0 m A → A ≡ stops c n → Stopping p st m.from n c
      came (comes_apart t d j ns s) e = let y : ◌≡◌ {A = ℕ} 0 1 = cc in absurd (omega arith)
      came (comes_together t d j f u o r g ne) e = let y : ◌≡◌ {A = ℕ} 0 1 = cc in absurd (omega arith)
      came (comes_stops {n = n'} {c = c'} t d j g) e =
          let a : n' ≡ n = cc in let b : c' ≡ c = cc in stop_at t d (omega (arith, j, a)) (g ∙ ap refused b)
      came comes_unfinished e = let y : ◌≡◌ {A = ℕ} 0 1 = cc in absurd (omega arith)
