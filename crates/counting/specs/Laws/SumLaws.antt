-- The sum over the holders, label by label (02 §14): what is counted and what is left come to all, and all of it fits 32 bits.
use Prim.Native.Nat.{ℕ, suc, ◌+◌, ◌-◌, ◌<◌, ◌≤◌}
use native.Mathlib.Omega.{arith}
use Rattle.std.proofs.Math.Numerals.{add-one}
use Rattle.std.proofs.Math.Nat.{zero-add}
use Rattle.std.specs.Prelude.{◌≡◌, Bool, List, [], ◌∷◌}
use Rattle.std.proofs.Math.Path.{refl, sym, ap}
use Rattle.std.proofs.Common.{◌∙◌}
use Rattle.std.proofs.Math.Bool.{true, false}
use Rattle.std.proofs.Math.ListN.{length}
use Rattle.types.specs.Limits.{nat_end}
use Rattle.program.specs.Tree.{Program}
use Rattle.machine.specs.Machine.{Machine}
use Rattle.run.specs.Turns.{labels_from}
use Rattle.layout.specs.Layout.{holds}
use Rattle.layout.specs.State.{State}
use Rattle.memory.specs.Choose.{flags}
use Rattle.memory.proofs.Laws.ChooseStands.{flags_same}
use Rattle.counts.specs.Numbers.{sum}
use Rattle.counts.specs.Tally.{Kind, Kind.ends, Kind.stops, value_at, at_rest, holding, tally_by, tally}
use Rattle.counts.proofs.Laws.TallySteps.{from_command, tally_steps}
use Rattle.counts.proofs.Laws.FitLaws.{counts_fit}
use Rattle.counting.specs.declared.count.Asked.{Asked}
use Rattle.counting.specs.declared.count.Tally.{Tally}
use Rattle.counting.specs.Counting.{Stood, Countable, tallied, count_of, Tallies, Follows, later, Sums}
use Rattle.counting.specs.Laws.CommandLaws.{commands_same}
use Rattle.counting.specs.Laws.StoodLaws.{holders_kept, idle_told}

-- The holders that are left --------------------------------------------------------------------

module _ (heads : List ℕ) (n h : ℕ) where
  later_none : n ≤ h → later heads h n ≡ []
  unfolding labels_from flags
  later_none b = let e : n - h ≡ 0 = omega (arith, b) in rw e

  later_by : h < n → (t : Bool) → holds heads h ≡ t → later heads h n ≡ labels_from h (t ∷ flags heads (h + 1) (n - (h + 1)))
  unfolding flags
  later_by b t q = let e : n - h ≡ suc (n - (h + 1)) = omega (arith, b) in rw (e, flags, q, add-one h)

  later_holds : h < n → holds heads h ≡ true → later heads h n ≡ h ∷ later heads (h + 1) n
  unfolding labels_from
  later_holds b q = later_by b true q ∙ rw (add-one h)

  later_past : h < n → holds heads h ≡ false → later heads h n ≡ later heads (h + 1) n
  unfolding labels_from
  later_past b q = later_by b false q ∙ rw (add-one h)

-- Sums -----------------------------------------------------------------------------------------

count_add : (s t : Tally) (κ : Kind)
    → count_of κ (tallied (s.truths + t.truths) (s.falsehoods + t.falsehoods) (s.stops + t.stops)) ≡ count_of κ s + count_of κ t
count_add s t (ends true) = refl
count_add s t (ends false) = refl
count_add s t stops = refl

nought : (κ : Kind) → count_of κ (tallied 0 0 0) ≡ 0
nought (ends true) = refl
nought (ends false) = refl
nought stops = refl

module _ (counts list : List ℕ) (a : Asked) (z : State) where
  -- nothing is counted at first
  pub sums_first : (z.machine.holding ≡ 0 → ⊥) → Sums counts list a z 0 (tallied 0 0 0)
  unfolding tally_by
  sums_first f p m s κ =
      let F = from_command p a.label a.parameter κ m in
      let e : later z.heads 0 z.machine.count ≡ holding m = ap (labels_from 0) (ap (flags z.heads 0) less ∙ flags_same m s.stands) in
      ap (λ n. n + sum F (later z.heads 0 z.machine.count)) (nought κ) ∙ zero-add _ ∙ ap (sum F) e
      ∙ sym (tally_steps p a.label a.parameter κ m ∙ some F (at_rest κ (value_at m a.label a.parameter)) (holding m) (λ q. f (holders_kept s ∙ ap length q)))
    where
      less : z.machine.count - 0 ≡ z.machine.count
      less = omega arith

      some : (F : ℕ → ℕ) (r : ℕ) (hs : List ℕ) → (hs ≡ [] → ⊥) → tally_by F r hs ≡ sum F hs
      some F r [] g = absurd (g refl)
      some F r (h ∷ hs) g = refl

  -- one label more: nothing where it holds no commands
  module _ (h : ℕ) (b : h < z.machine.count) (r : Tally) (f : Sums counts list a z h r) (t : Tally) (g : Follows counts list a h z t) where
    both : (p : Program) (m : Machine) → Stood p counts list a m z → (κ : Kind)
        → count_of κ r + (count_of κ t + sum (from_command p a.label a.parameter κ m) (later z.heads (h + 1) z.machine.count))
        ≡ tally p a.label a.parameter κ m
    unfolding sum
    both p m s κ = go (holds z.heads h) refl
      where
        F : ℕ → ℕ
        F = from_command p a.label a.parameter κ m

        rest : ℕ
        rest = sum F (later z.heads (h + 1) z.machine.count)

        go : (b : Bool) → holds z.heads h ≡ b → count_of κ r + (count_of κ t + rest) ≡ tally p a.label a.parameter κ m
        go true q =
            let e = ap (sum F) (later_holds z.heads z.machine.count h b q) in
            let x = g p m s κ in
            let w = f p m s κ in
            omega (arith, e, x, w)
        go false q =
            let e = ap (sum F) (later_past z.heads z.machine.count h b q) in
            let x = g p m s κ in
            let y = idle_told s h b q κ in
            let n = nought κ in
            let w = f p m s κ in
            omega (arith, e, x, y, n, w)

    pub sums_more : Sums counts list a z (h + 1) (tallied (r.truths + t.truths) (r.falsehoods + t.falsehoods) (r.stops + t.stops))
    sums_more p m s κ = let e = count_add r t κ in let w = both p m s κ in omega (arith, e, w)

    -- which fits
    pub sums_fit : Countable counts list a z → (κ : Kind) → count_of κ r + count_of κ t < nat_end
    sums_fit k κ =
        let w = both k.program k.machine k.stood κ in
        let e = commands_same k.machine k.stood.stands in
        let n = k.few in
        let x = counts_fit k.program a.label a.parameter k.machine (omega (arith, e, n)) in
        go κ _ w x
      where
        go : (κ : Kind) (y : ℕ) → count_of κ r + (count_of κ t + y) ≡ tally k.program a.label a.parameter κ k.machine
            → tally k.program a.label a.parameter (ends true) k.machine + tally k.program a.label a.parameter (ends false) k.machine
            + tally k.program a.label a.parameter stops k.machine < nat_end
            → count_of κ r + count_of κ t < nat_end
        go (ends true) y w x = omega (arith, w, x)
        go (ends false) y w x = omega (arith, w, x)
        go stops y w x = omega (arith, w, x)

  -- nothing is left at last
  pub sums_last : (h : ℕ) → z.machine.count ≤ h → (r : Tally) → Sums counts list a z h r → Tallies counts list a z r
  unfolding sum
  sums_last h b r f p m s κ =
      let F = from_command p a.label a.parameter κ m in
      let e = ap (sum F) (later_none z.heads z.machine.count h b) in
      let w = f p m s κ in
      omega (arith, e, w)
