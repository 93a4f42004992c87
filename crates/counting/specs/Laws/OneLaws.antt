-- What one command does between keeping and putting back (02 §14), of memory that may be counted on.
use Rattle.std.specs.Prelude.{ℕ, ◌*◌, ◌<◌, ◌≤◌, ◌≡◌, refl, Bool, true, false, List, length, drop, ltb}
use Rattle.std.proofs.Common.{arith, sym, ap, subst, ◌∙◌, length-drop, length-take-le, ltb-true}
use Rattle.types.specs.Limits.{max_instances}
use Rattle.layout.specs.Layout.{head, head_size, end_of, row_size, holds}
use Rattle.layout.specs.declared.Numbers.{Numbers}
use Rattle.layout.specs.State.{State, state_of}
use Rattle.memory.specs.Act.{act}
use Rattle.memory.specs.Fit.{Fit}
use Rattle.counting.specs.declared.count.Asked.{Asked}
use Rattle.counting.specs.declared.count.Tally.{Tally}
use Rattle.counting.specs.declared.rows.Saved.{Saved}
use Rattle.counting.specs.Framed.{Framed, fresh_row, stored_at, Saves, Sized, restored_heads, restored_cells}
use Rattle.counting.specs.Counting.{commands_in, Stood, Countable, tallied, Tallies, Follows}
use Rattle.counting.specs.Laws.FrameLaws.{act_frames}
use Rattle.counting.specs.Laws.MendLaws.{heads_back, cells_back}
use Rattle.counting.specs.Laws.StoodLaws.{idle_told, holder_counted, holder_fits, holder_goes, holder_stops, holder_shortens, stop_told, next_told}

-- the row that is kept is one of the 256
fresh_below : (count h : ℕ) → h < count → count ≤ max_instances → fresh_row count h < max_instances
unfolding fresh_row
fresh_below count h b few = go (ltb count max_instances) refl
  where
    go : (t : Bool) → ltb count max_instances ≡ t → elim t [ true ↦ count | false ↦ h ] < max_instances
    go true e = ltb-true count max_instances e
    go false e = omega (arith, b, few)

-- what is kept has its sizes
pub saves_sized : (heads cells : List ℕ) (l f r : ℕ) (s : Saved) → Saves heads cells l f r s → l < max_instances → f < max_instances
    → length heads ≡ head_size * max_instances → length cells ≡ row_size * max_instances → Sized s
saves_sized heads cells l f r s k a b c d = record {
  actor = ap length k.actor ∙ length-take-le head_size (drop (head_size * l) heads) (omega (arith, length-drop (head_size * l) heads, a, c));
  fresh = ap length k.fresh ∙ length-take-le head_size (drop (head_size * f) heads) (omega (arith, length-drop (head_size * f) heads, b, c));
  row = ap length k.row ∙ length-take-le row_size (drop (row_size * l) cells) (omega (arith, length-drop (row_size * l) cells, a, d));
  other = ap length k.other ∙ length-take-le row_size (drop (row_size * f) cells) (omega (arith, length-drop (row_size * f) cells, b, d));
}

-- of memory that is the same
pub follows_same : (counts list : List ℕ) (a : Asked) (h : ℕ) (r : Tally) (m : Numbers) {x x' y y' : List ℕ} → x ≡ x' → y ≡ y'
    → Follows counts list a h (state_of m x y) r → Follows counts list a h (state_of m x' y') r
follows_same counts list a h r m {x' = x'} {y = y} p q f =
    subst (λ w. Follows counts list a h (state_of m x' w) r) q (subst (λ w. Follows counts list a h (state_of m w y) r) p f)

module _ {counts list : List ℕ} {a : Asked} (z : State) (k : Countable counts list a z) (h : ℕ) (b : h < z.machine.count) where
  few : z.machine.count ≤ max_instances
  few = k.stood.stands.few

  pub row_below : h < max_instances
  row_below = omega (arith, b, few)

  pub row_within : head h end_of < length z.heads
  row_within = let n = k.stood.stands.heads_long in omega (arith, b, few, n)

  pub fresh_low : fresh_row z.machine.count h < max_instances
  fresh_low = fresh_below z.machine.count h b few

  -- it holds no commands
  pub idle_follows : holds z.heads h ≡ false → Follows counts list a h z (tallied 0 0 0)
  idle_follows t p m s κ = idle_told s h b t κ

  module _ (t : holds z.heads h ≡ true) where
    pub one_fits : Fit list counts h z
    one_fits = holder_fits k.stood h b t

    pub one_counted : 0 < z.machine.holding
    one_counted = holder_counted k.stood h b t

    -- memory y after its command
    module _ (y : State) (e : y ≡ act list counts h z) where
      framed : Framed z h (fresh_row z.machine.count h) (stored_at list z.heads z.cells h) y
      framed = subst (Framed z h (fresh_row z.machine.count h) (stored_at list z.heads z.cells h)) (sym e) (act_frames list counts h z one_fits)

      pub after_heads_long : length y.heads ≡ head_size * max_instances
      after_heads_long = framed.heads_long ∙ k.stood.stands.heads_long

      pub after_cells_long : length y.cells ≡ row_size * max_instances
      after_cells_long = framed.cells_long ∙ k.stood.stands.cells_long

      -- put back
      pub put_back : {f : ℕ} → f ≡ fresh_row z.machine.count h → {s : Saved} → Saves z.heads z.cells h f (stored_at list z.heads z.cells h) s
          → stored_at list z.heads z.cells h < length z.cells → (restored_heads y.heads h f s ≡ z.heads) × (restored_cells y.cells h f s ≡ z.cells)
      put_back {f} q {s} w r =
          let u = subst (λ n. Framed z h n (stored_at list z.heads z.cells h) y) (sym q) framed in
          let l = subst (λ n. n < max_instances) (sym q) fresh_low in
          let x = k.stood.stands.heads_long in
          let c = k.stood.stands.cells_long in (
            heads_back z y h f (stored_at list z.heads z.cells h) u s w (omega (arith, b, few, x)) (omega (arith, l, x)),
            cells_back z y h f (stored_at list z.heads z.cells h) u s w (omega (arith, b, few, c)) (omega (arith, l, c)) r,
          )

      number_is : (act list counts h z).machine.number ≡ y.machine.number
      number_is = ap (λ (x : State). x.machine.number) (sym e)

      -- it was refused
      module _ (q : y.machine.number ≡ 0 → ⊥) where
        stops : (act list counts h z).machine.number ≡ 0 → ⊥
        stops w = q (sym number_is ∙ w)

        pub stop_untouched : (y.heads ≡ z.heads) × (y.cells ≡ z.cells)
        stop_untouched =
            let (n, c, w) = holder_stops k.stood h b t stops in
            (ap (λ (x : State). x.heads) (e ∙ w), ap (λ (x : State). x.cells) (e ∙ w))

        pub stop_follows : Follows counts list a h z (tallied 0 0 1)
        stop_follows p m s κ = stop_told s h b t stops κ

      -- it was taken
      module _ (q : y.machine.number ≡ 0) where
        pub next_fewer : commands_in y.heads 0 y.machine.count < commands_in z.heads 0 z.machine.count
        next_fewer =
            subst (λ (x : State). commands_in x.heads 0 x.machine.count < commands_in z.heads 0 z.machine.count) (sym e)
            (holder_shortens k.stood h b t (number_is ∙ q))

        pub next_countable : Countable counts list a y
        next_countable =
            let (m, c, s) = holder_goes k.stood h b t (number_is ∙ q) in
            let n = k.few in
            let w = next_fewer in
            record { program = k.program; machine = m; stood = subst (Stood k.program counts list a m) (sym e) s; few = omega (arith, n, w) }

        pub next_follows : {r : Tally} → Tallies counts list a y r → Follows counts list a h z r
        next_follows {r} f p m s κ = next_told s h b t (number_is ∙ q) {r = r} (subst (λ (x : State). Tallies counts list a x r) e f) κ
