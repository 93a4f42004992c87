-- Memory that holds a machine whose schedule is not at its end is ready for a move (01, 'Table and turns').
use Rattle.std.specs.Prelude.{ℕ, zero, suc, ◌*◌, ◌^◌, ◌<◌, ◌≤◌, ◌≡◌, refl, Bool, true, false, List, [], ◌∷◌, length, get_or}
use Rattle.std.proofs.Math.Option.{some}
use Rattle.std.proofs.Common.{arith}
use Rattle.std.proofs.Math.ListN.{get_elem?}
use Rattle.types.specs.Limits.{max_structs, fix_levels}
use Rattle.machine.specs.Published.{Sched, Sched.done, Sched.fixpoint}
use Rattle.machine.specs.Machine.{Instance, Machine}
use Rattle.layout.specs.State.{State}
use Rattle.layout.specs.Codes.{fix_code, round_code}
use Rattle.memory.specs.Plan.{At, At.at_end, At.at_start, At.at_fix, At.at_round}
use Rattle.memory.proofs.Laws.PlanLaws.{code_below, at_within}
use Rattle.memory.specs.Stands.{bits, Stands}
use Rattle.scheduler.specs.Ready.{spans_size, Rows, Movable}

-- entries are a digit each
one_digit : (k x : ℕ) → x < 2 ^ k → suc (2 * x) < 2 ^ suc k
one_digit k x h = omega arith

bits_below : (b : List Bool) → bits b < 2 ^ length b
unfolding bits
bits_below [] = omega arith
bits_below (true ∷ b) = one_digit (length b) (bits b) (bits_below b)
bits_below (false ∷ b) = let h = one_digit (length b) (bits b) (bits_below b) in omega arith

-- an item that is not the end, and is behind the codes of starts, is a Fix, beginning or going round
item_is : {items : List ℕ} {a : ℕ} {s : Sched} → At items a s → (s ≡ done → ⊥) → fix_code < get_or items a 0 → round_code 0 ≤ get_or items a 0
item_is (at_end e) n h = absurd (n refl)
item_is (at_start {c = c} q e r) n h = let u = code_below c q in absurd (omega arith)
item_is (at_fix e b q r) n h = absurd (omega arith)
item_is (at_round b e r) n h = omega arith

-- what holds where a Fix comes next holds at its code
fix_at : {items : List ℕ} {a : ℕ} {s : Sched} {k : ℕ} → At items a s → ((f r : Sched) → s ≡ fixpoint f r → k < fix_levels) → get_or items a 0 ≡ fix_code
    → k < fix_levels
fix_at (at_end e) h q = absurd (omega arith)
fix_at (at_start {c = c} r e w) h q = let u = code_below c r in absurd (omega arith)
fix_at (at_fix {f = f} {s = s} e b r w) h q = h f s refl
fix_at (at_round b e r) h q = absurd (omega arith)

at_place : (is : List Instance) (l : ℕ) → l < length is → (i : Instance) × (get_elem? is l ≡ some i)
at_place [] l h = absurd (omega arith)
at_place (i ∷ is) zero h = (i, refl)
at_place (i ∷ is) (suc l) h = at_place is l (omega arith)

module _ {list items : List ℕ} (m : Machine) {z : State} (S : Stands list (At items) m z)
    (known : (l : ℕ) (i : Instance) → get_elem? m.instances l ≡ some i → i.struct < max_structs) where
  pub stands_rows : Rows z.heads z.machine.count
  stands_rows =
      let n = S.counted in
      let f = S.few in
      let h = S.heads_long in
      record {
        long = omega arith;
        known = λ l q. let (i, g) = at_place m.instances l (omega arith) in omega (arith, (S.each l i g).struct, known l i g);
      }

  pub stands_movable : (spans : List ℕ) → spans_size ≤ length spans → (m.sched ≡ done → ⊥)
      → ((f r : Sched) → m.sched ≡ fixpoint f r → length m.stability < fix_levels)
      → Movable items spans z.heads z.machine
  stands_movable spans h n k = record {
    spanned = h;
    rows = stands_rows;
    within = at_within items S.scheduled;
    item = item_is S.scheduled n;
    entries = rw (S.opened, S.entries) (bits_below m.stability);
    free = λ e. rw S.opened (fix_at S.scheduled k e);
  }
