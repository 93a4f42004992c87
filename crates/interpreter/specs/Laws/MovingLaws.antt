-- Every move of the schedule leaves fewer to be made without a turn (01, 'Table and turns').
use Prim.Native.Nat.{ℕ, suc, ◌-◌, ◌*◌, ◌/◌, ◌%◌, ◌<◌}
use Rattle.std.specs.Prelude.{◌≡◌, Bool, true, false}
use Rattle.std.proofs.Math.Path.{refl}
use mathlib.Core.List.{List, [], ◌∷◌}
use native.Mathlib.Omega.{arith}
use Rattle.std.proofs.Math.ListN.{length}
use Rattle.machine.specs.Published.{Sched, Sched.done, Sched.start, Sched.fixpoint, Sched.active}
use Rattle.machine.specs.Machine.{Instance, Machine, machine}
use Rattle.sound.specs.Invariant.{Open}
use Rattle.sound.proofs.Laws.MoveKept.{active_open}
use Rattle.layout.specs.State.{State}
use Rattle.memory.specs.Stands.{bits, Stands}
use Rattle.memory.specs.Plan.{start_code, At}
use Rattle.memory.proofs.Laws.PlanLaws.{code_below, past_start, past_fix, past_round, at_within}
use Rattle.memory.specs.Move.{do_start, move}
use Rattle.memory.proofs.Laws.MoveLaws.{move_start, fix_begins, round_ends, round_again}
use Rattle.interpreter.specs.Moving.{zeros, moves_left}

-- an entry more, of either kind
zeros_true : (n s : ℕ) → zeros (suc n) (suc (2 * s)) ≡ zeros n s
unfolding zeros
zeros_true n s =
    let a : suc (2 * s) % 2 ≡ 1 = omega arith in
    let b : suc (2 * s) / 2 ≡ s = omega arith in
    rw (a, b) (omega arith)

zeros_false : (n s : ℕ) → zeros (suc n) (2 * s) ≡ suc (zeros n s)
unfolding zeros
zeros_false n s =
    let a : (2 * s) % 2 ≡ 0 = omega arith in
    let b : (2 * s) / 2 ≡ s = omega arith in
    rw (a, b) (omega arith)

-- what is left to a memory
abbrev pub left : List ℕ → State → ℕ
left items z = moves_left items z.machine.place z.machine.fixes z.machine.stable

module _ (items spans : List ℕ) (z : State) where
  -- the next place, with as many false entries
  on : (y : State) → z.machine.place < length items → move items spans z ≡ y → y.machine.place ≡ suc z.machine.place
      → zeros y.machine.fixes y.machine.stable ≡ zeros z.machine.fixes z.machine.stable
      → left items (move items spans z) < left items z
  unfolding moves_left
  on y h e a q = rw (e, a, q) (omega arith)

  module _ {list : List ℕ} where
    falls_by : (s : Sched) (is : List Instance) (b : List Bool) (from : ℕ) → Stands list (At items) (machine s is b from) z → Open s (length b)
        → (s ≡ done → ⊥) → left items (move items spans z) < left items z
    unfolding bits do_start moves_left
    falls_by done is b from S o n = absurd (n refl)
    falls_by (start c s) is b from S o d =
        let (h, e, r) = past_start items S.scheduled in
        on (do_start spans (start_code c) z) (at_within items S.scheduled) (move_start items spans z e (code_below c h)) refl refl
    falls_by (fixpoint f s) is b from S o d =
        on _ (at_within items S.scheduled) (fix_begins items spans z (past_fix items S.scheduled).0) refl
        (zeros_true z.machine.fixes z.machine.stable)
    falls_by (active f s) is [] from S o d = absurd (active_open o refl)
    falls_by (active f s) is (true ∷ b) from S o d =
        let (t, e, r, w) = past_round items S.scheduled in
        let u : z.machine.stable ≡ suc (2 * bits b) = S.entries in
        let v : z.machine.fixes ≡ suc (length b) = S.opened in
        let g : z.machine.fixes - 1 ≡ length b = omega arith in
        let k : z.machine.stable / 2 ≡ bits b = omega arith in
        on _ (at_within items S.scheduled) (round_ends items spans z t e (omega arith)) refl
        (rw (g, k, u, v, zeros_true))
    falls_by (active f s) is (false ∷ b) from S o d =
        let (t, e, r, w) = past_round items S.scheduled in
        let u : z.machine.stable ≡ 2 * bits b = S.entries in
        let v : z.machine.fixes ≡ suc (length b) = S.opened in
        let h = at_within items S.scheduled in
        let a : zeros z.machine.fixes (suc z.machine.stable) ≡ zeros (length b) (bits b) = rw (u, v) (zeros_true (length b) (bits b)) in
        let q : zeros z.machine.fixes z.machine.stable ≡ suc (zeros (length b) (bits b)) = rw (u, v) (zeros_false (length b) (bits b)) in
        rw (round_again items spans z t e (omega arith), a, q) (omega arith)

    -- a move of a schedule that is not at its end
    pub move_less : (m : Machine) → Stands list (At items) m z → Open m.sched (length m.stability) → (m.sched ≡ done → ⊥)
        → left items (move items spans z) < left items z
    move_less m S o n = falls_by m.sched m.instances m.stability m.from S o n
