-- Laws of a move on memory (01, 'Table and turns'): which of its ways the item at the machine's place takes.
use Prim.Native.Nat.{ℕ, suc, ◌-◌, ◌*◌, ◌/◌, ◌%◌, ◌<◌}
use Rattle.std.specs.Prelude.{◌≡◌, Bool, true, false, List, eqb, ltb}
use Rattle.std.proofs.Math.Path.{refl, ap}
use Rattle.std.proofs.Common.{◌∙◌}
use native.Mathlib.Omega.{arith}
use Rattle.std.proofs.Math.ListN.{get_or}
use borrow.Author.Tests.{lt-ltb, le-ltb, eq-eqb, ne_eqb}
use Rattle.layout.specs.State.{State, moved}
use Rattle.layout.specs.Codes.{fix_code, round_code}
use Rattle.memory.specs.Choose.{Kept}
use Rattle.memory.specs.Move.{do_start, do_fix, do_round, move_by, move}

module _ (items spans : List ℕ) (z : State) where
  at_code : {c : ℕ} → get_or items z.machine.place 0 ≡ c → move items spans z ≡ move_by spans c z
  unfolding move
  at_code e = ap (λ c. move_by spans c z) e

  pub move_start : {c : ℕ} → get_or items z.machine.place 0 ≡ c → c < fix_code → move items spans z ≡ do_start spans c z
  unfolding move_by
  move_start {c} e h = at_code e ∙ (rw (lt-ltb c fix_code h, move_by))

  pub fix_begins : get_or items z.machine.place 0 ≡ fix_code
      → move items spans z ≡ moved z (suc z.machine.place) (suc z.machine.fixes) (suc (2 * z.machine.stable))
  unfolding move_by do_fix
  fix_begins e = at_code e

  move_round : (t : ℕ) → get_or items z.machine.place 0 ≡ round_code t → move items spans z ≡ do_round t z
  unfolding move_by
  move_round t e =
      let a = le-ltb (round_code t) fix_code (omega arith) in
      let b = ne_eqb (round_code t) fix_code (omega arith) in
      let c : round_code t - round_code 0 ≡ t = omega arith in
      at_code e ∙ (rw (a, move_by, b, c))

  -- a Fix ends where its entry, the lowest bit, is true
  pub round_ends : (t : ℕ) → get_or items z.machine.place 0 ≡ round_code t → z.machine.stable % 2 ≡ 1
      → move items spans z ≡ moved z (suc z.machine.place) (z.machine.fixes - 1) (z.machine.stable / 2)
  unfolding do_round
  round_ends t e b = move_round t e ∙ (rw (eq-eqb (z.machine.stable % 2) 1 b, do_round))

  -- and goes round where it is false
  pub round_again : (t : ℕ) → get_or items z.machine.place 0 ≡ round_code t → z.machine.stable % 2 ≡ 0
      → move items spans z ≡ moved z t z.machine.fixes (suc z.machine.stable)
  unfolding do_round
  round_again t e b = move_round t e ∙ (rw (ne_eqb (z.machine.stable % 2) 1 (omega arith), do_round))

  -- what holds behind a start, a Fix that begins, one that ends and one that goes round holds behind a move
  by_item : (P : State → Type 0) → P (do_start spans (get_or items z.machine.place 0) z) → P (do_fix z)
      → ((a f s : ℕ) → P (moved z a f s)) → P (move items spans z)
  unfolding move move_by do_round
  by_item P starts fixes rounds = go (ltb item fix_code) (eqb item fix_code) (eqb (z.machine.stable % 2) 1)
    where
      item : ℕ
      item = get_or items z.machine.place 0

      go : (a b t : Bool)
          → P (elim a [
            | true ↦ do_start spans item z
            | false ↦ elim b [
              | true ↦ do_fix z
              | false ↦ elim t [
                | true ↦ moved z (suc z.machine.place) (z.machine.fixes - 1) (z.machine.stable / 2)
                | false ↦ moved z (item - round_code 0) z.machine.fixes (suc z.machine.stable)
              ]
            ]
          ])
      go true b t = starts
      go false true t = fixes
      go false false true = rounds _ _ _
      go false false false = rounds _ _ _

  -- the holders are counted anew at a start; otherwise they are as they were
  pub move_kept : Kept z → Kept (move items spans z)
  unfolding do_start do_fix
  move_kept k = by_item Kept refl k (λ a f s. k)

  -- turns are counted on from the same label (02, 'Turns that go round')
  pub move_from : (move items spans z).machine.from ≡ z.machine.from
  unfolding do_start do_fix
  move_from = by_item (λ (y : State). y.machine.from ≡ z.machine.from) refl refl (λ a f s. refl)
