-- The ways through the code of a move (000's rules for the schedule; 01, 'Table and turns').
use Rattle.std.specs.Prelude.{ℕ, zero, suc, ◌+◌, ◌-◌, ◌*◌, ◌/◌, ◌%◌, ◌^◌, ◌<◌, ◌≤◌, ◌≡◌, List, get_or}
use Rattle.std.proofs.Math.Path.{refl, sym}
use Rattle.std.proofs.Common.{ap, ◌∙◌, arith, pow_mono}
use Rattle.std.proofs.Math.Numerals.{add-one}
use borrow.Author.Tests.{le-ltb, eq-eqb, ne_eqb}
use Rattle.types.specs.Limits.{fix_levels}
use Rattle.layout.specs.declared.Numbers.{Numbers}
use Rattle.layout.specs.State.{state_of, set_place, set_holding, placed}
use Rattle.layout.specs.Codes.{fix_code, round_code}
use Rattle.memory.specs.Choose.{holding}
use Rattle.memory.specs.Move.{begin_all, do_start, do_fix, do_round, move_by, move}
use Rattle.memory.proofs.Laws.MoveLaws.{move_start}
use Rattle.scheduler.specs.Makes.{Makes, Moves}

-- Entries of the open Fixes ---------------------------------------------------------

-- few Fixes have few entries
pub entries_low : (f s : ℕ) → s < 2 ^ f → f < fix_levels → s < 128
entries_low f s h l = let m : 2 ^ f ≤ 2 ^ 7 = pow_mono {i = f} {j = 7} (omega arith) in omega arith

-- an entry that is true is that of a Fix
pub entry_open : (f s : ℕ) → s < 2 ^ f → s % 2 ≡ 1 → 1 ≤ f
entry_open zero s h e = absurd (omega arith)
entry_open (suc f) s h e = omega arith

-- A Fix -----------------------------------------------------------------------------

module _ (n : Numbers) where
  pub fix_opens : Makes do_fix n (placed n (n.place + 1) (n.fixes + 1) (2 * n.stable + 1))
  unfolding do_fix
  fix_opens l x = rw (add-one n.place, add-one n.fixes, add-one (2 * n.stable))

  pub round_out : (t : ℕ) → n.stable % 2 ≡ 1 → Makes (do_round t) n (placed n (n.place + 1) (n.fixes - 1) (n.stable / 2))
  unfolding do_round
  round_out t e l x = rw (add-one n.place, eq-eqb (n.stable % 2) 1 e, do_round)

  pub round_back : (t : ℕ) → (n.stable % 2 ≡ 1 → ⊥) → Makes (do_round t) n (placed n t n.fixes (n.stable + 1))
  unfolding do_round
  round_back t e l x = rw (add-one n.stable, ne_eqb (n.stable % 2) 1 e, do_round)

-- An item ---------------------------------------------------------------------------

module _ (items spans heads : List ℕ) (n : Numbers) where
  abbrev item : ℕ
  item = get_or items n.place 0

  -- the heads behind a start
  abbrev begun : List ℕ
  begun = begin_all spans item heads 0 n.count

  pub item_starts : item < fix_code → Moves items spans heads n (set_holding (set_place n (n.place + 1)) (holding begun 0 n.count)) begun
  unfolding do_start
  item_starts h x = rw (add-one n.place) (sym (move_start items spans (state_of n heads x) refl h))

  pub item_fixes : (r : Numbers) → item ≡ fix_code → Makes do_fix n r → Moves items spans heads n r heads
  unfolding move move_by
  item_fixes r e m x = m heads x ∙ sym (ap (λ c. move_by spans c (state_of n heads x)) e)

  pub item_rounds : (r : Numbers) → fix_code ≤ item → (item ≡ fix_code → ⊥) → Makes (do_round (item - round_code 0)) n r
      → Moves items spans heads n r heads
  unfolding move move_by
  item_rounds r h e m x = m heads x ∙ (rw (le-ltb item fix_code h, move_by, ne_eqb item fix_code e))
