-- The open Fixes of memory behind an act (01, 'Numbers from the state'): a command leaves them, and a move opens no more than there may be.
use Rattle.std.specs.Prelude.{ℕ, suc, ◌+◌, ◌-◌, ◌%◌, ◌<◌, ◌≤◌, ◌≡◌, Bool, List, [], ltb, length, Result, Ok, Err}
use native.Mathlib.Omega.{arith}
use Rattle.std.proofs.Math.Path.{refl, ap}
use Rattle.std.proofs.Common.{◌∙◌, eqb-true}
use Rattle.std.proofs.Math.Bool.{true, false}
use Rattle.std.proofs.Math.Dec.{eqb}
use Rattle.std.proofs.Math.ListN.{get_or}
use Rattle.types.specs.Limits.{max_instances, fix_levels}
use Rattle.layout.specs.Layout.{struct_of, operand}
use Rattle.layout.specs.declared.Numbers.{Numbers}
use Rattle.layout.specs.State.{State, state_of, of_head}
use Rattle.memory.specs.Act.{top, next_word, do_push, do_this, do_not, do_if, answered, do_op, do_rd, written, written_to, do_wr, do_cons, made}
use Rattle.memory.specs.Act.{perform, act}
use Rattle.memory.proofs.Laws.Acts.{turned_only}
use Rattle.memory.specs.Move.{do_fix, do_round, do_start, move_by, move}
use Rattle.layout.specs.Codes.{fix_code, round_code}
use Rattle.scheduler.specs.Ready.{Movable}
use Rattle.operators.specs.declared.OperatorError.{OperatorError}
use Rattle.operators.specs.declared.OperatorError.TheVariants.{Outside, Unfit}

record Same (z y : State) : Type 0 where
  fixes : y.machine.fixes ≡ z.machine.fixes

same_if : (b : Bool) {x y z : State} → Same z x → Same z y → Same z (elim b [ true ↦ x | false ↦ y ])
same_if true a b = a
same_if false a b = b

module _ (counts : List ℕ) (l : ℕ) (z : State) where
  answered_same : (t : ℕ) (a : Result ℕ OperatorError) → Same z (answered counts l z t a)
  unfolding answered
  answered_same t (Ok v) = record { fixes = refl }
  answered_same t (Err Outside) = record { fixes = refl }
  answered_same t (Err Unfit) = record { fixes = refl }

  wr_same : (x : ℕ) → Same z (do_wr counts l z x)
  unfolding do_wr written_to written
  wr_same x =
      let q = operand (top counts l z) in
      same_if (ltb x (get_or counts (of_head z q struct_of) 0))
      (same_if (ltb q (length counts)) (record { fixes = refl }) (record { fixes = refl })) (record { fixes = refl })

  cons_same : (k : ℕ) → Same z (do_cons counts l z k)
  unfolding do_cons made
  cons_same k = same_if (ltb z.machine.count max_instances) (record { fixes = refl }) (record { fixes = refl })

  perform_same : (k w v : ℕ) → Same z (perform counts l z k w v)
  unfolding perform do_push do_this do_not do_if do_op do_rd
  perform_same k w v =
      same_if (eqb k 1) (record { fixes = refl })
      (same_if (eqb k 2) (record { fixes = refl })
      (same_if (eqb k 3) (record { fixes = refl })
      (same_if (eqb k 4) (wr_same v)
      (same_if (eqb k 5) (cons_same v) (same_if (eqb k 6) (record { fixes = refl }) (same_if (eqb k 7) (record { fixes = refl }) (answered_same _ _)))))))

  -- a command
  pub act_fixes : (list : List ℕ) → (act list counts l z).machine.fixes ≡ z.machine.fixes
  unfolding act
  act_fixes list =
      ap (λ (y : State). y.machine.fixes) (turned_only l _)
      ∙ (perform_same (next_word list z l % 256) (next_word list z l) (operand (next_word list z l))).fixes

-- no more than there may be
record Few (y : State) : Type 0 where
  few : y.machine.fixes ≤ fix_levels

few_if : (b : Bool) {x y : State} → Few x → Few y → Few (elim b [ true ↦ x | false ↦ y ])
few_if true a b = a
few_if false a b = b

module _ (z : State) (h : z.machine.fixes ≤ fix_levels) where
  fix_few : z.machine.fixes < fix_levels → Few (do_fix z)
  unfolding do_fix
  fix_few l = record { few = omega arith }

  round_few : (t : ℕ) → Few (do_round t z)
  unfolding do_round
  round_few t = few_if (eqb (z.machine.stable % 2) 1) (record { few = omega arith }) (record { few = h })

  -- a move, where an entry is free if a Fix comes next
  pub move_fixes : (items spans : List ℕ) → (get_or items z.machine.place 0 ≡ fix_code → z.machine.fixes < fix_levels)
      → (move items spans z).machine.fixes ≤ fix_levels
  unfolding move move_by do_start
  move_fixes items spans free =
      let c = get_or items z.machine.place 0 in
      (few_if (ltb c fix_code) (record { few = h }) (by_test (eqb c fix_code) refl)).few
    where
      by_test : (b : Bool) → eqb (get_or items z.machine.place 0) fix_code ≡ b
          → Few (elim b [ true ↦ do_fix z | false ↦ do_round (get_or items z.machine.place 0 - round_code 0) z ])
      by_test true e = fix_few (free (eqb-true (get_or items z.machine.place 0) fix_code e))
      by_test false e = round_few (get_or items z.machine.place 0 - round_code 0)

-- of a move on whichever cells
pub moved_few : (items spans h : List ℕ) (n : Numbers) {h' : List ℕ} {n' : Numbers} → Movable items spans h n
    → ((cells : List ℕ) → state_of n' h' cells ≡ move items spans (state_of n h cells)) → n.fixes ≤ fix_levels → n'.fixes ≤ fix_levels
moved_few items spans h n v e f = rw (ap (λ (y : State). y.machine.fixes) (e [])) (move_fixes (state_of n h []) f items spans v.free)
