-- Each way through an operator, by what it answers (01, 'Table and turns', number 35).
use Rattle.std.specs.Prelude.{ℕ, ◌-◌, ◌≡◌, List, [], Result, Ok, Err, ◌<◌, ◌≤◌}
use Rattle.std.proofs.Math.Numerals.{add-one}
use Rattle.operators.specs.Words.{apply_word}
use Rattle.layout.specs.Layout.{cell, type_byte, operand}
use Rattle.memory.specs.Act.{result_byte, answered, do_op}
use Rattle.execute_stack.specs.declared.Actor.{Actor}
use Rattle.types.specs.declared.refusal.Refusal.TheVariants.{Exceeded}
use Rattle.execute_stack.specs.declared.Effect.TheVariants.{Kept}
use Rattle.execute_stack.specs.Answers.{seen, Acting, topmost, second, answering, Does}
use Rattle.execute_stack.specs.StackWays.{as_seen, Puts}
use Rattle.operators.specs.declared.OperatorError.{OperatorError}
use Rattle.operators.specs.declared.OperatorError.TheVariants.{Outside, Unfit}
use Rattle.std.proofs.Common.{le-leb}
use Rattle.std.proofs.lemmas.Bool.{lt-leb}
use Rattle.memory.specs.Act.{bool_byte}

-- the type byte of a result
pub byte_below : (o t : ℕ) → o < 38 → bool_byte ≡ result_byte o t
byte_below o t p = rw (result_byte, lt-leb 38 o p)

pub byte_above : (o t : ℕ) → 38 ≤ o → 42 < o → bool_byte ≡ result_byte o t
byte_above o t p q = rw (result_byte, le-leb 38 o p, lt-leb o 42 q)

pub byte_between : (o t : ℕ) → 38 ≤ o → o ≤ 42 → t ≡ result_byte o t
byte_between o t p q = rw (result_byte, le-leb 38 o p, le-leb o 42 q)

-- what the operator answers
abbrev answer : List ℕ → Actor → ℕ → Result ℕ OperatorError
answer c a o = apply_word o (type_byte (second c a)) (operand (second c a)) (operand (topmost c a))

-- The actor as memory has it ---------------------------------------------------------

module _ (h c : List ℕ) (l o : ℕ) where
  value_seen : {h' c' : List ℕ} {w : ℕ} (v : ℕ) → answer c (seen h l) o ≡ Ok v → w ≡ cell (result_byte o (type_byte (second c (seen h l)))) v
      → Puts h c (seen h l) h' c' ((seen h l).height - 2) w
      → Does (λ z. do_op [] l z o) (Ok Kept) h c h' c'
  unfolding do_op answered answering
  value_seen v e f p z = rw (e, p.0, p.1, f, add-one ((seen h l).height - 2), add-one (seen h l).next)

  outside_seen : answer c (seen h l) o ≡ Err Outside → Does (λ z. do_op [] l z o) (Err Exceeded) h c h c
  unfolding do_op answered answering
  outside_seen e z = rw e

  unfit_seen : answer c (seen h l) o ≡ Err Unfit → Does (λ z. do_op [] l z o) (Ok Kept) h c h c
  unfolding do_op answered answering
  unfit_seen e z = rw e

-- The actor that was handed in -------------------------------------------------------

module _ {h c : List ℕ} {a : Actor} (g : Acting h c a) (o : ℕ) where
  pub value_way : {h' c' : List ℕ} {w : ℕ} (v : ℕ) → answer c a o ≡ Ok v → w ≡ cell (result_byte o (type_byte (second c a))) v
      → Puts h c a h' c' (a.height - 2) w
      → Does (λ z. do_op [] a.label z o) (Ok Kept) h c h' c'
  value_way {h'} {c'} {w} v =
      as_seen g
      (λ b. answer c b o ≡ Ok v → w ≡ cell (result_byte o (type_byte (second c b))) v → Puts h c b h' c' (b.height - 2) w
      → Does (λ z. do_op [] b.label z o) (Ok Kept) h c h' c')
      (value_seen h c a.label o v)

  pub outside_way : answer c a o ≡ Err Outside → Does (λ z. do_op [] a.label z o) (Err Exceeded) h c h c
  outside_way =
      as_seen g (λ b. answer c b o ≡ Err Outside → Does (λ z. do_op [] b.label z o) (Err Exceeded) h c h c) (outside_seen h c a.label o)

  pub unfit_way : answer c a o ≡ Err Unfit → Does (λ z. do_op [] a.label z o) (Ok Kept) h c h c
  unfit_way = as_seen g (λ b. answer c b o ≡ Err Unfit → Does (λ z. do_op [] b.label z o) (Ok Kept) h c h c) (unfit_seen h c a.label o)
