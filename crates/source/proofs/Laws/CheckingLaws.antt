-- What is written of a text, and what the checker says to it (02 §1; 01, 'Numbers from the input'): writing never finds an output too short, the checker
-- answers 0, 5, 6, 7 or 8, and reading and then checking gives the first number whose condition holds.
use Prim.Native.Nat.{ℕ, zero, suc, ◌*◌, ◌≤◌}
use native.Mathlib.Omega.{arith}
use Rattle.std.proofs.Math.Path.{◌≡◌, refl, ap}
use Rattle.std.proofs.Common.{sym, ◌∙◌, le-ltb}
use Rattle.std.specs.Prelude.{◌↔◌, ◌⊎◌, Bool, true, false, not, List, [], ◌∷◌, ◌++◌, length, drop, ltb, Ok}
use Rattle.std.proofs.Math.Logic.{inl, inr}
use Rattle.std.proofs.Math.Seq.{take-append_seam}
use Rattle.types.specs.Limits.{program_blocks, max_commands}
use Rattle.types.specs.Orders.{Foremost}
use Rattle.types.proofs.Laws.OrderLaws.{tells_number}
use Rattle.types.specs.Stages.{Stage.stopped as CheckedRefused, Stage.went as written, Stages}
use Rattle.types.proofs.Laws.StageLaws.{stage_on, stage_answer}
use Rattle.block.specs.Block.{block_size}
use Rattle.blocks.specs.Images.{image, pieces, write, written_into}
use Rattle.blocks.proofs.ImageLaws.{image_length}
use Rattle.blocks.proofs.AnswerLaws.{write_fits}
use Rattle.program.specs.Tree.{Program}
use Rattle.program.specs.Encoding.{enc_program}
use Rattle.program.specs.Reader.{Result, Result.ok, Result.bad, wrong_byte, then, ended, whole, read as read_stream, read_program}
use Rattle.program.proofs.Laws.StandsLaws.{stands_self}
use Rattle.commands.specs.Decide.BoundsDecide.{within}
use Rattle.commands.specs.Decide.NamesDecide.{names_right}
use Rattle.commands.specs.Decide.TypingDecide.{types_right}
use Rattle.commands.specs.Numbers.{over_limits, wrong_names, wrong_types, first, breach_tests, breach_number}
use Rattle.commands.specs.Bounds.{Within}
use Rattle.commands.specs.Names.{NamesRight}
use Rattle.commands.proofs.Laws.NumbersLaws.{number_names}
use Rattle.verdict.specs.Verdict.{judge, of_read, checked}
use Rattle.verdict.specs.Verdict.{refusal, verdict_of, check_verdict}
use Rattle.verdict.proofs.VerdictLaws.{checked_image, checks_room}
use Rattle.verdict.specs.ProgramInput.{Approved}
use Rattle.verdict.proofs.ProgramInputLaws.{Checks, tell_checks, approves, refusal_same, refusal_apart}
use Rattle.meaning.specs.Holds.{max_stream, Holds}
use Rattle.meaning.specs.Nesting.{Shallow}
use Rattle.source.specs.Source.{number_of, blocks_of, output_of}
use Rattle.source.specs.TextReader.{outcome, text_number, text_blocks, text_output}
use Rattle.source.proofs.Laws.SourceLaws.{tells, text_written, written_held, written_read}
use Rattle.source.specs.Stepping.{StepsRight}
use Rattle.source.proofs.Laws.SteppingLaws.{steps_left, names_steps}
use Rattle.source.specs.Kept.{Kept, Kept.kept, Kept.too_deep}
use Rattle.source.proofs.Laws.KeptLaws.{program_keeps}
use Rattle.source.specs.Checking.{Answers, written_image, text_checks, text_verdict, both_order}

-- 6, 7, 8 or no breach
breach_one : (p : Program) → (breach_number p ≡ 0) ⊎ ((6 ≤ breach_number p) × (breach_number p ≤ 8))
unfolding breach_number breach_tests first
breach_one p = go (not (within p)) (not (names_right p)) (not (types_right p))
  where
    number : Bool → Bool → Bool → ℕ
    number a b c = first ((over_limits, a) ∷ (wrong_names, b) ∷ (wrong_types, c) ∷ [])

    go : (a b c : Bool) → (number a b c ≡ 0) ⊎ ((6 ≤ number a b c) × (number a b c ≤ 8))
    go true b c = inr (omega arith, omega arith)
    go false true c = inr (omega arith, omega arith)
    go false false true = inr (omega arith, omega arith)
    go false false false = inl refl

-- a breach keeps its number
judged_number : (p : Program) (n : ℕ) → (verdict_of (judge p n)).number ≡ n
unfolding verdict_of judge
judged_number p zero = refl
judged_number p (suc n) = refl

-- what fits the largest image, in bytes and in blocks
pub bytes_blocks : (n : ℕ) → (n ≤ max_stream) ↔ (pieces n ≤ program_blocks)
bytes_blocks n = (λ h. omega (arith, h), λ h. omega (arith, h))

ltb_self : (n : ℕ) → ltb n n ≡ false
ltb_self n = le-ltb n n (omega arith)

module _ (x out : List ℕ) (p : Program) (e : outcome x out ≡ written p) where
  abbrev s : List ℕ
  s = enc_program p

  held : Holds p
  held = written_held x out p e

  some : 1 ≤ length s
  unfolding enc_program
  some = omega arith

  roomy : block_size * program_blocks ≤ length out
  roomy = let f = ((text_written x out p).0 e).0.1.1.1.0 in omega (arith, f)

  -- Writing ---------------------------------------------------------------------------------------

  -- an output that has room for the largest image is never too short for a stream that is held: `write` answers the text's blocks,
  pub text_fits : write program_blocks (length s) (length out) ≡ Ok (text_blocks x out)
  unfolding text_blocks blocks_of
  text_fits = rw e (write_fits program_blocks (length s) (length out) (some, omega (arith, held.fits)) (omega (arith, roomy)))

  -- and leaves the text's output
  pub text_put : written_into (Ok (text_blocks x out)) s out ≡ text_output x out
  unfolding written_into text_blocks blocks_of text_output output_of image
  text_put = rw (e, image_length s (pieces (length s))) refl

  -- it answers 0, and its image stands in front of the output, all later bytes as they were
  pub text_answered : (text_number x out ≡ 0) × (text_output x out ≡ image s ++ drop (block_size * text_blocks x out) out)
  unfolding text_number number_of text_blocks blocks_of text_output output_of image
  text_answered = (rw e refl, rw (e, image_length s (pieces (length s))) refl)

  -- the blocks written are the stream's image
  pub image_written : written_image x out ≡ image s
  unfolding written_image text_blocks blocks_of text_output output_of image
  image_written = rw (e, ← image_length s (pieces (length s))) (take-append_seam _ _)

  -- Checking it -------------------------------------------------------------------------------------

  read_or_deep : (read_stream s ≡ ok p (length s)) ⊎ ((at : ℕ) × (read_stream s ≡ bad at wrong_byte))
  unfolding read_stream whole then ended
  read_or_deep = go refl (program_keeps s p 0 (length s) held.counted (stands_self s))
    where
      go : {r : Result Program} → read_program s 0 ≡ r → Kept p (length s) r
          → (read_stream s ≡ ok p (length s)) ⊎ ((at : ℕ) × (read_stream s ≡ bad at wrong_byte))
      go q kept = inl (rw (q, then, ended, ltb_self (length s)) refl)
      go q (too_deep {p = at}) = inr (at, rw (q, then) refl)

  checked_written : checked (written_image x out) ≡ of_read (read_stream s)
  checked_written = ap checked image_written ∙ checked_image s some (omega (arith, held.fits))

  -- the checker judges the program itself where its nesting keeps to 01's levels,
  pub shallow_judged : Shallow p → checked (written_image x out) ≡ judge p (breach_number p)
  unfolding of_read
  shallow_judged h = checked_written ∙ ap of_read ((written_read x out p e).1 h)

  -- and says 5 exactly where it does not
  pub deep_exactly : (checked (written_image x out) ≡ CheckedRefused wrong_byte) ↔ (Shallow p → ⊥)
  unfolding of_read judge
  deep_exactly = (λ q h. other (breach_number p) (breach_one p) (sym (shallow_judged h) ∙ q), λ f. checked_written ∙ deep f read_or_deep)
    where
      other : (n : ℕ) → (n ≡ 0) ⊎ ((6 ≤ n) × (n ≤ 8)) → judge p n ≡ CheckedRefused wrong_byte → ⊥
      other zero b q = let z : ◌≡◌ {A = ℕ} 0 1 = cc in omega arith
      other (suc n) (inl e) q = omega arith
      other (suc n) (inr h) q = let z : suc n ≡ wrong_byte = cc in omega arith

      deep : (Shallow p → ⊥) → (read_stream s ≡ ok p (length s)) ⊎ ((at : ℕ) × (read_stream s ≡ bad at wrong_byte))
          → of_read (read_stream s) ≡ CheckedRefused wrong_byte
      deep f (inl q) = absurd (f ((written_read x out p e).0 q))
      deep f (inr q) = ap of_read q.1

  -- so it answers 0, 5, 6, 7 or 8 and no other number
  pub text_checked : (list : List ℕ) → max_commands ≤ length list → Answers (check_verdict (written_image x out) list).number
  unfolding check_verdict verdict_of of_read
  text_checked list h = rw (checks_room (written_image x out) list h, checked_written) (go read_or_deep)
    where
      answers : {n : ℕ} → (n ≡ 0) ⊎ ((6 ≤ n) × (n ≤ 8)) → Answers n
      answers (inl e) = inl e
      answers (inr h) = inr (omega arith, omega arith)

      go : (read_stream s ≡ ok p (length s)) ⊎ ((at : ℕ) × (read_stream s ≡ bad at wrong_byte)) → Answers (verdict_of (of_read (read_stream s))).number
      go (inl q) = rw (q, judged_number p (breach_number p)) (answers (breach_one p))
      go (inr q) = rw q.1 (inr (omega arith, omega arith))

  -- 7 is said for a step alone: one that stands twice in its struct, or a typed call of one that its struct has not, where the nesting keeps to its levels
  -- and the program to its bounds
  pub seven_for_steps : (checked (written_image x out) ≡ CheckedRefused wrong_names) ↔ ((Shallow p) × (Within p) × (StepsRight p → ⊥))
  unfolding judge of_read
  seven_for_steps = (λ q. forth q read_or_deep, λ h. back h)
    where
      named : StepsRight p → NamesRight p
      named r = steps_left ((text_written x out p).0 e).1.means r

      numbered : (n : ℕ) → judge p n ≡ CheckedRefused wrong_names → n ≡ wrong_names
      numbered zero k = let z : ◌≡◌ {A = ℕ} 0 1 = cc in absurd (omega arith)
      numbered (suc n) k = cc

      judged : Shallow p → judge p (breach_number p) ≡ CheckedRefused wrong_names → (Shallow p) × (Within p) × (StepsRight p → ⊥)
      judged h k = let b = (number_names p).0 (numbered (breach_number p) k) in (h, b.0, λ r. b.1 (named r))

      forth : checked (written_image x out) ≡ CheckedRefused wrong_names
          → (read_stream s ≡ ok p (length s)) ⊎ ((at : ℕ) × (read_stream s ≡ bad at wrong_byte)) → (Shallow p) × (Within p) × (StepsRight p → ⊥)
      forth q (inl k) = let h = (written_read x out p e).0 k in judged h (sym (shallow_judged h) ∙ q)
      forth q (inr k) =
          let d = checked_written ∙ ap of_read k.1 in
          let z : ◌≡◌ {A = ℕ} wrong_byte wrong_names = cc in absurd (omega arith)

      back : (Shallow p) × (Within p) × (StepsRight p → ⊥) → checked (written_image x out) ≡ CheckedRefused wrong_names
      back h = shallow_judged h.0 ∙ ap (judge p) ((number_names p).1 (h.1, λ n. h.2 (names_steps p n)))

-- Reading and then checking ---------------------------------------------------------------------------

module _ (x out list : List ℕ) where
  abbrev y : List ℕ
  y = written_image x out

  tells_both : Stages (Checks y list) (both_order x out list) (text_checks x out list)
  unfolding text_checks
  tells_both = stage_on (tells x out) λ p d. tell_checks y list

  -- which number reading and then checking gives: that of the first condition that holds, 15, 16, 17, 13 of reading and then the checker's
  pub text_order_exact : (n : ℕ) → (text_verdict x out list ≡ refusal n) ↔ Foremost (both_order x out list) n
  unfolding text_verdict verdict_of
  text_order_exact = tells_number {D = Approved y list} (refusal_same y list) (refusal_apart y list) (stage_answer tells_both verdict_of (approves y list))
