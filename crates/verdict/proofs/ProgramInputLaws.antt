-- Checking a program image is exact (01, 1 to 8 and 13 of 'Numbers from the input'): it is refused with a number exactly where
-- that number's condition is foremost, and accepted exactly where it meets 01's conditions.
use Rattle.std.specs.Prelude.{ℕ, ◌≤◌, ◌↔◌, Bool, List, [], ◌∷◌, length, Option, Some, None}
use Rattle.std.proofs.Common.{arith, sym, ◌∙◌}
use Rattle.std.proofs.Math.Path.{◌≡◌, refl, ap}
use borrow.Author.Tests.{le-ltb}
use Rattle.types.specs.Limits.{program_blocks, max_commands}
use Rattle.blocks.specs.Images.{count, stream, fault}
use Rattle.blocks.specs.Faults.{AllRight, FirstFault, Says}
use Rattle.blocks.proofs.FaultLaws.{first_exact, fault_says}
use Rattle.block.specs.declared.Fault.{Fault}
use Rattle.block.specs.declared.Fault.TheVariants.{Length, Sum, Layout}
use Rattle.program.specs.Tree.{Program}
use Rattle.program.specs.Encoding.{enc_program}
use Rattle.program.specs.Counts.{Counts}
use Rattle.program.specs.Exact.{Refused, Refused.not_allowed, Refused.ends_early, Refused.goes_on}
use Rattle.program.specs.Reader.{Result, Result.ok, Result.bad, read}
use Rattle.program.proofs.Laws.ProgramLaws.{program_law, enc_injective, program_refused}
use Rattle.program.proofs.Laws.FrontLaws.{ends_exactly, offends_exactly, ends_or_offends}
use Rattle.types.specs.Reflects.{Reflects, Reflects.holds, Reflects.fails, lt_reflects}
use Rattle.commands.specs.Bounds.{Within}
use Rattle.commands.specs.Names.{NamesRight}
use Rattle.commands.specs.Typing.{TypesRight}
use Rattle.commands.proofs.Decide.BoundsDecideLaws.{within_reflects}
use Rattle.commands.proofs.Decide.NamesDecideLaws.{names_reflects}
use Rattle.commands.proofs.Decide.TypingDecideLaws.{types_reflects}
use Rattle.commands.specs.Numbers.{breach_number}
use Rattle.commands.proofs.Laws.NumbersLaws.{number_accepted, number_limits, number_names, number_types}
use Rattle.verdict.specs.Verdict.{Checked, judge, of_read, of_image, checked, Verdict, refusal, approval}
use Rattle.verdict.specs.Verdict.{checks, verdict_of, check_verdict, list_of, listed, check_list}
use Rattle.types.specs.Numbers.{no_room}
use Rattle.types.specs.Orders.{Order, NoneOf, Foremost, Tells, Tells.passes}
use Rattle.types.proofs.Laws.OrderLaws.{here, past, tells_number, tells_none}
use Rattle.types.specs.Stages.{Stage.went as accepted, Stage.stopped as refused, on, asked, Stages}
use Rattle.types.proofs.Laws.StageLaws.{stage_asked, stage_on, stage_number, stage_went, stage_answer, stage_refused}
use Rattle.verdict.specs.ProgramInput.{ImageRight, Reads, AcceptedImage, reads_of, Approved, WrongEnd, WrongByte, OverLimits, WrongNames}
use Rattle.verdict.specs.ProgramInput.{WrongTypes, program_order, check_order}

-- one program is read from an image
pub one_program : {x : List ℕ} {p q : Program} → Reads x p → Reads x q → p ≡ q
one_program {p} {q} r s = enc_injective p q r.counts s.counts (sym r.bytes ∙ s.bytes)

-- a first fault is one fault; right blocks have none
one_fault : (x : List ℕ) (f g : Fault) → FirstFault (count x) x (count x) f → FirstFault (count x) x (count x) g → f ≡ g
one_fault x f g a b =
    let p = first_exact (count x) x (count x) (Some f) a in
    let q = first_exact (count x) x (count x) (Some g) b in
    cc

pub no_fault : (x : List ℕ) (f : Fault) → AllRight (count x) x (count x) → FirstFault (count x) x (count x) f → ⊥
no_fault x f a b =
    let p = first_exact (count x) x (count x) None a in
    let q = first_exact (count x) x (count x) (Some f) b in
    let z : ◌≡◌ {A = ℕ} 0 1 = cc in omega arith

module _ (x : List ℕ) where
  abbrev Tell : Order → Checked → Type 1
  Tell = Stages (AcceptedImage x)

  -- 6, 7 and 8
  no_6 : {p : Program} → Reads x p → Within p → OverLimits x → ⊥
  no_6 r w c = c.2 (rw (one_program c.1 r) w)

  no_7 : {p : Program} → Reads x p → NamesRight p → WrongNames x → ⊥
  no_7 r w c = c.2 (rw (one_program c.1 r) w)

  no_8 : {p : Program} → Reads x p → TypesRight p → WrongTypes x → ⊥
  no_8 r w c = c.2 (rw (one_program c.1 r) w)

  abbrev from_6 : Order
  from_6 = (6, OverLimits x) ∷ (7, WrongNames x) ∷ (8, WrongTypes x) ∷ []

  tell_program : (p : Program) → ImageRight program_blocks x → Reads x p → Tell from_6 (judge p (breach_number p))
  unfolding judge
  tell_program p i r = go (within_reflects p) (names_reflects p) (types_reflects p)
    where
      go : {u v w : Bool} → Reflects (Within p) u → Reflects (NamesRight p) v → Reflects (TypesRight p) w
          → Tell from_6 (judge p (breach_number p))
      go (fails f) v w = here (ap (judge p) ((number_limits p).1 f)) (p, r, f)
      go (holds a) (fails f) w = past (no_6 r a) (here (ap (judge p) ((number_names p).1 (a, f))) (p, r, f))
      go (holds a) (holds b) (fails f) =
          past (no_6 r a) (past (no_7 r b) (here (ap (judge p) ((number_types p).1 (a, b, f))) (p, r, f)))
      go (holds a) (holds b) (holds c) =
          passes (no_6 r a, (no_7 r b, (no_8 r c, tt)))
          (p, ap (judge p) ((number_accepted p).1 (a, b, c)), record { image = i; bytes = r.bytes; program = (r.counts, a, b, c) })

  -- 4 and 5
  no_4 : (p : Program) (m : ℕ) → read (stream x) ≡ ok p m → WrongEnd x → ⊥
  no_4 p m e c = let d = (ends_exactly (stream x) c.0).1 c.1 in let z : ◌≡◌ {A = ℕ} 0 1 = cc in omega arith

  no_5 : (p : Program) (m : ℕ) → read (stream x) ≡ ok p m → WrongByte x → ⊥
  no_5 p m e c = let d = (offends_exactly (stream x) c.0).1 c.1 in let z : ◌≡◌ {A = ℕ} 0 1 = cc in omega arith

  abbrev from_4 : Order
  from_4 = (4, WrongEnd x) ∷ (5, WrongByte x) ∷ from_6

  tell_read : ImageRight program_blocks x → Tell from_4 (of_read (read (stream x)))
  unfolding of_read
  tell_read i = go (read (stream x)) refl
    where
      numbered : {at k : ℕ} → read (stream x) ≡ bad at k → Refused Counts enc_program (stream x) at k → Tell from_4 (refused k)
      numbered {at} e (not_allowed l) =
          let offends = (offends_exactly (stream x) at).0 e in
          past (λ c. ends_or_offends (stream x) c.0 at c.1 offends) (here refl (at, offends))
      numbered {at} e ends_early = here refl (at, (ends_exactly (stream x) at).0 e)
      numbered {at} e (goes_on a b bs c q) = here refl (at, (ends_exactly (stream x) at).0 e)

      go : (r : Result Program) → read (stream x) ≡ r → Tell from_4 (of_read r)
      go (ok p m) e =
          let q = (program_law (stream x) p m).0 e in
          past (no_4 p m e) (past (no_5 p m e) (tell_program p i (record { counts = q.0; bytes = q.1 })))
      go (bad n k) e = numbered e (program_refused (stream x) n k e)

  -- 1, 2 and 3
  pub tell_checked : Tell (program_order x) (checked x)
  unfolding checked of_image
  tell_checked = go (fault program_blocks x) (fault_says program_blocks x)
    where
      go : (f : Option Fault) → Says program_blocks x f → Tell (program_order x) (of_image f x)
      go (Some Length) s = here refl s
      go (Some Sum) s = past (λ f. f s.0) (here refl s.1)
      go (Some Layout) s =
          past (λ f. f s.0)
          (past (λ b. let e = one_fault x Sum Layout b s.1 in let z : ◌≡◌ {A = ℕ} 0 1 = cc in omega arith) (here refl s.1))
      go None s =
          past (λ f. f s.0)
          (past (no_fault x Sum s.1)
          (past (no_fault x Layout s.1)
          (tell_read (record { length_right = s.0; blocks_right = s.1 }))))

  -- a program image is refused with a number exactly where that number is foremost of those whose condition holds
  pub checked_number : (n : ℕ) → (checked x ≡ refused n) ↔ Foremost (program_order x) n
  checked_number = stage_number tell_checked

  -- what is accepted meets no condition
  pub accepted_none : {p : Program} → AcceptedImage x p → NoneOf (program_order x)
  accepted_none {p} a =
      let reads = (program_law (stream x) p (length (stream x))).1 (a.program.0, a.bytes, refl) in
      let judged : NoneOf from_6 = (no_6 (reads_of a) a.program.1, (no_7 (reads_of a) a.program.2, (no_8 (reads_of a) a.program.3, tt))) in
      let whole : NoneOf from_4 = (no_4 p (length (stream x)) reads, (no_5 p (length (stream x)) reads, judged)) in (
        λ f. f a.image.length_right,
        (no_fault x Sum a.image.blocks_right, (no_fault x Layout a.image.blocks_right, whole)),
      )

  -- it is accepted as a program exactly where it meets the conditions of 01: right blocks, the program's stream, within counts and
  -- limits, names and types right
  pub checked_accepted : (p : Program) → (checked x ≡ accepted p) ↔ AcceptedImage x p
  checked_accepted = stage_went tell_checked (λ p a. accepted_none a) (λ p q a b. one_program (reads_of a) (reads_of b))

-- Checking, with a list ------------------------------------------------------------------

module _ (x list : List ℕ) where
  -- an accepted program, and room
  abbrev pub Checks : Program → Type 0
  Checks p = (AcceptedImage x p) × (max_commands ≤ length list)

  pub tell_checks : Stages Checks (check_order x list) (checks x list)
  unfolding checks
  tell_checks = stage_on (tell_checked x) λ p a. stage_asked no_room (lt_reflects (length list) max_commands) λ f. passes tt (p, refl, (a, omega arith))

  -- what is answered of it
  pub approves : (p : Program) → Checks p → Approved x list (verdict_of (accepted p))
  unfolding verdict_of
  approves p d = (p, refl, d.0, d.1)

  tell_verdict : Tells refusal (Approved x list) (check_order x list) (check_verdict x list)
  unfolding check_verdict verdict_of
  tell_verdict = stage_answer tell_checks verdict_of approves

  pub refusal_same : (n m : ℕ) → refusal n ≡ refusal m → n ≡ m
  refusal_same n m e = ap (λ (v : Verdict). v.number) e

  -- a program has a struct, and a refusal counts none
  pub refusal_apart : (n : ℕ) → Approved x list (refusal n) → ⊥
  unfolding Counts
  refusal_apart n d = omega (arith, d.2.program.0.0.0, ap (λ (v : Verdict). v.structs) d.1)

  -- checking refuses with a number exactly where that number is foremost
  pub verdict_number : (n : ℕ) → (check_verdict x list ≡ refusal n) ↔ Foremost (check_order x list) n
  verdict_number = tells_number refusal_same refusal_apart tell_verdict

  -- it approves exactly where no condition holds
  pub verdict_approved : Approved x list (check_verdict x list) ↔ NoneOf (check_order x list)
  verdict_approved = tells_none refusal_same refusal_apart tell_verdict

  -- an input refusal reports its number alone and leaves the list as it was
  pub check_untouched : (n : ℕ) → Foremost (check_order x list) n → (check_verdict x list ≡ refusal n) × (check_list x list ≡ list)
  unfolding check_verdict verdict_of check_list list_of
  check_untouched n q = (stage_refused tell_checks verdict_of n q, stage_refused tell_checks (λ c. list_of c list) n q)

  -- an accepted program with room passes, so that it is approved and its commands stand in the list
  pub checks_passed : (p : Program) → AcceptedImage x p → max_commands ≤ length list → checks x list ≡ accepted p
  unfolding checks on asked
  checks_passed p a h = rw ((checked_accepted x p).1 a, le-ltb (length list) max_commands h)

  pub check_approved : (p : Program) → AcceptedImage x p → max_commands ≤ length list
      → (check_verdict x list ≡ approval p) × (check_list x list ≡ listed p list)
  unfolding check_verdict verdict_of check_list list_of
  check_approved p a h = let e = checks_passed p a h in (ap verdict_of e, ap (λ (c : Checked). list_of c list) e)
