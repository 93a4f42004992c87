-- What a program is loaded as gives the verdict and the list (01, 1 to 8 and 13 of 'Numbers from the input').
use Rattle.std.specs.Prelude.{ℕ, ◌<◌, ◌≤◌, ◌≡◌, refl, List, length}
use Rattle.std.proofs.Common.{arith, ap, ◌∙◌}
use borrow.Author.Tests.{lt-ltb}
use Rattle.types.specs.Limits.{max_commands}
use Rattle.types.specs.Numbers.{no_room}
use Rattle.types.specs.Stages.{Stage.went as accepted, Stage.stopped as refused, on, asked}
use Rattle.program.specs.Tree.{Program}
use Rattle.commands.specs.Bounds.{Within}
use Rattle.commands.specs.ProgramWords.{structs_words}
use Rattle.commands.proofs.Laws.NumbersLaws.{number_accepted}
use Rattle.emit.specs.Written.{Ready, structs_at}
use Rattle.emit_steps.specs.Emitted.{EmittedProgram}
use Rattle.emit_steps.specs.ProgramLaws.{program_ready}
use Rattle.verdict.specs.Verdict.{Checked, checked, listed, Verdict as Judgement, refusal, approval, checks, verdict_of, list_of, check_verdict, check_list}
use Rattle.verdict.proofs.VerdictLaws.{checks_room}
use Rattle.load.specs.declared.Loaded.{Loaded}
use Rattle.load.specs.Load.{Admitted}
use Rattle.load.specs.LoadLaws.{LoadedAs, accepted_source}
use Rattle.checker.specs.Answer.{answer, approved}

-- Refusals -----------------------------------------------------------------------------

-- a verdict with its list
abbrev pub Answers : List ℕ → List ℕ → Judgement → List ℕ → Type 0
Answers x list v after = (v ≡ check_verdict x list) × (after ≡ check_list x list)

module _ (x list : List ℕ) where
  -- what is answered of what the stages come to
  answers_of : {c : Checked} → checks x list ≡ c → Answers x list (verdict_of c) (list_of c list)
  unfolding check_verdict check_list
  answers_of e = rw e (refl, refl)

  pub refused_answers : (n : ℕ) → checked x ≡ refused n → Answers x list (refusal n) list
  unfolding checks on verdict_of list_of
  refused_answers n e = answers_of {c = refused n} (rw e)

  pub short_answers : (p : Program) → checked x ≡ accepted p → length list < max_commands → Answers x list (refusal no_room) list
  unfolding checks on asked verdict_of list_of
  short_answers p e l = answers_of {c = refused no_room} (rw (e, lt-ltb (length list) max_commands l))

  pub room_answers : (p : Program) → checked x ≡ accepted p → max_commands ≤ length list → Answers x list (approval p) (listed p list)
  unfolding verdict_of list_of
  room_answers p e l = answers_of (checks_room x list l ∙ e)

-- A loaded program -----------------------------------------------------------------------

module _ (x : List ℕ) (z : Loaded) (l : LoadedAs x z) where
  abbrev p : Program
  p = l.program

  pub approved_is : approved z ≡ answer (approval p)
  approved_is = ap approved l.is

  within : Within p
  within = ((number_accepted p).0 (accepted_source x p l.accepts).numbered).0

  -- its commands may be written, and then the list is the program's
  module _ (s ar : List ℕ) (a : Admitted s ar z.at p) (list : List ℕ) where
    pub writable : max_commands ≤ length list → Ready structs_words (structs_at ar s (length ar) z.at) list 0
    unfolding Within
    writable room = program_ready ar s z.at p a.end a.reads a.counted a.place list within.1 (omega (arith, within.1))

    pub wrote : {list' : List ℕ} → EmittedProgram ar s z.at list list' → list' ≡ listed p list
    unfolding listed
    wrote w = w p a.end a.reads a.counted a.place
