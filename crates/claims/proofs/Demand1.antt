-- Demand 1, of the answers: a number from the input is returned exactly where its condition is foremost, and nothing that was lent is
-- changed (01, 'Numbers from the input'). That every function is safe on any input and returns is proved of the code itself, whose
-- contracts equate it with the functions named here.
use Rattle.std.specs.Prelude.{ℕ, ◌≡◌, ◌↔◌, List, [], ◌∷◌}
use Rattle.types.specs.Orders.{Foremost}
use Rattle.types.specs.Stages.{Stage.stopped as refused}
use Rattle.verdict.specs.Verdict.{checked, refusal, check_verdict, check_list}
use Rattle.run.specs.Entry.{not_begun, begins, report, run_report, run_output, run_list}
use Rattle.verdict.specs.ProgramInput.{program_order, check_order}
use Rattle.run.specs.Input.{run_order}
use Rattle.verdict.proofs.ProgramInputLaws.{checked_number, verdict_number, check_untouched}
use Rattle.run.proofs.Laws.InputLaws.{begins_number, refusal_untouched}
use Rattle.step_part.specs.StepPart.{step_place, step_part}
use Rattle.text.specs.Listing.{row}
use Rattle.listing.specs.Listings.{refused_word, listing_of}
use Rattle.claims.proofs.Laws.JoinLaws.{step_numbered, listing_numbered}

module _ (x list : List ℕ) where
  -- The checker: "Lowest number first, save within 2/3, 4/5, 11/12"
  pub check_refused_exactly : (n : ℕ) → (check_verdict x list ≡ refusal n) ↔ Foremost (check_order x list) n
  check_refused_exactly n = verdict_number x list n

  -- "an input refusal leaves the whole list untouched"
  pub check_refused_untouched : (n : ℕ) → Foremost (check_order x list) n
      → (check_verdict x list ≡ refusal n) × (check_list x list ≡ list)
  check_refused_untouched n q = check_untouched x list n q

  -- The step entry: the number is the checker's, and no commands are handed out
  pub step_refused_empty : (k s n : ℕ) → Foremost (check_order x list) n
      → ((step_place x list k s).number ≡ n) × (step_part x list k s ≡ [])
  step_refused_empty k s n q = step_numbered x list k s n q

-- The listing: an image is refused with the foremost number of 1 to 8,
pub image_refused_exactly : (x : List ℕ) (n : ℕ) → (checked x ≡ refused n) ↔ Foremost (program_order x) n
image_refused_exactly x n = checked_number x n

-- "Refused: `refused n`"
pub listing_refused : (x : List ℕ) (n : ℕ) → Foremost (program_order x) n → listing_of x ≡ row refused_word (n ∷ [])
listing_refused x n q = listing_numbered x n q

module _ (x y es out list : List ℕ) where
  -- The run: "Lowest number first, save within 2/3, 4/5, 11/12"
  pub refused_exactly : (n : ℕ) → (begins x y es out list ≡ not_begun n) ↔ Foremost (run_order x y es out list) n
  refused_exactly n = begins_number x y es out list n

  -- "Each returns the number, 0 turns, 0 blocks, with the output untouched"; depth and holders are 0 too
  pub refused_untouched : (n : ℕ) → Foremost (run_order x y es out list) n
      → (run_report x y es out list ≡ report n 0 0 0 0) × (run_output x y es out list ≡ out) × (run_list x y es out list ≡ list)
  refused_untouched n q = refusal_untouched x y es out list n q
