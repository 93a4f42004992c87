-- A step started on a table (02 §14): the counting gives the three numbers of the definition over the published rules, and they fit 32 bits.
use Rattle.std.specs.Prelude.{ℕ, ◌+◌, ◌<◌, ◌≤◌, ◌≡◌, Bool, true, false, List}
use Rattle.std.proofs.Common.{arith, subst}
use Rattle.types.specs.Limits.{nat_end}
use Rattle.program.specs.Tree.{Items, Program}
use Rattle.table.specs.Table.{Record}
use Rattle.machine.specs.Published.{called, of_item, of_items, State}
use Rattle.machine.specs.Measure.{codes, share, share_of}
use Rattle.machine.proofs.Laws.MeasureLaws.{moved_codes}
use Rattle.run.specs.Begin.{first_instances, begin}
use Rattle.orders.specs.StepAnswer.{scheduled, alone, step_state}
use Rattle.orders.proofs.Laws.AloneLaws.{ordered_alike}
use Rattle.orders.proofs.Laws.StepAnswerLaws.{still_first, state_alone, step_stands, begin_moves}
use Rattle.counts.specs.Counts.{Ends, Stops, Counts}
use Rattle.counts.specs.Tally.{Kind.ends, Kind.stops, tally}
use Rattle.counts.specs.CountEntry.{most_counted, started_commands, count_machine}
use Rattle.counts.proofs.Laws.NumberLaws.{number_same}
use Rattle.counts.proofs.Laws.TallyLaws.{tally_counts}
use Rattle.counts.proofs.Laws.FitLaws.{counts_fit}

-- Another schedule -------------------------------------------------------------------------

module _ (p : Program) (is : Items) where
  ends_alike : {st : State} {l v : ℕ} {t : Bool} {ls : List ℕ} → Ends p st l v t ls → Ends (scheduled p is) st l v t ls
  ends_alike e = record { last = e.last; completes = (ordered_alike p is e.completes.0, e.completes.1); is = e.is }

  stops_alike : {st : State} {ls : List ℕ} → Stops p st ls → Stops (scheduled p is) st ls
  stops_alike s =
      record { before = s.before; label = s.label; last = s.last; parts = s.parts; taken = ordered_alike p is s.taken; refused = s.refused }

-- the rules of instances look at no schedule, so counts carry over
counts_alike : (p : Program) (is : Items) {st : State} {l v a b c : ℕ} → Counts (scheduled p is) st l v a b c → Counts p st l v a b c
counts_alike p is n =
    let q = scheduled p is in
    record {
      true_ones = number_same (λ ls. (ends_alike q p.schedule, ends_alike p is)) n.true_ones;
      false_ones = number_same (λ ls. (ends_alike q p.schedule, ends_alike p is)) n.false_ones;
      stops = number_same (λ ls. (stops_alike q p.schedule, stops_alike p is)) n.stops;
    }

-- The started step ---------------------------------------------------------------------------

module _ (p : Program) (rs : List Record) (n : ℕ) where
  pub step_counts : (l v : ℕ)
      → Counts p (step_state p rs n) l v (tally (alone p n) l v (ends true) (count_machine p rs n)) (tally (alone p n) l v (ends false) (count_machine p rs n))
      (tally (alone p n) l v stops (count_machine p rs n))
  step_counts l v =
      counts_alike p (alone p n).schedule
      (subst
      (λ st. Counts (alone p n) st l v (tally (alone p n) l v (ends true) (count_machine p rs n)) (tally (alone p n) l v (ends false) (count_machine p rs n))
      (tally (alone p n) l v stops (count_machine p rs n)))
      (state_alone p rs n) (tally_counts (alone p n) l v (count_machine p rs n) (step_state (alone p n) rs n) (step_stands p rs n)))

  -- its commands are those that its instances hold
  pub started_codes : codes (count_machine p rs n).instances ≡ started_commands p rs n
  unfolding begin first_instances of_item of_items share share_of called started_commands
  started_codes = moved_codes (alone p n) (begin (alone p n) rs) (still_first 0 p.params rs) (begin_moves p rs n)

  -- 12 of them or fewer give counts of 32 bits
  pub step_fits : (l v : ℕ) → started_commands p rs n ≤ most_counted
      → tally (alone p n) l v (ends true) (count_machine p rs n) + tally (alone p n) l v (ends false) (count_machine p rs n)
      + tally (alone p n) l v stops (count_machine p rs n) < nat_end
  step_fits l v h = let e = started_codes in counts_fit (alone p n) l v (count_machine p rs n) (omega (arith, h, e))
