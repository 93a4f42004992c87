-- How many orders trip the cap (02 §14): "For one step name, started on an idle table for every struct that has it, count the sequences of acting labels that
-- complete it with a Bool parameter of a given label true, that complete it with it false, and that stop with 34 or 35. Each sequence counts once, up to its end
-- or stop, the label of the refused command included; a refusal from the input returns three zeros. The three counts equal those of a definition over the
-- published rules. After 13, an absent step gives 7, an absent label or parameter 21, a parameter that isn't Bool 8, in that order. (24: the step's commands over
-- all its instances, null ones included, exceed 12; after these.)"
use Rattle.std.specs.Prelude.{ℕ, ◌+◌, ◌<◌, ◌≤◌, ◌≡◌, true, false, ◌↔◌, List}
use Rattle.types.specs.Limits.{nat_end}
use Rattle.types.specs.Orders.{NoneOf, Foremost}
use Rattle.program.specs.Tree.{Program}
use Rattle.verdict.specs.Verdict.{listed}
use Rattle.table.specs.Table.{Record}
use Rattle.machine.specs.Published.{State}
use Rattle.machine.specs.Machine.{Machine}
use Rattle.machine.specs.Measure.{codes}
use Rattle.machine.specs.Represents.{Represents}
use Rattle.run.specs.Entry.{begun, not_begun}
use Rattle.orders.specs.StepAnswer.{step_state}
use Rattle.counts.specs.Numbers.{Number}
use Rattle.counts.specs.Counts.{Counts}
use Rattle.counts.specs.Tally.{Kind.ends, Kind.stops, tally}
use Rattle.counts.specs.CountEntry.{most_counted, count_begins, counted, count, count_list}
use Rattle.counts.specs.CountInput.{count_order, Countable}
use Rattle.counts.proofs.Laws.NumberLaws.{number_one}
use Rattle.counts.proofs.Laws.TallyLaws.{tally_counts}
use Rattle.counts.proofs.Laws.FitLaws.{counts_fit as tally_fits}
use Rattle.counts.proofs.Laws.CountInputLaws.{count_number, count_none, count_untouched, begun_count, begun_exact, begun_fits}

-- a property of sequences has one number
pub one_number : {P : List ℕ → Type 0} {m n : ℕ} → Number P m → Number P n → m ≡ n
one_number a b = number_one a b

-- "The three counts equal those of a definition over the published rules": from any machine, whatever commands its instances hold,
pub machine_counts : (p : Program) (l v : ℕ) (m : Machine) (st : State) → Represents m st
    → Counts p st l v (tally p l v (ends true) m) (tally p l v (ends false) m) (tally p l v stops m)
machine_counts p l v m st r = tally_counts p l v m st r

-- and 12 commands or fewer give counts of 32 bits, together too
pub machine_counts_fit : (p : Program) (l v : ℕ) (m : Machine) → codes m.instances ≤ most_counted
    → tally p l v (ends true) m + tally p l v (ends false) m + tally p l v stops m < nat_end
machine_counts_fit p l v m h = tally_fits p l v m h

-- The entry ------------------------------------------------------------------------------

module _ (x y : List ℕ) (n l v : ℕ) (list : List ℕ) where
  -- it refuses with a number exactly where that number is foremost of those whose condition holds
  pub count_refused_exactly : (k : ℕ) → (count_begins x y n l v list ≡ not_begun k) ↔ Foremost (count_order x y n l v list) k
  count_refused_exactly k = count_number x y n l v list k

  -- "a refusal from the input returns three zeros", and leaves every list place
  pub count_refused : (k : ℕ) → Foremost (count_order x y n l v list) k → (count x y n l v list ≡ counted k 0 0 0) × (count_list x y n l v list ≡ list)
  count_refused k q = count_untouched x y n l v list k q

  -- it counts exactly where no condition holds
  pub counted_exactly : ((p : Program) × (rs : List Record) × (count_begins x y n l v list ≡ begun p rs) × (Countable x y n l v list p rs))
      ↔ NoneOf (count_order x y n l v list)
  counted_exactly = count_none x y n l v list

  module _ (p : Program) (rs : List Record) (e : count_begins x y n l v list ≡ begun p rs) where
    -- then the number is 0 and the counts are those of the step started on the table
    pub counts_exact : ((count x y n l v list).number ≡ 0)
        × (Counts p (step_state p rs n) l v (count x y n l v list).true_orders (count x y n l v list).false_orders (count x y n l v list).stopped_orders)
    counts_exact = begun_exact x y n l v list p rs e

    -- they fit 32 bits, together too
    pub counts_fit : (count x y n l v list).true_orders + (count x y n l v list).false_orders + (count x y n l v list).stopped_orders < nat_end
    counts_fit = begun_fits x y n l v list p rs e

    -- and the list holds the commands of all steps, as after a run
    pub counts_listed : count_list x y n l v list ≡ listed p list
    counts_listed = (begun_count x y n l v list p rs e).1
