-- The counts of orders as the library hands them over (02 §14).
use Rattle.counts.specs.CountEntry.{Counted}
use Rattle.audala.specs.declared.tallies.Counts.{Counts}

abbrev pub exported_counts : Counted → Counts
exported_counts c = record { number = c.number; truths = c.true_orders; falsehoods = c.false_orders; stops = c.stopped_orders }
