-- Groups of definitions that rows and proofs look into together: where an `unfolding` line has the name of a group, all of the group unfolds.
use Rattle.types.specs.Values.{in_int}
use Rattle.operators.specs.Operators.{quotient, remainder}
use Rattle.operators.specs.Apply.{same_int, same_bool, same_val, int_answer, nat_answer, by_nonzero, compute, answer, on_truths, on_labels, apply}

-- an operator on two values
unfoldable pub applying : Type 0
unfolding in_int quotient remainder same_int same_bool same_val int_answer nat_answer by_nonzero compute answer on_truths on_labels apply
applying = Unit {0}
