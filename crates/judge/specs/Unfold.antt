-- Groups of definitions that rows and proofs look into together: where an `unfolding` line has the name of a group, all of the group unfolds.
use Rattle.commands.specs.Decide.NamesDecide.{expr_named, args_named, stmt_named, body_named}
use Rattle.commands.specs.Decide.TypingDecide.{expr_type, args_typed, stmt_typed, body_typed}
use Rattle.judge.specs.Facts.{negated, combined, travelled, argued, constructed, expr_facts, args_facts, branched, declared, updated, created}
use Rattle.judge.specs.Facts.{followed, stmt_facts}
use Rattle.judge.specs.Facts.{body_facts}

-- the facts of expressions, and the tests that they tell
unfoldable pub expr_judging : Type 0
unfolding expr_facts args_facts negated combined travelled argued constructed expr_named args_named expr_type args_typed
expr_judging = Unit {0}

-- those of statements and bodies
unfoldable pub body_judging : Type 0
unfolding stmt_facts body_facts branched declared updated created followed stmt_named body_named stmt_typed body_typed
body_judging = Unit {0}
