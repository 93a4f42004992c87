-- `passing::type_number` meets its contract.
use Rattle.uses.specs.Laws.TypeLaws.{number_local, number_null}
use Rattle.uses.proofs.passing.type_number.Goals as goal

pub returns-then-role-lt-NULL_INT : goal.returns-then-role-lt-NULL_INT
returns-then-role-lt-NULL_INT c = number_local c.args.role c.requires.0 c.if-role-lt-NULL_INT.true

pub returns : goal.returns
returns c = number_null c.args.role c.if-role-lt-NULL_INT.false c.requires.1
