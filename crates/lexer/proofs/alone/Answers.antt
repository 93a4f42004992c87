-- `alone` meets its contract: each of these bytes is no letter, no digit and no blank, opens nothing, and no token of two bytes begins with it.
use Rattle.tokens.specs.TokenNumbers.{sign_number}
use Rattle.tokens.specs.Unfold.{fronts}
use Rattle.tokens.specs.Kinds.{kind, sign_kind, op_kind}
use Rattle.tokens.specs.Marking.{spot_of}
use Rattle.lexer.proofs.alone.Goals as goal

pub returns-in-40 : goal.returns-in-40
unfolding spot_of fronts kind sign_kind sign_number op_kind
returns-in-40 c t = rw c.in-40.is

pub returns-in-41 : goal.returns-in-41
unfolding spot_of fronts kind sign_kind sign_number op_kind
returns-in-41 c t = rw c.in-41.is

pub returns-in-123 : goal.returns-in-123
unfolding spot_of fronts kind sign_kind sign_number op_kind
returns-in-123 c t = rw c.in-123.is

pub returns-in-125 : goal.returns-in-125
unfolding spot_of fronts kind sign_kind sign_number op_kind
returns-in-125 c t = rw c.in-125.is

pub returns-in-44 : goal.returns-in-44
unfolding spot_of fronts kind sign_kind sign_number op_kind
returns-in-44 c t = rw c.in-44.is

pub returns-in-59 : goal.returns-in-59
unfolding spot_of fronts kind sign_kind sign_number op_kind
returns-in-59 c t = rw c.in-59.is

pub returns-in-46 : goal.returns-in-46
unfolding spot_of fronts kind sign_kind sign_number op_kind
returns-in-46 c t = rw c.in-46.is

pub returns-in-61 : goal.returns-in-61
unfolding spot_of fronts kind sign_kind sign_number op_kind
returns-in-61 c t = rw c.in-61.is

pub returns-in-42 : goal.returns-in-42
unfolding spot_of fronts kind sign_kind sign_number op_kind
returns-in-42 c t = rw c.in-42.is

pub returns-in-37 : goal.returns-in-37
unfolding spot_of fronts kind sign_kind sign_number op_kind
returns-in-37 c t = rw c.in-37.is
