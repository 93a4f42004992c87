-- `sign` meets its contract: an arm for each first byte, which is a sign or an operator whatever follows, or by the byte behind it.
use Rattle.std.proofs.Common.{◌∙◌}
use Rattle.tokens.specs.TokenNumbers.{sign_number}
use Rattle.tokens.specs.Unfold.{sign_scan}
use Rattle.tokens.specs.Kinds.{kind, sign_kind, op_kind}
use Rattle.tokens.specs.Marking.{spot_of}
use Rattle.lexer.specs.SpotLaws.{sign_none, bang_spot, and_spot, colon_spot, less_spot, more_spot, or_spot}
use Rattle.lexer.proofs.sign.Goals as goal

pub returns-in-33 : goal.returns-in-33
returns-in-33 c = rw c.in-33.is (c.followed.ensures ∙ bang_spot c.args.c)

pub returns-in-37 : goal.returns-in-37
unfolding spot_of sign_scan kind sign_kind sign_number op_kind
returns-in-37 c = rw c.in-37.is

pub returns-in-38 : goal.returns-in-38
returns-in-38 c = rw c.in-38.is (c.followed-in-38.ensures ∙ and_spot c.args.c)

pub returns-in-40 : goal.returns-in-40
unfolding spot_of sign_scan kind sign_kind sign_number op_kind
returns-in-40 c = rw c.in-40.is

pub returns-in-41 : goal.returns-in-41
unfolding spot_of sign_scan kind sign_kind sign_number op_kind
returns-in-41 c = rw c.in-41.is

pub returns-in-42 : goal.returns-in-42
unfolding spot_of sign_scan kind sign_kind sign_number op_kind
returns-in-42 c = rw c.in-42.is

pub returns-in-43 : goal.returns-in-43
unfolding spot_of sign_scan kind sign_kind sign_number op_kind
returns-in-43 c = rw c.in-43.is

pub returns-in-44 : goal.returns-in-44
unfolding spot_of sign_scan kind sign_kind sign_number op_kind
returns-in-44 c = rw c.in-44.is

pub returns-in-45 : goal.returns-in-45
unfolding spot_of sign_scan kind sign_kind sign_number op_kind
returns-in-45 c = rw c.in-45.is

pub returns-in-46 : goal.returns-in-46
unfolding spot_of sign_scan kind sign_kind sign_number op_kind
returns-in-46 c = rw c.in-46.is

pub returns-in-47 : goal.returns-in-47
unfolding spot_of sign_scan kind sign_kind sign_number op_kind
returns-in-47 c = rw c.in-47.is

pub returns-in-58 : goal.returns-in-58
returns-in-58 c = rw c.in-58.is (c.followed-in-58.ensures ∙ colon_spot c.args.c)

pub returns-in-59 : goal.returns-in-59
unfolding spot_of sign_scan kind sign_kind sign_number op_kind
returns-in-59 c = rw c.in-59.is

pub returns-in-60 : goal.returns-in-60
returns-in-60 c = rw c.in-60.is (c.followed-in-60.ensures ∙ less_spot c.args.c)

pub returns-in-61 : goal.returns-in-61
unfolding spot_of sign_scan kind sign_kind sign_number op_kind
returns-in-61 c = rw c.in-61.is

pub returns-in-62 : goal.returns-in-62
returns-in-62 c = rw c.in-62.is (c.followed-in-62.ensures ∙ more_spot c.args.c)

pub returns-in-123 : goal.returns-in-123
unfolding spot_of sign_scan kind sign_kind sign_number op_kind
returns-in-123 c = rw c.in-123.is

pub returns-in-124 : goal.returns-in-124
returns-in-124 c = rw c.in-124.is (c.followed-in-124.ensures ∙ or_spot c.args.c)

pub returns-in-125 : goal.returns-in-125
unfolding spot_of sign_scan kind sign_kind sign_number op_kind
returns-in-125 c = rw c.in-125.is

pub returns-in_default : goal.returns-in_default
returns-in_default c = sign_none c.args.b c.args.c c.in_default.in_default-own.rest
