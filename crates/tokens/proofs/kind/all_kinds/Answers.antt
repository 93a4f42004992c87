-- `kind::all_kinds` meets its contract: each constant is the kind of its token.
use Rattle.std.proofs.Common.{refl}
use Rattle.tokens.specs.TokenNumbers.{word_number, sign_number}
use Rattle.tokens.specs.Kinds.{word_kind, sign_kind, op_kind, all_kinds}
use Rattle.tokens.proofs.kind.all_kinds.Goals as goal

pub returns : goal.returns
unfolding all_kinds word_kind word_number sign_kind sign_number op_kind
returns c = refl
