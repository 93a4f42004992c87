-- A literal is of its type (02 §1: "a literal outside its type" is 17).
use Rattle.std.specs.Prelude.{◌≡◌, true, ltb}
use Rattle.types.specs.Limits.{nat_end}
use Rattle.types.specs.Values.{in_int}
use Rattle.tokens.specs.Tokens.{Token, Token.word, Token.sign, Token.op, Token.name, Token.int, Token.nat}
use Rattle.meaning.specs.Values.{decimal, signed}
use Rattle.text_shape.specs.Roles.{Role, Role.plain, Role.naming, Role.typed, Role.part}

unfoldable pub InsideToken : Token → Type 0
InsideToken (word w) = Unit {0}
InsideToken (sign g) = Unit {0}
InsideToken (op o) = Unit {0}
InsideToken (name x) = Unit {0}
InsideToken (int g l) = in_int (signed g (decimal l)) ≡ true
InsideToken (nat l) = ltb (decimal l) nat_end ≡ true

unfoldable pub Inside : Role → Type 0
unfolding InsideToken
Inside (plain t) = InsideToken t
Inside (naming n x) = Unit {0}
Inside (typed u t) = Unit {0}
Inside (part g) = Unit {0}
