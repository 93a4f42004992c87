-- A number for each word and each sign, in the order in which 'Tokens' has them: by it they are told apart.
use Rattle.std.specs.Prelude.{ℕ}
use Rattle.tokens.specs.Tokens.{Word, Word.w_struct, Word.w_if, Word.w_then, Word.w_null, Word.w_this, Word.w_fix, Word.w_int, Word.w_nat}
use Rattle.tokens.specs.Tokens.{Word.w_bool, Word.w_string, Word.w_true, Word.w_false}
use Rattle.tokens.specs.Tokens.{Sign, Sign.lpar, Sign.rpar, Sign.lbrace, Sign.rbrace, Sign.comma, Sign.colon, Sign.semicolon, Sign.assign}
use Rattle.tokens.specs.Tokens.{Sign.dot, Sign.bang}

unfoldable pub word_number : Word → ℕ
word_number w_struct = 0
word_number w_if = 1
word_number w_then = 2
word_number w_null = 3
word_number w_this = 4
word_number w_fix = 5
word_number w_int = 6
word_number w_nat = 7
word_number w_bool = 8
word_number w_string = 9
word_number w_true = 10
word_number w_false = 11

unfoldable pub sign_number : Sign → ℕ
sign_number lpar = 0
sign_number rpar = 1
sign_number lbrace = 2
sign_number rbrace = 3
sign_number comma = 4
sign_number colon = 5
sign_number semicolon = 6
sign_number assign = 7
sign_number dot = 8
sign_number bang = 9
