-- `words::kind` meets its contract: an arm for each first letter, which leaves one word or the three with a t, and one for names.
use Rattle.std.proofs.Common.{arith}
use Rattle.tokens.specs.Tokens.{Word.w_struct, Word.w_if, Word.w_null, Word.w_fix, Word.w_int, Word.w_nat, Word.w_bool, Word.w_string, Word.w_false}
use Rattle.tokens.specs.Tokens.{word_spelling}
use Rattle.tokens.specs.TokenNumbers.{word_number}
use Rattle.tokens.specs.Kinds.{word_kind}
use Rattle.lexer.specs.WordFirst.{lone}
use Rattle.lexer.specs.WordFirstLaws.{by_first, by_t, no_name}
use Rattle.lexer.proofs.words.kind.Goals as goal

pub returns-in-66 : goal.returns-in-66
unfolding lone word_spelling word_kind word_number
returns-in-66 c = by_first _ c.byte.ensures w_bool c.in-66.is (omega arith) c.only.ensures

pub returns-in-70 : goal.returns-in-70
unfolding lone word_spelling word_kind word_number
returns-in-70 c = by_first _ c.byte.ensures w_fix c.in-70.is (omega arith) c.only-in-70.ensures

pub returns-in-73 : goal.returns-in-73
unfolding lone word_spelling word_kind word_number
returns-in-73 c = by_first _ c.byte.ensures w_int c.in-73.is (omega arith) c.only-in-73.ensures

pub returns-in-78 : goal.returns-in-78
unfolding lone word_spelling word_kind word_number
returns-in-78 c = by_first _ c.byte.ensures w_nat c.in-78.is (omega arith) c.only-in-78.ensures

pub returns-in-83 : goal.returns-in-83
unfolding lone word_spelling word_kind word_number
returns-in-83 c = by_first _ c.byte.ensures w_string c.in-83.is (omega arith) c.only-in-83.ensures

pub returns-in-102 : goal.returns-in-102
unfolding lone word_spelling word_kind word_number
returns-in-102 c = by_first _ c.byte.ensures w_false c.in-102.is (omega arith) c.only-in-102.ensures

pub returns-in-105 : goal.returns-in-105
unfolding lone word_spelling word_kind word_number
returns-in-105 c = by_first _ c.byte.ensures w_if c.in-105.is (omega arith) c.only-in-105.ensures

pub returns-in-110 : goal.returns-in-110
unfolding lone word_spelling word_kind word_number
returns-in-110 c = by_first _ c.byte.ensures w_null c.in-110.is (omega arith) c.only-in-110.ensures

pub returns-in-115 : goal.returns-in-115
unfolding lone word_spelling word_kind word_number
returns-in-115 c = by_first _ c.byte.ensures w_struct c.in-115.is (omega arith) c.only-in-115.ensures

pub returns-in-116 : goal.returns-in-116
returns-in-116 c = by_t _ c.byte.ensures c.in-116.is c.with_t.ensures

pub returns-in_default : goal.returns-in_default
returns-in_default c = no_name _ (rw c.byte.ensures at c.in_default.in_default-own.rest)
