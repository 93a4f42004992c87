-- Groups of definitions that rows and proofs look into together: where an `unfolding` line has the name of a group, all of the group unfolds.
use Rattle.tokens.specs.Tokens.{between, letter, digit, name_byte, blank, word_spelling, sign_spelling, op_spelling, spelling, same}
use Rattle.tokens.specs.Scanning.{span, begins, one_more, closing, words, find_word, named, doubles, singles, signs, behind_first, find_sign, class}
use Rattle.tokens.specs.Scanning.{polarity, signed, opens, nat_front, comment_front, after_star, other_front, front_of, front, added, taken, lex}

-- classes of bytes
unfoldable pub classes : Type 0
unfolding between letter digit name_byte blank class
classes = Unit {0}

-- words and names
unfoldable pub word_scan : Type 0
unfolding word_spelling same words find_word named
word_scan = Unit {0}

-- signs and operators
unfoldable pub sign_scan : Type 0
unfolding spelling word_spelling sign_spelling op_spelling begins doubles singles signs behind_first find_sign
sign_scan = Unit {0}

-- what stands at the front of some bytes
unfoldable pub fronts : Type 0
unfolding classes word_scan sign_scan span one_more closing polarity signed opens nat_front comment_front after_star other_front front_of front
fronts = Unit {0}

-- the tokens of a text
unfoldable pub scanning : Type 0
unfolding fronts added taken lex
scanning = Unit {0}
