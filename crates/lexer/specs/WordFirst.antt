-- The kind of letters by the words that their first letter leaves: a word's if it stands there, or else a name's.
use Rattle.std.specs.Prelude.{ℕ, true, false, List}
use Rattle.tokens.specs.Tokens.{Word, Word.w_struct, Word.w_if, Word.w_then, Word.w_null, Word.w_this, Word.w_fix, Word.w_int, Word.w_nat}
use Rattle.tokens.specs.Tokens.{Word.w_bool, Word.w_string, Word.w_true, Word.w_false, word_spelling, same}
use Rattle.tokens.specs.Kinds.{word_kind}
use Rattle.tokens.specs.KindNames.{name_kind}

-- one word, by its letters and its kind
unfoldable pub one_word : List ℕ → ℕ → List ℕ → ℕ
one_word w k s = elim (same w s) [ true ↦ k | false ↦ name_kind ]

-- the letter that a word alone begins with; 0 for the three that begin with a t
unfoldable pub lone : Word → ℕ
lone w_struct = 115
lone w_if = 105
lone w_then = 0
lone w_null = 110
lone w_this = 0
lone w_fix = 70
lone w_int = 73
lone w_nat = 78
lone w_bool = 66
lone w_string = 83
lone w_true = 0
lone w_false = 102

-- the three words that begin with a t
unfoldable pub t_word : List ℕ → ℕ
t_word s = elim (same (word_spelling w_then) s) [
  | true ↦ word_kind w_then
  | false ↦ elim (same (word_spelling w_this) s) [ true ↦ word_kind w_this | false ↦ one_word (word_spelling w_true) (word_kind w_true) s ]
]
