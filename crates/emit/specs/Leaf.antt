-- The words of literals, of null and of this, and of the variables of a path, off the bytes of the stream.
use Rattle.std.specs.Prelude.{ℕ, zero, suc, ◌+◌, ◌-◌, List, [], ◌∷◌, true, false, get_or, ltb}
use Rattle.little_endian.specs.Numbers.{word_at}
use Rattle.types.specs.Types.{type_of}
use Rattle.types.specs.Values.{default, word}
use Rattle.commands.specs.Coding.{coded}
use Rattle.commands.specs.CommandKinds.{this_kind, push_kind, rd_kind}
use Rattle.program.specs.Forms.{int_form, bool_form, null_form, this_form}

-- the push of a type's default, by the type's byte
unfoldable pub null_word : ℕ → ℕ
null_word b = coded push_kind b (word (default (type_of b)))

-- how many bytes the form of a byte has
unfoldable pub leaf_size : ℕ → ℕ
leaf_size b = elim (ltb b bool_form) [ true ↦ 5 | false ↦ elim (ltb b this_form) [ true ↦ 2 | false ↦ 1 ] ]

-- the word of the form that a byte opens, with the number behind it
unfoldable pub byte_word : ℕ → ℕ → ℕ
byte_word b v = elim (ltb b null_form) [ true ↦ coded push_kind 2 v | false ↦ null_word v ]

unfoldable pub leaf_of : List ℕ → ℕ → ℕ → ℕ
leaf_of s at b =
    elim (ltb b bool_form) [
      | true ↦ coded push_kind (b - int_form) (word_at s (at + 1))
      | false ↦ elim (ltb b this_form) [ true ↦ byte_word b (get_or s (at + 1) 0) | false ↦ coded this_kind 0 0 ]
    ]

abbrev pub leaf_word : List ℕ → ℕ → ℕ
leaf_word s at = leaf_of s at (get_or s at 0)

-- an rd of each of n bytes
unfoldable pub rd_words : List ℕ → ℕ → ℕ → List ℕ
rd_words s at zero = []
rd_words s at (suc n) = coded rd_kind 0 (get_or s at 0) ∷ rd_words s (at + 1) n
