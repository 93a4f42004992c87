-- A value and its four bytes as one number stand for each other (01, 'Table and turns').
use Rattle.std.specs.Prelude.{ℕ, ◌<◌, ◌≡◌, true, false, T, pos, negsuc}
use Rattle.std.proofs.Common.{arith, ltb→lt, lt→ltb}
use Rattle.types.specs.Limits.{nat_end}
use Rattle.types.specs.Types.{Ty, Ty.int, Ty.nat, Ty.bool, Ty.ref}
use Rattle.types.specs.TypeBytes.{word_end}
use Rattle.types.specs.Values.{Val, Val.int_val, Val.nat_val, Val.bool_val, Val.label, int_word, word, value_of}
use Rattle.types.proofs.Laws.ValueLaws as values
use Rattle.table.specs.Table.{Held}
use Rattle.table.specs.TableReader.{allowed}

-- the word of a value of a type is one that its type allows
word_below : (t : Ty) (v : Val) → Held t v → (word v < nat_end) × (word v < word_end t)
unfolding word int_word word_end
word_below int (int_val (pos n)) h = (omega arith, omega arith)
word_below int (int_val (negsuc n)) h = (omega arith, omega arith)
word_below nat (nat_val n) h = (h, h)
word_below bool (bool_val true) h = (omega arith, omega arith)
word_below bool (bool_val false) h = (omega arith, omega arith)
word_below (ref k) (label l) h = (h, h)
word_below int (nat_val n) h = elim h [ ]
word_below int (bool_val _) h = elim h [ ]
word_below int (label l) h = elim h [ ]
word_below nat (int_val _) h = elim h [ ]
word_below nat (bool_val _) h = elim h [ ]
word_below nat (label l) h = elim h [ ]
word_below bool (int_val _) h = elim h [ ]
word_below bool (nat_val n) h = elim h [ ]
word_below bool (label l) h = elim h [ ]
word_below (ref k) (int_val _) h = elim h [ ]
word_below (ref k) (nat_val n) h = elim h [ ]
word_below (ref k) (bool_val _) h = elim h [ ]

-- a value is that of its word, which four bytes hold and its type allows
pub value_of_word : (t : Ty) (v : Val) → Held t v → (word v < nat_end) × (T (allowed t (word v))) × (value_of t (word v) ≡ v)
value_of_word t v h =
    let b = word_below t v h in
    (b.0, lt→ltb (word v) (word_end t) b.1, values.value_of_word t v h)

-- what four bytes hold, where a type allows it, is the word of a value of the type
pub word_of_value : (t : Ty) (w : ℕ) → w < nat_end → T (allowed t w) → (Held t (value_of t w)) × (word (value_of t w) ≡ w)
word_of_value t w h a =
    let b = ltb→lt w (word_end t) a in
    (values.value_in_range t w b, values.word_of_value t w b)
