-- Rows of bytes that are no token, of bytes that part tokens and of words that are names (02 §1): a definition of tokens or gaps that says otherwise is refused here.
use Rattle.std.specs.Prelude.{ℕ, refl, List, [], ◌∷◌, ◌++◌, replicate}
use Rattle.std.proofs.Math.Option.{none, some}
use Rattle.program.specs.Tree.{Op.op_div}
use Rattle.tokens.specs.Tokens.{Token.op, Token.name}
use Rattle.tokens.specs.Rows.{Row, Rows, Rows.no_more, Rows.and_then}
use Rattle.tokens.specs.Unfold.{scanning}

-- words of other languages, and the grammar's own in other letters: names
abbrev else : List ℕ
else = 101 ∷ 108 ∷ 115 ∷ 101 ∷ []

abbrev iter : List ℕ
iter = 73 ∷ 116 ∷ 101 ∷ 114 ∷ []

abbrev upper_struct : List ℕ
upper_struct = 83 ∷ 84 ∷ 82 ∷ 85 ∷ 67 ∷ 84 ∷ []

abbrev lower_fix : List ℕ
lower_fix = 102 ∷ 105 ∷ 120 ∷ []

unfoldable pub byte_rows : List Row
byte_rows =
    -- a'
    record { text = 97 ∷ 39 ∷ []; tokens = none }
    -- a, then the bytes of é
    ∷ record { text = 97 ∷ 195 ∷ 169 ∷ []; tokens = none }
    -- byte 0
    ∷ record { text = 0 ∷ []; tokens = none }
    -- 194 160, a blank that cannot be parted
    ∷ record { text = 194 ∷ 160 ∷ []; tokens = none }
    -- a byte order mark
    ∷ record { text = 239 ∷ 187 ∷ 191 ∷ []; tokens = none }
    -- "
    ∷ record { text = 34 ∷ []; tokens = none }
    -- $
    ∷ record { text = 36 ∷ []; tokens = none }
    -- ?
    ∷ record { text = 63 ∷ []; tokens = none }
    -- \
    ∷ record { text = 92 ∷ []; tokens = none }
    -- ]
    ∷ record { text = 93 ∷ []; tokens = none }
    -- ^
    ∷ record { text = 94 ∷ []; tokens = none }
    -- byte 127
    ∷ record { text = 127 ∷ []; tokens = none }
    -- a//b
    ∷ record { text = 97 ∷ 47 ∷ 47 ∷ 98 ∷ []; tokens = some (name (97 ∷ []) ∷ op op_div ∷ op op_div ∷ name (98 ∷ []) ∷ []) }
    -- a, byte 13, b
    ∷ record { text = 97 ∷ 13 ∷ 98 ∷ []; tokens = some (name (97 ∷ []) ∷ name (98 ∷ []) ∷ []) }
    -- /*é*/a
    ∷ record { text = 47 ∷ 42 ∷ 195 ∷ 169 ∷ 42 ∷ 47 ∷ 97 ∷ []; tokens = some (name (97 ∷ []) ∷ []) }
    -- else Iter STRUCT fix
    ∷ record {
      text = else ++ 32 ∷ iter ++ 32 ∷ upper_struct ++ 32 ∷ lower_fix;
      tokens = some (name else ∷ name iter ∷ name upper_struct ∷ name lower_fix ∷ []);
    }
    -- a name of 80 bytes
    ∷ record { text = replicate 80 97; tokens = some (name (replicate 80 97) ∷ []) }
    ∷ []

pub byte_rows_hold : Rows byte_rows
unfolding byte_rows scanning
byte_rows_hold =
    and_then refl (and_then refl (and_then refl (and_then refl (and_then refl (and_then refl
    (and_then refl (and_then refl (and_then refl (and_then refl (and_then refl (and_then refl
    (and_then refl (and_then refl (and_then refl (and_then refl (and_then refl no_more))))))))))))))))
