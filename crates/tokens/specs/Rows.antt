-- Rows that pin how text parts into tokens, by computation: the readings of docs/DECISIONS.md, 'Program text', and the text of P.
use Rattle.std.specs.Prelude.{ℕ, ◌≡◌, refl, List, [], ◌∷◌}
use Rattle.std.proofs.Math.Option.{Option, none, some}
use Rattle.program.specs.Tree.{Op.op_eq, Op.op_ne, Op.op_le, Op.op_ge, Op.op_lt, Op.op_gt, Op.op_mul, Op.op_div, Op.op_rem, Op.op_add, Op.op_sub}
use Rattle.program.specs.Tree.{Op.op_and, Op.op_or}
use Rattle.tokens.specs.Tokens.{Word.w_struct, Word.w_if, Word.w_then, Word.w_null, Word.w_this, Word.w_fix, Word.w_int, Word.w_nat, Word.w_bool}
use Rattle.tokens.specs.Tokens.{Word.w_string, Word.w_true, Word.w_false}
use Rattle.tokens.specs.Tokens.{Sign.lpar, Sign.rpar, Sign.lbrace, Sign.rbrace, Sign.comma, Sign.colon, Sign.semicolon, Sign.assign, Sign.dot}
use Rattle.tokens.specs.Tokens.{Sign.bang, Polarity.plus, Polarity.minus}
use Rattle.tokens.specs.Tokens.{Token, Token.word, Token.sign, Token.op, Token.name, Token.int, Token.nat}
use Rattle.tokens.specs.Scanning.{lex}
use Rattle.tokens.specs.Unfold.{scanning}

-- bytes, and the tokens that they part into, if any
pub record Row : Type 0 where
  pub text : List ℕ
  pub tokens : Option (List Token)

abbrev row : List ℕ → Option (List Token) → Row
row s ts = record { text = s; tokens = ts }

-- the rows that hold, in order
pub data Rows : List Row → Type 0 where
  no_more : Rows []
  and_then : {r : Row} {rs : List Row} → lex 0 r.text ≡ r.tokens → Rows rs → Rows (r ∷ rs)

unfoldable pub rows : List Row
rows =
    -- a-1
    row (97 ∷ 45 ∷ 49 ∷ []) (some (name (97 ∷ []) ∷ int minus (49 ∷ []) ∷ []))
    -- a - +1
    ∷ row (97 ∷ 32 ∷ 45 ∷ 32 ∷ 43 ∷ 49 ∷ []) (some (name (97 ∷ []) ∷ op op_sub ∷ int plus (49 ∷ []) ∷ []))
    -- a--1
    ∷ row (97 ∷ 45 ∷ 45 ∷ 49 ∷ []) (some (name (97 ∷ []) ∷ op op_sub ∷ int minus (49 ∷ []) ∷ []))
    -- a-1n
    ∷ row (97 ∷ 45 ∷ 49 ∷ 110 ∷ []) (some (name (97 ∷ []) ∷ int minus (49 ∷ []) ∷ name (110 ∷ []) ∷ []))
    -- y - 1n
    ∷ row (121 ∷ 32 ∷ 45 ∷ 32 ∷ 49 ∷ 110 ∷ []) (some (name (121 ∷ []) ∷ op op_sub ∷ nat (49 ∷ []) ∷ []))
    -- 3nn
    ∷ row (51 ∷ 110 ∷ 110 ∷ []) (some (nat (51 ∷ []) ∷ name (110 ∷ []) ∷ []))
    -- +3n
    ∷ row (43 ∷ 51 ∷ 110 ∷ []) (some (int plus (51 ∷ []) ∷ name (110 ∷ []) ∷ []))
    -- 1nthen
    ∷ row (49 ∷ 110 ∷ 116 ∷ 104 ∷ 101 ∷ 110 ∷ []) (some (nat (49 ∷ []) ∷ word w_then ∷ []))
    -- thenx
    ∷ row (116 ∷ 104 ∷ 101 ∷ 110 ∷ 120 ∷ []) (some (name (116 ∷ 104 ∷ 101 ∷ 110 ∷ 120 ∷ []) ∷ []))
    -- a_1 b
    ∷ row (97 ∷ 95 ∷ 49 ∷ 32 ∷ 98 ∷ []) (some (name (97 ∷ 95 ∷ 49 ∷ []) ∷ name (98 ∷ []) ∷ []))
    -- ==
    ∷ row (61 ∷ 61 ∷ []) (some (op op_eq ∷ op op_eq ∷ []))
    -- <=<
    ∷ row (60 ∷ 61 ∷ 60 ∷ []) (some (op op_le ∷ op op_lt ∷ []))
    -- != !
    ∷ row (33 ∷ 61 ∷ 32 ∷ 33 ∷ []) (some (op op_ne ∷ sign bang ∷ []))
    -- :=:
    ∷ row (58 ∷ 61 ∷ 58 ∷ []) (some (sign assign ∷ sign colon ∷ []))
    -- &&||
    ∷ row (38 ∷ 38 ∷ 124 ∷ 124 ∷ []) (some (op op_and ∷ op op_or ∷ []))
    -- String and or
    ∷ row (83 ∷ 116 ∷ 114 ∷ 105 ∷ 110 ∷ 103 ∷ 32 ∷ 97 ∷ 110 ∷ 100 ∷ 32 ∷ 111 ∷ 114 ∷ []) (some (word w_string ∷ name (97 ∷ 110 ∷ 100 ∷ [])
    ∷ name (111 ∷ 114 ∷ []) ∷ []))
    -- a/**/b
    ∷ row (97 ∷ 47 ∷ 42 ∷ 42 ∷ 47 ∷ 98 ∷ []) (some (name (97 ∷ []) ∷ name (98 ∷ []) ∷ []))
    -- a/*/**/b
    ∷ row (97 ∷ 47 ∷ 42 ∷ 47 ∷ 42 ∷ 42 ∷ 47 ∷ 98 ∷ []) (some (name (97 ∷ []) ∷ name (98 ∷ []) ∷ []))
    -- a*/b
    ∷ row (97 ∷ 42 ∷ 47 ∷ 98 ∷ []) (some (name (97 ∷ []) ∷ op op_mul ∷ op op_div ∷ name (98 ∷ []) ∷ []))
    -- /***//
    ∷ row (47 ∷ 42 ∷ 42 ∷ 42 ∷ 47 ∷ 47 ∷ []) (some (op op_div ∷ []))
    -- \ta\r\nb
    ∷ row (9 ∷ 97 ∷ 13 ∷ 10 ∷ 98 ∷ []) (some (name (97 ∷ []) ∷ name (98 ∷ []) ∷ []))
    -- the empty text
    ∷ row ([]) (some ([]))
    -- AZaz_09, the ends of the ranges of a name's bytes
    ∷ row (65 ∷ 90 ∷ 97 ∷ 122 ∷ 95 ∷ 48 ∷ 57 ∷ []) (some (name (65 ∷ 90 ∷ 97 ∷ 122 ∷ 95 ∷ 48 ∷ 57 ∷ []) ∷ []))
    -- +09, the ends of the digits
    ∷ row (43 ∷ 48 ∷ 57 ∷ []) (some (int plus (48 ∷ 57 ∷ []) ∷ []))
    -- if null this Fix Nat Bool true false
    ∷ row (105 ∷ 102 ∷ 32 ∷ 110 ∷ 117 ∷ 108 ∷ 108 ∷ 32 ∷ 116 ∷ 104 ∷ 105 ∷ 115 ∷ 32 ∷ 70 ∷ 105 ∷ 120 ∷ 32 ∷ 78 ∷ 97 ∷ 116 ∷ 32 ∷
    66 ∷ 111 ∷ 111 ∷ 108 ∷ 32 ∷ 116 ∷ 114 ∷ 117 ∷ 101 ∷ 32 ∷ 102 ∷ 97 ∷ 108 ∷ 115 ∷ 101 ∷ []) (some (word w_if ∷ word w_null ∷ word w_this ∷ word w_fix
    ∷ word w_nat ∷ word w_bool ∷ word w_true ∷ word w_false ∷ []))
    -- >=>%
    ∷ row (62 ∷ 61 ∷ 62 ∷ 37 ∷ []) (some (op op_ge ∷ op op_gt ∷ op op_rem ∷ []))
    -- a/**/b/**/c: a comment ends at the first close
    ∷ row (97 ∷ 47 ∷ 42 ∷ 42 ∷ 47 ∷ 98 ∷ 47 ∷ 42 ∷ 42 ∷ 47 ∷ 99 ∷ []) (some (name (97 ∷ []) ∷ name (98 ∷ []) ∷ name (99 ∷ []) ∷ []))
    -- - 1
    ∷ row (45 ∷ 32 ∷ 49 ∷ []) none
    -- 3
    ∷ row (51 ∷ []) none
    -- 3n4
    ∷ row (51 ∷ 110 ∷ 52 ∷ []) none
    -- a/*/
    ∷ row (97 ∷ 47 ∷ 42 ∷ 47 ∷ []) none
    -- /* *
    ∷ row (47 ∷ 42 ∷ 32 ∷ 42 ∷ []) none
    -- _a
    ∷ row (95 ∷ 97 ∷ []) none
    -- a & b
    ∷ row (97 ∷ 32 ∷ 38 ∷ 32 ∷ 98 ∷ []) none
    -- |
    ∷ row (124 ∷ []) none
    -- \x0c
    ∷ row (12 ∷ []) none
    -- ~
    ∷ row (126 ∷ []) none
    -- \xe9
    ∷ row (195 ∷ 169 ∷ []) none
    -- #
    ∷ row (35 ∷ []) none
    -- \x0b, no blank
    ∷ row (11 ∷ []) none
    -- @ and [, next to the capitals
    ∷ row (64 ∷ []) none
    ∷ row (91 ∷ []) none
    -- `, next to the small letters
    ∷ row (96 ∷ []) none
    ∷ []

pub rows_hold : Rows rows
unfolding rows scanning
rows_hold =
    (and_then refl (and_then refl (and_then refl (and_then refl (and_then refl (and_then refl (and_then refl (and_then refl
    (and_then refl (and_then refl (and_then refl (and_then refl (and_then refl (and_then refl (and_then refl (and_then refl
    (and_then refl (and_then refl (and_then refl (and_then refl (and_then refl (and_then refl (and_then refl (and_then refl
    (and_then refl (and_then refl (and_then refl (and_then refl (and_then refl (and_then refl (and_then refl (and_then refl
    (and_then refl (and_then refl (and_then refl (and_then refl (and_then refl (and_then refl (and_then refl (and_then refl
    (and_then refl (and_then refl (and_then refl no_more)))))))))))))))))))))))))))))))))))))))))))

-- struct Deck(load: Int, prev: Deck) { add { load := (load + prev.load); } } add
unfoldable pub text_P : List ℕ
text_P =
    115 ∷ 116 ∷ 114 ∷ 117 ∷ 99 ∷ 116 ∷ 32 ∷ 68 ∷ 101 ∷ 99 ∷ 107 ∷ 40 ∷ 108 ∷ 111 ∷ 97 ∷ 100 ∷ 58 ∷ 32 ∷ 73 ∷ 110 ∷ 116 ∷ 44 ∷ 32 ∷ 112 ∷ 114 ∷ 101 ∷
    118 ∷ 58 ∷ 32 ∷ 68 ∷ 101 ∷ 99 ∷ 107 ∷ 41 ∷ 32 ∷ 123 ∷ 32 ∷ 97 ∷ 100 ∷ 100 ∷ 32 ∷ 123 ∷ 32 ∷ 108 ∷ 111 ∷ 97 ∷ 100 ∷ 32 ∷ 58 ∷ 61 ∷ 32 ∷ 40 ∷ 108 ∷
    111 ∷ 97 ∷ 100 ∷ 32 ∷ 43 ∷ 32 ∷ 112 ∷ 114 ∷ 101 ∷ 118 ∷ 46 ∷ 108 ∷ 111 ∷ 97 ∷ 100 ∷ 41 ∷ 59 ∷ 32 ∷ 125 ∷ 32 ∷ 125 ∷ 32 ∷ 97 ∷ 100 ∷ 100 ∷ []

unfoldable pub tokens_P : List Token
tokens_P =
    word w_struct ∷ name (68 ∷ 101 ∷ 99 ∷ 107 ∷ []) ∷ sign lpar ∷ name (108 ∷ 111 ∷ 97 ∷ 100 ∷ []) ∷ sign colon ∷ word w_int ∷ sign comma ∷
    name (112 ∷ 114 ∷ 101 ∷ 118 ∷ []) ∷ sign colon ∷ name (68 ∷ 101 ∷ 99 ∷ 107 ∷ []) ∷ sign rpar ∷ sign lbrace ∷ name (97 ∷ 100 ∷ 100 ∷ []) ∷
    sign lbrace ∷ name (108 ∷ 111 ∷ 97 ∷ 100 ∷ []) ∷ sign assign ∷ sign lpar ∷ name (108 ∷ 111 ∷ 97 ∷ 100 ∷ []) ∷ op op_add ∷
    name (112 ∷ 114 ∷ 101 ∷ 118 ∷ []) ∷ sign dot ∷ name (108 ∷ 111 ∷ 97 ∷ 100 ∷ []) ∷ sign rpar ∷ sign semicolon ∷ sign rbrace ∷ sign rbrace ∷
    name (97 ∷ 100 ∷ 100 ∷ []) ∷ []

pub P-lexed : lex 0 text_P ≡ some tokens_P
unfolding text_P tokens_P scanning
P-lexed = refl
