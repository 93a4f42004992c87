-- Scanning finds the longest token: of every token that stands at the front of some bytes and begins no comment, what is found is as long at
-- least, and is that token where it is as long.
use Rattle.std.specs.Prelude.{ℕ, suc, ◌≤◌, ◌≡◌, refl, Bool, true, false, List, [], ◌∷◌, ◌++◌, length, take, get_or}
use Rattle.std.proofs.Common.{arith, ap, ◌∙◌, append_assoc, length-append, take_at}
use Rattle.std.proofs.lemmas.List.{get_or_at}
use Rattle.program.specs.Tree.{Op, Op.op_eq, Op.op_ne, Op.op_le, Op.op_ge, Op.op_lt, Op.op_gt, Op.op_mul, Op.op_div, Op.op_rem, Op.op_add, Op.op_sub}
use Rattle.program.specs.Tree.{Op.op_and, Op.op_or}
use Rattle.tokens.specs.Tokens.{Word, Word.w_struct, Word.w_if, Word.w_then, Word.w_null, Word.w_this, Word.w_fix, Word.w_int, Word.w_nat}
use Rattle.tokens.specs.Tokens.{Word.w_bool, Word.w_string, Word.w_true, Word.w_false}
use Rattle.tokens.specs.Tokens.{Sign, Sign.lpar, Sign.rpar, Sign.lbrace, Sign.rbrace, Sign.comma, Sign.colon, Sign.semicolon, Sign.assign}
use Rattle.tokens.specs.Tokens.{Sign.dot, Sign.bang, Polarity, Polarity.plus, Polarity.minus}
use Rattle.tokens.specs.Tokens.{Token, Token.word, Token.sign, Token.op, Token.name, Token.int, Token.nat, between, letter, digit, name_byte}
use Rattle.tokens.specs.Tokens.{blank, every, word_spelling, sign_spelling, op_spelling, polarity_byte, nat_end_byte, spelling, Name, Digits}
use Rattle.tokens.specs.Tokens.{Proper}
use Rattle.tokens.specs.Lexing.{Comment}
use Rattle.tokens.specs.Scanning.{Front, Front.token, Front.gap, Front.nothing, span, begins, named, doubles, singles, signs, behind_first}
use Rattle.tokens.specs.Scanning.{find_sign, Class.others, class, polarity, signed, opens, after_star, nat_front, other_front, front_of, front}
use Rattle.tokens.proofs.Laws.ByteLaws.{span_most, span_ends, class_letter, class_digit}
use Rattle.tokens.proofs.Laws.NamedLaws.{named_spelling, named_word, named_name}
use Rattle.tokens.proofs.Laws.FrontLaws.{digits_run, opens_comment}
use Rattle.tokens.specs.Bytes.{slash}

abbrev pub Covers : Front → Token → Type 0
Covers (token u n) t = (length (spelling t) ≤ suc n) × (length (spelling t) ≡ suc n → u ≡ t)
Covers (gap n) t = ⊥
Covers nothing t = ⊥

-- Words and names --------------------------------------------------------------------------

front_letter : (b : ℕ) (s : List ℕ) → letter b ≡ true → front (b ∷ s) ≡ token (named (b ∷ take (span name_byte s) s)) (span name_byte s)
unfolding front front_of
front_letter b s e = rw (class_letter b e) refl

covers_name : (s v : List ℕ) → Name s → Covers (front (s ++ v)) (named s)
unfolding Name
covers_name [] v h = absurd h
covers_name (b ∷ w) v h =
    rw (front_letter b (w ++ v) h.0)
    (rw (named_spelling (b ∷ w)) (
      omega (arith, span_most name_byte w v h.1),
      λ q.
          ap (λ l. named (b ∷ l)) (take_at w v (span name_byte (w ++ v)) (omega (arith, q))),
    ))

word_name : (w : Word) → Name (word_spelling w)
unfolding Name word_spelling letter name_byte digit between every
word_name w_struct = (refl, refl)
word_name w_if = (refl, refl)
word_name w_then = (refl, refl)
word_name w_null = (refl, refl)
word_name w_this = (refl, refl)
word_name w_fix = (refl, refl)
word_name w_int = (refl, refl)
word_name w_nat = (refl, refl)
word_name w_bool = (refl, refl)
word_name w_string = (refl, refl)
word_name w_true = (refl, refl)
word_name w_false = (refl, refl)

-- Literals -------------------------------------------------------------------------------------

no_digit : digit nat_end_byte ≡ false
unfolding digit between
no_digit = refl

front_digits : (b : ℕ) (w v : List ℕ) → digit b ≡ true → every digit w ≡ true
    → front (b ∷ (w ++ (nat_end_byte ∷ v))) ≡ token (nat (b ∷ w)) (suc (length w))
unfolding front front_of nat_front
front_digits b w v e h =
    rw (class_digit b e, span_ends digit w nat_end_byte v h no_digit)
    (rw (get_or_at w nat_end_byte v 0 (length w) refl, nat_front) (ap (λ l. token (nat (b ∷ l)) (suc (length w))) (take_at w (nat_end_byte ∷ v) (length w) refl)))

covers_nat : (ds v : List ℕ) → Digits ds → Covers (front ((ds ++ (nat_end_byte ∷ [])) ++ v)) (nat ds)
unfolding Digits spelling
covers_nat [] v h = absurd h
covers_nat (b ∷ w) v h =
    rw (append_assoc w (nat_end_byte ∷ []) v, front_digits b w v h.0 h.1)
    (omega (arith, length-append w (nat_end_byte ∷ [])), λ q. refl)

front_other : (b : ℕ) (s : List ℕ) → class b ≡ others → front (b ∷ s) ≡ other_front b s
unfolding front front_of
front_other b s e = rw e refl

other_signed : (b : ℕ) (s : List ℕ) → opens b s ≡ false → signed b s ≡ true → other_front b s ≡ token (int (polarity b) (take (span digit s) s)) (span digit s)
unfolding other_front
other_signed b s e f = rw (e, f, other_front) refl

other_sign : (b : ℕ) (s : List ℕ) → opens b s ≡ false → signed b s ≡ false → other_front b s ≡ find_sign signs (b ∷ s)
unfolding other_front
other_sign b s e f = rw (e, f, other_front) refl

front_signed : (p : Polarity) (s : List ℕ) → digit (get_or s 0 0) ≡ true
    → front (polarity_byte p ∷ s) ≡ token (int p (take (span digit s) s)) (span digit s)
unfolding class letter digit blank between opens signed polarity polarity_byte
front_signed plus s e = front_other 43 s refl ∙ other_signed 43 s refl e
front_signed minus s e = front_other 45 s refl ∙ other_signed 45 s refl e

covers_int : (p : Polarity) (ds v : List ℕ) → Digits ds → Covers (front (polarity_byte p ∷ (ds ++ v))) (int p ds)
unfolding Digits spelling every
covers_int p [] v h = absurd h
covers_int p (d ∷ w) v h =
    let m : length (d ∷ w) ≤ span digit ((d ∷ w) ++ v) = span_most digit (d ∷ w) v (rw h.0 h.1) in
    rw (front_signed p (d ∷ (w ++ v)) h.0)
    (omega arith, λ q. ap (int p) (take_at (d ∷ w) v (span digit ((d ∷ w) ++ v)) (omega (arith, q))))

-- Signs and operators ------------------------------------------------------------------------------

-- those of two bytes: closed bytes decide
covers_double : (t : Token) (b c : ℕ) (v : List ℕ) → class b ≡ others → opens b (c ∷ v) ≡ false → signed b (c ∷ v) ≡ false → length (spelling t) ≡ 2
    → find_sign signs (b ∷ c ∷ v) ≡ token t 1 → Covers (front (b ∷ c ∷ v)) t
covers_double t b c v k o g l f =
    rw (front_other b (c ∷ v) k, other_sign b (c ∷ v) o g, f)
    (omega arith, λ q. refl)

-- those of one byte: what two bytes are found to be is longer
unfoldable pub Double : List Token → Type 0
Double [] = Unit {0}
Double (t ∷ ts) = (behind_first (spelling t) ≡ 1) × (Double ts)

past_doubles : (ts rest : List Token) (x : List ℕ) (t : Token) → Double ts → length (spelling t) ≡ 1 → Covers (find_sign rest x) t
    → Covers (find_sign (ts ++ rest) x) t
unfolding find_sign Double
past_doubles [] rest x t d l c = c
past_doubles (u ∷ ts) rest x t d l c = go (begins (spelling u) x) refl (past_doubles ts rest x t d.1 l c)
  where
    go : (q : Bool) → begins (spelling u) x ≡ q → Covers (find_sign (ts ++ rest) x) t → Covers (find_sign (u ∷ (ts ++ rest)) x) t
    go true e r = rw (e, find_sign, d.0) (omega arith, λ q. absurd (omega (arith, q)))
    go false e r = rw (e, find_sign) r

doubles_double : Double doubles
unfolding Double doubles behind_first spelling sign_spelling op_spelling
doubles_double = (refl, (refl, (refl, (refl, (refl, (refl, tt))))))

covers_signs : (x : List ℕ) (t : Token) → length (spelling t) ≡ 1 → find_sign singles x ≡ token t 0 → Covers (find_sign signs x) t
unfolding signs
covers_signs x t l f = past_doubles doubles singles x t doubles_double l (rw f (omega arith, λ q. refl))

covers_single : (t : Token) (b : ℕ) (v : List ℕ) → class b ≡ others → opens b v ≡ false → signed b v ≡ false → length (spelling t) ≡ 1
    → find_sign singles (b ∷ v) ≡ token t 0 → Covers (front (b ∷ v)) t
covers_single t b v k o g l f = rw (front_other b v k, other_sign b v o g) (covers_signs (b ∷ v) t l f)

covers_sign : (g : Sign) (v : List ℕ) → Covers (front (sign_spelling g ++ v)) (sign g)
unfolding class letter digit blank between opens signed find_sign signs doubles singles behind_first begins spelling sign_spelling op_spelling
covers_sign lpar v = covers_single (sign lpar) 40 v refl refl refl refl refl
covers_sign rpar v = covers_single (sign rpar) 41 v refl refl refl refl refl
covers_sign lbrace v = covers_single (sign lbrace) 123 v refl refl refl refl refl
covers_sign rbrace v = covers_single (sign rbrace) 125 v refl refl refl refl refl
covers_sign comma v = covers_single (sign comma) 44 v refl refl refl refl refl
covers_sign colon v = covers_single (sign colon) 58 v refl refl refl refl refl
covers_sign semicolon v = covers_single (sign semicolon) 59 v refl refl refl refl refl
covers_sign assign v = covers_double (sign assign) 58 61 v refl refl refl refl refl
covers_sign dot v = covers_single (sign dot) 46 v refl refl refl refl refl
covers_sign bang v = covers_single (sign bang) 33 v refl refl refl refl refl

-- a sum or difference, with no digit behind it or with one
covers_sum : (p : Polarity) (t : Token) (v : List ℕ) → class (polarity_byte p) ≡ others → opens (polarity_byte p) v ≡ false
    → signed (polarity_byte p) v ≡ digit (get_or v 0 0) → length (spelling t) ≡ 1 → find_sign singles (polarity_byte p ∷ v) ≡ token t 0
    → Covers (front (polarity_byte p ∷ v)) t
covers_sum p t v k o g l f = go (digit (get_or v 0 0)) refl
  where
    go : (q : Bool) → digit (get_or v 0 0) ≡ q → Covers (front (polarity_byte p ∷ v)) t
    go true e = rw (front_signed p v e) (omega arith, λ q. absurd (omega (arith, q, (digits_run v e).1)))
    go false e = covers_single t (polarity_byte p) v k o (g ∙ e) l f

-- a quotient, which begins no comment
covers_div : (v : List ℕ) → (Comment (slash ∷ v) → ⊥) → Covers (front (slash ∷ v)) (op op_div)
unfolding class letter digit blank between opens signed find_sign singles behind_first begins spelling sign_spelling op_spelling
covers_div v n = go (opens slash v) refl
  where
    go : (q : Bool) → opens slash v ≡ q → Covers (front (slash ∷ v)) (op op_div)
    go true e = absurd (n (after_star v, opens_comment slash v e))
    go false e = covers_single (op op_div) 47 v refl e refl refl refl

covers_op : (o : Op) (v : List ℕ) → (Comment (op_spelling o ++ v) → ⊥) → Covers (front (op_spelling o ++ v)) (op o)
unfolding class letter digit blank between opens signed find_sign signs doubles singles behind_first begins spelling sign_spelling op_spelling polarity_byte
covers_op op_eq v n = covers_single (op op_eq) 61 v refl refl refl refl refl
covers_op op_ne v n = covers_double (op op_ne) 33 61 v refl refl refl refl refl
covers_op op_le v n = covers_double (op op_le) 60 61 v refl refl refl refl refl
covers_op op_ge v n = covers_double (op op_ge) 62 61 v refl refl refl refl refl
covers_op op_lt v n = covers_single (op op_lt) 60 v refl refl refl refl refl
covers_op op_gt v n = covers_single (op op_gt) 62 v refl refl refl refl refl
covers_op op_mul v n = covers_single (op op_mul) 42 v refl refl refl refl refl
covers_op op_div v n = covers_div v n
covers_op op_rem v n = covers_single (op op_rem) 37 v refl refl refl refl refl
covers_op op_add v n = covers_sum plus (op op_add) v refl refl refl refl refl
covers_op op_sub v n = covers_sum minus (op op_sub) v refl refl refl refl refl
covers_op op_and v n = covers_double (op op_and) 38 38 v refl refl refl refl refl
covers_op op_or v n = covers_double (op op_or) 124 124 v refl refl refl refl refl

pub covers : (t : Token) (v : List ℕ) → Proper t → (Comment (spelling t ++ v) → ⊥) → Covers (front (spelling t ++ v)) t
unfolding Proper spelling
covers (word w) v p n = rw (named_word w) at (covers_name (word_spelling w) v (word_name w))
covers (sign g) v p n = covers_sign g v
covers (op o) v p n = covers_op o v n
covers (name s) v p n = rw (named_name s p.1) at (covers_name s v p.0)
covers (int q ds) v p n = covers_int q ds v p
covers (nat ds) v p n = covers_nat ds v p
