-- The word of a command determines it, for every command whose operands lie in their ranges, and so for every command of an accepted
-- program.
use Rattle.std.specs.Prelude.{ℕ, ◌+◌, ◌*◌, ◌/◌, ◌%◌, ◌<◌, ◌≡◌, refl, List, [], ◌∷◌, map}
use Rattle.std.proofs.Common.{arith, sym, ◌∙◌}
use Rattle.std.proofs.Math.Option.{some}
use Rattle.types.specs.Limits.{max_structs, nat_end}
use Rattle.types.specs.Types.{Ty, Ty.int, Ty.nat, Ty.bool, Ty.ref, code, IsType}
use Rattle.types.specs.Values.{word}
use Rattle.types.proofs.Laws.ValueLaws.{value_of_word}
use Rattle.program.specs.Counts.{All}
use Rattle.program.specs.Reader.{lookup}
use Rattle.types.proofs.Laws.TypeLaws.{type_of_code}
use Rattle.program.proofs.Laws.ExprLaws.{form_code}
use Rattle.commands.specs.Commands.{Com.push, Com.push_this, Com.rd, Com.wr, Com.cons, Com.not, Com.oper, Flat, Flat.plain, Flat.if_n}
use Rattle.commands.specs.Coding.{coded, com_word, command_word, words}
use Rattle.commands.specs.Decoding.{operator, command_of, decode, InRanges}

-- the kind, the type byte and the operand stand apart
decode_coded : (k t v : ℕ) → k < 256 → t < 256 → decode (coded k t v) ≡ command_of k t v
unfolding decode coded
decode_coded k t v h l = rw (low k t v h, middle k t v h, next t v l, high k t v h l)
  where
    low : (k t v : ℕ) → k < 256 → (k + 256 * t + nat_end * v) % 256 ≡ k
    low k t v h = omega arith

    middle : (k t v : ℕ) → k < 256 → (k + 256 * t + nat_end * v) / 256 ≡ t + 16777216 * v
    middle k t v h = omega arith

    next : (t v : ℕ) → t < 256 → (t + 16777216 * v) % 256 ≡ t
    next t v h = omega arith

    high : (k t v : ℕ) → k < 256 → t < 256 → (k + 256 * t + nat_end * v) / nat_end ≡ v
    high k t v h l = omega arith

-- a type of a program has a type byte
code_byte : (t : Ty) → IsType max_structs t → code t < 256
unfolding code
code_byte int h = omega arith
code_byte nat h = omega arith
code_byte bool h = omega arith
code_byte (ref k) h = omega arith

-- a command's word says the command
pub decode_word : (c : Flat) → InRanges c → decode (command_word c) ≡ some c
unfolding command_word com_word command_of lookup operator
decode_word (plain (push t v)) h =
    decode_coded 1 (code t) (word v) (omega arith) (code_byte t h.0) ∙ rw (type_of_code t, value_of_word t v h.1)
decode_word (plain push_this) h = decode_coded 2 0 0 (omega arith) (omega arith)
decode_word (plain (rd x)) h = decode_coded 3 0 x (omega arith) (omega arith)
decode_word (plain (wr x)) h = decode_coded 4 0 x (omega arith) (omega arith)
decode_word (plain (cons k)) h = decode_coded 5 0 k (omega arith) (omega arith)
decode_word (plain not) h = decode_coded 7 0 0 (omega arith) (omega arith)
decode_word (plain (oper o)) h = decode_coded 8 0 _ (omega arith) (omega arith) ∙ rw (form_code o)
decode_word (if_n n) h = decode_coded 6 0 n (omega arith) (omega arith)

-- equal words are of equal commands
pub word_injective : (c d : Flat) → InRanges c → InRanges d → command_word c ≡ command_word d → c ≡ d
word_injective c d h k e = let p : some c ≡ some d = sym (decode_word c h) ∙ rw e (decode_word d k) in cc

-- and so are equal lists of words
pub decode_words : (l : List Flat) → All InRanges l → map decode (words l) ≡ map some l
unfolding words
decode_words [] h = refl
decode_words (c ∷ l) h = rw (decode_word c h.0, decode_words l h.1)

pub words_injective : (l m : List Flat) → All InRanges l → All InRanges m → words l ≡ words m → l ≡ m
unfolding words
words_injective [] [] h k e = refl
words_injective [] (d ∷ m) h k e = cc
words_injective (c ∷ l) [] h k e = cc
words_injective (c ∷ l) (d ∷ m) h k e =
    let p = word_injective c d h.0 k.0 cc in
    let q = words_injective l m h.1 k.1 cc in
    cc
