-- The text of a command's word is the command as 01 lists it; rows of every form.
use Rattle.std.specs.Prelude.{ℕ, suc, ◌+◌, ◌*◌, ◌-◌, ◌/◌, ◌%◌, ◌<◌, ◌≡◌, refl, true, false, ◌∷◌, pos, negsuc}
use Rattle.std.proofs.Common.{arith, ap, ◌∙◌}
use Rattle.types.specs.Limits.{nat_end, max_structs}
use Rattle.types.specs.Types.{Ty, Ty.int, Ty.nat, Ty.bool, Ty.ref, IsType, code}
use Rattle.types.specs.TypeBytes.{ValueOf}
use Rattle.types.specs.Values.{Val, Val.int_val, Val.nat_val, Val.bool_val, Val.label, int_word, word}
use Rattle.program.specs.Encoding.{op_code}
use Rattle.commands.specs.Commands.{Com.push, Com.push_this, Com.rd, Com.wr, Com.cons, Com.not, Com.oper, Flat, Flat.plain, Flat.if_n}
use Rattle.commands.specs.Coding.{coded, com_word, command_word}
use Rattle.text.specs.Listing.{decimal, value_text, push_text, keyed, other_text, parts_text, text}
use Rattle.text.specs.TextLaws.{value_plain, value_positive, value_negative}
use Rattle.text.specs.CommandText.{shown, command_text, Listed}

-- a word's text is that of its kind, type byte and operand
pub text_coded : (k t v : ℕ) → k < 256 → t < 256 → text (coded k t v) ≡ parts_text k t v
unfolding text coded
text_coded k t v hk ht =
    let a : (k + 256 * t + nat_end * v) % 256 ≡ k = omega arith in
    let b : (k + 256 * t + nat_end * v) / 256 ≡ t + 16777216 * v = omega arith in
    let d : (t + 16777216 * v) % 256 ≡ t = omega arith in
    let c : (k + 256 * t + nat_end * v) / nat_end ≡ v = omega arith in
    rw (a, b, d, c)

-- the value of a push
pub value_shown : (t : Ty) (v : Val) → ValueOf t v → value_text (code t) (word v) ≡ shown v
unfolding code word int_word shown
value_shown int (int_val (pos n)) h = value_positive 0 n refl h
value_shown int (int_val (negsuc n)) h =
    let e : nat_end - (nat_end - suc n) ≡ suc n = omega arith in
    value_negative 0 (nat_end - suc n) refl (omega arith) ∙ ap (λ (m : ℕ). 45 ∷ decimal m) e
value_shown nat (nat_val n) h = value_plain 1 n (λ e. omega arith)
value_shown bool (bool_val true) h = value_plain 2 1 (λ e. omega arith)
value_shown bool (bool_val false) h = value_plain 2 0 (λ e. omega arith)
value_shown (ref k) (label l) h = value_plain (16 + k) l (λ e. omega arith)
value_shown int (nat_val n) h = elim h [ ]
value_shown int (bool_val _) h = elim h [ ]
value_shown int (label l) h = elim h [ ]
value_shown nat (int_val _) h = elim h [ ]
value_shown nat (bool_val _) h = elim h [ ]
value_shown nat (label l) h = elim h [ ]
value_shown bool (int_val _) h = elim h [ ]
value_shown bool (nat_val n) h = elim h [ ]
value_shown bool (label l) h = elim h [ ]
value_shown (ref k) (int_val _) h = elim h [ ]
value_shown (ref k) (nat_val n) h = elim h [ ]
value_shown (ref k) (bool_val _) h = elim h [ ]

type_byte : (t : Ty) → IsType max_structs t → code t < 256
unfolding code
type_byte int h = omega arith
type_byte nat h = omega arith
type_byte bool h = omega arith
type_byte (ref k) h = omega arith

-- the text of a command's word is the command's
pub text_command : (c : Flat) → Listed c → text (command_word c) ≡ command_text c
unfolding command_word com_word command_text parts_text push_text other_text keyed
text_command (plain (push t v)) h =
    text_coded 1 (code t) (word v) (omega arith) (type_byte t h.0) ∙ rw (value_shown t v h.1)
text_command (plain push_this) h = text_coded 2 0 0 (omega arith) (omega arith)
text_command (plain (rd x)) h = text_coded 3 0 x (omega arith) (omega arith)
text_command (plain (wr x)) h = text_coded 4 0 x (omega arith) (omega arith)
text_command (plain (cons k)) h = text_coded 5 0 k (omega arith) (omega arith)
text_command (plain not) h = text_coded 7 0 0 (omega arith) (omega arith)
text_command (plain (oper o)) h = text_coded 8 0 (op_code o) (omega arith) (omega arith)
text_command (if_n n) h = text_coded 6 0 n (omega arith) (omega arith)
