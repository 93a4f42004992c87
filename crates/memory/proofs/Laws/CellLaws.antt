-- Laws of cells (01, 'Table and turns'): the parts of a word, and what a cell that shows a value says of it.
use Rattle.std.specs.Prelude.{ℕ, ◌+◌, ◌-◌, ◌*◌, ◌/◌, ◌%◌, ◌<◌, ◌≤◌, ◌≡◌, refl, Bool, true, false, not, eqb, pos, negsuc}
use native.Mathlib.Omega.{arith}
use Rattle.std.proofs.Common.{ap, sym, ◌∙◌, eqb-true}
use Rattle.std.proofs.lemmas.Bool.{eqb-false}
use Rattle.types.specs.Limits.{nat_end, max_structs}
use Rattle.types.specs.Types.{Ty, Ty.int, Ty.nat, Ty.bool, Ty.ref, IsType, code}
use Rattle.types.proofs.Laws.TypeLaws.{type_of_code}
use Rattle.types.specs.TypeBytes.{ValueOf}
use Rattle.types.specs.Values.{Val, Val.int_val, Val.nat_val, Val.bool_val, Val.label, int_word, word, value_of}
use Rattle.program.specs.Tree.{Op, Op.op_eq, Op.op_ne, Op.op_le, Op.op_ge, Op.op_lt, Op.op_gt, Op.op_mul, Op.op_div, Op.op_rem, Op.op_add, Op.op_sub}
use Rattle.program.specs.Tree.{Op.op_and, Op.op_or}
use Rattle.program.specs.Encoding.{op_code}
use Rattle.commands.specs.Typing.{sort, Takes, Takes.any_equal, Takes.order_int, Takes.order_nat, Takes.arith_int, Takes.arith_nat, Takes.logic_bool}
use Rattle.commands.specs.Coding.{coded}
use Rattle.operators.specs.Ranges.{Of as Range, Of.of_int, Of.of_nat, Of.of_bool, Of.of_ref}
use Rattle.operators.proofs.Laws.ValueLaws.{value_word}
use Rattle.operators.specs.Apply.{apply, same_val}
use Rattle.operators.proofs.Laws.TestLaws.{same_val_exact, same_val_false}
use Rattle.operators.specs.Words.{answered, apply_word}
use Rattle.operators.proofs.Laws.WordLaws.{op_of_code}
use Rattle.sound.specs.Sized.{Lasting, Lasting.an_int, Lasting.a_nat, Lasting.a_bool, Lasting.a_null}
use Rattle.layout.specs.Layout.{cell, type_byte, operand, label_cell}
use Rattle.memory.specs.Act.{bool_byte, result_byte}
use Rattle.memory.specs.Stands.{Shows}

-- the kind, the type byte and the operand of a word
module _ (k t v : ℕ) (hk : k < 256) (ht : t < 256) where
  pub kind_part : coded k t v % 256 ≡ k
  unfolding coded
  kind_part = omega arith

  pub type_part : type_byte (coded k t v) ≡ t
  unfolding coded
  type_part =
      let b : (k + 256 * t + nat_end * v) / 256 ≡ t + 16777216 * v = omega arith in
      let d : (t + 16777216 * v) % 256 ≡ t = omega arith in
      rw (b, d)

  pub operand_part : operand (coded k t v) ≡ v
  unfolding coded
  operand_part = omega arith

-- the byte of a type, and the word of a value, are small
pub code_byte : (t : Ty) → IsType max_structs t → code t < 256
unfolding code
code_byte int h = omega arith
code_byte nat h = omega arith
code_byte bool h = omega arith
code_byte (ref k) h = omega arith

pub word_below : (t : Ty) (v : Val) → ValueOf t v → word v < nat_end
unfolding word int_word
word_below int (int_val (pos n)) h = omega arith
word_below int (int_val (negsuc n)) h = omega arith
word_below int (nat_val n) h = absurd h
word_below int (bool_val b) h = absurd h
word_below int (label l) h = absurd h
word_below nat (int_val z) h = absurd h
word_below nat (nat_val n) h = h
word_below nat (bool_val b) h = absurd h
word_below nat (label l) h = absurd h
word_below bool (int_val z) h = absurd h
word_below bool (nat_val n) h = absurd h
word_below bool (bool_val true) h = omega arith
word_below bool (bool_val false) h = omega arith
word_below bool (label l) h = absurd h
word_below (ref k) (int_val z) h = absurd h
word_below (ref k) (nat_val n) h = absurd h
word_below (ref k) (bool_val b) h = absurd h
word_below (ref k) (label l) h = h

-- a cell that shows a value ------------------------------------------------------

pub shows : (t : Ty) (v : Val) → IsType max_structs t → ValueOf t v → Shows (cell (code t) (word v)) v
shows t v h k = record { by = t; typed = h; held = k; is = refl }

-- what lasts is shown by its own type
pub lasting_shows : {S : ℕ} → S ≤ max_structs → {t : Ty} {v : Val} → Lasting S t v → Shows (cell (code t) (word v)) v
lasting_shows h (an_int {z = z} r) = shows int (int_val z) tt r
lasting_shows h (a_nat {n = n} r) = shows nat (nat_val n) tt r
lasting_shows h (a_bool {t = b}) = shows bool (bool_val b) tt tt
lasting_shows h (a_null {k = k} r) = shows (ref k) (label k) (omega arith) (omega arith)

-- so are a label and a truth
pub label_shows : (k l : ℕ) → k < max_structs → l < nat_end → Shows (label_cell k l) (label l)
unfolding code word
label_shows k l h b = shows (ref k) (label l) h b

pub not_shows : (b : Bool) (w : ℕ) → w ≡ word (bool_val b) → Shows (cell bool_byte (1 - w)) (bool_val (not b))
unfolding code word
not_shows true w e = rw e (shows bool (bool_val false) tt tt)
not_shows false w e = rw e (shows bool (bool_val true) tt tt)

module _ (c : ℕ) (v : Val) (s : Shows c v) where
  pub shown_type : type_byte c ≡ code s.by
  shown_type = ap (λ (n : ℕ). type_byte n) s.is ∙ type_part 1 (code s.by) (word v) (omega arith) (code_byte s.by s.typed)

  pub shown_operand : operand c ≡ word v
  shown_operand = ap (λ (n : ℕ). operand n) s.is ∙ operand_part 1 (code s.by) (word v) (omega arith) (code_byte s.by s.typed)

  pub shown_below : operand c < nat_end
  shown_below = rw shown_operand (word_below s.by v s.held)

-- values by their words ----------------------------------------------------------

-- types of one value stand for the same values
kin : {t : Ty} {x : Val} (by : Ty) → Range t x → ValueOf by x → (w : ℕ) → value_of by w ≡ value_of t w
unfolding value_of
kin int (of_int h) v w = refl
kin nat (of_int h) v w = absurd v
kin bool (of_int h) v w = absurd v
kin (ref k) (of_int h) v w = absurd v
kin int (of_nat h) v w = absurd v
kin nat (of_nat h) v w = refl
kin bool (of_nat h) v w = absurd v
kin (ref k) (of_nat h) v w = absurd v
kin int of_bool v w = absurd v
kin nat of_bool v w = absurd v
kin bool of_bool v w = refl
kin (ref k) of_bool v w = absurd v
kin int of_ref v w = absurd v
kin nat of_ref v w = absurd v
kin bool of_ref v w = absurd v
kin (ref k) of_ref v w = refl

-- an operator on words is the operator on values
pub apply_shown : (o : Op) (by : Ty) {t : Ty} {x y : Val} → ValueOf by x → Range t x → Range t y
    → apply_word (op_code o) (code by) (word x) (word y) ≡ answered (apply o x y)
unfolding apply_word
apply_shown o by {t} {x} {y} v p q =
    let a : value_of by (word x) ≡ x = kin by p v (word x) ∙ value_word p in
    let b : value_of by (word y) ≡ y = kin by p v (word y) ∙ value_word q in
    rw (op_of_code o, type_of_code by, a, b)

-- values of one type are one where their words are
pub same_words : {t : Ty} (y x : Val) → Range t y → Range t x → same_val y x ≡ eqb (word y) (word x)
same_words {t} y x p q = go (eqb (word y) (word x)) refl
  where
    go : (b : Bool) → eqb (word y) (word x) ≡ b → same_val y x ≡ b
    go true e =
        let w : word y ≡ word x = eqb-true (word y) (word x) e in
        (same_val_exact y x).1 (sym (value_word p) ∙ ap (value_of t) w ∙ value_word q)
    go false e = (same_val_false y x).1 (λ h. eqb-false (word y) (word x) e (ap word h))

-- an operator's result, under the type byte that the operand beneath gives it -------

result_int : (by : Ty) {x : Val} → ValueOf by x → Range int x → code by ≡ code int
result_int int v (of_int h) = refl
result_int nat v (of_int h) = absurd v
result_int bool v (of_int h) = absurd v
result_int (ref k) v (of_int h) = absurd v

result_nat : (by : Ty) {x : Val} → ValueOf by x → Range nat x → code by ≡ code nat
result_nat int v (of_nat h) = absurd v
result_nat nat v (of_nat h) = refl
result_nat bool v (of_nat h) = absurd v
result_nat (ref k) v (of_nat h) = absurd v

truth_shows : {w : Val} → Range bool w → Shows (cell bool_byte (word w)) w
unfolding code
truth_shows (of_bool {t = b}) = shows bool (bool_val b) tt tt

int_shows : {w : Val} (t : ℕ) → t ≡ code int → Range int w → Shows (cell t (word w)) w
int_shows t e (of_int {z = z} h) = rw e (shows int (int_val z) tt h)

nat_shows : {w : Val} (t : ℕ) → t ≡ code nat → Range nat w → Shows (cell t (word w)) w
nat_shows t e (of_nat {n = n} h) = rw e (shows nat (nat_val n) tt h)

pub result_shows : (o : Op) {t u : Ty} (by : Ty) {x : Val} → Takes (sort o) t u → ValueOf by x → Range t x → {w : Val} → Range u w
    → Shows (cell (result_byte (op_code o) (code by)) (word w)) w
unfolding op_code
result_shows op_eq by any_equal v p r = truth_shows r
result_shows op_ne by any_equal v p r = truth_shows r
result_shows op_le by order_int v p r = truth_shows r
result_shows op_le by order_nat v p r = truth_shows r
result_shows op_ge by order_int v p r = truth_shows r
result_shows op_ge by order_nat v p r = truth_shows r
result_shows op_lt by order_int v p r = truth_shows r
result_shows op_lt by order_nat v p r = truth_shows r
result_shows op_gt by order_int v p r = truth_shows r
result_shows op_gt by order_nat v p r = truth_shows r
result_shows op_mul by arith_int v p r = int_shows (code by) (result_int by v p) r
result_shows op_mul by arith_nat v p r = nat_shows (code by) (result_nat by v p) r
result_shows op_div by arith_int v p r = int_shows (code by) (result_int by v p) r
result_shows op_div by arith_nat v p r = nat_shows (code by) (result_nat by v p) r
result_shows op_rem by arith_int v p r = int_shows (code by) (result_int by v p) r
result_shows op_rem by arith_nat v p r = nat_shows (code by) (result_nat by v p) r
result_shows op_add by arith_int v p r = int_shows (code by) (result_int by v p) r
result_shows op_add by arith_nat v p r = nat_shows (code by) (result_nat by v p) r
result_shows op_sub by arith_int v p r = int_shows (code by) (result_int by v p) r
result_shows op_sub by arith_nat v p r = nat_shows (code by) (result_nat by v p) r
result_shows op_and by logic_bool v p r = truth_shows r
result_shows op_or by logic_bool v p r = truth_shows r
