-- Values of a type and their words (01, 'Program stream'): what an answer's word stands for.
use Rattle.std.specs.Prelude.{suc, ◌-◌, ◌≡◌, refl, true, false, ℤ, pos, negsuc}
use Rattle.std.proofs.Common.{arith, ap, ◌∙◌}
use Rattle.types.specs.Limits.{nat_end}
use Rattle.types.specs.Types.{Ty}
use Rattle.types.specs.Values.{Val, Val.int_val, IntRange, int_word, word_int, word, value_of}
use Rattle.operators.specs.Ranges.{Of, Of.of_int, Of.of_nat, Of.of_bool, Of.of_ref}
use Rattle.operators.proofs.Laws.IntLaws.{word_low, word_high}

int_back : (z : ℤ) → IntRange z → word_int (int_word z) ≡ z
unfolding int_word
int_back (pos n) h = word_low n h
int_back (negsuc n) h =
    let e : nat_end - suc (nat_end - suc n) ≡ n = omega arith in
    word_high (nat_end - suc n) (omega arith) ∙ ap negsuc e

-- A value of a type is the one that its word stands for.
pub value_word : {t : Ty} {v : Val} → Of t v → value_of t (word v) ≡ v
unfolding value_of word
value_word (of_int {z} h) = ap int_val (int_back z h)
value_word (of_nat h) = refl
value_word (of_bool {t = true}) = refl
value_word (of_bool {t = false}) = refl
value_word of_ref = refl
