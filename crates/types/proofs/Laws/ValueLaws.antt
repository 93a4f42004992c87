-- Laws of values and their words (01, 'Program stream'): a value in range and the number of its four bytes say the same.
use Rattle.std.specs.Prelude.{ℕ, zero, suc, ◌-◌, ◌<◌, ◌≡◌, refl, Bool, true, false, eqb, ltb, ℤ, pos, negsuc}
use Rattle.std.proofs.Common.{arith, ap, ltb-true, ltb-false, lt-ltb, le-ltb}
use Rattle.types.specs.Reflects.{Reflects, lt_reflects}
use Rattle.types.specs.Limits.{int_half, nat_end}
use Rattle.types.specs.Types.{Ty, Ty.int, Ty.nat, Ty.bool, Ty.ref}
use Rattle.types.specs.TypeBytes.{struct_of, word_end, ValueIn, ValueOf}
use Rattle.types.specs.Values.{Val, Val.int_val, Val.nat_val, Val.bool_val, Val.label, default, IntRange, in_int, int_word, word_int, word, value_of}

-- Int ---------------------------------------------------------------------------

pub int_exact : (z : ℤ) → Reflects (IntRange z) (in_int z)
unfolding in_int
int_exact (pos n) = lt_reflects n int_half
int_exact (negsuc n) = lt_reflects n int_half

pub int_of_word : (z : ℤ) → IntRange z → word_int (int_word z) ≡ z
unfolding word_int int_word
int_of_word (pos n) h = rw (word_int, lt-ltb n int_half h)
int_of_word (negsuc n) h =
    let w = nat_end - suc n in
    let e : nat_end - suc w ≡ n = omega arith in
    rw (word_int, le-ltb w int_half (omega arith), e)

pub word_of_int : (w : ℕ) → w < nat_end → int_word (word_int w) ≡ w
unfolding word_int int_word
word_of_int w h = go (ltb w int_half)
  where
    go : (t : Bool) → int_word (elim t [ true ↦ pos w | false ↦ negsuc (nat_end - suc w) ]) ≡ w
    go true = refl
    go false = omega arith

pub word_in_int : (w : ℕ) → w < nat_end → IntRange (word_int w)
unfolding word_int
word_in_int w h = go (ltb w int_half) refl
  where
    go : (t : Bool) → ltb w int_half ≡ t → IntRange (elim t [ true ↦ pos w | false ↦ negsuc (nat_end - suc w) ])
    go true e = ltb-true w int_half e
    go false e = let k = ltb-false w int_half e in omega arith

-- Values ------------------------------------------------------------------------

pub value_of_word : (t : Ty) (v : Val) → ValueOf t v → value_of t (word v) ≡ v
unfolding value_of word
value_of_word int (int_val z) h = ap int_val (int_of_word z h)
value_of_word int (nat_val n) h = absurd h
value_of_word int (bool_val b) h = absurd h
value_of_word int (label l) h = absurd h
value_of_word nat (int_val z) h = absurd h
value_of_word nat (nat_val n) h = refl
value_of_word nat (bool_val b) h = absurd h
value_of_word nat (label l) h = absurd h
value_of_word bool (int_val z) h = absurd h
value_of_word bool (nat_val n) h = absurd h
value_of_word bool (bool_val true) h = refl
value_of_word bool (bool_val false) h = refl
value_of_word bool (label l) h = absurd h
value_of_word (ref k) (int_val z) h = absurd h
value_of_word (ref k) (nat_val n) h = absurd h
value_of_word (ref k) (bool_val b) h = absurd h
value_of_word (ref k) (label l) h = refl

bool_word : (w : ℕ) → w < 2 → word (bool_val (eqb w 1)) ≡ w
unfolding word
bool_word zero h = refl
bool_word (suc zero) h = refl
bool_word (suc (suc n)) h = absurd (omega arith)

pub word_of_value : (t : Ty) (w : ℕ) → w < word_end t → word (value_of t w) ≡ w
unfolding value_of word word_end
word_of_value int w h = word_of_int w h
word_of_value nat w h = refl
word_of_value bool w h = bool_word w h
word_of_value (ref k) w h = refl

pub value_in_range : (t : Ty) (w : ℕ) → w < word_end t → ValueOf t (value_of t w)
unfolding value_of word_end
value_in_range int w h = word_in_int w h
value_in_range nat w h = h
value_in_range bool w h = tt
value_in_range (ref k) w h = h

-- the default's word is the struct's number, and 0 of a type that is no struct
pub default_word : (t : Ty) → word (default t) ≡ struct_of t
unfolding word default struct_of int_word
default_word int = refl
default_word nat = refl
default_word bool = refl
default_word (ref k) = refl

-- a value is one by another rule for labels, where its own label is
pub value_as : {R Q : ℕ → ℕ → Type 0} (t : Ty) (v : Val) → ((k l : ℕ) → t ≡ ref k → v ≡ label l → R k l → Q k l) → ValueIn R t v → ValueIn Q t v
value_as int (int_val z) f h = h
value_as int (nat_val n) f h = h
value_as int (bool_val b) f h = h
value_as int (label l) f h = h
value_as nat (int_val z) f h = h
value_as nat (nat_val n) f h = h
value_as nat (bool_val b) f h = h
value_as nat (label l) f h = h
value_as bool (int_val z) f h = h
value_as bool (nat_val n) f h = h
value_as bool (bool_val b) f h = h
value_as bool (label l) f h = h
value_as (ref k) (int_val z) f h = h
value_as (ref k) (nat_val n) f h = h
value_as (ref k) (bool_val b) f h = h
value_as (ref k) (label l) f h = f k l refl refl h
