-- Values, the default of each type, and the four bytes of a value as one number (01, 'Program stream').
use Rattle.std.specs.Prelude.{ℕ, zero, suc, ◌-◌, ◌<◌, ◌≤◌, Bool, true, false, ltb, leb, eqb, ℤ, pos, negsuc}
use Rattle.types.specs.Limits.{int_half, nat_end}
use Rattle.types.specs.Types.{Ty, Ty.int, Ty.nat, Ty.bool, Ty.ref}

pub data Val : Type 0 where
  int_val : ℤ → Val
  nat_val : ℕ → Val
  bool_val : Bool → Val
  label : ℕ → Val

-- the default value of a type: struct k's is the label k of its null instance
unfoldable pub default : Ty → Val
default int = int_val (pos 0)
default nat = nat_val 0
default bool = bool_val false
default (ref k) = label k

-- in the range of Int
abbrev pub IntRange : ℤ → Type 0
IntRange (pos n) = n < int_half
IntRange (negsuc n) = n < int_half

unfoldable pub in_int : ℤ → Bool
in_int (pos n) = ltb n int_half
in_int (negsuc n) = ltb n int_half

-- a number of Int in two's complement, and back
unfoldable pub int_word : ℤ → ℕ
int_word (pos n) = n
int_word (negsuc n) = nat_end - suc n

unfoldable pub word_int : ℕ → ℤ
word_int w = elim (ltb w int_half) [ true ↦ pos w | false ↦ negsuc (nat_end - suc w) ]

-- the value as four bytes hold it
unfoldable pub word : Val → ℕ
word (int_val z) = int_word z
word (nat_val n) = n
word (bool_val true) = 1
word (bool_val false) = 0
word (label l) = l

-- the value of a type that a number of four bytes stands for; of Bool, where it is 0 or 1
unfoldable pub value_of : Ty → ℕ → Val
value_of int w = int_val (word_int w)
value_of nat w = nat_val w
value_of bool w = bool_val (eqb w 1)
value_of (ref k) w = label w
