-- Which bytes are types, and what is read off a type (01, 'Program stream').
use Rattle.std.specs.Prelude.{ℕ, ◌-◌, ◌<◌, ◌≡◌, Bool, true, false, ◌&&◌, ◌||◌, leb, ltb}
use Rattle.types.specs.Limits.{nat_end}
use Rattle.types.specs.Types.{Ty, Ty.int, Ty.nat, Ty.bool, Ty.ref, struct_code, code, IsType}
use Rattle.types.specs.Values.{Val, Val.int_val, Val.nat_val, Val.bool_val, Val.label, IntRange}

-- the byte of a type of a program with S structs
abbrev pub TypeByte : ℕ → ℕ → Type 0
TypeByte S b = (t : Ty) × IsType S t × (code t ≡ b)

-- whether a byte is a type of a program with S structs: 0, 1, 2, or 16 + k, k below S
unfoldable pub is_type : ℕ → ℕ → Bool
is_type S b = leb b 2 || (leb struct_code b && ltb (b - struct_code) S)

-- whether values of a type are labels
unfoldable pub is_ref : Ty → Bool
is_ref int = false
is_ref nat = false
is_ref bool = false
is_ref (ref k) = true

-- the struct of a type; of a type that is none, 0
unfoldable pub struct_of : Ty → ℕ
struct_of int = 0
struct_of nat = 0
struct_of bool = 0
struct_of (ref k) = k

-- the numbers of four bytes that stand for values of a type are those below this one
unfoldable pub word_end : Ty → ℕ
word_end int = nat_end
word_end nat = nat_end
word_end bool = 2
word_end (ref k) = nat_end

-- a value of a type, in the range that four bytes hold; which labels are values of struct k, R says
abbrev pub ValueIn : (ℕ → ℕ → Type 0) → Ty → Val → Type 0
ValueIn R int (int_val z) = IntRange z
ValueIn R int (nat_val n) = ⊥
ValueIn R int (bool_val b) = ⊥
ValueIn R int (label l) = ⊥
ValueIn R nat (int_val z) = ⊥
ValueIn R nat (nat_val n) = n < nat_end
ValueIn R nat (bool_val b) = ⊥
ValueIn R nat (label l) = ⊥
ValueIn R bool (int_val z) = ⊥
ValueIn R bool (nat_val n) = ⊥
ValueIn R bool (bool_val b) = Unit {0}
ValueIn R bool (label l) = ⊥
ValueIn R (ref k) (int_val z) = ⊥
ValueIn R (ref k) (nat_val n) = ⊥
ValueIn R (ref k) (bool_val b) = ⊥
ValueIn R (ref k) (label l) = R k l

-- with any label that four bytes hold
abbrev pub ValueOf : Ty → Val → Type 0
ValueOf t v = ValueIn (λ k l. l < nat_end) t v
