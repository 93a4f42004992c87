-- Types and their bytes (01, 'Program stream').
use Rattle.std.specs.Prelude.{ℕ, ◌+◌, ◌-◌, ◌<◌, Bool, true, false, eqb}

pub data Ty : Type 0 where
  int nat bool : Ty
  ref : ℕ → Ty

-- the byte of struct 0 as a type; struct k's is k more
abbrev pub struct_code : ℕ
struct_code = 16

unfoldable pub code : Ty → ℕ
code int = 0
code nat = 1
code bool = 2
code (ref k) = struct_code + k

-- a type of a program with S structs
abbrev pub IsType : ℕ → Ty → Type 0
IsType S int = Unit {0}
IsType S nat = Unit {0}
IsType S bool = Unit {0}
IsType S (ref k) = k < S

-- the type that a byte names, where it names one
unfoldable pub type_of : ℕ → Ty
type_of b = elim (eqb b 0) [
  | true ↦ int
  | false ↦ elim (eqb b 1) [ true ↦ nat | false ↦ elim (eqb b 2) [ true ↦ bool | false ↦ ref (b - struct_code) ] ]
]

-- whether two types are one
unfoldable pub same_type : Ty → Ty → Bool
same_type int int = true
same_type int nat = false
same_type int bool = false
same_type int (ref k) = false
same_type nat int = false
same_type nat nat = true
same_type nat bool = false
same_type nat (ref k) = false
same_type bool int = false
same_type bool nat = false
same_type bool bool = true
same_type bool (ref k) = false
same_type (ref j) int = false
same_type (ref j) nat = false
same_type (ref j) bool = false
same_type (ref j) (ref k) = eqb j k
