-- Laws of types and their bytes (01, 'Program stream'): a type and its byte say the same, and the tests are exact.
use Rattle.std.specs.Prelude.{ℕ, zero, suc, ◌+◌, ◌-◌, ◌<◌, ◌≤◌, ◌≡◌, refl, Bool, true, false, ◌&&◌, ◌||◌, leb, ltb}
use Rattle.std.proofs.Common.{arith, ap, sym, ◌∙◌, ne_eqb, leb-true, ltb-true, le-leb, lt-ltb}
use Rattle.std.proofs.Math.Nat.{add-sub_cancel_left}
use Rattle.std.proofs.lemmas.Bool.{lt-leb}
use Rattle.types.specs.Reflects.{Reflects, Reflects.holds, Reflects.fails, reflects_map, eq_reflects}
use Rattle.types.specs.Types.{Ty, Ty.int, Ty.nat, Ty.bool, Ty.ref, struct_code, code, IsType, type_of, same_type}
use Rattle.types.specs.TypeBytes.{TypeByte, is_type, is_ref, struct_of}

-- a byte of 3 or more names a struct
pub type_of_struct : (b : ℕ) → 3 ≤ b → type_of b ≡ ref (b - struct_code)
unfolding type_of
type_of_struct b h =
    rw (type_of, ne_eqb b 0 (omega arith), ne_eqb b 1 (omega arith), ne_eqb b 2 (omega arith))

pub type_of_code : (t : Ty) → type_of (code t) ≡ t
unfolding code type_of
type_of_code int = refl
type_of_code nat = refl
type_of_code bool = refl
type_of_code (ref k) = type_of_struct (struct_code + k) (omega arith) ∙ ap ref (add-sub_cancel_left struct_code k)

-- Which bytes are types --------------------------------------------------------

pub code_is_type : (S : ℕ) (t : Ty) → IsType S t → is_type S (code t) ≡ true
unfolding code is_type
code_is_type S int h = refl
code_is_type S nat h = refl
code_is_type S bool h = refl
code_is_type S (ref k) h =
    rw (lt-leb (struct_code + k) 2 (omega arith), le-leb struct_code (struct_code + k) (omega arith), add-sub_cancel_left struct_code k, lt-ltb k S h)

first_bytes : (S b : ℕ) → b ≤ 2 → TypeByte S b
unfolding code
first_bytes S zero h = (int, tt, refl)
first_bytes S (suc zero) h = (nat, tt, refl)
first_bytes S (suc (suc zero)) h = (bool, tt, refl)
first_bytes S (suc (suc (suc n))) h = absurd (omega arith)

is_type_holds : (S b : ℕ) → is_type S b ≡ true → TypeByte S b
unfolding is_type code
is_type_holds S b e = go (leb b 2) refl (leb struct_code b) refl e
  where
    go : (small : Bool) → leb b 2 ≡ small → (large : Bool) → leb struct_code b ≡ large
        → small || (large && ltb (b - struct_code) S) ≡ true → TypeByte S b
    go true p large q r = first_bytes S b (leb-true b 2 p)
    go false p true q r =
        let h = leb-true struct_code b q in
        (ref (b - struct_code), ltb-true (b - struct_code) S r, omega arith)
    go false p false q r = absurd (let z : ◌≡◌ {A = ℕ} 0 1 = cc in omega arith)

-- the test is exact
pub type_exact : (S b : ℕ) → Reflects (TypeByte S b) (is_type S b)
type_exact S b = go (is_type S b) refl
  where
    go : (t : Bool) → is_type S b ≡ t → Reflects (TypeByte S b) t
    go true e = holds (is_type_holds S b e)
    go false e =
        fails (λ p. let t = ap (is_type S) p.2 in let h = code_is_type S p.0 p.1 in let z : ◌≡◌ {A = ℕ} 0 1 = cc in omega arith)

pub code_type_of : (S b : ℕ) → is_type S b ≡ true → code (type_of b) ≡ b
code_type_of S b e =
    let p = is_type_holds S b e in
    ap (λ (n : ℕ). code (type_of n)) (sym p.2) ∙ ap code (type_of_code p.0) ∙ p.2

-- Equal types -------------------------------------------------------------------

pub same_exact : (t u : Ty) → Reflects (t ≡ u) (same_type t u)
unfolding same_type code
same_exact int int = holds refl
same_exact int nat = fails (λ e. omega (arith, ap code e))
same_exact int bool = fails (λ e. omega (arith, ap code e))
same_exact int (ref k) = fails (λ e. omega (arith, ap code e))
same_exact nat int = fails (λ e. omega (arith, ap code e))
same_exact nat nat = holds refl
same_exact nat bool = fails (λ e. omega (arith, ap code e))
same_exact nat (ref k) = fails (λ e. omega (arith, ap code e))
same_exact bool int = fails (λ e. omega (arith, ap code e))
same_exact bool nat = fails (λ e. omega (arith, ap code e))
same_exact bool bool = holds refl
same_exact bool (ref k) = fails (λ e. omega (arith, ap code e))
same_exact (ref j) int = fails (λ e. omega (arith, ap code e))
same_exact (ref j) nat = fails (λ e. omega (arith, ap code e))
same_exact (ref j) bool = fails (λ e. omega (arith, ap code e))
same_exact (ref j) (ref k) = reflects_map (λ e. ap ref e) (λ e. omega (arith, ap code e)) (eq_reflects j k)

-- What is read off a byte ---------------------------------------------------------

pub ref_byte : (b : ℕ) → ltb 2 b ≡ is_ref (type_of b)
unfolding type_of is_ref
ref_byte zero = refl
ref_byte (suc zero) = refl
ref_byte (suc (suc zero)) = refl
ref_byte (suc (suc (suc n))) =
    let b = suc (suc (suc n)) in
    lt-ltb 2 b (omega arith) ∙ ap is_ref (sym (type_of_struct b (omega arith)))

pub no_struct_byte : (b : ℕ) → b < struct_code → 0 ≡ struct_of (type_of b)
unfolding type_of struct_of
no_struct_byte zero h = refl
no_struct_byte (suc zero) h = refl
no_struct_byte (suc (suc zero)) h = refl
no_struct_byte (suc (suc (suc n))) h =
    let b = suc (suc (suc n)) in
    let z : 0 ≡ b - struct_code = omega arith in
    z ∙ ap struct_of (sym (type_of_struct b (omega arith)))

pub struct_byte : (b : ℕ) → struct_code ≤ b → b - struct_code ≡ struct_of (type_of b)
unfolding struct_of
struct_byte b h = ap struct_of (sym (type_of_struct b (omega arith)))

-- the test of a byte, by where it lies
pub small_byte : (S b : ℕ) → b ≤ 2 → true ≡ is_type S b
unfolding is_type
small_byte S b h = rw (le-leb b 2 h)

pub middle_byte : (S b : ℕ) → 2 < b → b < struct_code → false ≡ is_type S b
unfolding is_type
middle_byte S b h l = rw (lt-leb b 2 h, lt-leb struct_code b l)

pub large_byte : (S b : ℕ) → 2 < b → struct_code ≤ b → ltb (b - struct_code) S ≡ is_type S b
unfolding is_type
large_byte S b h l = rw (lt-leb b 2 h, le-leb struct_code b l)
