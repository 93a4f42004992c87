-- Bytes, types, variables, words and paths are read exactly (01, 'Program stream').
use Rattle.std.specs.Prelude.{ℕ, suc, ◌+◌, ◌-◌, ◌*◌, ◌/◌, ◌%◌, ◌^◌, ◌<◌, ◌≡◌, refl, [], ◌∷◌, length}
use Rattle.std.proofs.Common.{arith, pow-suc}
use Rattle.types.specs.Limits.{first_local, max_locals, variables, max_path}
use Rattle.types.specs.Types.{code, IsType, type_of}
use Rattle.program.specs.Encoding.{enc_word, var_code, enc_path}
use Rattle.program.specs.Counts.{IsVar, IsPath}
use Rattle.types.specs.TypeBytes.{is_type}
use Rattle.types.proofs.Laws.TypeLaws.{type_of_code}
use Rattle.program.specs.Reader.{byte_end, ranged, var_of, read_word, read_type, read_var, read_local, read_path}
use Rattle.program.specs.Exact.{Exact, Rowed}
use Rattle.program.proofs.Laws.CodeLaws.{code_type, type_allowed, var_code_of, code_var}
use Rattle.program.proofs.Laws.JoinLaws.{exact_iff, made_exact, pair_exact, row_exact, tested_exact, ranged_exact, counted_exact, AllOf, list_row}

-- a byte below a bound
pub below_exact : (hi : ℕ) → Exact (λ b. b < hi) (λ b. b ∷ []) (λ s. ranged s 0 hi)
below_exact hi = exact_iff (ranged_exact 0 hi) λ b. (λ h. h.1, λ h. (omega arith, h))

-- a number of i bytes is a row of bytes
pub word_row : Rowed 0 (λ b v. b + byte_end * v) (λ b. b < byte_end) (λ b. b ∷ []) (λ i v. v < 256 ^ i) enc_word
unfolding enc_word
word_row = record {
  nil = omega arith;
  cons = λ i b v c d. rw pow-suc (omega arith);
  nil_only = λ v d. omega arith;
  cons_only = λ i v d. (v % 256, v / 256, omega arith, omega (arith, rw pow-suc at d), omega arith);
  nil_bytes = refl;
  cons_bytes = λ i b v c. rw (low b v c, high b v c);
}
  where
    low : (b v : ℕ) → b < 256 → (b + 256 * v) % 256 ≡ b
    low b v h = omega arith

    high : (b v : ℕ) → b < 256 → (b + 256 * v) / 256 ≡ v
    high b v h = omega arith

-- a number of i bytes, the lowest first
pub word_exact : (i : ℕ) → Exact (λ v. v < 256 ^ i) (enc_word i) (λ s. read_word s i)
unfolding read_word
word_exact i = row_exact (below_exact byte_end) word_row i

-- a type, where there are S structs
pub type_exact : (S : ℕ) → Exact (IsType S) (λ t. code t ∷ []) (λ s. read_type s S)
unfolding read_type
type_exact S =
    made_exact (tested_exact (is_type S)) type_of code
    (λ b h. let p = code_type S b h in (p.0, rw p.1))
    (λ t h. (type_allowed S t h, type_of_code t))

-- the first variable of a path
pub var_exact : Exact IsVar (λ v. var_code v ∷ []) read_var
unfolding read_var
var_exact =
    made_exact (below_exact variables) var_of var_code
    (λ b h. let p = code_var b h in (p.0, rw p.1))
    (λ v h. var_code_of v h)

-- a declared local
pub local_exact : Exact (λ x. x < max_locals) (λ x. (first_local + x) ∷ []) read_local
unfolding read_local
local_exact =
    made_exact (ranged_exact first_local variables) (λ b. b - first_local) (λ x. first_local + x)
    (λ b h. let e : first_local + (b - first_local) ≡ b = omega arith in (omega arith, rw e))
    (λ x h. (omega arith, omega arith))

-- a length and that many variables, of which only the first may be a local
pub path_exact : Exact (λ p. IsPath p.0 p.1) (λ p. enc_path p.0 p.1) read_path
unfolding read_path IsPath enc_path
path_exact =
    exact_iff
    (counted_exact 1 max_path (λ p. suc (length p.1)) (λ i p h d. omega arith)
    λ i. pair_exact var_exact λ v. row_exact (below_exact first_local) later (i - 1))
    λ p. (λ h. (h.2.0, omega arith, h.2.1.1), λ h. (omega arith, omega arith, (h.0, (omega arith, h.2))))
  where
    later : Rowed [] ◌∷◌ (λ x. x < first_local) (λ x. x ∷ []) (AllOf (λ x. x < first_local)) (λ i vs. vs)
    later = list_row _ _ (λ vs. vs) refl (λ x vs. refl)
