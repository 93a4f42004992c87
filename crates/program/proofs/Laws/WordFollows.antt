-- Bytes, types, variables, words and paths follow the fronts of their encodings (01, 4 and 5 of 'Numbers from the input'), at any level.
use Prim.Native.Nat.{ℕ, suc, ◌+◌, ◌-◌, ◌^◌, ◌<◌, ◌≤◌}
use native.Mathlib.Omega.{arith}
use Rattle.std.specs.Prelude.{◌≡◌, length}
use Rattle.std.proofs.Math.Path.{refl}
use mathlib.Core.List.{[], ◌∷◌}
use Rattle.types.specs.Limits.{first_local, max_locals, variables, max_path}
use Rattle.types.specs.Types.{code, IsType, type_of}
use Rattle.program.specs.Encoding.{enc_word, var_code, enc_path}
use Rattle.program.specs.Levels.{all_at}
use Rattle.program.specs.Counts.{IsVar, IsPath}
use Rattle.types.specs.TypeBytes.{is_type}
use Rattle.types.proofs.Laws.TypeLaws.{type_of_code}
use Rattle.program.specs.Reader.{byte_end, ranged, var_of, read_word, read_type, read_var, read_local, read_path}
use Rattle.program.specs.Exact.{Rowed}
use Rattle.program.proofs.Laws.CodeLaws.{code_type, type_allowed, var_code_of, code_var}
use Rattle.program.proofs.Laws.JoinLaws.{AllOf, list_row}
use Rattle.program.proofs.Laws.WordLaws.{below_exact, var_exact, word_row}
use Rattle.program.specs.Follows.{Follows}
use Rattle.program.proofs.Laws.FollowsLaws.{follows_as, made_follows, pair_follows, row_at, tested_follows, ranged_follows, counted_follows}

module _ (d l : ℕ) (h : l ≤ d) where
  -- a byte below a bound
  pub below_follows : (hi : ℕ) → 0 < hi → Follows d (λ b. b < hi) (λ b. b ∷ []) (λ b. l ∷ []) (λ s. ranged s 0 hi)
  below_follows hi o = follows_as d (ranged_follows d h 0 hi o) (λ b c. c.1) (λ b c. (omega arith, c)) (λ b. refl)

  -- a number of i bytes
  pub word_follows : (i : ℕ) → Follows d (λ v. v < 256 ^ i) (enc_word i) (λ v. all_at l (enc_word i v)) (λ s. read_word s i)
  unfolding read_word
  word_follows i = row_at d l (below_exact byte_end) (below_follows byte_end (omega arith)) word_row i

  -- a type, where there are S structs
  pub type_follows : (S : ℕ) → Follows d (IsType S) (λ t. code t ∷ []) (λ t. l ∷ []) (λ s. read_type s S)
  unfolding read_type is_type
  type_follows S =
      made_follows d (tested_follows d h (is_type S) 0 tt) type_of code
      (λ b c. let p = code_type S b c in (p.0, rw p.1, refl))
      (λ t c. (type_allowed S t c, type_of_code t))

  -- the first variable of a path
  pub var_follows : Follows d IsVar (λ v. var_code v ∷ []) (λ v. l ∷ []) read_var
  unfolding read_var
  var_follows =
      made_follows d (below_follows variables (omega arith)) var_of var_code
      (λ b c. let p = code_var b c in (p.0, rw p.1, refl))
      (λ v c. var_code_of v c)

  -- a declared local
  pub local_follows : Follows d (λ x. x < max_locals) (λ x. (first_local + x) ∷ []) (λ x. l ∷ []) read_local
  unfolding read_local
  local_follows =
      made_follows d (ranged_follows d h first_local variables (omega arith)) (λ b. b - first_local) (λ x. first_local + x)
      (λ b c. let e : first_local + (b - first_local) ≡ b = omega arith in (omega arith, rw e, refl))
      (λ x c. (omega arith, omega arith))

  -- a length and that many variables
  pub path_follows : Follows d (λ p. IsPath p.0 p.1) (λ p. enc_path p.0 p.1) (λ p. all_at l (enc_path p.0 p.1)) read_path
  unfolding read_path IsPath enc_path
  path_follows =
      follows_as d
      (counted_follows d h 1 max_path (λ p. suc (length p.1)) (omega arith) (λ i p o c. omega arith)
      λ i o. pair_follows d var_exact (λ v c. c) var_follows λ v c.
      row_at d l (below_exact first_local) (below_follows first_local (omega arith)) later (i - 1))
      (λ p c. (c.2.0, omega arith, c.2.1.1))
      (λ p c. (omega arith, omega arith, (c.0, (omega arith, c.2))))
      (λ p. refl)
    where
      later : Rowed [] ◌∷◌ (λ x. x < first_local) (λ x. x ∷ []) (AllOf (λ x. x < first_local)) (λ i vs. vs)
      later = list_row _ _ (λ vs. vs) refl (λ x vs. refl)
