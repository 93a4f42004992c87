-- What was read, from what was answered (01, 'Table and turns').
use Rattle.std.specs.Prelude.{ℕ, ◌≤◌, ◌≡◌, refl, List, Result as Answer, Ok, Err}
use Rattle.std.proofs.Common.{arith}
use Rattle.program.specs.Reader.{Result, Result.ok, Result.bad}
use Rattle.table.specs.TableReader.{table_number}
use Rattle.table_read.specs.Told.{Laid, Within}

module _ {A M : Type 0} (f : A → M) where
  pub laid_is : (q : Result A) (m : ℕ) (x : M) → Laid f q (Ok m) x → (a : A) × (q ≡ ok a m) × (x ≡ f a)
  laid_is (ok a k) m x h = let e : k ≡ m = cc in (a, rw e, h.1)
  laid_is (bad p n) m x h = let z : ◌≡◌ {A = ℕ} 0 1 = cc in absurd (omega arith)

  pub laid_stops : (q : Result A) (e : ℕ) (x : M) → Laid f q (Err e) x → (p : ℕ) × (n : ℕ) × (q ≡ bad p n) × (e ≡ table_number n)
  laid_stops (ok a k) e x h = let z : ◌≡◌ {A = ℕ} 0 1 = cc in absurd (omega arith)
  laid_stops (bad p n) e x h = let i : e ≡ table_number n = cc in (p, n, refl, i)

-- from an earlier place
pub within_from : {E : Type 0} (s : List ℕ) (at from : ℕ) (r : Answer ℕ E) → at ≤ from → Within s from r → Within s at r
within_from s at from (Ok m) h w = omega arith
within_from s at from (Err e) h w = tt
