-- Numbers that are accepted are those that their stream has as a table: what was read, written again, is what was read.
use Rattle.std.specs.Prelude.{ℕ, suc, ◌+◌, refl, Bool, true, false, List, [], ◌∷◌, eqb, ltb, length, Result, Ok, Err}
use Rattle.std.proofs.Common.{arith, eqb-true}
use Rattle.std.proofs.Math.Path.{◌≡◌}
use Rattle.table_words.specs.TableWords.{table_words}
use Rattle.table_stream.specs.TableStream.{agreed_from, judged, made, stream_of}
use Rattle.table_stream.specs.declared.NoTable.{NoTable}
use Rattle.table_stream.specs.declared.NoTable.TheVariants.{NoRecord, Short}

-- lists of one length that agree up to it are equal
agreed_same : (i : ℕ) (xs ys : List ℕ) → agreed_from i xs ys ≡ i + length xs → length ys ≡ length xs → ys ≡ xs
unfolding agreed_from
agreed_same i [] [] e l = refl
agreed_same i [] (y ∷ ys) e l = absurd (omega arith)
agreed_same i (x ∷ xs) [] e l = absurd (omega arith)
agreed_same i (x ∷ xs) (y ∷ ys) e l = go (eqb x y) refl e (agreed_same (i + 1) xs ys)
  where
    go : (t : Bool) → eqb x y ≡ t → elim t [ true ↦ agreed_from (i + 1) xs ys | false ↦ i ] ≡ i + suc (length xs)
        → (agreed_from (i + 1) xs ys ≡ i + 1 + length xs → length ys ≡ length xs → ys ≡ xs) → y ∷ ys ≡ x ∷ xs
    go true f e h = let a = eqb-true x y f in let b = h (omega arith) (omega arith) in cc
    go false f e h = absurd (omega arith)

module _ (room n m : ℕ) (ws back : List ℕ) where
  judged_same : judged room n ws back ≡ Ok m → back ≡ ws
  unfolding judged
  judged_same e = first (ltb room n) e
    where
      none : {k : ℕ} → ◌≡◌ {A = Result ℕ NoTable} (Err (NoRecord k)) (Ok m) → back ≡ ws
      none f = let z : ◌≡◌ {A = ℕ} 0 1 = cc in absurd (omega arith)

      third : (t : Bool) → agreed_from 0 ws back ≡ length ws → eqb (length back) (length ws) ≡ t
          → ◌≡◌ {A = Result ℕ NoTable} (elim t [ true ↦ Ok n | false ↦ Err (NoRecord (length ws)) ]) (Ok m) → back ≡ ws
      third true a f g = agreed_same 0 ws back (omega arith) (eqb-true (length back) (length ws) f)
      third false a f g = none g

      second : (t : Bool) → eqb (agreed_from 0 ws back) (length ws) ≡ t
          → ◌≡◌ {A = Result ℕ NoTable}
          (elim t [ true ↦ elim (eqb (length back) (length ws)) [ true ↦ Ok n | false ↦ Err (NoRecord (length ws)) ] | false ↦ Err (NoRecord (agreed_from 0 ws back)) ])
          (Ok m) → back ≡ ws
      second true f g = third (eqb (length back) (length ws)) (eqb-true (agreed_from 0 ws back) (length ws) f) refl g
      second false f g = none g

      first : (t : Bool)
          → ◌≡◌ {A = Result ℕ NoTable} (elim t [
            | true ↦ Err Short
            | false ↦ elim (eqb (agreed_from 0 ws back) (length ws)) [
              | true ↦ elim (eqb (length back) (length ws)) [ true ↦ Ok n | false ↦ Err (NoRecord (length ws)) ]
              | false ↦ Err (NoRecord (agreed_from 0 ws back))
            ]
          ]) (Ok m) → back ≡ ws
      first true g = let z : ◌≡◌ {A = ℕ} 0 1 = cc in absurd (omega arith)
      first false g = second (eqb (agreed_from 0 ws back) (length ws)) refl g

-- the table that is made of numbers has these numbers
pub made_again : (cs ts : List ℕ) (S room m : ℕ) (ws : List ℕ) → made cs ts S room ws ≡ Ok m → table_words cs ts S (stream_of ws) ≡ ws
made_again cs ts S room m ws e = judged_same room (length (stream_of ws)) m ws (table_words cs ts S (stream_of ws)) e
