-- Each way through the reader of paths (01, 'Program stream' and 'Names, types, commands').
use Prim.Native.Nat.{ℕ, zero, suc, ◌+◌, ◌-◌, ◌<◌, ◌≤◌}
use native.Mathlib.Omega.{arith}
use Rattle.std.proofs.Common.{sub-one, add-zero}
use Rattle.std.proofs.Math.Numerals.{one-add}
use Rattle.std.specs.Prelude.{◌≡◌, Ok, Err, Result as Answered}
use Rattle.answers.specs.AnswerLaws.{ok_three}
use Rattle.std.proofs.Math.Path.{refl}
use mathlib.Core.List.{List, [], ◌∷◌}
use Rattle.std.proofs.Math.ListN.{length}
use Rattle.program.specs.Tree.{Var}
use Rattle.program.specs.Reader.{Result, Result.ok, Result.bad, then, pair, made, many, var_of, ranged, counted, read_var, read_path}
use Rattle.judge.specs.declared.Judged.{Judged}
use Rattle.judge.specs.Facts.{lead_by, lead, start_of, path_of, travelled}
use Rattle.read_exprs.specs.Told.{told, byte_told, path_told, row_told, read_vars, PathSpan}
use Rattle.read_exprs.specs.ByteWays.{byte_is, byte_stops}

module _ (s ar types : List ℕ) where
  -- the parameters behind a value: none, one that is not read, one and the others
  module _ (j : Judged) (n c at : ℕ) where
    pub row_none : n ≡ 0 → row_told (lead ar types j) c (many [] ◌∷◌ (ranged s 0 8) n at) ≡ Ok (at, c, j)
    unfolding many lead
    row_none e = rw e (rw add-zero)

    pub row_stop : (n ≡ 0 → ⊥) → (k : ℕ) → byte_told (ranged s 0 8 at) ≡ Err k → row_told (lead ar types j) c (many [] ◌∷◌ (ranged s 0 8) n at) ≡ Err k
    unfolding many then
    row_stop z k e = go n z
      where
        go : (n : ℕ) → (n ≡ 0 → ⊥) → row_told (lead ar types j) c (many [] ◌∷◌ (ranged s 0 8) n at) ≡ Err k
        go zero z = absurd (z refl)
        go (suc n) z = rw (byte_stops (ranged s 0 8 at) k e).1

    pub row_more : (n ≡ 0 → ⊥) → (x m : ℕ) → byte_told (ranged s 0 8 at) ≡ Ok (x, m)
        → row_told (lead ar types j) c (many [] ◌∷◌ (ranged s 0 8) n at)
        ≡ row_told (lead ar types (lead_by ar types j x)) (c + 1) (many [] ◌∷◌ (ranged s 0 8) (n - 1) m)
    unfolding many then lead
    row_more z x m e = go n z
      where
        one : (r : Result (List ℕ)) → row_told (lead ar types j) c (then r λ xs k. ok (x ∷ xs) k) ≡ row_told (lead ar types (lead_by ar types j x)) (c + 1) r
        one (ok xs k) = let h : c + suc (length xs) ≡ c + 1 + length xs = omega arith in rw h
        one (bad p k) = refl

        go : (n : ℕ) → (n ≡ 0 → ⊥)
            → row_told (lead ar types j) c (many [] ◌∷◌ (ranged s 0 8) n at)
            ≡ row_told (lead ar types (lead_by ar types j x)) (c + 1) (many [] ◌∷◌ (ranged s 0 8) (n - 1) m)
        go zero z = absurd (z refl)
        go (suc n) z = rw (byte_is (ranged s 0 8 at) x m e, sub-one) (one (many [] ◌∷◌ (ranged s 0 8) n m))

  module _ (own w n at : ℕ) where
    -- the first variable, which is not read, or is, with the others behind it
    pub vars_stop : (k : ℕ) → byte_told (ranged s 0 16 at) ≡ Err k → path_told (path_of ar types own w) (read_vars s n at) ≡ Err k
    unfolding read_vars pair read_var made then
    vars_stop k e = rw (byte_stops (ranged s 0 16 at) k e).1

    pub vars_more : (b m : ℕ) → byte_told (ranged s 0 16 at) ≡ Ok (b, m)
        → path_told (path_of ar types own w) (read_vars s n at)
        ≡ row_told (lead ar types (start_of ar types own w (var_of b))) 1 (many [] ◌∷◌ (ranged s 0 8) (n - 1) m)
    unfolding read_vars pair read_var made then path_of
    vars_more b m e = rw (byte_is (ranged s 0 16 at) b m e) (one (many [] ◌∷◌ (ranged s 0 8) (n - 1) m))
      where
        one : (r : Result (List ℕ))
            → path_told (path_of ar types own w) (then r λ xs k. ok (var_of b, xs) k) ≡ row_told (lead ar types (start_of ar types own w (var_of b))) 1 r
        one (ok xs k) = rw one-add
        one (bad p k) = refl

    -- the count of the variables, which is not read, or is, with them behind it
    pub path_stop : (k : ℕ) → byte_told (ranged s 1 5 at) ≡ Err k → path_told (path_of ar types own w) (read_path s at) ≡ Err k
    unfolding read_path counted then
    path_stop k e = rw (byte_stops (ranged s 1 5 at) k e).1

    pub path_more : (m : ℕ) → byte_told (ranged s 1 5 at) ≡ Ok (n, m)
        → path_told (path_of ar types own w) (read_path s at) ≡ path_told (path_of ar types own w) (read_vars s n m)
    unfolding read_path counted then read_vars
    path_more m e = rw (byte_is (ranged s 1 5 at) n m e)

-- what was read, from what was answered
module _ (f : Var → List ℕ → Judged) where
  pub path_read : (q : Result (Var × List ℕ)) (m n : ℕ) (j : Judged) → path_told f q ≡ Ok (m, n, j)
      → (p : Var × List ℕ) × (q ≡ ok p m) × (suc (length p.1) ≡ n) × (f p.0 p.1 ≡ j)
  path_read (ok p k) m n j e =
      let h = ok_three k m (suc (length p.1)) n (f p.0 p.1) j e in (p, rw h.0 refl, h.1, h.2)
  path_read (bad p k) m n j e = cc

  pub path_stops : (q : Result (Var × List ℕ)) (n : ℕ) → path_told f q ≡ Err n → (p : ℕ) × (q ≡ bad p n)
  path_stops (ok p k) n e = cc
  path_stops (bad p k) n e = (p, cc)

  -- a path as an expression
  pub path_is : (q : Result (Var × List ℕ)) (m n : ℕ) (j : Judged) → path_told f q ≡ Ok (m, n, j)
      → told (λ p. travelled (suc (length p.1)) (f p.0 p.1)) q ≡ Ok (m, (travelled n j))
  path_is q m n j e = let h = path_read q m n j e in rw (h.1, h.2, h.3)

  pub path_not : (q : Result (Var × List ℕ)) (n : ℕ) → path_told f q ≡ Err n → told (λ p. travelled (suc (length p.1)) (f p.0 p.1)) q ≡ Err n
  path_not q n e = rw (path_stops q n e).1

-- the bytes of the first variable and the others
pub span_first : {E : Type 0} (s : List ℕ) (n at m : ℕ) (r : Answered (ℕ × ℕ × Judged) E) → 1 ≤ n → n < 5 → m ≡ at + 1 → PathSpan s 1 (n - 1 + 1) m r → PathSpan s 0 4 at r
span_first s n at m (Ok (k, i, j)) p q e h = omega arith
span_first s n at m (Err k) p q e h = tt
