-- Laws of the tables of parameters (01, 'Program stream').
use Rattle.std.specs.Prelude.{ℕ, zero, suc, ◌+◌, ◌*◌, ◌≡◌, refl, List, [], ◌∷◌, length, get_or}
use Rattle.std.proofs.Common.{arith, ap, ◌∙◌}
use Rattle.types.specs.Limits.{max_params}
use Rattle.table_read.specs.Params.{types_from, lists_from, lists_of}

-- a list for each struct
pub lists_length : (ts : List ℕ) (k : ℕ) (cs : List ℕ) → length (lists_from ts k cs) ≡ length cs
unfolding lists_from
lists_length ts k [] = refl
lists_length ts k (c ∷ cs) = ap suc (lists_length ts (suc k) cs)

-- as many types as asked for
pub types_length : (ts : List ℕ) (i n : ℕ) → length (types_from ts i n) ≡ n
unfolding types_from
types_length ts i zero = refl
types_length ts i (suc n) = ap suc (types_length ts (suc i) n)

lists_nth : (ts : List ℕ) (k : ℕ) (cs : List ℕ) (j : ℕ) → get_or (lists_from ts k cs) j [] ≡ types_from ts (max_params * (k + j)) (get_or cs j 0)
unfolding lists_from types_from
lists_nth ts k [] j = refl
lists_nth ts k (c ∷ cs) zero = let e : k + 0 ≡ k = omega arith in rw e
lists_nth ts k (c ∷ cs) (suc j) = let e : k + suc j ≡ suc k + j = omega arith in rw e (lists_nth ts (suc k) cs j)

-- the list of a struct; past the last one there is none
pub list_is : (cs ts : List ℕ) (k : ℕ) → get_or (lists_of cs ts) k [] ≡ types_from ts (max_params * k) (get_or cs k 0)
list_is cs ts k = let e : 0 + k ≡ k = omega arith in lists_nth ts 0 cs k ∙ ap (λ i. types_from ts (max_params * i) (get_or cs k 0)) e
