-- A stream of a text (02 §1): what its numbers are in lent memory, and how long it is.
use Rattle.std.specs.Prelude.{ℕ, zero, suc, ◌≤◌, ◌≡◌, refl, Bool, true, false, ◌&&◌, List, ◌∷◌, ◌++◌, length, take, leb}
use Rattle.std.proofs.Common.{arith, ap, length-append, length-take-le, get_or-take, leb-true}
use Rattle.std.proofs.lemmas.Bool.{false≢true}
use Rattle.std.proofs.Math.Option.{some}
use Rattle.meaning.specs.Meant.{provided}
use Rattle.meaning.specs.Holds.{max_stream}
use Rattle.derive.specs.Held.{held}
use Rattle.compose.specs.Writing.{Writing, Writing.writing, start, counted}
use Rattle.compose.specs.Fits.{writes_at}
use Rattle.compose.specs.Header.{header}
use Rattle.compose.specs.Composed.{of_writing, composed_by}

-- what the front n places of numbers hold
pub held_front : (l : List ℕ) (n : ℕ) → n ≤ length l → held (take n l) (length (take n l)) ≡ held l n
unfolding held
held_front l n h = rw (length-take-le n l h) (go n (omega arith))
  where
    go : (k : ℕ) → k ≤ n → held (take n l) k ≡ held l k
    go zero b = refl
    go (suc k) b = both (get_or-take n l k 0 (omega arith)) (go k (omega arith))
      where
        both : {a c : ℕ} {p q : List ℕ} → a ≡ c → p ≡ q → a ∷ p ≡ c ∷ q
        both e f = cc

-- A stream has a byte, and no more than blocks hold ----------------------------------------------

provided_some : {A : Type 0} (b : Bool) (a s : A) → provided b (some a) ≡ some s → (b ≡ true) × (a ≡ s)
unfolding provided
provided_some true a s e = (refl, cc)
provided_some false a s e = absurd (let z : ◌≡◌ {A = ℕ} 0 1 = cc in omega arith)

second : (s t : Bool) → (s && t) ≡ true → t ≡ true
second true t e = e
second false t e = absurd (false≢true e)

writing_long : (head : List ℕ) (w : Writing) (s : List ℕ) → of_writing head w ≡ some s → (length head ≤ length s) × (length s ≤ max_stream)
unfolding of_writing
writing_long head (writing b w n l f) s e =
    let h = provided_some (f && leb (length (head ++ b)) max_stream) (head ++ b) s e in
    let g = leb-true (length (head ++ b)) max_stream (second f (leb (length (head ++ b)) max_stream) h.0) in
    let k = ap length h.1 in
    let m = length-append head b in
    (omega arith, omega arith)

pub composed_long : (os ts x cs ns s : List ℕ) → composed_by os ts x cs ns ≡ some s → (1 ≤ length s) × (length s ≤ max_stream)
unfolding composed_by writes_at counted
composed_long os ts x cs ns s e = let h = writing_long (header os ts) (counted (writes_at x 0 cs (start ns))) s e in (omega (arith, h.0), h.1)
