-- Bytes that stand in a stream between two places (01, 'Program stream'), joined, split, and said of lists.
use Rattle.std.specs.Prelude.{ℕ, suc, ◌+◌, ◌<◌, ◌≤◌, ◌≡◌, refl, List, [], ◌∷◌, ◌++◌, length, get_or, drop}
use Rattle.std.proofs.Common.{arith, zero-add, add-one, sym, ap, ◌∙◌, append-nil, length-append, length-drop, drop_of_length-le, drop-cons}
use Rattle.program.specs.Exact.{Stands, Stands.done, Stands.letter}

-- what stands behind what stands
pub both : {s xs ys : List ℕ} {n k m : ℕ} → Stands s n xs k → Stands s k ys m → Stands s n (xs ++ ys) m
both done q = q
both (letter h e p) q = letter h e (both p q)

-- two parts stand with a place between them
pub split : {s : List ℕ} (xs : List ℕ) {ys : List ℕ} {n m : ℕ} → Stands s n (xs ++ ys) m
    → (k : ℕ) × (Stands s n xs k) × (Stands s k ys m)
split [] {n = n} p = (n, done, p)
split (x ∷ xs) (letter h e p) = let q = split xs p in (q.0, letter h e q.1, q.2)

-- no bytes stand where they begin
pub stands_none : {s : List ℕ} {n m : ℕ} → Stands s n [] m → n ≡ m
stands_none done = refl

-- what stands from n on is the front of what is left there
pub stands_drop : {s xs : List ℕ} {n m : ℕ} → Stands s n xs m → drop n s ≡ xs ++ drop m s
stands_drop done = refl
stands_drop {s} (letter {n = n} h e p) = drop-cons s n 0 h ∙ rw (e, ← add-one n, stands_drop p)

-- the places are as far apart as there are bytes
pub stands_length : {s xs : List ℕ} {n m : ℕ} → Stands s n xs m → m ≡ n + length xs
stands_length done = omega arith
stands_length (letter h e p) = omega (arith, stands_length p)

-- the next place lies in the stream
pub stands_in : {s xs : List ℕ} {n m : ℕ} → Stands s n xs m → n ≤ length s → m ≤ length s
stands_in done i = i
stands_in (letter h e p) i = stands_in p (omega arith)

-- the front of what is left at a place stands there
pub stands_of : (s xs post : List ℕ) (n : ℕ) → drop n s ≡ xs ++ post → Stands s n xs (n + length xs)
stands_of s [] post n q = let z : n + 0 ≡ n = omega arith in rw z done
stands_of s (x ∷ xs) post n q =
    let h : n < length s = omega (arith, simp (length-drop, length-append) at (ap length q)) in
    let c : get_or s n 0 ∷ drop (suc n) s ≡ x ∷ (xs ++ post) = sym (drop-cons s n 0 h) ∙ q in
    let z : n + suc (length xs) ≡ n + 1 + length xs = omega arith in
    rw z (letter {x = x} h (cc) (stands_of s xs post (n + 1) (rw add-one (cc))))

-- a stream's front stands at its beginning
pub stands_front : (xs post : List ℕ) → Stands (xs ++ post) 0 xs (length xs)
stands_front xs post = rw zero-add at (stands_of (xs ++ post) xs post 0 refl)

-- a stream stands in itself
pub stands_self : (xs : List ℕ) → Stands xs 0 xs (length xs)
stands_self xs = rw append-nil at (stands_front xs [])

-- bytes that stand from the beginning to the end are the stream
pub stands_whole : {s xs : List ℕ} {m : ℕ} → Stands s 0 xs m → length s ≤ m → (s ≡ xs) × (m ≡ length s)
stands_whole {s} {xs} {m} w h = (stands_drop w ∙ rw (drop_of_length-le s h) (append-nil xs), omega (arith, stands_in w (omega arith)))
