-- Sums over the first bytes of a list, and the two sums of a block (01, 'Blocks').
use Rattle.std.specs.Prelude.{ℕ, zero, suc, ◌+◌, ◌-◌, ◌*◌, ◌%◌, ◌<◌, List, slice_index}

-- byte i of a list
abbrev pub byte : List ℕ → ℕ → ℕ
byte b i = slice_index b i

-- every one is below 256
abbrev pub Bytes : List ℕ → Type 0
Bytes b = (i : ℕ) → byte b i < 256

-- f 0 + f 1 + .. + f (n - 1)
unfoldable pub sum : ℕ → (ℕ → ℕ) → ℕ
sum zero f = 0
sum (suc n) f = sum n f + f n

-- the bytes that are summed: 0 to 507
abbrev pub summed : ℕ
summed = 508

-- where the sums wrap
abbrev pub wrap : ℕ
wrap = 65536

-- sum A of bytes 0 to 507
unfoldable pub sum_a : List ℕ → ℕ
sum_a b = sum summed (λ i. byte b i) % wrap

-- what byte i counts in sum B
abbrev pub weight : ℕ → ℕ
weight i = 508 - i

-- sum B of (508 - i) × byte i, for i from 0 to 507
unfoldable pub sum_b : List ℕ → ℕ
sum_b b = sum summed (λ i. weight i * byte b i) % wrap
