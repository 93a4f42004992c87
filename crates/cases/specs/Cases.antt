-- The digests of a list and of bytes, and the numbers of a case (docs/CASES.md).
use Rattle.std.specs.Prelude.{ℕ, zero, suc, ◌+◌, ◌*◌, ◌/◌, ◌%◌, List, [], ◌∷◌, get_or}

abbrev pub modulus : ℕ
modulus = 4294967291

-- a byte more
abbrev pub digested : ℕ → ℕ → ℕ
digested h b = (h * 65599 + b + 1) % modulus

-- the n lowest bytes of a word more, the lowest first
unfoldable pub word_digested : ℕ → ℕ → ℕ → ℕ
word_digested zero h w = h
word_digested (suc n) h w = word_digested n (digested h (w % 256)) (w / 256)

-- every place more, as eight bytes
unfoldable pub list_digest : ℕ → List ℕ → ℕ
list_digest h [] = h
list_digest h (w ∷ ws) = list_digest (word_digested 8 h w) ws

-- every byte more
unfoldable pub bytes_digest : ℕ → List ℕ → ℕ
bytes_digest h [] = h
bytes_digest h (b ∷ bs) = bytes_digest (digested h b) bs

-- four bytes, the lowest first
abbrev pub number : List ℕ → ℕ
number s = get_or s 0 0 + 256 * get_or s 1 0 + 65536 * get_or s 2 0 + 16777216 * get_or s 3 0
